-- What every legal past keeps of visits, and that who has given its verdict has done its body.
use Rattle.std.proofs.Common.{◌≡◌, ℕ, ◌==◌, ◌<◌, Bool, true, false, not, cond, ◌&&◌, List, [], ◌∷◌, Some, None, Option, refl, sym, ap, ◌∙◌, subst, subst₂, inl, inr, MatchOption, is_none, suc, slice_get}
use Rattle.std.proofs.lemmas.Bool.{and_parts, or_cases, or_right, eqb-true, false≢true, cases_Bool, both_ways, not-true, false_from_ne_true}
use Rattle.caa_base.specs.declared.written.entry.Entry.{Entry}
use Rattle.caa_base.specs.declared.written.entry.Kind.{Kind}
use Rattle.caa_base.specs.declared.written.entry.Kind.TheVariants as kind
use Rattle.caa_base.specs.declared.written.entry.Verdict.{Verdict}
use Rattle.place_plan.specs.declared.drafts.draft_rows.Step.{Step}
use Rattle.place_plan.specs.Plans.PlanValue.{Plan}
use Rattle.caa_base.specs.Written.Lists.{member}
use Rattle.place_plan.specs.Plans.Places.{around, roles_of, plays_of}
use Rattle.place_plan.specs.RulesOfJournals.Entries.{has_by}
use Rattle.place_plan.specs.RulesOfJournals.Whereabouts.{inside}
use Rattle.place_plan.specs.RulesOfJournals.Raising.{is_raised, is_calm, is_hot}
use Rattle.place_plan.specs.RulesOfJournals.Roles.{advances, program_of, position, next_step, has_given, is_able, is_in_handler}
use Rattle.place_plan.specs.RulesOfJournals.Rules.{Row, SaysVerdict, final_verdict, verdict_due}
use Rattle.place_plan.specs.RulesOfJournals.Journals.{LegalPast}
use Rattle.journal_laws.specs.Laws.{Holds}
use Rattle.journal_laws.proofs.Playable.{IsTree, IsPlayable}
use Rattle.journal_laws.proofs.Core.{Visits}
use Rattle.caa_base.proofs.ListLemmas.{first_not_before}
use Rattle.place_plan.proofs.OnPlans.PlaysRise.{plays_rise, in_plays}
use Rattle.place_plan.proofs.OnJournals.EntryKinds.{of_kind, both_same}
use Rattle.journal_laws.proofs.Tree.{in_within, arrives_in}
use Rattle.journal_laws.proofs.Busy.{raised_stays}
use Rattle.journal_laws.proofs.Phases.{not_hot}
use Rattle.journal_laws.proofs.Raised.{busy_inside, parent_round}
use Rattle.journal_laws.proofs.Innermost.{stays_within}
use Rattle.journal_laws.proofs.Arrivals.{begins_play, whereabouts, came, gone, left, withdrew, whole}
use Rattle.journal_laws.proofs.Uses.{steps_out, uses_kept}

-- ---- plays, one after another

module _ (plan : Plan) (playable : IsPlayable plan) where
  -- nobody withdraws from a play, so who is in no place has left each play in which it arrived
  pub outside_left : (past : List Entry) → LegalPast plan past → (p t : ℕ) → inside plan past t ≡ None
      → member p plan.plays ≡ true → has_by kind.Arrive past p t ≡ true → has_by kind.Leave past p t ≡ true
  outside_left past legal p t w m a =
      elim (whereabouts _ _ _ _ (came plan playable.tree past legal p t) a) [
        | inl s ↦ absurd (both_ways _ (stays_within plan playable.tree past legal t p ∙ ap (λ o. in_within plan o p) w) s)
        | inr (inl l) ↦ l
        | inr (inr d) ↦ absurd (false≢true (rw (playable.tree.tops p m) at (withdrew plan playable.tree past legal p t d).0))
      ]

  plays_by : (past : List Entry) (k : Kind) (e : Entry) (p q t : ℕ) → LegalPast plan past → p < q
      → member p plan.plays ≡ true → member q plan.plays ≡ true → member t (roles_of plan p) ≡ true
      → (has_by kind.Arrive past q t ≡ true → has_by kind.Leave past p t ≡ true) → Row k plan past (of_kind k e)
      → has_by kind.Arrive (of_kind k e ∷ past) q t ≡ true → has_by kind.Leave (of_kind k e ∷ past) p t ≡ true
  plays_by past kind.Arrive e p q t legal l m n r ih h w = elim (or_cases ((e.place == q) && (e.by == t)) (has_by kind.Arrive past q t) w) [
    | inl x ↦ let same = both_same e.place q e.by t x in
        subst (λ a. has_by kind.Leave past p a ≡ true) same.1
        (by_place (sym same.0) (subst (λ a. member a (roles_of plan p) ≡ true) (sym same.1) r)
        (inside plan past e.by) refl)
    | inr x ↦ ih x
  ]
    where
      by_place : q ≡ e.place → member e.by (roles_of plan p) ≡ true → (o : Option ℕ) → inside plan past e.by ≡ o
          → has_by kind.Leave past p e.by ≡ true
      by_place same r None w =
          let next = begins_play plan past (of_kind kind.Arrive e) h w in
          let arrived =
          first_not_before (λ a. has_by kind.Arrive past a e.by) 0 (plays_of plan e.by) p e.place
          (plays_rise plan e.by 0 plan.plays playable.rise) next (in_plays plan e.by plan.plays p m r)
          (rw (← same) l) in
          outside_left past legal p e.by w m arrived
      by_place same r (Some s) w =
          let round = (arrives_in plan playable.tree past (of_kind kind.Arrive e) s h w).0 in
          let top = playable.tree.tops q n in
          let top' : around plan e.place ≡ [] = subst (λ a. around plan a ≡ []) same top in
          absurd cc
  plays_by past kind.Leave e p q t legal l m n r ih h w = or_right _ _ (ih w)
  plays_by past _ e p q t legal l m n r ih h w = ih w

  pub plays_kept : (past : List Entry) → LegalPast plan past → (p q t : ℕ) → p < q → member p plan.plays ≡ true
      → member q plan.plays ≡ true → member t (roles_of plan p) ≡ true → has_by kind.Arrive past q t ≡ true
      → has_by kind.Leave past p t ≡ true
  plays_kept [] h p q t l m n r w = absurd (false≢true w)
  plays_kept (e ∷ past) h p q t l m n r w = plays_by past e.kind e p q t h.0 l m n r (plays_kept past h.0 p q t l m n r) h.1 w

  -- ---- all of it

  pub visits : Holds Visits plan
  visits past legal =
      let uses = uses_kept plan playable past legal in
      record {
        came = came plan playable.tree past legal;
        gone = gone plan playable.tree past legal;
        left = left plan playable.tree past legal;
        withdrew = withdrew plan playable.tree past legal;
        whole = whole plan playable.tree past legal;
        at_step = uses.at_step;
        turn = uses.turn;
        passed = uses.passed;
        plays = plays_kept past legal;
      }

-- ---- who has given its verdict

-- t has no step left in p, where nothing is raised and it has given its verdict
abbrev pub IsDone : Plan → List Entry → ℕ → ℕ → Type 0
IsDone plan past p t = is_raised plan past p ≡ false → has_by kind.Verdict past p t ≡ true → next_step plan past p t ≡ None

-- the final verdict is said after the last step
says_last : (past : List Entry) (s : Option Step) (v : Verdict) (e : Entry)
    → MatchOption (cond (is_none s) (Some v) None) ⊥ (SaysVerdict e) → s ≡ None
says_last past None v e h = refl
says_last past (Some s) v e h = elim h [ ]

verdict_last : (plan : Plan) (past : List Entry) (p t : ℕ) (e : Entry) → is_hot plan past p ≡ false
    → MatchOption (verdict_due plan past p t) ⊥ (SaysVerdict e) → next_step plan past p t ≡ None
verdict_last plan past p t e cold due = by_calm (is_calm plan past p) (has_given plan past p t) (rw cold at due)
  where
    by_calm : (b c : Bool) → MatchOption (cond b (cond c None (final_verdict plan past p t)) None) ⊥ (SaysVerdict e)
        → next_step plan past p t ≡ None
    by_calm true false h = says_last past (next_step plan past p t) (program_of plan past p t).verdict e h
    by_calm true true h = elim h [ ]
    by_calm false c h = elim h [ ]

module _ (plan : Plan) (tree : IsTree plan) where
  -- who is able where nothing is raised has given no verdict
  able_unsaid : (past : List Entry) (p t : ℕ) → is_raised plan past p ≡ false → is_able plan past p t ≡ true
      → has_by kind.Verdict past p t ≡ false
  able_unsaid past p t cool able_to =
      elim (or_cases (is_calm plan past p && not (has_given plan past p t))
      (is_hot plan past p && is_in_handler past p t) able_to) [
        | inl x ↦ rw cool at (not-true _ (and_parts (is_calm plan past p) (not (has_given plan past p t)) x).1)
        | inr x ↦ absurd (both_ways _ (not_hot plan past p cool) (and_parts (is_hot plan past p) (is_in_handler past p t) x).0)
      ]

  -- a step of t in p was made before its verdict
  steps_unsaid : (past : List Entry) (e : Entry) (p t : ℕ) → IsDone plan past p t
      → is_able plan past e.place e.by ≡ true → is_raised plan past p ≡ false → has_by kind.Verdict past p t ≡ true
      → slice_get (program_of plan past p t).steps
      (cond ((e.place == p) && (e.by == t)) (suc (position plan past p t)) (position plan past p t)) ≡ None
  steps_unsaid past e p t ih able_to cool w = elim (cases_Bool ((e.place == p) && (e.by == t))) [
    | inl x ↦ let same = both_same e.place p e.by t x in
        absurd (both_ways _ (able_unsaid past p t cool (subst₂ (λ a b. is_able plan past a b ≡ true) same.0 same.1 able_to)) w)
    | inr x ↦ rw x (ih cool w)
  ]

  -- who comes back into p has given no verdict there
  leaves_unsaid : (past : List Entry) (e : Entry) (p t : ℕ) → LegalPast plan past → IsDone plan past p t
      → inside plan past e.by ≡ Some e.place → is_raised plan past p ≡ false → has_by kind.Verdict past p t ≡ true
      → slice_get (program_of plan past p t).steps
      (cond (advances plan past p e kind.Leave && (e.by == t)) (suc (position plan past p t)) (position plan past p t))
      ≡ None
  leaves_unsaid past e p t legal ih here cool w = elim (cases_Bool (advances plan past p e kind.Leave && (e.by == t))) [
    | inl x ↦
        let parts = and_parts (advances plan past p e kind.Leave) (e.by == t) x in
        let out = (steps_out plan past e p parts.0).0 in
        let there : inside plan past t ≡ Some e.place = subst (λ a. inside plan past a ≡ Some e.place) (eqb-true e.by t parts.1) here in
        absurd (both_ways _ (busy_inside plan tree past legal t p e.place there (parent_round plan tree e.place p out)).silent w)
    | inr x ↦ rw x (ih cool w)
  ]

  done_by : (past : List Entry) (k : Kind) (e : Entry) (p t : ℕ) → LegalPast plan past → IsDone plan past p t
      → Row k plan past (of_kind k e) → is_raised plan past p ≡ false
      → has_by kind.Verdict (of_kind k e ∷ past) p t ≡ true → next_step plan (of_kind k e ∷ past) p t ≡ None
  done_by past kind.Verdict e p t legal ih h cool w = elim (or_cases ((e.place == p) && (e.by == t)) (has_by kind.Verdict past p t) w) [
    | inl x ↦ let same = both_same e.place p e.by t x in
        verdict_last plan past p t (of_kind kind.Verdict e) (not_hot plan past p cool)
        (subst₂ (λ a b. MatchOption (verdict_due plan past a b) ⊥ (SaysVerdict (of_kind kind.Verdict e))) same.0
        same.1 h.due)
    | inr x ↦ ih cool x
  ]
  done_by past kind.Read e p t legal ih h cool w = steps_unsaid past e p t ih h.can cool w
  done_by past kind.Work e p t legal ih h cool w = steps_unsaid past e p t ih h.can cool w
  done_by past kind.Write e p t legal ih h cool w = steps_unsaid past e p t ih h.can cool w
  done_by past kind.Check e p t legal ih h cool w = steps_unsaid past e p t ih h.can cool w
  done_by past kind.Leave e p t legal ih h cool w = leaves_unsaid past e p t legal ih h.here cool w
  done_by past kind.Handle e p t legal ih h cool w = elim (cases_Bool ((e.place == p) && (e.by == t))) [
    | inl x ↦
        absurd (both_ways _ (not_hot plan past p cool)
        (subst (λ a. is_hot plan past a ≡ true) (both_same e.place p e.by t x).0 h.when))
    | inr x ↦ rw x (ih cool w)
  ]
  done_by past _ e p t legal ih h cool w = ih cool w

  -- where nothing is raised, who has given its verdict has no step left
  pub done : (past : List Entry) → LegalPast plan past → (p t : ℕ) → is_raised plan past p ≡ false
      → has_by kind.Verdict past p t ≡ true → next_step plan past p t ≡ None
  done [] h p t cool w = absurd (false≢true w)
  done (e ∷ past) h p t cool w =
      let cooler : is_raised plan past p ≡ false = false_from_ne_true _ (λ r. both_ways _ cool (raised_stays plan p e past r)) in
      done_by past e.kind e p t h.0 (done past h.0 p t) h.1 cooler w
