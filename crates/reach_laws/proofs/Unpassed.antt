-- Nobody passes a raise, and a handler in which a put was refused has a step that puts.
use Rattle.std.proofs.Common.{◌≡◌, ℕ, ◌==◌, Bool, true, false, cond, ◌&&◌, List, [], ◌∷◌, Some, Option, suc, refl, sym, ◌∙◌, subst, subst₂, arith, inl, inr}
use Rattle.std.specs.List.{list_any}
use Rattle.std.proofs.lemmas.Bool.{and_parts, eqb-true, false≢true, cases_Bool, both_ways}
use Rattle.caa_base.specs.declared.written.entry.Entry.{Entry}
use Rattle.caa_base.specs.declared.written.entry.Kind.{Kind}
use Rattle.caa_base.specs.declared.written.entry.Kind.TheVariants as kind
use Rattle.place_plan.specs.declared.drafts.draft_rows.Step.{Step}
use Rattle.place_plan.specs.declared.drafts.draft_rows.Step.TheVariants as step
use Rattle.place_plan.specs.Plans.PlanValue.{Plan}
use Rattle.place_plan.specs.Plans.Places.{parent, nest_number}
use Rattle.place_plan.specs.RulesOfJournals.Whereabouts.{inside}
use Rattle.place_plan.specs.RulesOfJournals.Roles.{advances, program_of, position, register, next_step, was_refused_in_handler}
use Rattle.place_plan.specs.RulesOfJournals.Rules.{Row}
use Rattle.place_plan.specs.RulesOfJournals.Journals.{LegalPast}
use Rattle.journal_laws.specs.Laws.{Holds}
use Rattle.journal_laws.proofs.Playable.{IsPlayable}
use Rattle.journal_laws.proofs.Core.{Core}
use Rattle.place_plan.proofs.OnJournals.EntryKinds.{of_kind, both_same}
use Rattle.journal_laws.proofs.Options.{some_same}
use Rattle.journal_laws.proofs.Raised.{parent_round}
use Rattle.journal_laws.proofs.Arrivals.{inside_arrived, inside_not_left}
use Rattle.journal_laws.proofs.Uses.{AtStep, steps_out}
use Rattle.reach_laws.specs.ReachedSteps.{is_raise, reached, can_break}
use Rattle.reach_laws.proofs.StepsReached.{NoRaise, one_further, is_reached, put_step, check_step}

-- the next step, where there is one, is no raise
abbrev pub IsQuiet : Option Step → Type 0
IsQuiet o = (s : Step) → o ≡ Some s → is_raise s ≡ false

quiet_from : (o : Option Step) (x : Step) → o ≡ Some x → is_raise x ≡ false → IsQuiet o
quiet_from o x h q s e = let same : x ≡ s = some_same (sym h ∙ e) in subst (λ z. is_raise z ≡ false) same q

module _ (plan : Plan) (playable : IsPlayable plan) (core : Holds Core plan) where
  -- no step that t has passed in p is a raise
  abbrev pub Unpassed : List Entry → ℕ → ℕ → Type 0
  Unpassed past p t = NoRaise (program_of plan past p t).steps (position plan past p t)

  stepped : (past : List Entry) (e : Entry) (p t : ℕ) → IsQuiet (next_step plan past e.place e.by) → Unpassed past p t
      → NoRaise (program_of plan past p t).steps
      (cond ((e.place == p) && (e.by == t)) (suc (position plan past p t)) (position plan past p t))
  stepped past e p t quiet kept = by_test ((e.place == p) && (e.by == t)) refl
    where
      by_test : (b : Bool) → ((e.place == p) && (e.by == t)) ≡ b
          → NoRaise (program_of plan past p t).steps (cond b (suc (position plan past p t)) (position plan past p t))
      by_test true w =
          let same = both_same e.place p e.by t w in
          one_further (program_of plan past p t).steps (position plan past p t) kept
          (subst₂ (λ a b. IsQuiet (next_step plan past a b)) same.0 same.1 quiet)
      by_test false w = kept

  -- who is in a place right inside p is at the step that enters its use
  pub at_enter : (past : List Entry) (c p t : ℕ) → LegalPast plan past → inside plan past t ≡ Some c → parent plan c ≡ Some p
      → next_step plan past p t ≡ Some (step.Enter (nest_number plan c))
  at_enter past c p t legal here up =
      by_step ((core past legal).visits.at_step p c t up (inside_arrived plan playable.tree past legal c t here)
      ((core past legal).raises.away p t c here (parent_round plan playable.tree c p up)).1)
    where
      by_step : AtStep plan past p c t → next_step plan past p t ≡ Some (step.Enter (nest_number plan c))
      by_step (inl x) = absurd (both_ways _ (inside_not_left plan playable.tree past legal c t here) x.0)
      by_step (inr x) = x.0

  left : (past : List Entry) (e : Entry) (p t : ℕ) → LegalPast plan past → inside plan past e.by ≡ Some e.place → Unpassed past p t
      → NoRaise (program_of plan past p t).steps
      (cond (advances plan past p e kind.Leave && (e.by == t)) (suc (position plan past p t)) (position plan past p t))
  left past e p t legal here kept = by_test (advances plan past p e kind.Leave && (e.by == t)) refl
    where
      by_test : (b : Bool) → (advances plan past p e kind.Leave && (e.by == t)) ≡ b
          → NoRaise (program_of plan past p t).steps (cond b (suc (position plan past p t)) (position plan past p t))
      by_test true w =
          let parts = and_parts (advances plan past p e kind.Leave) (e.by == t) w in
          let there : inside plan past t ≡ Some e.place = subst (λ a. inside plan past a ≡ Some e.place) (eqb-true e.by t parts.1) here in
          one_further (program_of plan past p t).steps (position plan past p t) kept
          (quiet_from (next_step plan past p t) (step.Enter (nest_number plan e.place))
          (at_enter past e.place p t legal there (steps_out plan past e p parts.0).0) refl)
      by_test false w = kept

  unpassed_by : (past : List Entry) (k : Kind) (e : Entry) (p t : ℕ) → LegalPast plan past → Unpassed past p t
      → Row k plan past (of_kind k e) → Unpassed (of_kind k e ∷ past) p t
  unpassed_by past kind.Handle e p t legal kept h = elim (cases_Bool ((e.place == p) && (e.by == t))) [
    | inl x ↦ rw x (λ m s l at. absurd (omega arith))
    | inr x ↦ rw x kept
  ]
  unpassed_by past kind.Read e p t legal kept h =
      stepped past e p t (quiet_from (next_step plan past e.place e.by) (step.Read e.arg) h.reads refl) kept
  unpassed_by past kind.Work e p t legal kept h =
      stepped past e p t (quiet_from (next_step plan past e.place e.by) (step.Work e.arg) h.works refl) kept
  unpassed_by past kind.Write e p t legal kept h =
      let put = put_step (next_step plan past e.place e.by) (register plan past e.place e.by) (e.arg, e.value) h.puts in
      stepped past e p t (quiet_from (next_step plan past e.place e.by) put.0 put.1 put.2.0) kept
  unpassed_by past kind.Check e p t legal kept h =
      let check = check_step (next_step plan past e.place e.by) h.checks in
      stepped past e p t (quiet_from (next_step plan past e.place e.by) check.0 check.1 check.2) kept
  unpassed_by past kind.Leave e p t legal kept h = left past e p t legal h.here kept
  unpassed_by past _ e p t legal kept h = kept

  pub unpassed : (past : List Entry) → LegalPast plan past → (p t : ℕ) → Unpassed past p t
  unpassed [] h p t = λ m s l at. absurd (omega arith)
  unpassed (e ∷ past) h p t = unpassed_by past e.kind e p t h.0 (unpassed past h.0 p t) h.1

  -- ---- where a put was refused in a handler

  -- the program of t in p has a step that somebody comes to, and at which a handler can be broken off
  abbrev pub CanBreak : List Entry → ℕ → ℕ → Type 0
  CanBreak past p t = list_any can_break (reached (program_of plan past p t).steps) ≡ true

  refused_by : (past : List Entry) (k : Kind) (e : Entry) (p t : ℕ) → LegalPast plan past
      → (was_refused_in_handler past p t ≡ true → CanBreak past p t) → Row k plan past (of_kind k e)
      → was_refused_in_handler (of_kind k e ∷ past) p t ≡ true → CanBreak (of_kind k e ∷ past) p t
  refused_by past kind.Handle e p t legal ih h w = elim (cases_Bool ((e.place == p) && (e.by == t))) [
    | inl x ↦ absurd (false≢true (rw x at w))
    | inr x ↦ rw x (ih (rw x at w))
  ]
  refused_by past kind.PutFault e p t legal ih h w = elim (cases_Bool ((e.place == p) && (e.by == t))) [
    | inl x ↦
        let put = put_step (next_step plan past e.place e.by) (register plan past e.place e.by) (e.arg, e.value) h.puts in
        let same = both_same e.place p e.by t x in
        subst₂ (λ a b. CanBreak past a b) same.0 same.1
        (is_reached can_break (program_of plan past e.place e.by).steps (position plan past e.place e.by) put.0
        (unpassed past legal e.place e.by) put.1 put.2.2)
    | inr x ↦ ih (rw x at w)
  ]
  refused_by past _ e p t legal ih h w = ih w

  pub refused_breaks : (past : List Entry) → LegalPast plan past → (p t : ℕ) → was_refused_in_handler past p t ≡ true → CanBreak past p t
  refused_breaks [] h p t w = absurd (false≢true w)
  refused_breaks (e ∷ past) h p t w = refused_by past e.kind e p t h.0 (refused_breaks past h.0 p t) h.1 w
