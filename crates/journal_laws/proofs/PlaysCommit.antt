-- Commit law: whoever changes an object does so inside a play that is live and uses it, so what is written in other plays is no
-- part of its value at the end of the play.
use Rattle.std.proofs.Common.{◌≡◌, ℕ, ℤ, ◌==◌, ◌≤◌, Bool, true, false, not, cond, ◌&&◌, ◌||◌, List, [], ◌∷◌, ◌++◌, filter, length, take, Some, None, is_none, zero, suc, refl, sym, ap, ◌∙◌, subst, arith, inl, inr}
use Rattle.std.proofs.lemmas.List.{take-append-le, take_all, length-append}
use Rattle.std.proofs.lemmas.List.Folds.{list_any-append}
use Rattle.std.proofs.Math.Bool.{or-false}
use Rattle.std.proofs.lemmas.Bool.{and_parts, and_from, or_cases, or_left, or_right, or_parts, eqb-true, eq-eqb, false≢true, cases_Bool, false_from_ne_true, both_ways}
use Rattle.caa_base.specs.declared.written.entry.Entry.{Entry}
use Rattle.caa_base.specs.declared.written.entry.Kind.{Kind}
use Rattle.caa_base.specs.declared.written.entry.Kind.TheVariants as kind
use Rattle.place_plan.specs.Plans.PlanValue.{Plan}
use Rattle.caa_base.specs.Written.Lists.{member, last_or}
use Rattle.place_plan.specs.Plans.Places.{around, parent, top_of, uses, is_within}
use Rattle.place_plan.specs.RulesOfJournals.Entries.{is_of, is_in}
use Rattle.place_plan.specs.RulesOfJournals.Whereabouts.{has_started, has_ended, is_live}
use Rattle.place_plan.specs.RulesOfJournals.Objects.{restores, writes, holder_of, is_within_any, places_undone, value_outside, value_of}
use Rattle.place_plan.specs.RulesOfJournals.Journals.{LegalPast, ends_play, plays_ended, committed_value}
use Rattle.journal_laws.specs.Laws.{Holds, CommitLaw, touches_object}
use Rattle.journal_laws.proofs.Playable.{IsTree, IsPlayable}
use Rattle.caa_base.proofs.ListLemmas.{last_member}
use Rattle.place_plan.proofs.OnJournals.EntryKinds.{of_kind}
use Rattle.journal_laws.proofs.Lives.{live_parts, live_from}
use Rattle.journal_laws.proofs.Tree.{in_within}
use Rattle.journal_laws.proofs.InnerFirst.{legal_rest}
use Rattle.journal_laws.proofs.Holding.{live_uses, holds_within, end_live}
use Rattle.journal_laws.proofs.Isolation.{isolation}
use Rattle.journal_laws.proofs.Exit.{end_row}
use Rattle.journal_laws.proofs.PlaysEnd.{member_more, nothing_round, ended_is, ended_listed, all_end}

-- ---- values, where entries are left out

-- the entry writes o or restores it
abbrev changes : ℕ → Entry → Bool
changes o e = writes o e || restores o e

-- who changes an object touches it
changed_by : (k : Kind) (e : Entry) (o : ℕ) → changes o (of_kind k e) ≡ true → (touches_object k ≡ true) × (e.arg ≡ o)
changed_by kind.Write e o w =
    elim (or_cases (e.arg == o) false w) [ inl x ↦ (refl, eqb-true e.arg o x) | inr x ↦ absurd (false≢true x) ]
changed_by kind.Restore e o w = (refl, eqb-true e.arg o (and_parts (e.arg == o) (e.mark == 0) w).0)
changed_by _ e o w = absurd (false≢true w)

-- an entry that doesn't change o gives it no value
pass : (plan : Plan) (past : List Entry) (e : Entry) (o : ℕ) (us : List ℕ) → changes o e ≡ false
    → value_outside plan (e ∷ past) o us ≡ value_outside plan past o us
pass plan past e o us w = let parts = or_parts (writes o e) (restores o e) w in rw (parts.0, parts.1) refl

pass_filtered : (plan : Plan) (past : List Entry) (e : Entry) (o : ℕ) (us : List ℕ) (keep : Entry → Bool)
    → changes o e ≡ false → value_outside plan (filter keep (e ∷ past)) o us
    ≡ value_outside plan (filter keep past) o us
pass_filtered plan past e o us keep w =
    elim (cases_Bool (keep e)) [
      | inl x ↦ rw x (pass plan (filter keep past) e o us w)
      | inr x ↦ rw x refl
    ]

-- two tests tell the same of each entry that changes o
abbrev Agree : (Entry → Bool) → (Entry → Bool) → ℕ → List Entry → Type 0
Agree keep test o past = (later before : List Entry) (e : Entry) → past ≡ later ++ e ∷ before → changes o e ≡ true → keep e ≡ test e

value_filtered : (plan : Plan) (keep test : Entry → Bool) (past : List Entry) (o : ℕ) → Agree keep test o past
    → (us : List ℕ) → value_outside plan (filter keep past) o us ≡ value_outside plan (filter test past) o us
value_filtered plan keep test [] o same us = refl
value_filtered plan keep test (e ∷ past) o same us =
    elim (cases_Bool (changes o e)) [
      | inl w ↦ changed (keep e) refl (sym (same [] past e refl w)) (λ vs. value_filtered plan keep test past o (further same) vs)
      | inr w ↦
          pass_filtered plan past e o us keep w ∙ value_filtered plan keep test past o (further same) us
          ∙ sym (pass_filtered plan past e o us test w)
    ]
  where
    further : Agree keep test o (e ∷ past) → Agree keep test o past
    further same later before f split w = same (e ∷ later) before f (ap (λ es. e ∷ es) split) w

    changed : (b : Bool) → keep e ≡ b → test e ≡ keep e
        → ((vs : List ℕ) → value_outside plan (filter keep past) o vs ≡ value_outside plan (filter test past) o vs)
        → value_outside plan (filter keep (e ∷ past)) o us ≡ value_outside plan (filter test (e ∷ past)) o us
    changed true x y rest = rw (y, x) (ap (cond (writes o e && not (is_within_any plan e.place us)) e.value) (rest (places_undone o e us)))
    changed false x y rest = rw (y, x) (rest us)

all_kept : (past : List Entry) → filter (λ e. true) past ≡ past
all_kept [] = refl
all_kept (e ∷ past) = ap (λ es. e ∷ es) (all_kept past)

-- ---- members

taken_member : (q n : ℕ) (ps : List ℕ) → member q (take n ps) ≡ true → member q ps ≡ true
taken_member q zero ps m = absurd (false≢true m)
taken_member q (suc n) [] m = absurd (false≢true m)
taken_member q (suc n) (p ∷ ps) m =
    elim (or_cases (p == q) (member q (take n ps)) m) [
      | inl x ↦ or_left _ _ x
      | inr x ↦ or_right _ _ (taken_member q n ps x)
    ]

module _ (plan : Plan) (playable : IsPlayable plan) where
  abbrev tree : IsTree plan
  tree = playable.tree

  -- ---- plays

  within_top : (p : ℕ) → is_within plan p (top_of plan p) ≡ true
  within_top p = last_member (p ∷ around plan p) (top_of plan p) refl

  alone_at : (p : ℕ) (qs : List ℕ) → around plan p ≡ qs → around plan (last_or p qs) ≡ []
  alone_at p [] a = a
  alone_at p (q ∷ qs) a = alone_at q qs (tree.chain p q qs a)

  top_alone : (p : ℕ) → around plan (top_of plan p) ≡ []
  top_alone p = alone_at p (around plan p) refl

  -- a play in which o is changed is live, and uses o
  changed_top : (past : List Entry) (e : Entry) (o : ℕ) → LegalPast plan (e ∷ past) → changes o e ≡ true
      → live_uses plan o past (top_of plan e.place) ≡ true
  changed_top past e o legal w =
      let how = changed_by e.kind e o w in
      let held : holder_of plan past o ≡ Some e.place =
      subst (λ a. holder_of plan past a ≡ Some e.place) how.1
      ((isolation plan tree (e ∷ past) legal).held [] past e refl how.0) in
      holds_within plan tree past legal.0 o (top_of plan e.place)
      ∙ ap (λ h. in_within plan h (top_of plan e.place)) held ∙ within_top e.place

  -- the first plays that ended are the same as the journal goes on
  firsts_stay : (e : Entry) (past : List Entry) (n : ℕ) → n ≤ length (plays_ended plan past)
      → (take n (plays_ended plan (e ∷ past)) ≡ take n (plays_ended plan past))
      × (n ≤ length (plays_ended plan (e ∷ past)))
  firsts_stay e past n low = elim (cases_Bool (ends_play plan e)) [
    | inl x ↦
        rw x (
          take-append-le n (plays_ended plan past) (e.place ∷ []) low,
          omega (arith, low, length-append (plays_ended plan past) (e.place ∷ [])),
        )
    | inr x ↦ rw x (refl, low)
  ]

  -- ---- what is committed stays

  -- the value that o has by these plays alone
  abbrev value_by : List ℕ → List Entry → ℕ → ℤ
  value_by ps past o = value_of plan (filter (λ e. member (top_of plan e.place) ps) past) o

  -- whoever changes an object does so in none of the plays that have ended
  left_out : (past : List Entry) (e : Entry) (n o : ℕ) → LegalPast plan (e ∷ past) → changes o e ≡ true
      → member (top_of plan e.place) (take n (plays_ended plan past)) ≡ false
  left_out past e n o legal w =
      let live = (and_parts (is_live past (top_of plan e.place)) (uses plan (top_of plan e.place) o) (changed_top past e o legal w)).0 in
      false_from_ne_true _ (λ m. both_ways _ (live_parts (top_of plan e.place) past live).1
      (ended_is plan past (top_of plan e.place) (taken_member (top_of plan e.place) n (plays_ended plan past) m)))

  stays_once : (past : List Entry) (e : Entry) (n o : ℕ) → LegalPast plan (e ∷ past)
      → n ≤ length (plays_ended plan past) → committed_value plan (e ∷ past) n o ≡ committed_value plan past n o
  stays_once past e n o legal low =
      ap (λ ps. value_by ps (e ∷ past) o) (firsts_stay e past n low).0 ∙ elim (cases_Bool (changes o e)) [
        | inl w ↦ rw (left_out past e n o legal w) refl
        | inr w ↦ pass_filtered plan past e o [] (λ f. member (top_of plan f.place) (take n (plays_ended plan past))) w
      ]

  stay : (later past : List Entry) (n o : ℕ) → LegalPast plan (later ++ past) → n ≤ length (plays_ended plan past)
      → (committed_value plan (later ++ past) n o ≡ committed_value plan past n o)
      × (n ≤ length (plays_ended plan (later ++ past)))
  stay [] past n o legal low = (refl, low)
  stay (e ∷ later) past n o legal low =
      let so_far = stay later past n o legal.0 low in
      (stays_once (later ++ past) e n o legal so_far.1 ∙ so_far.0, (firsts_stay e (later ++ past) n so_far.1).1)

  -- ---- the end of a play

  -- of plays that use one object, no two are live at one moment
  live_alone : (past : List Entry) (p q o : ℕ) → LegalPast plan past → around plan p ≡ [] → around plan q ≡ []
      → live_uses plan o past p ≡ true → live_uses plan o past q ≡ true → p ≡ q
  live_alone past p q o legal a b l m =
      let first = and_parts (is_live past p) (uses plan p o) l in
      let second = and_parts (is_live past q) (uses plan q o) m in
      let nested = (isolation plan tree past legal).nested [] past p q o refl first.0 second.0 first.1 second.1 in
      elim (or_cases (is_within plan p q) (is_within plan q p) nested) [
        | inl x ↦ same p q a x
        | inr x ↦ sym (same q p b x)
      ]
    where
      same : (r s : ℕ) → around plan r ≡ [] → is_within plan r s ≡ true → r ≡ s
      same r s c x =
          elim (or_cases (r == s) (member s (around plan r)) x) [
            | inl y ↦ eqb-true r s y
            | inr y ↦ absurd
                (false≢true (rw c at y))
          ]

  -- whoever changed an object of p before the end of p did so in p, or in a play that had ended
  changed_in : (p o : ℕ) (past later before : List Entry) (e : Entry) → LegalPast plan past → around plan p ≡ []
      → live_uses plan o past p ≡ true → past ≡ later ++ e ∷ before → changes o e ≡ true
      → member (top_of plan e.place) (plays_ended plan past ++ p ∷ []) ≡ true
  changed_in p o past later before e legal a live split w =
      let q = top_of plan e.place in
      let there = changed_top before e o (legal_rest plan later (e ∷ before) (subst (LegalPast plan) split legal)) w in
      let parts = and_parts (is_live before q) (uses plan q o) there in
      let started : has_started past q ≡ true =
      subst (λ es. has_started es q ≡ true) (sym split)
      (list_any-append (is_in kind.Start q) later (e ∷ before)
      ∙ or_right _ _ (or_right _ _ (live_parts q before parts.0).0)) in
      member_more q p (plays_ended plan past) ∙ elim (cases_Bool (has_ended past q)) [
        | inl x ↦ or_left _ _ (ended_listed plan past q (top_alone e.place) x)
        | inr x ↦
            or_right _ _ (eq-eqb p q
            (live_alone past p q o legal a (top_alone e.place) live
            (and_from (is_live past q) (uses plan q o) (live_from q past started x) parts.1)))
      ]

  -- an object of a play has its value at the end by the plays that have ended
  commits_own : (p o : ℕ) (past : List Entry) → LegalPast plan past → around plan p ≡ []
      → live_uses plan o past p ≡ true → value_by (plays_ended plan past ++ p ∷ []) past o ≡ value_of plan past o
  commits_own p o past legal a live =
      value_filtered plan (λ f. member (top_of plan f.place) (plays_ended plan past ++ p ∷ [])) (λ f. true) past o
      (λ later before f split w. changed_in p o past later before f legal a live split w) []
      ∙ ap (λ es. value_of plan es o) (all_kept past)

  -- a play changes no other object
  commits_others : (p o : ℕ) (past : List Entry) → LegalPast plan past → uses plan p o ≡ false
      → value_by (plays_ended plan past ++ p ∷ []) past o ≡ value_by (plays_ended plan past) past o
  commits_others p o past legal none =
      value_filtered plan (λ f. member (top_of plan f.place) (plays_ended plan past ++ p ∷ []))
      (λ f. member (top_of plan f.place) (plays_ended plan past)) past o other []
    where
      other : Agree (λ f. member (top_of plan f.place) (plays_ended plan past ++ p ∷ []))
          (λ f. member (top_of plan f.place) (plays_ended plan past)) o past
      other later before e split w =
          let q = top_of plan e.place in
          let there = changed_top before e o (legal_rest plan later (e ∷ before) (subst (LegalPast plan) split legal)) w in
          let used = (and_parts (is_live before q) (uses plan q o) there).1 in
          let apart : (p == q) ≡ false =
          false_from_ne_true _ (λ x. both_ways _ none
          (subst (λ a. uses plan a o ≡ true) (sym (eqb-true p q x)) used)) in
          member_more q p (plays_ended plan past) ∙ (rw apart (or-false (member q (plays_ended plan past))))

  -- the values after an End of p
  at_end : (p o : ℕ) (past : List Entry) (e : Entry) → LegalPast plan (e ∷ past) → is_in kind.End p e ≡ true → parent plan p ≡ None
      → (committed_value plan (e ∷ past) (suc (length (plays_ended plan past))) o
      ≡ cond (uses plan p o) (value_of plan (e ∷ past) o)
      (committed_value plan past (length (plays_ended plan past)) o))
      × (length (plays_ended plan (e ∷ past)) ≡ suc (length (plays_ended plan past)))
  at_end p o past e legal is top = (
    ap (λ ps. value_by ps (e ∷ past) o) (ap (take (suc (length (plays_ended plan past)))) more ∙ taken)
        ∙ (pass_filtered plan past e o [] (λ f. member (top_of plan f.place) (plays_ended plan past ++ p ∷ []))
        (unchanged e.kind e is) ∙ by_use (uses plan p o) refl),
    ap length more ∙ (length-append (plays_ended plan past) (p ∷ []) ∙ omega arith),
  )
    where
      unchanged : (k : Kind) (f : Entry) → is_in kind.End p (of_kind k f) ≡ true → changes o (of_kind k f) ≡ false
      unchanged kind.End f w = refl
      unchanged _ f w = absurd (false≢true w)

      here : e.place ≡ p
      here = (end_row plan past e.kind e p legal.1 is).1

      more : plays_ended plan (e ∷ past) ≡ plays_ended plan past ++ p ∷ []
      more =
          let ended : ends_play plan e ≡ true =
          and_from _ _ (and_parts (is_of kind.End e) (e.place == p) is).0
          (subst (λ a. is_none (parent plan a) ≡ true) (sym here) (ap is_none top)) in
          rw ended (ap (λ a. plays_ended plan past ++ a ∷ []) here)

      taken : take (suc (length (plays_ended plan past))) (plays_ended plan past ++ p ∷ []) ≡ plays_ended plan past ++ p ∷ []
      taken =
          take_all (suc (length (plays_ended plan past))) (plays_ended plan past ++ p ∷ [])
          (omega (arith, length-append (plays_ended plan past) (p ∷ [])))

      all_taken : take (length (plays_ended plan past)) (plays_ended plan past) ≡ plays_ended plan past
      all_taken = take_all (length (plays_ended plan past)) (plays_ended plan past) (omega arith)

      by_use : (b : Bool) → uses plan p o ≡ b
          → value_by (plays_ended plan past ++ p ∷ []) past o
          ≡ cond b (value_of plan (e ∷ past) o) (committed_value plan past (length (plays_ended plan past)) o)
      by_use true u =
          let live : is_live past p ≡ true =
          subst (λ a. is_live past a ≡ true) here
          (end_live plan tree past (of_kind kind.End e) legal.0 (end_row plan past e.kind e p legal.1 is).0) in
          commits_own p o past legal.0 (nothing_round plan p (around plan p) refl top)
          (and_from (is_live past p) (uses plan p o) live u) ∙ sym (pass plan past e o [] (unchanged e.kind e is))
      by_use false u = commits_others p o past legal.0 u ∙ sym (ap (λ ps. value_by ps past o) all_taken)

  commit : (past : List Entry) → LegalPast plan past → CommitLaw plan past
  commit past legal = record {
    stays = λ later before n o split low.
        subst (λ es. committed_value plan es n o ≡ committed_value plan before n o) (sym split)
        (stay later before n o (subst (LegalPast plan) split legal) low).0;
    commits = λ p o later before e split is top.
        let whole = subst (LegalPast plan) split legal in
        let here = legal_rest plan later (e ∷ before) whole in
        let ended = at_end p o before e here is top in
        let k = length (plays_ended plan before) in
        subst (λ es. committed_value plan es (suc k) o
        ≡ cond (uses plan p o) (value_of plan (e ∷ before) o) (committed_value plan es k o)) (sym split) (
        (stay later (e ∷ before) (suc k) o whole (omega (arith, ended.1))).0 ∙ ended.0
        ∙ ap (cond (uses plan p o) (value_of plan (e ∷ before) o))
        (sym ((stay later (e ∷ before) k o whole (omega (arith, ended.1))).0
        ∙ stays_once before e k o here (omega arith))));
    whole = λ over. all_end plan playable past legal over;
  }

-- commit law
pub plays_commit : (plan : Plan) → IsPlayable plan → Holds CommitLaw plan
plays_commit plan playable past legal = commit plan playable past legal
