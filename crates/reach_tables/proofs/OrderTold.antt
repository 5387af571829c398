-- The tests of the order of sources hold only where it is so.
use Rattle.std.proofs.Common.{◌≡◌, ℕ, ◌==◌, ◌<◌, nat_lt, Bool, true, false, not, ◌&&◌, ◌||◌, List, [], ◌∷◌, slice_index_or, slice_get, length, zero, suc, refl, subst, arith, inl, inr}
use Rattle.std.specs.List.{list_any, range_with_len}
use Rattle.std.proofs.lemmas.Bool.{and_parts, and_from, or_cases, eqb-true, eq-eqb, ltb-true, false≢true, false_from_ne_true, not_from_false}
use Rattle.place_plan.specs.declared.drafts.draft_rows.ActionRow.{ActionRow}
use Rattle.place_plan.specs.declared.drafts.draft_rows.RoleRow.{RoleRow}
use Rattle.place_plan.specs.declared.drafts.draft_rows.Step.{Step}
use Rattle.place_plan.specs.declared.drafts.draft_rows.Step.TheVariants as step
use Rattle.place_plan.specs.Plans.Places.{no_role}
use Rattle.reach_laws.specs.ReachedSteps.{reached, enters, is_enter}
use Rattle.reach_laws.specs.CanCome.{Source, step_of_role, nested_use, given_up_use, stands_at, IsBefore, in_body, through, is_right_behind, Excludes, itself, or_given_up, earlier, AreTogether}
use Rattle.reach_tables.specs.declared.table.RaisedBy.{RaisedBy}
use Rattle.reach_tables.specs.declared.table.RaisedBy.TheVariants as by
use Rattle.reach_tables.specs.declared.table.UseOrder.{UseOrder}
use Rattle.reach_tables.specs.ReachTable.{source_of, lists_pair, enters_some, enters_behind, enters_before, steps_of, leads_to, leads_from, leads_through, is_before, is_same, excludes, are_together, enters_in_turn, leads_on, tells_order}

-- ---- steps that enter uses

-- where some pass a test, one of some number does
any_row : {A : Type 0} (test : A → Bool) (xs : List A) (d : A) → list_any test xs ≡ true → (i : ℕ) × (test (slice_index_or xs i d) ≡ true)
any_row test [] d h = absurd (false≢true h)
any_row test (x ∷ xs) d h = elim (or_cases (test x) (list_any test xs) h) [
  | inl e ↦ (zero, e)
  | inr e ↦ let found = any_row test xs d e in (suc found.0, found.1)
]

enters_at : (k : ℕ) (steps : List Step) → list_any (enters k) steps ≡ true → (j : ℕ) × (is_enter k (slice_get steps j) ≡ true)
enters_at k [] h = absurd (false≢true h)
enters_at k (s ∷ steps) h = elim (or_cases (enters k s) (list_any (enters k) steps) h) [
  | inl e ↦ (zero, e)
  | inr e ↦ let found = enters_at k steps e in (suc found.0, found.1)
]

-- where the use k is entered before l
record InTurn (k l : ℕ) (steps : List Step) : Type 0 where
  pub i : ℕ
  pub j : ℕ
  pub later : i < j
  pub first : is_enter k (slice_get steps i) ≡ true
  pub second : is_enter l (slice_get steps j) ≡ true

in_turn : (k l : ℕ) (steps : List Step) → enters_in_turn k l steps ≡ true → InTurn k l steps
in_turn k l [] h = absurd (false≢true h)
in_turn k l (s ∷ steps) h = elim (or_cases (enters k s && list_any (enters l) steps) (enters_in_turn k l steps) h) [
  | inl e ↦ here (and_parts (enters k s) (list_any (enters l) steps) e)
  | inr e ↦ further (in_turn k l steps e)
]
  where
    here : (enters k s ≡ true) × (list_any (enters l) steps ≡ true) → InTurn k l (s ∷ steps)
    here parts =
        let found = enters_at l steps parts.1 in
        record { i = zero; j = suc found.0; later = omega arith; first = parts.0; second = found.1 }

    further : InTurn k l steps → InTurn k l (s ∷ steps)
    further found = record {
      i = suc found.i;
      j = suc found.j;
      later = omega (arith, found.later);
      first = found.first;
      second = found.second;
    }

-- the step j enters a use that passes the test
record EntersSome (test : ℕ → Bool) (j : ℕ) (steps : List Step) : Type 0 where
  pub use_number : ℕ
  pub entered : is_enter use_number (slice_get steps j) ≡ true
  pub passes : test use_number ≡ true

entered_here : (test : ℕ → Bool) (s : Step) (steps : List Step) → enters_some test s ≡ true → EntersSome test 0 (s ∷ steps)
entered_here test (step.Enter n) steps h = record { use_number = n; entered = eq-eqb n n refl; passes = h }
entered_here test _ steps h = absurd (false≢true h)

entered_later : (test : ℕ → Bool) (j : ℕ) (s : Step) (steps : List Step) → EntersSome test j steps → EntersSome test (suc j) (s ∷ steps)
entered_later test j s steps found =
    record { use_number = found.use_number; entered = found.entered; passes = found.passes }

entered_some : (test : ℕ → Bool) (steps : List Step) → list_any (enters_some test) steps ≡ true → (j : ℕ) × EntersSome test j steps
entered_some test [] h = absurd (false≢true h)
entered_some test (s ∷ steps) h = elim (or_cases (enters_some test s) (list_any (enters_some test) steps) h) [
  | inl e ↦ (zero, entered_here test s steps e)
  | inr e ↦ let found = entered_some test steps e in (suc found.0, entered_later test found.0 s steps found.1)
]

entered_behind : (test : ℕ → Bool) (i : ℕ) (steps : List Step) → enters_behind test i steps ≡ true
    → (j : ℕ) × (i < j) × EntersSome test j steps
entered_behind test i [] h = absurd (false≢true h)
entered_behind test zero (s ∷ steps) h =
    let found = entered_some test steps h in (suc found.0, omega arith, entered_later test found.0 s steps found.1)
entered_behind test (suc i) (s ∷ steps) h =
    let found = entered_behind test i steps h in
    (suc found.0, omega (arith, found.1), entered_later test found.0 s steps found.2)

entered_before : (test : ℕ → Bool) (j : ℕ) (steps : List Step) → enters_before test j steps ≡ true
    → (i : ℕ) × (i < j) × EntersSome test i steps
entered_before test j [] h = absurd (false≢true h)
entered_before test zero (s ∷ steps) h = absurd (false≢true h)
entered_before test (suc j) (s ∷ steps) h = elim (or_cases (enters_some test s) (enters_before test j steps) h) [
  | inl e ↦ (zero, omega arith, entered_here test s steps e)
  | inr e ↦
      let found = entered_before test j steps e in
      (suc found.0, omega (arith, found.1), entered_later test found.0 s steps found.2)
]

module _ (action : ActionRow) where
  -- ---- what has to be over before

  own_step : (r i : ℕ) → stands_at action r i (step_of_role r i) ≡ true
  own_step r i = and_from (r == r) (i == i) (eq-eqb r r refl) (eq-eqb i i refl)

  -- a source that stands wherever another does is before what that is before, and behind what that is behind
  abbrev StandsWith : Source → Source → Type 0
  StandsWith s t = (r i : ℕ) → stands_at action r i s ≡ true → stands_at action r i t ≡ true

  before_with : (s s' t t' : Source) → StandsWith s s' → StandsWith t t' → IsBefore action s t → IsBefore action s' t'
  before_with s s' t t' f g (in_body _ _ r i j l first second) = in_body s' t' r i j l (f r i first) (g r j second)
  before_with s s' t t' f g (through _ _ k before after) =
      through s' t' k (before_with s s' (nested_use k) (nested_use k) f (λ r i h. h) before)
      (before_with (nested_use k) (nested_use k) t t' (λ r i h. h) g after)

  leads_before : (k l : ℕ) → leads_on action k l ≡ true → IsBefore action (nested_use k) (nested_use l)
  leads_before k l h =
      let found = any_row (λ (role : RoleRow). enters_in_turn k l (reached role.body.steps)) action.roles no_role h in
      let turn = in_turn k l (steps_of action found.0) found.1 in
      in_body (nested_use k) (nested_use l) found.0 turn.i turn.j turn.later turn.first turn.second

  -- the head of a list is so where all behind it are
  head_before : (o : UseOrder) (order : List UseOrder)
      → leads_on action o.first o.through && ((o.through == o.second) || lists_pair order o.through o.second) ≡ true
      → ((k l : ℕ) → lists_pair order k l ≡ true → IsBefore action (nested_use k) (nested_use l))
      → IsBefore action (nested_use o.first) (nested_use o.second)
  head_before o order h rest =
      let parts = and_parts (leads_on action o.first o.through) _ h in
      let leads = leads_before o.first o.through parts.0 in
      elim (or_cases (o.through == o.second) (lists_pair order o.through o.second) parts.1) [
        | inl e ↦ subst (λ z. IsBefore action (nested_use o.first) (nested_use z)) (eqb-true o.through o.second e) leads
        | inr e ↦ through (nested_use o.first) (nested_use o.second) o.through leads (rest o.through o.second e)
      ]

  -- each pair of a list that is right is so
  pair_before : (order : List UseOrder) → tells_order action order ≡ true → (k l : ℕ) → lists_pair order k l ≡ true
      → IsBefore action (nested_use k) (nested_use l)
  pair_before [] right k l h = absurd (false≢true h)
  pair_before (o ∷ order) right k l h =
      let parts =
      and_parts (leads_on action o.first o.through && ((o.through == o.second) || lists_pair order o.through o.second))
      (tells_order action order) right in
      elim (or_cases ((o.first == k) && (o.second == l)) (lists_pair order k l) h) [
        | inl e ↦
            let same = and_parts (o.first == k) (o.second == l) e in
            subst (λ z. IsBefore action (nested_use z) (nested_use l)) (eqb-true o.first k same.0)
            (subst (λ z. IsBefore action (nested_use o.first) (nested_use z)) (eqb-true o.second l same.1)
            (head_before o order parts.0 (pair_before order parts.1)))
        | inr e ↦ pair_before order parts.1 k l e
      ]

  module _ (order : List UseOrder) (right : tells_order action order ≡ true) where
    to_before : (r i k : ℕ) → leads_to action order r i k ≡ true → IsBefore action (step_of_role r i) (nested_use k)
    to_before r i k h =
        let found = entered_behind (λ l. (l == k) || lists_pair order l k) i (steps_of action r) h in
        let n = found.2.use_number in
        let leads : IsBefore action (step_of_role r i) (nested_use n) =
        in_body (step_of_role r i) (nested_use n) r i found.0 found.1 (own_step r i) found.2.entered in
        elim (or_cases (n == k) (lists_pair order n k) found.2.passes) [
          | inl e ↦ subst (λ z. IsBefore action (step_of_role r i) (nested_use z)) (eqb-true n k e) leads
          | inr e ↦ through (step_of_role r i) (nested_use k) n leads (pair_before order right n k e)
        ]

    from_before : (k r j : ℕ) → leads_from action order k r j ≡ true → IsBefore action (nested_use k) (step_of_role r j)
    from_before k r j h =
        let found = entered_before (λ l. (l == k) || lists_pair order k l) j (steps_of action r) h in
        let n = found.2.use_number in
        let leads : IsBefore action (nested_use n) (step_of_role r j) =
        in_body (nested_use n) (step_of_role r j) r found.0 j found.1 found.2.entered (own_step r j) in
        elim (or_cases (n == k) (lists_pair order k n) found.2.passes) [
          | inl e ↦ subst (λ z. IsBefore action (nested_use z) (step_of_role r j)) (eqb-true n k e) leads
          | inr e ↦ through (nested_use k) (step_of_role r j) n (pair_before order right k n e) leads
        ]

    -- the test of a source by that of the use, of which it isn't told whether it was given up
    behind_given : (s : Source) (k : ℕ) → IsBefore action s (nested_use k) → IsBefore action s (given_up_use k)
    behind_given s k = before_with s s (nested_use k) (given_up_use k) (λ r i h. h) (λ r i h. h)

    given_before : (k : ℕ) (t : Source) → IsBefore action (nested_use k) t → IsBefore action (given_up_use k) t
    given_before k t = before_with (nested_use k) (given_up_use k) t t (λ r i h. h) (λ r i h. h)

    steps_before : (r i q j : ℕ) → is_before action order (by.Step r i) (by.Step q j) ≡ true
        → IsBefore action (step_of_role r i) (step_of_role q j)
    steps_before r i q j h = elim (or_cases ((r == q) && nat_lt i j) (leads_through action order r i q j) h) [
      | inl e ↦ one_role (and_parts (r == q) (nat_lt i j) e)
      | inr e ↦ by_use (any_row (λ k. leads_to action order r i k && leads_from action order k q j)
          (range_with_len 0 (length action.nests)) 0 e)
    ]
      where
        one_role : ((r == q) ≡ true) × (nat_lt i j ≡ true) → IsBefore action (step_of_role r i) (step_of_role q j)
        one_role parts =
            subst (λ z. IsBefore action (step_of_role r i) (step_of_role z j)) (eqb-true r q parts.0)
            (in_body (step_of_role r i) (step_of_role r j) r i j (ltb-true i j parts.1) (own_step r i) (own_step r j))

        by_use : (n : ℕ) × (leads_to action order r i (slice_index_or (range_with_len 0 (length action.nests)) n 0)
            && leads_from action order (slice_index_or (range_with_len 0 (length action.nests)) n 0) q j ≡ true)
            → IsBefore action (step_of_role r i) (step_of_role q j)
        by_use found =
            let k = slice_index_or (range_with_len 0 (length action.nests)) found.0 0 in
            let parts = and_parts (leads_to action order r i k) (leads_from action order k q j) found.1 in
            through (step_of_role r i) (step_of_role q j) k (to_before r i k parts.0) (from_before k q j parts.1)

    before_is : (s t : RaisedBy) → is_before action order s t ≡ true → IsBefore action (source_of s) (source_of t)
    before_is (by.Step r i) (by.Step q j) h = steps_before r i q j h
    before_is (by.Step r i) (by.Use l) h = to_before r i l h
    before_is (by.Step r i) (by.GivenUp l) h = behind_given (step_of_role r i) l (to_before r i l h)
    before_is (by.Use k) (by.Step q j) h = from_before k q j h
    before_is (by.Use k) (by.Use l) h = pair_before order right k l h
    before_is (by.Use k) (by.GivenUp l) h = behind_given (nested_use k) l (pair_before order right k l h)
    before_is (by.GivenUp k) (by.Step q j) h = given_before k (step_of_role q j) (from_before k q j h)
    before_is (by.GivenUp k) (by.Use l) h = given_before k (nested_use l) (pair_before order right k l h)
    before_is (by.GivenUp k) (by.GivenUp l) h =
        given_before k (given_up_use l) (behind_given (nested_use k) l (pair_before order right k l h))

    -- ---- what excludes what

    same_excludes : (s t : RaisedBy) → is_same s t ≡ true → Excludes action (source_of s) (source_of t)
    same_excludes (by.Step r i) (by.Step q j) h =
        let parts = and_parts (r == q) (i == j) h in
        subst (λ z. Excludes action (step_of_role r i) (step_of_role z j)) (eqb-true r q parts.0)
        (subst (λ z. Excludes action (step_of_role r i) (step_of_role r z)) (eqb-true i j parts.1) (itself (step_of_role r i) refl))
    same_excludes (by.Use k) (by.Use l) h =
        subst (λ z. Excludes action (nested_use k) (nested_use z)) (eqb-true k l h) (itself (nested_use k) refl)
    same_excludes (by.Use k) (by.GivenUp l) h =
        subst (λ z. Excludes action (nested_use k) (given_up_use z)) (eqb-true k l h) (or_given_up k)
    same_excludes _ _ h = absurd (false≢true h)

    pub excludes_is : (s t : RaisedBy) → excludes action order s t ≡ true → Excludes action (source_of s) (source_of t)
    excludes_is s t h = elim (or_cases (is_same s t) _ h) [
      | inl e ↦ same_excludes s t e
      | inr e ↦
          let right_behind = is_right_behind action (source_of s) (source_of t) in
          let parts = and_parts (is_before action order s t) (not right_behind) e in
          earlier (source_of s) (source_of t) (before_is s t parts.0) (not_true right_behind parts.1)
    ]
      where
        not_true : (b : Bool) → not b ≡ true → b ≡ false
        not_true true e = absurd (false≢true e)
        not_true false e = refl

    -- what can be raised in one place passes the test of it
    pub together_passes : (s t : RaisedBy) → AreTogether action (source_of s) (source_of t)
        → are_together action order s t ≡ true
    together_passes s t both =
        and_from (not (excludes action order s t)) (not (excludes action order t s))
        (not_from_false _ (false_from_ne_true (excludes action order s t) (λ e. both.first (excludes_is s t e))))
        (not_from_false _ (false_from_ne_true (excludes action order t s) (λ e. both.second (excludes_is t s e))))
