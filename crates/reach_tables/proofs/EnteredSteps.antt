-- What the code reads of the steps of a role, in the words of a table.
use Rattle.std.proofs.Common.{◌≡◌, ℕ, ◌+◌, ◌-◌, ◌<◌, ◌≤◌, Bool, true, false, ◌||◌, List, [], ◌∷◌, length, take, drop, zero, suc, refl, sym, ap, ◌∙◌, subst, add-one, arith, inl, inr}
use Rattle.std.specs.List.{list_any, range_with_len}
use Rattle.std.proofs.lemmas.List.{take_rest}
use Rattle.std.proofs.lemmas.Bool.{or_left, or_right, or_from, cases_eq}
use Rattle.place_plan.specs.declared.drafts.draft_rows.Step.{Step}
use Rattle.reach_tables.specs.ReachTable.{enters_some, enters_behind, enters_before}

-- what some step behind the step i does
pub some_behind : (test : ℕ → Bool) (i : ℕ) (steps : List Step)
    → list_any (enters_some test) (drop (suc i) steps) ≡ enters_behind test i steps
some_behind test i [] = refl
some_behind test zero (s ∷ steps) = refl
some_behind test (suc i) (s ∷ steps) = some_behind test i steps

-- the same of the rest that the code cuts off
pub rest_behind : (test : ℕ → Bool) (i : ℕ) (steps : List Step)
    → list_any (enters_some test) (take (length steps - (i + 1)) (drop (i + 1) steps)) ≡ enters_behind test i steps
rest_behind test i steps =
    ap (list_any (enters_some test)) (take_rest steps (i + 1))
    ∙ subst (λ n. list_any (enters_some test) (drop n steps) ≡ enters_behind test i steps) (sym (add-one i)) (some_behind test i steps)

-- nothing stands behind the last
pub none_behind : (test : ℕ → Bool) (i : ℕ) (steps : List Step) → length steps ≤ i → enters_behind test i steps ≡ false
none_behind test i [] past = refl
none_behind test zero (s ∷ steps) past = absurd (omega (arith, past))
none_behind test (suc i) (s ∷ steps) past = none_behind test i steps (omega (arith, past))

-- what some step before the step j does
pub some_before : (test : ℕ → Bool) (j : ℕ) (steps : List Step)
    → list_any (enters_some test) (take j steps) ≡ enters_before test j steps
some_before test zero [] = refl
some_before test (suc j) [] = refl
some_before test zero (s ∷ steps) = refl
some_before test (suc j) (s ∷ steps) = ap (λ b. enters_some test s || b) (some_before test j steps)

-- all steps stand before the one past the end
pub all_before : (test : ℕ → Bool) (j : ℕ) (steps : List Step) → length steps ≤ j
    → list_any (enters_some test) steps ≡ enters_before test j steps
all_before test j [] past = refl
all_before test zero (s ∷ steps) past = absurd (omega (arith, past))
all_before test (suc j) (s ∷ steps) past = ap (λ b. enters_some test s || b) (all_before test j steps (omega (arith, past)))

-- ---- ranges

-- where a number of a range passes a test, some does
pub range_some : (f : ℕ → Bool) (a n k : ℕ) → a ≤ k → k < a + n → f k ≡ true → list_any f (range_with_len a n) ≡ true
range_some f a zero k l m passes = absurd (omega (arith, l, m))
range_some f a (suc n) k l m passes = elim (cases_eq k a) [
  | inl e ↦ or_left _ _ (subst (λ z. f z ≡ true) e passes)
  | inr e ↦ or_right _ _ (range_some f (a + 1) n k (omega arith) (omega arith) passes)
]

-- where none does, none is found
pub range_none : (f : ℕ → Bool) (a n : ℕ) → ((x : ℕ) → a ≤ x → x < a + n → f x ≡ false) → list_any f (range_with_len a n) ≡ false
range_none f a zero each = refl
range_none f a (suc n) each =
    or_from (f a) (list_any f (range_with_len (a + 1) n)) (each a (omega arith) (omega arith))
    (range_none f (a + 1) n (λ x l m. each x (omega arith) (omega arith)))
