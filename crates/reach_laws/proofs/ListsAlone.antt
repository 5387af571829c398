-- Where the members of lists stand, and what some of them passes.
use Rattle.std.proofs.Common.{◌≡◌, ℕ, ◌==◌, ◌<◌, Bool, true, false, not, cond, List, [], ◌∷◌, ◌++◌, length, slice_index_or, slice_get, Some, None, zero, suc, refl, sym, ap, ◌∙◌, subst, arith, inl, inr, ◌⊎◌}
use Rattle.std.specs.List.{list_all, list_any}
use Rattle.std.proofs.lemmas.Bool.{and_from, or_cases, or_left, or_right, eqb-true, eq-eqb, false≢true}
use Rattle.caa_base.specs.Written.Lists.{member, is_empty, first_of, next_after}
use Rattle.caa_base.specs.inner.Lists.{Rises}
use Rattle.caa_base.proofs.ListLemmas.{chosen, member_above}

-- a member stands at some index
pub stands_at : (xs : List ℕ) (x : ℕ) → member x xs ≡ true → (j : ℕ) × (slice_get xs j ≡ Some x)
stands_at [] x m = absurd (false≢true m)
stands_at (y ∷ ys) x m = elim (or_cases (y == x) (member x ys) m) [
  | inl e ↦ (zero, ap Some (eqb-true y x e))
  | inr e ↦ later (stands_at ys x e)
]
  where
    later : (j : ℕ) × (slice_get ys j ≡ Some x) → (j : ℕ) × (slice_get (y ∷ ys) j ≡ Some x)
    later found = (suc found.0, found.1)

-- and what stands at one is a member
pub at_member : (xs : List ℕ) (j x : ℕ) → slice_get xs j ≡ Some x → member x xs ≡ true
at_member [] j x h = absurd cc
at_member (y ∷ ys) zero x h = let same : y ≡ x = cc in or_left _ _ (eq-eqb y x same)
at_member (y ∷ ys) (suc j) x h = or_right _ _ (at_member ys j x h)

-- below the end something stands
pub stands_below : {A : Type 0} (xs : List A) (j : ℕ) → j < length xs → (x : A) × (slice_get xs j ≡ Some x)
stands_below [] j l = absurd (omega arith)
stands_below (x ∷ xs) zero l = (x, refl)
stands_below (x ∷ xs) (suc j) l = stands_below xs j (omega arith)

pub below_end : {A : Type 0} (xs : List A) (j : ℕ) (x : A) → slice_get xs j ≡ Some x → j < length xs
below_end [] j x h = absurd cc
below_end (y ∷ ys) zero x h = omega arith
below_end (y ∷ ys) (suc j) x h = omega (arith, below_end ys j x h)

-- in rising numbers an earlier index has a lower number
pub rises_by : (low : ℕ) (xs : List ℕ) (i j x y : ℕ) → Rises low xs → i < j → slice_get xs i ≡ Some x → slice_get xs j ≡ Some y → x < y
rises_by low [] i j x y r l h k = absurd cc
rises_by low (z ∷ zs) i zero x y r l h k = absurd (omega arith)
rises_by low (z ∷ zs) zero (suc j) x y r l h k =
    let same : z ≡ x = cc in
    omega (arith, same, member_above (suc z) zs y r.1 (at_member zs j y k))
rises_by low (z ∷ zs) (suc i) (suc j) x y r l h k = rises_by (suc z) zs i j x y r.1 (omega arith) h k

-- the number after another comes later, and is a member
pub after_is : (low : ℕ) (xs : List ℕ) (x y : ℕ) → Rises low xs → next_after x xs ≡ Some y → (x < y) × (member y xs ≡ true)
after_is low [] x y r h = absurd cc
after_is low (z ∷ zs) x y r h = elim (chosen (z == x) (first_of zs) (next_after x zs) (Some y) h) [
  | inl w ↦ by_rest (eqb-true z x w.0) zs r.1 w.1
  | inr w ↦ let ih = after_is (suc z) zs x y r.1 w.1 in (ih.0, or_right _ _ ih.1)
]
  where
    by_rest : z ≡ x → (ys : List ℕ) → Rises (suc z) ys → first_of ys ≡ Some y → (x < y) × (member y (z ∷ ys) ≡ true)
    by_rest same [] k f = absurd cc
    by_rest same (u ∷ us) k f =
        let one : u ≡ y = cc in (omega (arith, same, one, k.0), or_right _ _ (or_left _ _ (eq-eqb u y one)))

-- where no number comes after another, that stands at the end
pub last_stands : (low : ℕ) (xs : List ℕ) (j x : ℕ) → Rises low xs → slice_get xs j ≡ Some x → next_after x xs ≡ None → suc j ≡ length xs
last_stands low [] j x r h n = absurd cc
last_stands low (z ∷ zs) zero x r h n =
    let same : z ≡ x = cc in
    elim (chosen (z == x) (first_of zs) (next_after x zs) None n) [
      | inl w ↦ by_rest zs w.1
      | inr w ↦ absurd (false≢true (sym w.0 ∙ eq-eqb z x same))
    ]
  where
    by_rest : (ys : List ℕ) → first_of ys ≡ None → 1 ≡ suc (length ys)
    by_rest [] f = refl
    by_rest (u ∷ us) f = absurd cc
last_stands low (z ∷ zs) (suc j) x r h n = elim (chosen (z == x) (first_of zs) (next_after x zs) None n) [
  | inl w ↦ absurd (let more = member_above (suc z) zs x r.1 (at_member zs j x h) in let same = eqb-true z x w.0 in omega arith)
  | inr w ↦ ap suc (last_stands (suc z) zs j x r.1 h w.1)
]

-- what one passes, some pass
pub get_any : {A : Type 0} (test : A → Bool) (xs : List A) (n : ℕ) (x : A) → slice_get xs n ≡ Some x → test x ≡ true
    → list_any test xs ≡ true
get_any test [] n x e h = absurd cc
get_any test (y ∷ ys) zero x e h = let same : y ≡ x = cc in or_left _ _ (subst (λ z. test z ≡ true) (sym same) h)
get_any test (y ∷ ys) (suc n) x e h = or_right _ _ (get_any test ys n x e h)

pub row_any : {A : Type 0} (test : A → Bool) (xs : List A) (i : ℕ) (d : A) → i < length xs → test (slice_index_or xs i d) ≡ true
    → list_any test xs ≡ true
row_any test [] i d l h = absurd (omega arith)
row_any test (x ∷ xs) zero d l h = or_left _ _ h
row_any test (x ∷ xs) (suc i) d l h = or_right _ _ (row_any test xs i d (omega arith) h)

-- a member of two lists in a row is one of either
pub member_either : (y : ℕ) (xs ys : List ℕ) → member y (xs ++ ys) ≡ true → (member y xs ≡ true) ⊎ (member y ys ≡ true)
member_either y [] ys m = inr m
member_either y (x ∷ xs) ys m = elim (or_cases (x == y) (member y (xs ++ ys)) m) [
  | inl e ↦ inl (or_left _ _ e)
  | inr e ↦ elim (member_either y xs ys e) [ inl a ↦ inl (or_right _ _ a) | inr a ↦ inr a ]
]

-- the member of a list that has one number at most
pub only_here : (b : Bool) (x y : ℕ) → member y (cond b (x ∷ []) []) ≡ true → (b ≡ true) × (x ≡ y)
only_here true x y m = elim (or_cases (x == y) false m) [ inl e ↦ (refl, eqb-true x y e) | inr e ↦ absurd (false≢true e) ]
only_here false x y m = absurd (false≢true m)

-- what each row passes, all pass
pub rows_all : {A : Type 0} (test : A → Bool) (xs : List A) (d : A)
    → ((i : ℕ) → i < length xs → test (slice_index_or xs i d) ≡ true) → list_all test xs ≡ true
rows_all test [] d h = refl
rows_all test (x ∷ xs) d h =
    and_from (test x) (list_all test xs) (h zero (omega arith)) (rows_all test xs d (λ i l. h (suc i) (omega arith)))

-- what a member passes, some pass, and what some pass, a member passes
pub any_at : (test : ℕ → Bool) (xs : List ℕ) (x : ℕ) → member x xs ≡ true → test x ≡ true → list_any test xs ≡ true
any_at test [] x m h = absurd (false≢true m)
any_at test (y ∷ ys) x m h = elim (or_cases (y == x) (member x ys) m) [
  | inl e ↦ or_left _ _ (subst (λ z. test z ≡ true) (sym (eqb-true y x e)) h)
  | inr e ↦ or_right _ _ (any_at test ys x e h)
]

pub any_is : (test : ℕ → Bool) (xs : List ℕ) → list_any test xs ≡ true → (x : ℕ) × (member x xs ≡ true) × (test x ≡ true)
any_is test [] h = absurd (false≢true h)
any_is test (y ∷ ys) h = elim (or_cases (test y) (list_any test ys) h) [
  | inl e ↦ (y, or_left _ _ (eq-eqb y y refl), e)
  | inr e ↦ later (any_is test ys e)
]
  where
    later : (x : ℕ) × (member x ys ≡ true) × (test x ≡ true) → (x : ℕ) × (member x (y ∷ ys) ≡ true) × (test x ≡ true)
    later found = (found.0, or_right _ _ found.1, found.2)

-- a list with a member isn't empty
pub some_there : (xs : List ℕ) (x : ℕ) → member x xs ≡ true → is_empty xs ≡ false
some_there [] x m = absurd (false≢true m)
some_there (y ∷ ys) x m = refl

pub some_long : (xs : List ℕ) → not (is_empty xs) ≡ true → (0 < length xs) × ((x : ℕ) × (member x xs ≡ true))
some_long [] h = absurd (false≢true h)
some_long (x ∷ xs) h = (omega arith, (x, or_left _ _ (eq-eqb x x refl)))
