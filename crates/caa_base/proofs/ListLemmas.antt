-- Lemmas on tests, options and lists.
use Rattle.std.proofs.Common.{◌≡◌, ℕ, ◌==◌, ◌<◌, ◌≤◌, Bool, true, false, cond, ◌&&◌, ◌+◌, nat_lt, List, [], ◌∷◌, ◌++◌, length, slice_index_or, Some, None, Option, refl, sym, ap, ◌∙◌, subst, arith, zero, suc, inl, inr, ◌⊎◌}
use Rattle.std.specs.List.{list_all, range_with_len}
use Rattle.std.proofs.lemmas.Bool.{and_parts, and_from, or_cases, or_left, or_right, eqb-true, eq-eqb, false≢true, cases_lt, lt-ltb, le-ltb}
use Rattle.caa_base.specs.Written.Lists.{member, index_of, is_at, is_empty, first_not, last_or, last_of}
use Rattle.caa_base.specs.inner.Lists.{Rises}

-- ---- choices by a test

-- one of two was chosen, by the test
pub chosen : {A : Type 0} (b : Bool) (x y z : A) → cond b x y ≡ z → ((b ≡ true) × (x ≡ z)) ⊎ ((b ≡ false) × (y ≡ z))
chosen true x y z h = inl (refl, h)
chosen false x y z h = inr (refl, h)

-- where nothing came, though there was something, it failed
pub failed : {A : Type 0} (b : Bool) (a : A) → cond b (Some a) None ≡ None → b ≡ false
failed true a h = absurd (cc)
failed false a h = refl

-- ---- tests of numbers

-- one more on both sides is less just where it was
pub one_more_each : (m n : ℕ) → nat_lt (suc m) (suc n) ≡ nat_lt m n
one_more_each m n = elim (cases_lt m n) [
  | inl l ↦ lt-ltb (suc m) (suc n) (omega arith) ∙ sym (lt-ltb m n l)
  | inr l ↦ le-ltb (suc m) (suc n) (omega arith) ∙ sym (le-ltb m n l)
]

-- ---- what all elements of a list pass

-- what all pass, and the default, passes at each index
pub get_passes : {A : Type 0} (test : A → Bool) (xs : List A) (i : ℕ) (d : A) → list_all test xs ≡ true → test d ≡ true
    → test (slice_index_or xs i d) ≡ true
get_passes test [] i d h k = k
get_passes test (x ∷ xs) zero d h k = (and_parts (test x) (list_all test xs) h).0
get_passes test (x ∷ xs) (suc i) d h k = get_passes test xs i d (and_parts (test x) (list_all test xs) h).1 k

-- what all pass, passes at each index within the list
pub at_row : {A : Type 0} (test : A → Bool) (xs : List A) (i : ℕ) (d : A) → list_all test xs ≡ true → i < length xs
    → test (slice_index_or xs i d) ≡ true
at_row test [] i d h l = absurd (omega arith)
at_row test (x ∷ xs) zero d h l = (and_parts (test x) (list_all test xs) h).0
at_row test (x ∷ xs) (suc i) d h l = at_row test xs i d (and_parts (test x) (list_all test xs) h).1 (omega arith)

-- where one test leads to another, all pass the other too
pub all_imply : {A : Type 0} (f g : A → Bool) (xs : List A) → ((x : A) → f x ≡ true → g x ≡ true) → list_all f xs ≡ true
    → list_all g xs ≡ true
all_imply f g [] i h = refl
all_imply f g (x ∷ xs) i h =
    let a = and_parts (f x) (list_all f xs) h in
    and_from (g x) (list_all g xs) (i x a.0) (all_imply f g xs i a.1)

-- where all pass two tests, all pass both at once
pub all_both : {A : Type 0} (f g : A → Bool) (xs : List A) → list_all f xs ≡ true → list_all g xs ≡ true
    → list_all (λ x. f x && g x) xs ≡ true
all_both f g [] h k = refl
all_both f g (x ∷ xs) h k =
    let a = and_parts (f x) (list_all f xs) h in
    let b = and_parts (g x) (list_all g xs) k in
    rw (a.0, b.0) (all_both f g xs a.1 b.1)

-- ---- lists with and without elements

-- a list without elements
pub empty_is : {A : Type 0} (xs : List A) → is_empty xs ≡ true → xs ≡ []
empty_is [] h = refl
empty_is (x ∷ xs) h = absurd (false≢true h)

-- a list that is as long as one with elements has some
pub as_filled : {A B : Type 0} (xs : List A) (ys : List B) → length xs ≡ length ys → is_empty ys ≡ false → is_empty xs ≡ false
as_filled [] [] e h = h
as_filled [] (y ∷ ys) e h = absurd (omega (arith, e))
as_filled (x ∷ xs) ys e h = refl

-- ---- members

-- what all members pass, one passes
pub all_at : (test : ℕ → Bool) (xs : List ℕ) (x : ℕ) → list_all test xs ≡ true → member x xs ≡ true → test x ≡ true
all_at test [] x h m = absurd (false≢true m)
all_at test (y ∷ ys) x h m =
    let parts = and_parts _ _ h in
    elim (or_cases _ _ m) [
      | inl e ↦ subst (λ z. test z ≡ true) (eqb-true y x e) parts.0
      | inr e ↦ all_at test ys x parts.1 e
    ]

-- what each member passes, all pass
pub all_from : (test : ℕ → Bool) (xs : List ℕ) → ((x : ℕ) → member x xs ≡ true → test x ≡ true) → list_all test xs ≡ true
all_from test [] h = refl
all_from test (y ∷ ys) h =
    and_from _ _ (h y (or_left _ _ (eq-eqb y y refl))) (all_from test ys (λ x m. h x (or_right _ _ m)))

-- an option that is at a number is that number
pub at_same : (o : Option ℕ) (n : ℕ) → is_at o n ≡ true → o ≡ Some n
at_same None n h = absurd (false≢true h)
at_same (Some m) n h = ap Some (eqb-true m n h)

pub same_at : (o : Option ℕ) (n : ℕ) → o ≡ Some n → is_at o n ≡ true
same_at o n h = rw h (eq-eqb n n refl)

-- the first that fails a test is a member, and fails it
pub first_not_fails : (test : ℕ → Bool) (xs : List ℕ) (x : ℕ) → first_not test xs ≡ Some x → (test x ≡ false) × (member x xs ≡ true)
first_not_fails test [] x h = cc
first_not_fails test (y ∷ ys) x h =
    elim (chosen (test y) _ _ _ h) [
      | inl w ↦ let ih = first_not_fails test ys x w.1 in (ih.0, or_right _ _ ih.1)
      | inr w ↦ let e : y ≡ x = cc in (subst (λ z. test z ≡ false) e w.0, or_left _ _ (eq-eqb y x e))
    ]

-- where none fails, each member passes
pub first_not_none : (test : ℕ → Bool) (xs : List ℕ) (x : ℕ) → first_not test xs ≡ None → member x xs ≡ true → test x ≡ true
first_not_none test [] x h m = absurd (false≢true m)
first_not_none test (y ∷ ys) x h m =
    elim (chosen (test y) _ _ _ h) [
      | inl w ↦ elim (or_cases _ _ m) [
        | inl e ↦ subst (λ z. test z ≡ true) (eqb-true y x e) w.0
        | inr e ↦ first_not_none test ys x w.1 e
      ]
      | inr w ↦ absurd cc
    ]

pub Rises-weaker : (low high : ℕ) (xs : List ℕ) → low ≤ high → Rises high xs → Rises low xs
Rises-weaker low high [] l h = tt
Rises-weaker low high (x ∷ xs) l h = (omega arith, h.1)

pub member_above : (low : ℕ) (xs : List ℕ) (x : ℕ) → Rises low xs → member x xs ≡ true → low ≤ x
member_above low [] x h m = absurd (false≢true m)
member_above low (y ∷ ys) x h m =
    elim (or_cases _ _ m) [
      | inl e ↦ omega (arith, eqb-true y x e)
      | inr e ↦ omega (arith, member_above (suc y) ys x h.1 e)
    ]

-- in rising numbers, those before the first that fails pass
pub first_not_before : (test : ℕ → Bool) (low : ℕ) (xs : List ℕ) (x q : ℕ) → Rises low xs → first_not test xs ≡ Some q
    → member x xs ≡ true → x < q → test x ≡ true
first_not_before test low [] x q r h m l = absurd (false≢true m)
first_not_before test low (y ∷ ys) x q r h m l =
    elim (chosen (test y) _ _ _ h) [
      | inl w ↦ elim (or_cases _ _ m) [
        | inl e ↦ subst (λ z. test z ≡ true) (eqb-true y x e) w.0
        | inr e ↦ first_not_before test (suc y) ys x q r.1 w.1 e l
      ]
      | inr w ↦ elim (or_cases _ _ m) [
        | inl e ↦ let same : y ≡ q = cc in absurd (omega (arith, eqb-true y x e))
        | inr e ↦ let same : y ≡ q = cc in absurd (omega (arith, member_above (suc y) ys x r.1 e))
      ]
    ]

-- the last number of a list is a member
last_or_member : (n : ℕ) (xs : List ℕ) → member (last_or n xs) (n ∷ xs) ≡ true
last_or_member n [] = or_left _ _ (eq-eqb n n refl)
last_or_member n (x ∷ xs) = or_right _ _ (last_or_member x xs)

pub last_member : (xs : List ℕ) (x : ℕ) → last_of xs ≡ Some x → member x xs ≡ true
last_member [] x h = absurd cc
last_member (y ∷ ys) x h = let same : last_or y ys ≡ x = cc in subst (λ a. member a (y ∷ ys) ≡ true) same (last_or_member y ys)

-- and in rising numbers the greatest
last_or_greatest : (n : ℕ) (xs : List ℕ) (y : ℕ) → Rises (suc n) xs → member y (n ∷ xs) ≡ true → y ≤ last_or n xs
last_or_greatest n [] y r m =
    elim (or_cases (n == y) false m) [
      | inl e ↦ omega (arith, eqb-true n y e)
      | inr e ↦ absurd (false≢true e)
    ]
last_or_greatest n (x ∷ xs) y r m =
    elim (or_cases (n == y) (member y (x ∷ xs)) m) [
      | inl e ↦ omega (arith, eqb-true n y e, r.0, last_or_greatest x xs x r.1 (or_left _ _ (eq-eqb x x refl)))
      | inr e ↦ last_or_greatest x xs y r.1 e
    ]

pub last_greatest : (low : ℕ) (xs : List ℕ) (x y : ℕ) → Rises low xs → last_of xs ≡ Some x → member y xs ≡ true → y ≤ x
last_greatest low [] x y r h m = absurd (false≢true m)
last_greatest low (z ∷ zs) x y r h m = let same : last_or z zs ≡ x = cc in subst (λ a. y ≤ a) same (last_or_greatest z zs y r.1 m)

-- a list without a last number has no member
pub no_last : (xs : List ℕ) (x : ℕ) → last_of xs ≡ None → member x xs ≡ true → ⊥
no_last [] x h m = false≢true m
no_last (y ∷ ys) x h m = cc

-- where each member passes, none fails
pub first_not_nowhere : (test : ℕ → Bool) (xs : List ℕ) → ((x : ℕ) → member x xs ≡ true → test x ≡ true) → first_not test xs ≡ None
first_not_nowhere test [] h = refl
first_not_nowhere test (x ∷ xs) h = rw (h x (or_left _ _ (eq-eqb x x refl))) (first_not_nowhere test xs (λ y m. h y (or_right _ _ m)))

-- where a number stands is within the list, or its end
pub index_within : (n : ℕ) (xs : List ℕ) → index_of n xs ≤ length xs
index_within n [] = omega arith
index_within n (x ∷ xs) = by_test (x == n) (index_within n xs)
  where
    by_test : (b : Bool) → index_of n xs ≤ length xs → cond b 0 (suc (index_of n xs)) ≤ suc (length xs)
    by_test true h = omega arith
    by_test false h = omega arith

-- the numbers from a on, and one more
pub range_more : (a n : ℕ) → range_with_len a (n + 1) ≡ range_with_len a n ++ (a + n) ∷ []
range_more a zero = grind arith
range_more a (suc n) = let more = range_more (a + 1) n in grind arith
