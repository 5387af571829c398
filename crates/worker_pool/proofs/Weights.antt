-- What changed lists weigh.
use Rattle.std.proofs.Common.{◌≡◌, ◌≢◌, ℕ, zero, suc, ◌+◌, ◌<◌, ◌≤◌, ◌==◌, Bool, true, false, List, [], ◌∷◌, ◌++◌, length, set, sym, refl, ap, ◌∙◌, Contains, ⊎_elim, if◌then◌else◌}
use mathlib.Core.Option.{some, some-ne-none, some-injective}
use lib.ListN.{get_elem?}
use native.Mathlib.Omega.{arith}
use Rattle.std.specs.List.{sum_by}
use Rattle.std.proofs.lemmas.List.Sums.{sum_by-cons, sum_by-append}
use Rattle.std.proofs.lemmas.Bool.Decides.{eqb_tells}
use Rattle.worker_pool.specs.SeatLists.{without}

module _ {A : Type 0} (f : A → ℕ) where
  -- the weight after one change
  pub total_set : (xs : List A) (k : ℕ) (v w : A) → get_elem? xs k ≡ some v → sum_by f (set xs k w) + f v ≡ sum_by f xs + f w
  total_set [] k v w e = absurd (some-ne-none v (sym e))
  total_set (x ∷ xs) zero v w e = let same : x ≡ v =
      some-injective x v e in omega (arith, sum_by-cons f x xs, sum_by-cons f w xs, ap f same)
  total_set (x ∷ xs) (suc k) v w e = omega (arith, sum_by-cons f x xs, sum_by-cons f x (set xs k w), total_set xs k v w e)

  -- no member weighs more than the whole
  pub part_le : (xs : List A) (k : ℕ) (v : A) → get_elem? xs k ≡ some v → f v ≤ sum_by f xs
  part_le [] k v e = absurd (some-ne-none v (sym e))
  part_le (x ∷ xs) zero v e = let same : x ≡ v = some-injective x v e in omega (arith, sum_by-cons f x xs, ap f same)
  part_le (x ∷ xs) (suc k) v e = omega (arith, sum_by-cons f x xs, part_le xs k v e)

  -- two members weigh no more than the whole
  pub parts_le : (xs : List A) (i j : ℕ) (v w : A) → i ≢ j → get_elem? xs i ≡ some v → get_elem? xs j ≡ some w → f v + f w ≤ sum_by f xs
  parts_le [] i j v w apart at at' = absurd (some-ne-none v (sym at))
  parts_le (x ∷ xs) zero zero v w apart at at' = absurd (apart refl)
  parts_le (x ∷ xs) zero (suc j) v w apart at at' = let same : x ≡ v =
      some-injective x v at in omega (arith, sum_by-cons f x xs, ap f same, part_le xs j w at')
  parts_le (x ∷ xs) (suc i) zero v w apart at at' = let same : x ≡ w =
      some-injective x w at' in omega (arith, sum_by-cons f x xs, ap f same, part_le xs i v at)
  parts_le (x ∷ xs) (suc i) (suc j) v w apart at at' =
      omega (arith, sum_by-cons f x xs, parts_le xs i j v w (λ e. apart (ap suc e)) at at')

  -- with one more
  pub total_more : (xs : List A) (x : A) → sum_by f (xs ++ x ∷ []) ≡ sum_by f xs + f x
  total_more xs x = omega (arith, sum_by-append f xs (x ∷ []), sum_by-cons f x [])

  -- where no member weighs anything
  total_none : (xs : List A) → ((j : ℕ) (w : A) → get_elem? xs j ≡ some w → f w ≡ 0) → sum_by f xs ≡ 0
  total_none [] none = refl
  total_none (x ∷ xs) none = omega (arith, sum_by-cons f x xs, none 0 x refl, total_none xs (λ j w at. none (suc j) w at))

  -- where one member alone weighs something
  pub total_alone : (xs : List A) (k : ℕ) (v : A) → get_elem? xs k ≡ some v
      → ((j : ℕ) (w : A) → j ≢ k → get_elem? xs j ≡ some w → f w ≡ 0) → sum_by f xs ≡ f v
  total_alone [] k v e none = absurd (some-ne-none v (sym e))
  total_alone (x ∷ xs) zero v e none =
      let same : x ≡ v = some-injective x v e in
      omega (arith, sum_by-cons f x xs, ap f same, total_none xs (λ j w at. none (suc j) w (λ h. omega arith) at))
  total_alone (x ∷ xs) (suc k) v e none =
      omega (
        arith,
        sum_by-cons f x xs,
        none 0 x (λ h. omega arith) refl,
        total_alone xs k v e (λ j w apart at. none (suc j) w (λ h. apart (omega arith)) at),
      )

-- each member weighs one: the weight is the length
pub ones : {A : Type 0} (xs : List A) → sum_by (λ (x : A). 1) xs ≡ length xs
ones [] = refl
ones {A = A} (x ∷ xs) = omega (arith, sum_by-cons (λ (x : A). 1) x xs, ones xs)

-- a list weighs what is taken out of it and what is left
without_by : (h : ℕ → ℕ) (x y : ℕ) (ys : List ℕ) (b : Bool) → (b ≡ true → y ≡ x) → (b ≡ false → sum_by h ys ≡ h x + sum_by h (without x ys))
    → sum_by h (y ∷ ys) ≡ h x + sum_by h (if b then ys else (y ∷ without x ys))
without_by h x y ys true = λ yes no. omega (arith, sum_by-cons h y ys, ap h (yes refl))
without_by h x y ys false = λ yes no. omega (arith, sum_by-cons h y ys, sum_by-cons h y (without x ys), no refl)

in_rest : (x y : ℕ) (ys : List ℕ) → Contains (y ∷ ys) x → y ≢ x → Contains ys x
in_rest x y ys (zero, short, is) other = absurd (other is)
in_rest x y ys (suc k, short, is) other = (k, omega arith, is)

pub without_weighs : (h : ℕ → ℕ) (x : ℕ) (xs : List ℕ) → Contains xs x → sum_by h xs ≡ h x + sum_by h (without x xs)
without_weighs h x [] has = let short = has.1 in absurd (omega arith)
without_weighs h x (y ∷ ys) has =
    without_by h x y ys (y == x)
    (λ yes. ⊎_elim (λ (t : ((y == x) ≡ true) × (y ≡ x)). t.1) (λ t. absurd (grind (arith, t.0, yes))) (eqb_tells y x))
    (λ no. ⊎_elim (λ (t : ((y == x) ≡ true) × (y ≡ x)). absurd (grind (arith, t.0, no)))
    (λ t. without_weighs h x ys (in_rest x y ys has t.1)) (eqb_tells y x))

-- ---- enough of each number

-- what is below a number weighs so much
abbrev pub below : (ℕ → ℕ) → ℕ → ℕ
below f zero = 0
below f (suc k) = below f k + f k

first_or : (x j y : ℕ) (ys : List ℕ) → Contains (y ∷ ys) j → (Contains ys j → Contains (without x ys) j) → Contains (y ∷ without x ys) j
first_or x j y ys (zero, few, is) rest = (0, omega arith, is)
first_or x j y ys (suc k, few, is) rest = let r = rest (k, omega (arith, few), is) in (suc r.0, (let s = r.1 in omega (arith, s)), r.2)

contains_by : (x j y : ℕ) (ys : List ℕ) (b : Bool) → (b ≡ true → y ≡ x) → Contains (y ∷ ys) j → j ≢ x
    → (Contains ys j → Contains (without x ys) j)
    → Contains (if b then ys else (y ∷ without x ys)) j
contains_by x j y ys true = λ yes has other rest. in_rest j y ys has (λ e. other (sym e ∙ yes refl))
contains_by x j y ys false = λ yes has other rest. first_or x j y ys has rest

pub contains_without : (x j : ℕ) (ys : List ℕ) → Contains ys j → j ≢ x → Contains (without x ys) j
contains_without x j [] has other = has
contains_without x j (y ∷ ys) has other =
    contains_by x j y ys (y == x)
    (λ yes. ⊎_elim (λ (t : ((y == x) ≡ true) × (y ≡ x)). t.1) (λ t. absurd (grind (arith, t.0, yes))) (eqb_tells y x)) has other
    (λ in_ys. contains_without x j ys in_ys other)

-- a list in which each number below k stands weighs no less than these
pub enough : (f : ℕ → ℕ) (k : ℕ) (ns : List ℕ) → ((j : ℕ) → j < k → Contains ns j) → below f k ≤ sum_by f ns
enough f zero ns all = omega arith
enough f (suc k) ns all =
    let r = enough f k (without k ns) (λ j less. contains_without k j ns (all j (omega (arith, less))) (λ e. omega (arith, e, less))) in
    omega (arith, r, without_weighs f k ns (all k (omega arith)))

pub below_ones : (f : ℕ → ℕ) (k : ℕ) → ((j : ℕ) → j < k → f j ≡ 1) → below f k ≡ k
below_ones f zero one = refl
below_ones f (suc k) one = omega (arith, below_ones f k (λ j less. one j (omega (arith, less))), one k (omega arith))
