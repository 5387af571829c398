-- The parts of the hands of a relay.
use Rattle.std.proofs.Common.{◌≡◌, ◌≢◌, ◌<◌, ◌≤◌, ◌+◌, ◌-◌, ◌==◌, ℕ, zero, suc, Bool, true, false, if◌then◌else◌, List, [], ◌∷◌, map, length, Contains, slice_index_or, ap, ◌∙◌, refl, ⊎_elim, All}
use native.Mathlib.Omega.{arith}
use Rattle.std.specs.List.{sum_by, list_any}
use Rattle.std.proofs.lemmas.Bool.Decides.{eqb_tells}
use Rattle.std.proofs.lemmas.List.Sums.{sum_by-cons}
use Rattle.std.proofs.lemmas.List.Elements.{All-tail}
use Rattle.std.proofs.lemmas.List.Folds.{Any-from_list_any}
use Rattle.std.proofs.lemmas.Bool.{eqb-true}
use Rattle.worker_pool.specs.declared.hands.Hand.{Hand}
use Rattle.worker_pool.specs.declared.hands.Relay.{Relay}
use Rattle.worker_pool.specs.Hands.{part_of, parts_by, HaveAll, IsHandOf}
use Rattle.worker_pool.proofs.Weights.{below, below_ones, enough}

some_by : (hands : ℕ) (b : Bool) → hands ≤ 17 → 0 < (if b then (18 - hands) else 1)
some_by hands true few = omega arith
some_by hands false few = omega arith

-- each hand has a part
pub some_part : (hands number : ℕ) → hands ≤ 17 → 0 < part_of hands number
some_part hands number few = some_by hands (number + 1 == hands) few

one_by : (hands : ℕ) (b : Bool) → b ≡ false → (if b then (18 - hands) else 1) ≡ 1
one_by hands true = λ no. absurd (grind (arith, no))
one_by hands false = λ no. refl

rest_by : (hands : ℕ) (b : Bool) → b ≡ true → (if b then (18 - hands) else 1) ≡ 18 - hands
rest_by hands true = λ yes. refl
rest_by hands false = λ yes. absurd (grind (arith, yes))

not_same : (a b : ℕ) → a ≢ b → (a == b) ≡ false
not_same a b other = ⊎_elim (λ (t : ((a == b) ≡ true) × (a ≡ b)). absurd (other t.1)) (λ t. t.0) (eqb_tells a b)

same : (a b : ℕ) → a ≡ b → (a == b) ≡ true
same a b is = ⊎_elim (λ (t : ((a == b) ≡ true) × (a ≡ b)). t.0) (λ t. absurd (t.1 is)) (eqb_tells a b)

-- the hands have all parts
pub all_below : (hands : ℕ) → 0 < hands → hands ≤ 17 → below (part_of hands) hands ≡ 17
all_below zero some few = absurd (omega (arith, some))
all_below (suc m) some few =
    let ones =
    below_ones (part_of (suc m)) m
    (λ j less. one_by (suc m) (j + 1 == suc m) (not_same (j + 1) (suc m) (λ e. omega (arith, e, less)))) in
    let rest = rest_by (suc m) (m + 1 == suc m) (same (m + 1) (suc m) (omega arith)) in
    omega (arith, ones, rest, few)

module _ {M : Type 0} where
  at_number : (k : ℕ) (hs : List (Hand M)) (i : ℕ) (h : Hand M) → i < length hs → slice_index_or hs i h ≡ h
      → slice_index_or (map (λ (x : Hand M). x.number) hs) i k ≡ h.number
  at_number k [] i h less is = absurd (omega (arith, less))
  at_number k (x ∷ xs) zero h less is = ap (λ (y : Hand M). y.number) is
  at_number k (x ∷ xs) (suc i) h less is = at_number k xs i h (omega (arith, less)) is

  mapped_long : (hs : List (Hand M)) → length (map (λ (x : Hand M). x.number) hs) ≡ length hs
  mapped_long [] = refl
  mapped_long (h ∷ hs) = ap suc (mapped_long hs)

  found : (k : ℕ) (hs : List (Hand M)) → list_any (λ (h : Hand M). h.number == k) hs ≡ true → Contains (map (λ (x : Hand M). x.number) hs) k
  found k hs has =
      let any = Any-from_list_any (λ (h : Hand M). h.number == k) hs has in
      let h : Hand M = any.1 in
      let is : h.number ≡ k = eqb-true h.number k any.4 in
      (any.0, (let l = any.2 in omega (arith, l, mapped_long hs)), at_number k hs any.0 h any.2 any.3 ∙ is)

  weighs_numbers : (f : ℕ → ℕ) (hs : List (Hand M)) → sum_by f (map (λ (x : Hand M). x.number) hs) ≡ sum_by (λ (h : Hand M). f h.number) hs
  weighs_numbers f [] = refl
  weighs_numbers f (h ∷ hs) = omega (
    arith,
    sum_by-cons f h.number (map (λ (x : Hand M). x.number) hs),
    sum_by-cons (λ (x : Hand M). f x.number) h hs,
    weighs_numbers f hs,
  )

  parts_known : (relay : Relay M) (hs : List (Hand M)) → All (λ h. IsHandOf relay h) hs
      → sum_by parts_by hs ≡ sum_by (λ (h : Hand M). part_of relay.hands h.number) hs
  parts_known relay [] all = refl
  parts_known relay (h ∷ hs) all =
      let mine = (all 0 h (omega arith)).parts in
      omega (
        arith,
        sum_by-cons parts_by h hs,
        sum_by-cons (λ (x : Hand M). part_of relay.hands x.number) h hs,
        mine,
        parts_known relay hs (All-tail (λ x. IsHandOf relay x) h hs all),
      )

  -- where no hand is missing, the hands have all parts
  pub have_parts : (relay : Relay M) (hs : List (Hand M)) → All (λ h. IsHandOf relay h) hs → HaveAll relay.hands hs
      → 17 ≤ sum_by parts_by hs
  have_parts relay hs all every =
      let e = enough (part_of relay.hands) relay.hands (map (λ (x : Hand M). x.number) hs) (λ j less. found j hs (every j less)) in
      let b = all_below relay.hands relay.few.0 relay.few.1 in
      omega (arith, e, b, weighs_numbers (part_of relay.hands) hs, parts_known relay hs all)

-- a hand that isn't the last has one part
pub part_one : (hands number : ℕ) → number + 1 < hands → part_of hands number ≡ 1
part_one hands number less = one_by hands (number + 1 == hands) (not_same (number + 1) hands (λ e. omega (arith, e, less)))

-- the last has the rest
pub part_last : (hands number : ℕ) → number + 1 ≡ hands → part_of hands number ≡ 18 - hands
part_last hands number is = rest_by hands (number + 1 == hands) (same (number + 1) hands is)
