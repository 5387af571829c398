-- How many sets there are, size by size.
use Rattle.std.proofs.Common.{◌≡◌, ℕ, zero, suc, ◌+◌, ◌*◌, ◌^◌, ◌<◌, ◌≤◌, inl, inr, List, map, length, slice_index, sym, refl, subst, arith}
use Rattle.std.proofs.Math.Nat.{pow-le-pow_left, pow-le-pow_right, pow-suc, pow-zero}
use Rattle.std.proofs.lemmas.Bool.{cases_lt}
use Rattle.std.proofs.lemmas.Nat.{mul-le}
use Rattle.std.proofs.lemmas.List.{get_or_past, length-append, length-map}
use Rattle.set_graphs.specs.Sets.{choose, exception_count, sets, table, with_first, without_first}
use Rattle.set_graphs.specs.inner.Counts.{AreNextCounts, CountSets}

one_of_none : (n : ℕ) → length (choose n 0) ≡ 1
one_of_none zero = refl
one_of_none (suc n) = refl

-- the sets with one primitive more: as many as without it, and those of one member less
pub pascal : (n size : ℕ) → length (choose (suc n) (suc size)) ≡ length (choose n (suc size)) + length (choose n size)
pascal n size =
    let both = length-append (map with_first (choose n size)) (map without_first (choose n (suc size))) in
    let left = length-map (choose n size) with_first in
    let right = length-map (choose n (suc size)) without_first in
    omega (arith, both, left, right)

counts_at : (n : ℕ) (old new : List ℕ) → CountSets n old → length new ≡ length old → AreNextCounts old new → (size : ℕ) → size < length new
    → slice_index new size ≡ length (choose (suc n) size)
counts_at n old new counts many next zero below =
    let e = next zero (omega (arith, below, many)) in
    let f = counts zero (omega (arith, below, many)) in
    let g = one_of_none n in
    omega (arith, e, f, g)
counts_at n old new counts many next (suc size) below =
    let e = next (suc size) (omega (arith, below, many)) in
    let f = counts (suc size) (omega (arith, below, many)) in
    let g = counts size (omega (arith, below, many)) in
    let h = pascal n size in
    omega (arith, e, f, g, h)

pub counts_more : (n : ℕ) (old new : List ℕ) → CountSets n old → length new ≡ length old → AreNextCounts old new → CountSets (n + 1) new
counts_more n old new counts many next =
    let one : n + 1 ≡ suc n = omega arith in
    subst (λ (m : ℕ). CountSets m new) (sym one) (counts_at n old new counts many next)

-- ---- how many at most
few_chosen : (n size : ℕ) → length (choose n size) ≤ suc n ^ size
few_chosen zero zero = omega arith
few_chosen (suc n) zero = let e = pow-zero (suc (suc n)) in omega (arith, e)
few_chosen zero (suc size) = omega arith
few_chosen (suc n) (suc size) =
    let parts = pascal n size in
    let left = few_chosen n size in
    let right = few_chosen n (suc size) in
    let grows = pow-le-pow_left {n = suc n} {m = suc (suc n)} (omega arith) size in
    let more = pow-suc (suc n) size in
    let all = pow-suc (suc (suc n)) size in
    let times = mul-le (suc n ^ size) (suc (suc n)) (suc (suc n) ^ size) (suc (suc n)) grows (omega arith) in
    fewer (length (choose (suc n) (suc size))) (length (choose n (suc size))) (length (choose n size)) (suc n ^ size) (suc n)
    (suc n ^ suc size) (suc (suc n) ^ suc size) (suc (suc n) ^ size * suc (suc n)) parts left right more all times
  where
    fewer : (whole with_size less p m q r s : ℕ) → whole ≡ with_size + less → less ≤ p → with_size ≤ q → q ≡ p * m → r ≡ s → p * suc m ≤ s
        → whole ≤ r
    fewer whole with_size less p m q r s parts left right more all times = grind (arith, parts, left, right, more, all, times)

-- a count of sets fits
pub chosen_fit : (n size : ℕ) → n < 128 → size < 8 → length (choose n size) ≤ 2 ^ 49
chosen_fit n size n_fits size_fits =
    let few = few_chosen n size in
    let base = pow-le-pow_left {n = suc n} {m = 128} (omega (arith, n_fits)) size in
    let seven : size ≤ 7 = omega (arith, size_fits) in
    let some : 1 ≤ 128 = omega arith in
    let power : 128 ^ size ≤ 128 ^ 7 = pow-le-pow_right some seven in
    omega (arith, few, base, power)

pub counts_fit : (n : ℕ) (counts : List ℕ) → n < 128 → length counts ≤ 8 → CountSets n counts → (size : ℕ)
    → slice_index counts size ≤ 2 ^ 49
counts_fit n counts n_fits many count size =
    elim (cases_lt size (length counts)) [
      | inl inside ↦
          let e = count size inside in
          let f = chosen_fit n size n_fits (omega (arith, inside, many)) in
          omega (arith, e, f)
      | inr past ↦ let e = get_or_past counts size 0 past in omega (arith, e)
    ]

-- one size more
pub exceptions_more : (n size : ℕ) → exception_count n (size + 1) ≡ exception_count n size + length (choose n (size + 1))
exceptions_more n size =
    let one : size + 1 ≡ suc size = omega arith in
    let both = length-append (sets n size) (choose n (suc size)) in
    let e : length (table n (suc size)) ≡ length (table n size) + length (choose n (suc size)) = omega (arith, both) in
    subst (λ (s : ℕ). exception_count n s ≡ exception_count n size + length (choose n s)) (sym one) e

pub exceptions_fit : (n size : ℕ) → n < 128 → size < 8 → exception_count n size ≤ 1 + size * 2 ^ 49
exceptions_fit n zero n_fits size_fits = omega arith
exceptions_fit n (suc size) n_fits size_fits =
    let both = length-append (sets n size) (choose n (suc size)) in
    let few = exceptions_fit n size n_fits (omega (arith, size_fits)) in
    let here = chosen_fit n (suc size) n_fits size_fits in
    omega (arith, both, few, here)
