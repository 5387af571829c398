-- The least cover that is found by trying one number after another is the one that there is.
use Rattle.std.proofs.Common.{◌≡◌, ℕ, ◌<◌, ◌≤◌, ◌+◌, suc, zero, true, not, ◌||◌, List, length, Some, None, Option, All, refl, ap, arith, inl, inr}
use Rattle.std.specs.List.{range_with_len}
use Rattle.std.proofs.lemmas.Bool.{and_parts, and_from, or_cases, or_left, or_right, eqb-true, eq-eqb, false≢true, not-false, not-true, not_from_false, cases_Bool, cases_eq, both_ways}
use Rattle.cover_table.specs.Cover.{CoverOrder, covers, covers_each, IsLeastCover, IsSound, SetsHaveLeastCovers}
use Rattle.caa_base.specs.Written.Lists.{member}
use Rattle.journal_laws.specs.Due.{is_least, least_of}
use Rattle.caa_base.proofs.ListLemmas.{all_at, all_from, first_not_fails, first_not_none}

-- the numbers from a on
in_range : (a n x : ℕ) → member x (range_with_len a n) ≡ true → (a ≤ x) × (x < a + n)
in_range a zero x m = absurd (false≢true m)
in_range a (suc n) x m = elim (or_cases _ _ m) [
  | inl e ↦ let same = eqb-true a x e in (omega arith, omega arith)
  | inr e ↦ let ih = in_range (a + 1) n x e in (omega arith, omega arith)
]

from_range : (a n x : ℕ) → a ≤ x → x < a + n → member x (range_with_len a n) ≡ true
from_range a zero x l h = absurd (omega arith)
from_range a (suc n) x l h = elim (cases_eq a x) [
  | inl e ↦ or_left _ _ (eq-eqb a x e)
  | inr e ↦ or_right _ _ (from_range (a + 1) n x (omega arith) (omega arith))
]

-- what passes the test is a least cover, and the other way round
pub least_is : (order : CoverOrder) (xs : List ℕ) (x : ℕ) → x < order.count → is_least order xs x ≡ true → IsLeastCover order xs x
least_is order xs x l h =
    let parts = and_parts (covers_each order x xs) _ h in
    record {
      in_range = l;
      above = parts.0;
      least = λ y b c.
          elim (or_cases (not (covers_each order y xs)) (covers order y x)
          (all_at (λ y. not (covers_each order y xs) || covers order y x) (range_with_len 0 order.count) y parts.1
          (from_range 0 order.count y (omega arith) (omega arith)))) [
            | inl n ↦ absurd (both_ways _ (not-true _ n) c)
            | inr w ↦ w
          ];
    }

pub is_least_from : (order : CoverOrder) (xs : List ℕ) (x : ℕ) → IsLeastCover order xs x → is_least order xs x ≡ true
is_least_from order xs x h =
    and_from (covers_each order x xs) _ h.above
    (all_from (λ y. not (covers_each order y xs) || covers order y x) (range_with_len 0 order.count) (λ y m.
    let l = in_range 0 order.count y m in
    elim (cases_Bool (covers_each order y xs)) [
      | inl c ↦ or_right _ _ (h.least y (omega arith) c)
      | inr c ↦ or_left _ _ (not_from_false _ c)
    ]))

-- what is found is a least cover
pub found_least : (order : CoverOrder) (xs : List ℕ) (x : ℕ) → least_of order xs ≡ Some x → IsLeastCover order xs x
found_least order xs x h =
    let found = first_not_fails (λ x. not (is_least order xs x)) (range_with_len 0 order.count) x h in
    let l = in_range 0 order.count x found.1 in
    least_is order xs x (omega arith) (not-false _ found.0)

-- and a least cover is found, since there is one at most
pub least_found : (order : CoverOrder) (xs : List ℕ) (x : ℕ) → IsSound order → IsLeastCover order xs x → least_of order xs ≡ Some x
least_found order xs x sound h = by_found (least_of order xs) refl
  where
    by_found : (o : Option ℕ) → least_of order xs ≡ o → o ≡ Some x
    by_found None w =
        absurd (both_ways _ (not-true _
        (first_not_none (λ x. not (is_least order xs x)) (range_with_len 0 order.count) x w
        (from_range 0 order.count x (omega arith) (let l = h.in_range in omega arith)))) (is_least_from order xs x h))
    by_found (Some y) w =
        let found = found_least order xs y w in
        ap Some (sound.is_order.antisymmetric y x found.in_range h.in_range (h.least y found.in_range found.above)
        (found.least x h.in_range h.above))

-- numbers in range of which there are some have one
pub least_some : (order : CoverOrder) (xs : List ℕ) → IsSound order → SetsHaveLeastCovers order → 0 < length xs
    → All (λ x. x < order.count) xs → (x : ℕ) × (least_of order xs ≡ Some x)
least_some order xs sound sets some fit = let has = sets xs some fit in (has.0, least_found order xs has.0 sound has.1)
