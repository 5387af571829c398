-- The least cover as a number, and as what it is.
use Rattle.std.proofs.Common.{◌≡◌, ℕ, ◌<◌, true, not, ◌||◌, List, inl, inr, arith, Contains}
use Rattle.std.proofs.lemmas.Bool.{and_parts, and_from, cases_Bool, or_cases, or_left, or_right, not_from_false, not-true, both_ways}
use Rattle.cover_table.specs.Cover.{CoverOrder, covers, covers_each, IsLeastCover, IsOrder}
use Rattle.message_resolution.specs.Members.LeastCover.{is_least, least_cover}
use Rattle.message_resolution.proofs.Containing.{list_all_from, list_all_in}
use Rattle.message_resolution.proofs.Ranges.{all_in_range, in_range_all, first_passes}

module _ (order : CoverOrder) (xs : List ℕ) where
  is_least-from : (x : ℕ) → IsLeastCover order xs x → is_least order xs x ≡ true
  is_least-from x h =
      and_from _ _ h.above (all_in_range _ 0 order.count (λ y low high. elim (cases_Bool (covers_each order y xs)) [
        | inl each ↦ or_right _ _ (h.least y (omega arith) each)
        | inr other ↦ or_left _ _ (not_from_false _ other)
      ]))

  from_is_least : (x : ℕ) → x < order.count → is_least order xs x ≡ true → IsLeastCover order xs x
  from_is_least x x_in is =
      let parts = and_parts (covers_each order x xs) _ is in
      record {
        in_range = x_in;
        above = parts.0;
        least = λ y y_in each. elim
            (or_cases (not (covers_each order y xs)) (covers order y x)
            (in_range_all (λ z. not (covers_each order z xs) || covers order z x) 0 order.count parts.1 y (omega arith) (omega arith))) [
              | inl other ↦ absurd (both_ways (covers_each order y xs) (not-true _ other) each)
              | inr over ↦ over
            ];
      }

  -- where there is a least cover, it is the number that is computed
  pub least_cover-is : (x : ℕ) → IsOrder order → IsLeastCover order xs x → least_cover order xs ≡ x
  least_cover-is x ordered h =
      let x_in = h.in_range in
      let found = first_passes (is_least order xs) 0 order.count x (omega arith) (omega arith) (is_least-from x h) in
      let below = found.1 in
      let r_in : least_cover order xs < order.count = omega arith in
      let is = from_is_least (least_cover order xs) r_in found.0 in
      ordered.antisymmetric (least_cover order xs) x r_in x_in (h.least (least_cover order xs) r_in is.above) (is.least x x_in h.above)

-- it depends on what the list contains alone
pub least-same_set : (order : CoverOrder) (xs ys : List ℕ) (x : ℕ) → ((m : ℕ) → Contains xs m → Contains ys m)
    → ((m : ℕ) → Contains ys m → Contains xs m) → IsLeastCover order xs x → IsLeastCover order ys x
least-same_set order xs ys x into back h = record {
  in_range = h.in_range;
  above = list_all_from (covers order x) ys (λ m at. list_all_in (covers order x) xs m h.above (back m at));
  least = λ y y_in each. h.least y y_in (list_all_from (covers order y) xs (λ m at. list_all_in (covers order y) ys m each (into m at)));
}

-- and there is one at most
pub least_one_only : (order : CoverOrder) (xs : List ℕ) (x y : ℕ) → IsOrder order → IsLeastCover order xs x → IsLeastCover order xs y
    → x ≡ y
least_one_only order xs x y ordered h k =
    ordered.antisymmetric x y h.in_range k.in_range (k.least x h.in_range h.above) (h.least y k.in_range k.above)
