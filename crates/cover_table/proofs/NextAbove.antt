-- The least covers of a number, from those of the one next above it.
use Rattle.std.proofs.Common.{◌≡◌, ◌<◌, ◌==◌, ◌||◌, ◌&&◌, ℕ, [], ◌∷◌, true, false, inl, inr, if◌then◌else◌, sym, ◌∙◌}
use Rattle.std.proofs.lemmas.Bool.{and_parts, and_from, cases_Bool, cases_eq, ne_eqb, or_right, both_ways}
use Rattle.cover_table.specs.Cover.{CoverOrder, covers, IsLeastCover, IsOrder}
use Rattle.cover_table.proofs.Orders.{least-covered}

module _ (order : CoverOrder) (ordered : IsOrder order) (above a : ℕ) (above_in : above < order.count)
    (a_in : a < order.count)
    (next_above : (y : ℕ) → y < order.count → covers order y a ≡ (y == a || covers order y above)) where
  above_covers : covers order above a ≡ true
  above_covers = next_above above above_in ∙ or_right (above == a) (covers order above above) (ordered.reflexive above above_in)

  -- what covers a and something that a doesn't cover covers the number above a
  other_covers : (b y : ℕ) → y < order.count → covers order a b ≡ false → covers order y a ≡ true
      → covers order y b ≡ true → covers order y above ≡ true
  other_covers b y y_in apart over_a over_b = elim (cases_eq y a) [
    | inl same ↦ absurd (both_ways (covers order a b) apart (rw same at over_b))
    | inr other ↦ sym (rw (ne_eqb y a other) at (next_above y y_in)) ∙ over_a
  ]

  at_other : (b x : ℕ) → covers order a b ≡ false → IsLeastCover order (above ∷ b ∷ []) x → IsLeastCover order (a ∷ b ∷ []) x
  at_other b x apart h =
      let parts = and_parts (covers order x above) (covers order x b && true) h.above in
      record {
        in_range = h.in_range;
        above = and_from _ _ (ordered.transitive x above a h.in_range above_in a_in parts.0 above_covers) parts.1;
        least = λ y y_in each.
            let split = and_parts (covers order y a) (covers order y b && true) each in
            let last = and_parts (covers order y b) true split.1 in
            h.least y y_in (and_from _ _ (other_covers b y y_in apart split.0 last.0) split.1);
      }

  -- its least covers are those of the number above it, but a itself with what it covers
  pub least_below : (b x : ℕ) → IsLeastCover order (above ∷ b ∷ []) x → IsLeastCover order (a ∷ b ∷ []) (if covers order a b then a else x)
  least_below b x h = elim (cases_Bool (covers order a b)) [
    | inl over ↦ rw over (least-covered order a b ordered a_in over)
    | inr apart ↦ rw apart (at_other b x apart h)
  ]
