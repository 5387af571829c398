-- The least cover of two is the one whose covers are their common covers.
use Rattle.std.proofs.Common.{◌≡◌, ◌<◌, ◌≤◌, ℕ, true, ◌&&◌, inl, inr, List, [], ◌∷◌, length, slice_index, bit_and, arith, refl, sym, ap, ◌∙◌}
use Rattle.std.proofs.lemmas.Bool.{and_parts, and_from, cases_order, false≢true}
use Rattle.std.proofs.lemmas.List.{get_or_past}
use Rattle.std.proofs.lemmas.Nat.Bits.{same_from_bits}
use Rattle.cover_table.specs.Cover.{CoverOrder, covers, has_bit, HasLeastCover, IsLeastCover, IsOrder}
use Rattle.cover_table.specs.inner.Uppers.{AreUppers, HasJoin, IsJoin}
use Rattle.cover_table.proofs.Bits.{had_from_both, had_in_both, had_in_zero, same_bit}

-- what covers something is one of the rows
cover_in : (rows : List ℕ) (y a : ℕ) → has_bit (slice_index rows y) a ≡ true → y < length rows
cover_in rows y a had =
    let past : length rows ≤ y → ⊥ =
    λ beyond. false≢true (sym (had_in_zero a) ∙ sym (ap (λ row. has_bit row a) (get_or_past rows y 0 beyond))
    ∙ had) in
    elim (cases_order y (length rows)) [
      | inl same ↦ absurd (past (omega arith))
      | inr apart ↦ elim apart [ inl less ↦ less | inr more ↦ absurd (past (omega arith)) ]
    ]

module _ (order : CoverOrder) (many : length order.rows ≡ order.count) (ordered : IsOrder order) (uppers : List ℕ)
    (upper : AreUppers order.rows uppers) (a b : ℕ) (a_in : a < order.count) (b_in : b < order.count) where
  -- what covers both has a bit in the common part
  common_from : (y : ℕ) → covers order y a ≡ true → covers order y b ≡ true
      → has_bit (bit_and (slice_index uppers a) (slice_index uppers b)) y ≡ true
  common_from y over_a over_b =
      had_from_both (slice_index uppers a) (slice_index uppers b) y (upper.tell y a (omega arith) ∙ over_a)
      (upper.tell y b (omega arith) ∙ over_b)

  -- and what has one covers both
  common_covers : (y : ℕ) → has_bit (bit_and (slice_index uppers a) (slice_index uppers b)) y ≡ true
      → (covers order y a ≡ true) × (covers order y b ≡ true)
  common_covers y had =
      let parts = had_in_both (slice_index uppers a) (slice_index uppers b) y had in
      (sym (upper.tell y a (omega arith)) ∙ parts.0, sym (upper.tell y b (omega arith)) ∙ parts.1)

  -- the number whose covers are the common ones is the least cover
  pub least_from_join : (x : ℕ) → IsJoin uppers a b x → IsLeastCover order (a ∷ b ∷ []) x
  least_from_join x join =
      let as_many = upper.as_many in
      let below = join.in_range in
      let x_in : x < order.count = omega arith in
      let x_row : x < length order.rows = omega arith in
      let over = common_covers x (sym (ap (λ row. has_bit row x) join.common) ∙ upper.tell x x x_row ∙ ordered.reflexive x x_in) in
      record {
        in_range = x_in;
        above = and_from _ _ over.0 (and_from _ _ over.1 refl);
        least = λ y y_in each.
            let parts = and_parts (covers order y a) (covers order y b && true) each in
            let last = and_parts (covers order y b) true parts.1 in
            sym (upper.tell y x x_row) ∙ ap (λ row. has_bit row y) join.common ∙ common_from y parts.0 last.0;
      }

  -- and the least cover is such a number
  pub join_from_least : HasLeastCover order (a ∷ b ∷ []) → HasJoin uppers a b
  join_from_least (x, h) =
      let as_many = upper.as_many in
      let x_in = h.in_range in
      let x_row : x < length order.rows = omega arith in
      let parts = and_parts (covers order x a) (covers order x b && true) h.above in
      let last = and_parts (covers order x b) true parts.1 in (
        x,
        record {
          in_range = omega arith;
          common = same_from_bits (slice_index uppers x) (bit_and (slice_index uppers a) (slice_index uppers b)) (λ y. same_bit _ _ y
              (λ had.
              let over = sym (upper.tell y x x_row) ∙ had in
              let below = cover_in order.rows y x over in
              let y_below : y < order.count = omega arith in
              common_from y (ordered.transitive y x a y_below x_in a_in over parts.0)
              (ordered.transitive y x b y_below x_in b_in over last.0))
              (λ had.
              let over = common_covers y had in
              let below = cover_in order.rows y a over.0 in
              upper.tell y x x_row ∙ h.least y (omega arith) (and_from _ _ over.0 (and_from _ _ over.1 refl))));
        },
      )
