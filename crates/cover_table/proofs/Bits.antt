-- Bits of rows.
use Rattle.std.proofs.Common.{sym, ◌∙◌, ap, nat_eq, false, ◌||◌, ◌≡◌, ℕ, true, ◌⊎◌, inl, inr, bit_and, bit_or, arith}
use Rattle.std.specs.Int.{bit_at}
use Rattle.std.proofs.lemmas.Nat.Bits.{bit_at_and, bit_at_or, bit_at-lt, bit_at-zero}
use Rattle.std.proofs.lemmas.Bool.{eqb-true, eq-eqb, cases_eq, cases_Bool, or_left, or_right, or_from, false_from_ne_true, both_ways}
use Rattle.cover_table.specs.Cover.{has_bit}

-- a bit that is had is 1
pub bit_at-had : (row b : ℕ) → has_bit row b ≡ true → bit_at row b ≡ 1
bit_at-had row b h = eqb-true _ _ h

pub had_from_one : (row b : ℕ) → bit_at row b ≡ 1 → has_bit row b ≡ true
had_from_one row b h = eq-eqb _ _ h

-- the empty row has no bit
pub had_in_zero : (b : ℕ) → has_bit 0 b ≡ false
had_in_zero b = ap (λ bit. nat_eq bit 1) (bit_at-zero b)

-- where each of two rows has a bit if the other has it, the bit is the same in both
pub same_bit : (x y b : ℕ) → (has_bit x b ≡ true → has_bit y b ≡ true) → (has_bit y b ≡ true → has_bit x b ≡ true) → bit_at x b ≡ bit_at y b
same_bit x y b there back =
    let p = bit_at-lt x b in
    let q = bit_at-lt y b in
    elim (cases_eq (bit_at x b) 1) [
      | inl one ↦ one ∙ sym (bit_at-had y b (there (had_from_one x b one)))
      | inr other ↦ elim (cases_eq (bit_at y b) 1) [
        | inl one ↦ absurd (other (bit_at-had x b (back (had_from_one y b one))))
        | inr neither ↦ omega arith
      ]
    ]

pub had_in_both : (x y b : ℕ) → has_bit (bit_and x y) b ≡ true → (has_bit x b ≡ true) × (has_bit y b ≡ true)
had_in_both x y b h =
    let e = bit_at_and x y b in
    let one = bit_at-had _ b h in
    let p = bit_at-lt x b in
    let q = bit_at-lt y b in
    (had_from_one x b (omega arith), had_from_one y b (omega arith))

pub had_from_both : (x y b : ℕ) → has_bit x b ≡ true → has_bit y b ≡ true → has_bit (bit_and x y) b ≡ true
had_from_both x y b h k =
    let e = bit_at_and x y b in
    let p = bit_at-had x b h in
    let q = bit_at-had y b k in
    had_from_one _ b (omega arith)

pub had_in_either : (x y b : ℕ) → has_bit (bit_or x y) b ≡ true → (has_bit x b ≡ true) ⊎ (has_bit y b ≡ true)
had_in_either x y b h =
    let e = bit_at_or x y b in
    let one = bit_at-had _ b h in
    let p = bit_at-lt x b in
    let q = bit_at-lt y b in
    elim (cases_eq (bit_at x b) 1) [
      | inl f ↦ inl (had_from_one x b f)
      | inr n ↦ inr (had_from_one y b (omega arith))
    ]

pub had_from_left : (x y b : ℕ) → has_bit x b ≡ true → has_bit (bit_or x y) b ≡ true
had_from_left x y b h =
    let e = bit_at_or x y b in
    let p = bit_at-had x b h in
    let q = bit_at-lt y b in
    had_from_one _ b (omega arith)

pub had_from_right : (x y b : ℕ) → has_bit y b ≡ true → has_bit (bit_or x y) b ≡ true
had_from_right x y b h =
    let e = bit_at_or x y b in
    let p = bit_at-lt x b in
    let q = bit_at-had y b h in
    had_from_one _ b (omega arith)

-- a bit of one row or another
pub has_bit-or : (x y b : ℕ) → has_bit (bit_or x y) b ≡ (has_bit x b || has_bit y b)
has_bit-or x y b =
    elim (cases_Bool (has_bit x b)) [
      | inl left ↦ had_from_left x y b left ∙ sym (or_left (has_bit x b) (has_bit y b) left)
      | inr no_left ↦ elim (cases_Bool (has_bit y b)) [
        | inl right ↦ had_from_right x y b right ∙ sym (or_right (has_bit x b) (has_bit y b) right)
        | inr no_right ↦
            false_from_ne_true (has_bit (bit_or x y) b) (λ had. elim (had_in_either x y b had) [
              | inl left ↦ both_ways (has_bit x b) no_left left
              | inr right ↦ both_ways (has_bit y b) no_right right
            ]) ∙ sym (or_from (has_bit x b) (has_bit y b) no_left no_right)
      ]
    ]
