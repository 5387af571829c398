use Rattle.std.proofs.Common.{◌≡◌, ◌<◌, ◌*◌, ◌%◌, ◌^◌, not, ℕ, false, refl, bit_and, nat_eq, ap, sym, ◌∙◌, arith, inl, inr}
use Rattle.std.specs.Int.{w128, bit_not}
use Rattle.std.proofs.lemmas.Bool.{cases_eq, eq-eqb, ne_eqb, and_right, false≢true}
use Rattle.std.proofs.Math.Bool.{and-true}
use Rattle.std.proofs.lemmas.Nat.{and_le_l}
use Rattle.std.proofs.lemmas.Nat.Bits.{bit_at_clear_same, bit_at_clear_other}
use Rattle.cover_table.specs.Cover.{has_bit, most_exceptions}
use Rattle.cover_table.proofs.order.without_bit.Goals as goal

-- the bit that is taken away isn't had
gone : (row bit : ℕ) → bit < most_exceptions → has_bit (bit_and row (bit_not w128 (1 * 2 ^ bit % 2 ^ most_exceptions))) bit ≡ false
gone row bit within = ap (λ k. nat_eq k 1) (bit_at_clear_same w128 row bit within)

pub returns-clause-bits : goal.returns-clause-bits
returns-clause-bits c = λ b b_in.
    let row = c.args.row in
    let bit = c.args.bit in
    elim (cases_eq b bit) [
      | inl same ↦ rw same (gone row bit c.requires ∙ sym (and_right _ _ (ap not (eq-eqb bit bit refl))))
      | inr apart ↦
          rw (ne_eqb b bit apart) (ap (λ k. nat_eq k 1) (bit_at_clear_other w128 row bit c.requires b b_in apart)
          ∙ sym (and-true (has_bit row b)))
    ]

pub returns-clause-less : goal.returns-clause-less
returns-clause-less c = λ had.
    let row = c.args.row in
    let bit = c.args.bit in
    let left : ℕ = bit_and row (bit_not w128 (1 * 2 ^ bit % 2 ^ most_exceptions)) in
    let most = and_le_l row (bit_not w128 (1 * 2 ^ bit % 2 ^ most_exceptions)) in
    elim (cases_eq left row) [
      | inl same ↦ absurd (false≢true (sym (gone row bit (omega arith)) ∙ ap (λ r. has_bit r bit) same ∙ had))
      | inr apart ↦ omega arith
    ]
