use Rattle.std.proofs.Common.{◌≡◌, ℕ, true, ◌*◌, ◌%◌, ◌^◌, bit_or, nat_eq, ap, sym, ◌∙◌, subst, arith, inl, inr}
use Rattle.std.specs.Int.{w128}
use Rattle.std.proofs.lemmas.Bool.{cases_eq, eq-eqb, ne_eqb, or_left}
use Rattle.std.proofs.lemmas.Nat.Bits.{bit_at_set_same, bit_at_set_other}
use Rattle.cover_table.specs.Cover.{has_bit, most_exceptions}
use Rattle.cover_table.proofs.Bits.{had_from_one}
use Rattle.cover_table.proofs.order.with_bit.Goals as goal

pub returns : goal.returns
returns c = λ b.
    let row = c.args.row in
    let bit = c.args.bit in
    elim (cases_eq b bit) [
      | inl same ↦
          let here : has_bit (bit_or row (1 * 2 ^ bit % 2 ^ most_exceptions)) bit ≡ true =
          had_from_one _ bit (bit_at_set_same w128 row bit (omega arith)) in
          let set : has_bit (bit_or row (1 * 2 ^ bit % 2 ^ most_exceptions)) b ≡ true =
          subst (λ (k : ℕ). has_bit (bit_or row (1 * 2 ^ bit % 2 ^ most_exceptions)) k ≡ true) (sym same) here in
          set ∙ sym (or_left _ _ (eq-eqb b bit same))
      | inr apart ↦ rw (ne_eqb b bit apart) (ap (λ k. nat_eq k 1) (bit_at_set_other w128 row bit (omega arith) b apart))
    ]
