use Rattle.std.proofs.Common.{◌≡◌, ℕ, true, ◌*◌, ◌%◌, ◌^◌, bit_or, nat_eq, ap, sym, ◌∙◌, subst, arith, inl, inr}
use Rattle.std.specs.Int.{w64}
use Rattle.std.proofs.lemmas.Bool.{cases_eq, eq-eqb, ne_eqb, or_left}
use Rattle.std.proofs.lemmas.Nat.Bits.{bit_at_set_same, bit_at_set_other}
use Rattle.cover_table.specs.Cover.{has_bit}
use Rattle.cover_table.proofs.Bits.{had_from_one}
use Rattle.core_words.proofs.crew.with.Goals as goal

pub returns : goal.returns
returns c = λ b.
    let row = c.args.crew in
    let bit = c.args.by in
    let more = bit_or row (1 * 2 ^ bit % 2 ^ 64) in
    elim (cases_eq bit b) [
      | inl same ↦
          let here : has_bit more bit ≡ true = had_from_one _ bit (bit_at_set_same w64 row bit (omega arith)) in
          let set : has_bit more b ≡ true = subst (λ (k : ℕ). has_bit more k ≡ true) same here in
          set ∙ sym (or_left _ _ (eq-eqb bit b same))
      | inr apart ↦ rw (ne_eqb bit b apart) (ap (λ k. nat_eq k 1) (bit_at_set_other w64 row bit (omega arith) b (λ w. apart (sym w))))
    ]
