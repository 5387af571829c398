use Rattle.std.proofs.Common.{◌≡◌, ◌*◌, ◌%◌, ◌^◌, true, false, bit_and, nat_eq, ap, sym, subst, arith, inl, inr}
use Rattle.std.specs.Int.{w64, bit_not}
use Rattle.std.proofs.lemmas.Bool.{cases_eq, ne_eqb, both_ways}
use Rattle.std.proofs.lemmas.Nat.Bits.{bit_at_clear_same, bit_at_above}
use Rattle.cover_table.specs.Cover.{has_bit}
use Rattle.cover_table.proofs.Bits.{had_in_both}
use Rattle.action_manager.proofs.sleepers.without.Goals as goal

pub returns-then-by-lt-BITS : goal.returns-then-by-lt-BITS
returns-then-by-lt-BITS c = λ t had.
    let crew = c.args.crew in
    let by = c.args.by in
    let mask = bit_not w64 (1 * 2 ^ by % 2 ^ 64) in
    let gone : has_bit (bit_and crew mask) by ≡ false = ap (λ k. nat_eq k 1) (bit_at_clear_same w64 crew by (omega arith)) in (
      (had_in_both crew mask t had).0,
      elim (cases_eq by t) [
        | inl same ↦ absurd (both_ways _ gone (subst (λ b. has_bit (bit_and crew mask) b ≡ true) (sym same) had))
        | inr apart ↦ ne_eqb by t apart
      ],
    )

pub returns-else-by-lt-BITS : goal.returns-else-by-lt-BITS
returns-else-by-lt-BITS c = λ t had.
    let crew = c.args.crew in
    let by = c.args.by in
    let none : has_bit crew by ≡ false = ap (λ bit. nat_eq bit 1) (bit_at_above crew 64 by c.ranges.crew.fits c.if-by-lt-BITS.false) in
    (had, ne_eqb by t (λ same. both_ways _ none (subst (λ b. has_bit crew b ≡ true) (sym same) had)))
