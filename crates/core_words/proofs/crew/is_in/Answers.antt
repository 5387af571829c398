use Rattle.std.proofs.Common.{◌≡◌, ap, nat_eq, nat_lt, false, sym, ◌∙◌, arith}
use Rattle.std.proofs.lemmas.Nat.Bits.{bit_at_above}
use Rattle.cover_table.specs.Cover.{has_bit}
use Rattle.core_words.proofs.crew.is_in.Goals as goal

pub returns-else-by-lt-BITS : goal.returns-else-by-lt-BITS
returns-else-by-lt-BITS c =
    let none : has_bit c.args.crew c.args.by ≡ false =
    ap (λ bit. nat_eq bit 1) (bit_at_above c.args.crew 64 c.args.by c.ranges.crew.fits c.if-by-lt-BITS.false) in
    let high : nat_lt c.args.by 64 ≡ false = grind arith in
    high ∙ sym none
