use Rattle.std.proofs.Common.{ap, nat_eq}
use Rattle.std.proofs.lemmas.Nat.Bits.{shr_and_one}
use Rattle.cover_table.proofs.order.has_bit.Goals as goal

pub returns : goal.returns
returns c = ap (λ bit. nat_eq bit 1) (shr_and_one c.args.row c.args.bit)
