use Rattle.std.proofs.Common.{arith}
use Rattle.std.specs.Int.{w128}
use Rattle.std.proofs.lemmas.Nat.Bits.{bit_at-trailing_zeros}
use Rattle.cover_table.proofs.Bits.{had_from_one}
use Rattle.cover_table.proofs.order.some_bit.Goals as goal

pub returns-else-row-eq0-clause-found : goal.returns-else-row-eq0-clause-found
returns-else-row-eq0-clause-found c =
    let lowest = bit_at-trailing_zeros w128 c.args.row (omega arith) (omega arith) in
    (lowest.0, had_from_one c.args.row _ lowest.1)
