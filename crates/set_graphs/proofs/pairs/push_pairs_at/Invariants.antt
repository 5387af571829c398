use Rattle.std.proofs.Common.{◌≡◌, ◌++◌, map}
use Rattle.set_graphs.specs.Sets.{lowered, number_in, pairs_at}
use Rattle.set_graphs.proofs.pairs.push_pairs_at.Given as goal

abbrev pub invariant-loop-bit : goal.invariant-loop-bit
invariant-loop-bit l =
    l.pairs.items ++ map (λ set. (l.exception, number_in l.table set)) (lowered l.bit l.set) ≡ l.fn.pairs.items ++ pairs_at l.primitives
    l.table l.exception
