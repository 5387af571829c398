use Rattle.std.proofs.Common.{◌≡◌}
use Rattle.set_graphs.specs.Sets.{pairs_below}
use Rattle.set_graphs.proofs.pairs.make_pairs.Given as goal

abbrev pub invariant-loop-exception : goal.invariant-loop-exception
invariant-loop-exception l = l.pairs.items ≡ pairs_below l.primitives l.table l.exception
