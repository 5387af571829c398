use Rattle.std.proofs.Common.{◌≡◌}
use Rattle.set_graphs.specs.Sets.{table}
use Rattle.set_graphs.proofs.sets.make_table.Given as goal

abbrev pub invariant-loop-size : goal.invariant-loop-size
invariant-loop-size l = l.sets.items ≡ table l.primitives l.size
