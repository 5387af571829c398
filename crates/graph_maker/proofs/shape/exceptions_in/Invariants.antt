use Rattle.std.proofs.Common.{◌≡◌, ◌++◌, drop}
use Rattle.graph_maker.specs.Refusals.{exceptions_in}
use Rattle.graph_maker.proofs.shape.exceptions_in.Given as goal

abbrev pub invariant-loop-line : goal.invariant-loop-line
invariant-loop-line l = l.exceptions.items ++ exceptions_in (drop l.line-index l.line-items) ≡ exceptions_in l.line-items
