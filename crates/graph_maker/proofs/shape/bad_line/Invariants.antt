use Rattle.std.proofs.Common.{drop}
use Rattle.graph_maker.proofs.Staged.{Reads}
use Rattle.graph_maker.proofs.shape.bad_line.Given as goal

abbrev pub invariant-loop-line : goal.invariant-loop-line
invariant-loop-line l = Reads l.stage (drop l.line-index l.line-items) l.line-items
