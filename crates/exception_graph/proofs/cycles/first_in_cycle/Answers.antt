use Rattle.std.proofs.Common.{arith}
use Rattle.exception_graph.proofs.cycles.first_in_cycle.Goals as goal

pub returns-clause-none : goal.returns-clause-none
returns-clause-none c = λ a a_in. c.loop-a.invariant a (omega arith)
