use Rattle.exception_graph.specs.inner.Closing.{AddsPairs}
use Rattle.exception_graph.proofs.closing.add_pairs.Given as goal

abbrev pub invariant-loop-upper : goal.invariant-loop-upper
invariant-loop-upper l = AddsPairs l.initial.rows l.rows l.pairs l.upper-index
