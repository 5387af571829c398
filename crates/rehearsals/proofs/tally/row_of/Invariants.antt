use Rattle.rehearsals.specs.inner.Counting.{NoneAmong}
use Rattle.rehearsals.proofs.tally.row_of.Given as goal

abbrev pub invariant-loop-index : goal.invariant-loop-index
invariant-loop-index l = NoneAmong l.index l.rows l.fact
