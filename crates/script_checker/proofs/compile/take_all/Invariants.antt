use Rattle.script_checker.proofs.Taking.{Taken}
use Rattle.script_checker.proofs.compile.take_all.Given as goal

abbrev pub invariant-loop-line : goal.invariant-loop-line
invariant-loop-line l = Taken l.names l.line-items l.line-index l.so_far l.rows.items
