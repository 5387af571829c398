use Rattle.script_checker.proofs.Taking.{Taken}
use Rattle.script_checker.proofs.refused.take_lines.Given as goal

abbrev pub invariant-loop-index : goal.invariant-loop-index
invariant-loop-index l = Taken l.names l.lines l.index l.so_far l.rows.items
