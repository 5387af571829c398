use Rattle.std.proofs.Common.{◌≡◌, ◌++◌, take, drop}
use Rattle.script_checker.specs.LinesOfPlan.{up_to_end}
use Rattle.script_checker.proofs.lines.up_to_end.Given as goal

abbrev pub invariant-loop-index : goal.invariant-loop-index
invariant-loop-index l = take l.index l.lines ++ up_to_end (drop l.index l.lines) ≡ up_to_end l.lines
