use Rattle.std.proofs.Common.{◌≡◌, map, take}
use Rattle.script_checker.specs.LinesOfPlan.{use_line}
use Rattle.script_checker.proofs.lines.all_uses.Given as goal

abbrev pub invariant-loop-nest : goal.invariant-loop-nest
invariant-loop-nest l = l.lines.items ≡ map (use_line l.subject.names.now l.subject.block.now) (take l.nest-index l.nests)
