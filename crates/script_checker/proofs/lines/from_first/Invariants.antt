use Rattle.std.proofs.Common.{◌≡◌, drop}
use Rattle.script_checker.specs.LinesOfPlan.{from_first}
use Rattle.script_checker.proofs.lines.from_first.Given as goal

abbrev pub invariant-loop-index : goal.invariant-loop-index
invariant-loop-index l = from_first l.heading (drop l.index l.lines) ≡ from_first l.heading l.lines
