use Rattle.std.proofs.Common.{◌≡◌, ◌++◌, drop}
use Rattle.script_checker.specs.LinesOfPlan.{step_numbers}
use Rattle.script_checker.proofs.lines.step_numbers.Given as goal

abbrev pub invariant-loop-index : goal.invariant-loop-index
invariant-loop-index l = l.numbers.items ++ step_numbers (drop l.index l.lines) ≡ step_numbers l.lines
