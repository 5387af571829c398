use Rattle.std.proofs.Common.{◌≡◌, map, take}
use Rattle.script_checker.specs.LinesOfPlan.{action_lines}
use Rattle.script_checker.proofs.lines.lines_of.Given as goal

abbrev pub invariant-loop-action : goal.invariant-loop-action
invariant-loop-action l = l.lines.items ≡ map (action_lines l.script l.plan) (take l.action-index l.actions)
