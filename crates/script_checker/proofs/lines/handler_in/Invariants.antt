use Rattle.std.proofs.Common.{◌≡◌, drop}
use Rattle.script_checker.specs.LinesOfPlan.{handler_in}
use Rattle.script_checker.proofs.lines.handler_in.Given as goal

abbrev pub invariant-loop-handler : goal.invariant-loop-handler
invariant-loop-handler l = handler_in (drop l.handler-index l.handlers) l.exception ≡ handler_in l.handlers l.exception
