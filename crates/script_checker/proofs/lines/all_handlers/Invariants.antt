use Rattle.std.proofs.Common.{◌≡◌, map, take}
use Rattle.place_plan.specs.Plans.Places.{exception_name}
use Rattle.script_checker.specs.LinesOfPlan.{handler_lines}
use Rattle.script_checker.proofs.lines.all_handlers.Given as goal

abbrev pub invariant-loop-handler : goal.invariant-loop-handler
invariant-loop-handler l =
    l.lines.items
    ≡ map (handler_lines l.subject.names.now (exception_name l.subject.plan.now l.subject.internal) l.subject.block.now l.role)
    (take l.handler-index l.handlers)
