use Rattle.std.proofs.Common.{◌≡◌, drop}
use Rattle.place_plan.specs.Plans.Places.{handler_in}
use Rattle.reach_tables.proofs.steps.handler_in.Given as goal

abbrev pub invariant-loop-handler : goal.invariant-loop-handler
invariant-loop-handler l = handler_in l.exception (drop l.handler-index l.handlers) ≡ handler_in l.exception l.handlers
