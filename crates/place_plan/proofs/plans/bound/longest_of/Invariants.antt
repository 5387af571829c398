use Rattle.std.proofs.Common.{◌≡◌, drop, max}
use Rattle.place_plan.specs.Plans.Bound.{longest_of}
use Rattle.place_plan.proofs.plans.bound.longest_of.Given as goal

abbrev pub invariant-loop-handler : goal.invariant-loop-handler
invariant-loop-handler l = max l.longest (longest_of (drop l.handler-index l.handlers)) ≡ longest_of l.handlers
