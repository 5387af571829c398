use Rattle.std.proofs.Common.{◌≡◌, drop, max}
use Rattle.place_plan.specs.Plans.Bound.{longest_handler}
use Rattle.place_plan.proofs.plans.bound.longest_handler.Given as goal

abbrev pub invariant-loop-role : goal.invariant-loop-role
invariant-loop-role l = max l.longest (longest_handler (drop l.role-index l.roles)) ≡ longest_handler l.roles
