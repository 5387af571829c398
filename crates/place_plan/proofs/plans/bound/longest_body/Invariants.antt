use Rattle.std.proofs.Common.{◌≡◌, drop, max}
use Rattle.place_plan.specs.Plans.Bound.{longest_body}
use Rattle.place_plan.proofs.plans.bound.longest_body.Given as goal

abbrev pub invariant-loop-role : goal.invariant-loop-role
invariant-loop-role l = max l.longest (longest_body (drop l.role-index l.roles)) ≡ longest_body l.roles
