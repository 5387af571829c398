use Rattle.std.proofs.Common.{arith}
use Rattle.place_plan.specs.inner.PlanView.{plan_view}
use Rattle.place_plan.proofs.OnPlans.ClosedPlan.{few_places}
use Rattle.place_plan.proofs.plans.plan.Plan.places.Goals as goal

pub overflow_cast-result : goal.overflow_cast-result
overflow_cast-result c = omega (arith, few_places (plan_view c.self.inside) c.self.invariant.closed)
