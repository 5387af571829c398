use Rattle.std.proofs.Common.{ap, length, arith}
use Rattle.place_plan.proofs.OnPlans.ClosedPlan.{few_alternates}
use Rattle.place_plan.proofs.plans.plan.Plan.alternates.Goals as goal

pub overflow_cast-result : goal.overflow_cast-result
overflow_cast-result c =
    omega (arith, ap length c.alternates_of.ensures, few_alternates c.args.self.now c.is_closed.ensures c.args.place c.args.nest)
