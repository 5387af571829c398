use Rattle.std.proofs.Common.{arith}
use Rattle.place_plan.proofs.OnPlans.ClosedPlan.{all_played, few_roles}
use Rattle.action_endings.proofs.endings.role_in.Goals as goal

pub returns-clause-low : goal.returns-clause-low
returns-clause-low c =
    let plan = c.args.plan.now in
    let played = all_played plan c.is_closed.ensures c.args.place in
    let few = few_roles plan c.is_closed.ensures c.args.place in
    omega (arith, c.in-Some.ensures.known, played, few)
