use Rattle.script_checker.proofs.OnePlan.{plan-same}
use Rattle.script_checker.proofs.one_plan.has_one_plan.Goals as goal

pub returns : goal.returns
returns c = plan-same c.args.script.now
