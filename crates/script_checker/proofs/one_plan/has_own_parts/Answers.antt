use Rattle.script_checker.proofs.PartsNamed.{own_parts_of}
use Rattle.script_checker.proofs.one_plan.has_own_parts.Goals as goal

pub returns : goal.returns
returns c = own_parts_of c.args.script.now c.args.plan.now c.are_script.ensures c.requires
