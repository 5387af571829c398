use Rattle.script_checker.proofs.NamesKept.{own_names_of}
use Rattle.script_checker.proofs.own_names.has_own_names.Goals as goal

pub returns : goal.returns
returns c = own_names_of c.args.script.now c.args.plan.now c.are_script.ensures c.requires
