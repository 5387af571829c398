use Rattle.script_checker.proofs.PlayLines.{counts_unfolding}
use Rattle.script_checker.proofs.compile.counts_unfolding.Goals as goal

pub returns : goal.returns
returns c = counts_unfolding c.args.script.now c.are_script.ensures
