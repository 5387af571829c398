use Rattle.journal_laws.proofs.PlayablePlan.{is_playable}
use Rattle.journal_laws.proofs.Innermost.{inside_is_innermost}
use Rattle.journal_laws.proofs.inside_is_innermost.Goals as goal

pub returns : goal.returns
returns c =
    let playable = is_playable c.args.plan.now c.is_closed.ensures in
    inside_is_innermost c.args.plan.now playable.tree
