use Rattle.journal_laws.proofs.PlayablePlan.{is_playable}
use Rattle.journal_laws.proofs.Versions.{device}
use Rattle.journal_laws.proofs.last_put_is_value.Goals as goal

pub returns : goal.returns
returns c =
    let playable = is_playable c.args.plan.now c.is_closed.ensures in
    device c.args.plan.now playable.tree
