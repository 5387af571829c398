use Rattle.journal_laws.proofs.PlayablePlan.{is_playable}
use Rattle.journal_laws.proofs.PlaysCommit.{plays_commit}
use Rattle.journal_laws.proofs.ends_commit.Goals as goal

pub returns : goal.returns
returns c =
    let playable = is_playable c.args.plan.now c.is_closed.ensures in
    plays_commit c.args.plan.now playable
