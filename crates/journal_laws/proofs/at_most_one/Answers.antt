use Rattle.journal_laws.proofs.PlayablePlan.{is_playable}
use Rattle.journal_laws.proofs.CoreKept.{core}
use Rattle.journal_laws.proofs.DueEntry.{at_most_one}
use Rattle.journal_laws.proofs.at_most_one.Goals as goal

pub returns : goal.returns
returns c =
    let playable = is_playable c.args.plan.now c.is_closed.ensures in
    at_most_one c.args.plan.now playable (core c.args.plan.now playable)
