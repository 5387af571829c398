use Rattle.journal_laws.proofs.PlayablePlan.{is_playable}
use Rattle.journal_laws.proofs.CoreKept.{core}
use Rattle.journal_laws.proofs.DueEntry.{due_is_right}
use Rattle.journal_laws.proofs.Sleeping.{sleeps_on}
use Rattle.journal_laws.proofs.sleeps_on.Goals as goal

pub returns : goal.returns
returns c =
    let playable = is_playable c.args.plan.now c.is_closed.ensures in
    sleeps_on c.args.plan.now playable (due_is_right c.args.plan.now playable (core c.args.plan.now playable))
