use Rattle.journal_laws.proofs.PlayablePlan.{is_playable}
use Rattle.journal_laws.proofs.CoreKept.{core}
use Rattle.journal_laws.proofs.LengthLaw.{bounded}
use Rattle.journal_laws.proofs.is_bounded.Goals as goal

pub returns : goal.returns
returns c =
    let playable = is_playable c.args.plan.now c.is_closed.ensures in
    bounded c.args.plan.now playable (core c.args.plan.now playable)
