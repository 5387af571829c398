use Rattle.journal_laws.proofs.PlayablePlan.{is_playable}
use Rattle.journal_laws.proofs.CoreKept.{core}
use Rattle.interlock_laws.proofs.SpotsFitting.{spots_fit}
use Rattle.interlock_laws.proofs.spots_fit.Goals as goal

pub returns : goal.returns
returns c =
    let plan = c.args.plan.now in
    let playable = is_playable plan c.is_closed.ensures in
    spots_fit plan playable (core plan playable)
