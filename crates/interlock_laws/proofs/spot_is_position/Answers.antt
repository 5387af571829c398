use Rattle.journal_laws.proofs.PlayablePlan.{is_playable}
use Rattle.journal_laws.proofs.CoreKept.{core}
use Rattle.interlock_laws.proofs.SpotsOfPast.{spot_is_position}
use Rattle.interlock_laws.proofs.spot_is_position.Goals as goal

pub returns : goal.returns
returns c =
    let plan = c.args.plan.now in
    let playable = is_playable plan c.is_closed.ensures in
    spot_is_position plan playable (core plan playable)
