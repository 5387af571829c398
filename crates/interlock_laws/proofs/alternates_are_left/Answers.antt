use Rattle.journal_laws.proofs.PlayablePlan.{is_playable}
use Rattle.journal_laws.proofs.CoreKept.{core}
use Rattle.interlock_laws.proofs.AlternatesLeft.{alternates_are_left}
use Rattle.interlock_laws.proofs.alternates_are_left.Goals as goal

pub returns : goal.returns
returns c =
    let plan = c.args.plan.now in
    let playable = is_playable plan c.is_closed.ensures in
    alternates_are_left plan playable (core plan playable)
