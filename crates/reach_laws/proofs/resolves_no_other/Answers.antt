use Rattle.journal_laws.proofs.PlayablePlan.{is_playable}
use Rattle.journal_laws.proofs.CoreKept.{core}
use Rattle.reach_laws.proofs.Planned.{is_planned}
use Rattle.reach_laws.proofs.Explained.{resolves_no_other}
use Rattle.reach_laws.proofs.resolves_no_other.Goals as goal

pub returns : goal.returns
returns c =
    let plan = c.args.plan.now in
    let playable = is_playable plan c.is_closed.ensures in
    resolves_no_other plan playable (core plan playable) (is_planned plan c.is_closed.ensures)
