use Rattle.journal_laws.proofs.PlayablePlan.{is_playable}
use Rattle.journal_laws.proofs.CoreKept.{core}
use Rattle.interlock_laws.proofs.UsesBehind.{uses_are_over}
use Rattle.interlock_laws.proofs.uses_are_over.Goals as goal

pub returns : goal.returns
returns c =
    let plan = c.args.plan.now in
    let playable = is_playable plan c.is_closed.ensures in
    uses_are_over plan playable (core plan playable)
