use Rattle.journal_laws.proofs.PlayablePlan.{is_playable}
use Rattle.journal_laws.proofs.LawsKept.{keeps_laws}
use Rattle.journal_laws.proofs.keeps_laws.Goals as goal

pub returns : goal.returns
returns c =
    let playable = is_playable c.args.plan.now c.is_closed.ensures in
    keeps_laws c.args.plan.now playable
