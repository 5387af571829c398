use Rattle.journal_laws.proofs.PlayablePlan.{is_playable}
use Rattle.journal_laws.proofs.CoreKept.{core}
use Rattle.journal_laws.proofs.LegalWellFormed.{all_well_formed}
use Rattle.journal_laws.proofs.is_well_formed.Goals as goal

pub returns : goal.returns
returns c =
    let playable = is_playable c.args.plan.now c.is_closed.ensures in
    all_well_formed c.args.plan.now playable (core c.args.plan.now playable)
