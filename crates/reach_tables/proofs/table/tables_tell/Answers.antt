use Rattle.journal_laws.proofs.PlayablePlan.{is_playable}
use Rattle.journal_laws.proofs.CoreKept.{core}
use Rattle.reach_laws.proofs.Planned.{is_planned}
use Rattle.reach_tables.proofs.TableTells.{tables_tell}
use Rattle.reach_tables.proofs.table.tables_tell.Goals as goal

pub returns : goal.returns
returns c =
    let plan = c.args.plan.now in
    let playable = is_playable plan c.is_closed.ensures in
    tables_tell plan playable (core plan playable) (is_planned plan c.is_closed.ensures)
