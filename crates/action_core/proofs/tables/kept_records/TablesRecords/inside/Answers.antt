use Rattle.std.proofs.Common.{◌∙◌, reverse, sym, subst}
use Rattle.journal_laws.proofs.PlayablePlan.{is_playable}
use Rattle.action_core.proofs.Answering.{inside_right}
use Rattle.action_core.specs.inner.KeptPast.{StandsFor as TablesStand}
use Rattle.action_core.proofs.tables.kept_records.TablesRecords.inside.Goals as goal

pub returns : goal.returns
returns c =
    let plan = c.args.past.now.plan.now in
    let past = reverse c.args.past.now.journal.now in
    let kept = subst (TablesStand c.args.past.now.plan.now past) (sym c.tables.view_is) c.args.past.now.stands in
    c.place_kept.ensures
    ∙ inside_right plan (is_playable plan c.is_closed.ensures) past c.args.past.now.legal c.tables.inside.frames kept.frames c.args.by
