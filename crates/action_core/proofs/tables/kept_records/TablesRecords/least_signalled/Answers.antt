use Rattle.std.proofs.Common.{reverse, sym, subst}
use Rattle.action_endings.specs.inner.KeptEndings.{at}
use Rattle.action_endings.proofs.RightAnswers.{signals_known}
use Rattle.action_core.specs.inner.KeptPast.{StandsFor as TablesStand}
use Rattle.action_core.proofs.tables.kept_records.TablesRecords.least_signalled.Goals as goal

pub least_signalled-requires : goal.least_signalled-requires
least_signalled-requires c =
    let past = reverse c.args.past.now.journal.now in
    let kept = subst (TablesStand c.args.past.now.plan.now past) (sym c.tables.view_is) c.args.past.now.stands in
    signals_known c.args.past.now.plan.now past c.args.place (at c.tables.inside.endings c.args.place)
    (kept.endings.verdicts c.args.place)
