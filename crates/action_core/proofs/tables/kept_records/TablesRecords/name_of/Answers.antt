use Rattle.std.proofs.Common.{reverse, sym, subst}
use Rattle.journal_laws.proofs.PlayablePlan.{is_playable}
use Rattle.journal_laws.proofs.Raised.{role_inside}
use Rattle.action_core.specs.inner.KeptPast.{StandsFor as TablesStand}
use Rattle.action_core.proofs.tables.kept_records.TablesRecords.name_of.Goals as goal

pub name_kept-requires : goal.name_kept-requires
name_kept-requires c =
    let plan = c.args.past.now.plan.now in
    role_inside plan (is_playable plan c.is_closed.ensures).tree (reverse c.args.past.now.journal.now) c.args.past.now.legal c.args.by
    c.args.place c.requires.here

pub returns : goal.returns
returns c =
    let past = reverse c.args.past.now.journal.now in
    let kept = subst (TablesStand c.args.past.now.plan.now past) (sym c.tables.view_is) c.args.past.now.stands in
    c.name_kept.ensures past kept.endings
