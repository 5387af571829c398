use Rattle.std.proofs.Common.{◌∙◌, ◌<◌, reverse, sym, subst}
use Rattle.action_core.specs.inner.KeptPast.{StandsFor as TablesStand}
use Rattle.action_core.proofs.tables.kept_records.TablesRecords.holder_of.Goals as goal

pub holder-requires : goal.holder-requires
holder-requires c =
    let past = reverse c.args.past.now.journal.now in
    let kept = subst (TablesStand c.args.past.now.plan.now past) (sym c.tables.view_is) c.args.past.now.stands in
    subst (λ n. c.args.object < n) (sym kept.versions.as_many) c.requires.known

pub returns : goal.returns
returns c =
    let past = reverse c.args.past.now.journal.now in
    let kept = subst (TablesStand c.args.past.now.plan.now past) (sym c.tables.view_is) c.args.past.now.stands in
    c.holder.ensures ∙ (kept.versions.each c.args.object c.requires.known).holder
