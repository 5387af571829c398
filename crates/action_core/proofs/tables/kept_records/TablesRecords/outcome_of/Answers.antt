use Rattle.std.proofs.Common.{◌∙◌, reverse, sym, subst, ap}
use Rattle.action_core.specs.declared.stage.Stage.{Stage}
use Rattle.action_core.specs.inner.KeptPast.{StandsFor as TablesStand}
use Rattle.action_core.proofs.tables.kept_records.TablesRecords.outcome_of.Goals as goal

pub returns : goal.returns
returns c =
    let past = reverse c.args.past.now.journal.now in
    let kept = subst (TablesStand c.args.past.now.plan.now past) (sym c.tables.view_is) c.args.past.now.stands in
    ap (λ (s : Stage). s.ended) c.stage.ensures ∙ (kept.stages.each c.args.place).ended
