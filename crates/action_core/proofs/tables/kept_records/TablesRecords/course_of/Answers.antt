use Rattle.std.proofs.Common.{◌∙◌, is_some, reverse, sym, subst, ap}
use Rattle.action_core.specs.declared.stage.Stage.{Stage}
use Rattle.action_core.proofs.Answering.{ended_right}
use Rattle.action_core.specs.inner.KeptPast.{StandsFor as TablesStand}
use Rattle.action_core.proofs.tables.kept_records.TablesRecords.course_of.Goals as goal

pub returns-clause-started : goal.returns-clause-started
returns-clause-started c =
    let past = reverse c.args.past.now.journal.now in
    let kept = subst (TablesStand c.args.past.now.plan.now past) (sym c.tables.view_is) c.args.past.now.stands in
    ap (λ (s : Stage). s.started) c.stage-stage.ensures ∙ (kept.stages.each c.args.place).started

pub returns-clause-undoing : goal.returns-clause-undoing
returns-clause-undoing c =
    let past = reverse c.args.past.now.journal.now in
    let kept = subst (TablesStand c.args.past.now.plan.now past) (sym c.tables.view_is) c.args.past.now.stands in
    ap (λ (s : Stage). s.undoing) c.stage-stage.ensures ∙ (kept.stages.each c.args.place).undoing

pub returns-clause-ended : goal.returns-clause-ended
returns-clause-ended c =
    let past = reverse c.args.past.now.journal.now in
    let kept = subst (TablesStand c.args.past.now.plan.now past) (sym c.tables.view_is) c.args.past.now.stands in
    c.is_some.ensures ∙ ap (λ (s : Stage). is_some s.ended) c.stage-stage.ensures
    ∙ ended_right c.args.past.now.plan.now past c.tables.inside.stages kept.stages c.args.place
