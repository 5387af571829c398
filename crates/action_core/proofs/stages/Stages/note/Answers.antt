use Rattle.std.proofs.Common.{◌∙◌, ◌∷◌, ◌||◌, cond, Some, sym, ap, subst}
use Rattle.caa_base.specs.declared.written.entry.Kind.TheVariants as kind
use Rattle.place_plan.specs.RulesOfJournals.Entries.{is_of}
use Rattle.place_plan.specs.RulesOfJournals.Whereabouts.{outcome_at}
use Rattle.action_core.specs.declared.stage.Stage.{Stage}
use Rattle.action_core.specs.inner.KeptStages.{StageOfEach}
use Rattle.action_core.proofs.Staging.{stage_keeps}
use Rattle.action_core.proofs.stages.Stages.note.Goals as goal

pub returns : goal.returns
returns c = λ plan past s.
    let e = c.args.entry.now in
    let old = c.args.self.now in
    let row = c.stage_after-stage.result in
    subst (StageOfEach plan (e ∷ past)) (sym c.set.ensures)
    (stage_keeps plan past e old row c.requires
    (c.stage_after-stage.ensures.started ∙ ap (λ (b : Stage). is_of kind.Start e || b.started) c.stage.ensures)
    (c.stage_after-stage.ensures.undoing ∙ ap (λ (b : Stage). is_of kind.Undo e || b.undoing) c.stage.ensures)
    (c.stage_after-stage.ensures.ended ∙ ap (λ (b : Stage). cond (is_of kind.End e) (Some (outcome_at e)) b.ended) c.stage.ensures)
    s)
