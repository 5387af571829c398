use Rattle.std.proofs.Common.{ap, ◌∙◌}
use Rattle.place_plan.specs.Drafts.DraftRules.{broken_rule}
use Rattle.place_plan.specs.declared.drafts.draft.Draft.{Draft}
use Rattle.place_plan.specs.Plans.Unfolding.{plan_of}
use Rattle.script_checker.specs.Compiled.IsAnswer.{planned, wanting}
use Rattle.script_checker.proofs.Taking.{answer_refused, planned_by}
use Rattle.script_checker.proofs.Unbroken.{unbroken}
use Rattle.script_checker.proofs.compile.compile.Goals as goal

pub returns-in-Err : goal.returns-in-Err
returns-in-Err c = answer_refused c.args.script.now c.in-Err.error c.in-Err.ensures.refused

pub of_sound-requires : goal.of_sound-requires
of_sound-requires c =
    ap broken_rule c.into_draft.ensures
    ∙ unbroken c.args.script.now c.in-Ok.made.0 c.in-Ok.made.1.items c.in-Ok.ensures.declared c.breaks_no_rule.ensures

pub returns-in-Ok-of_sound : goal.returns-in-Ok-of_sound
returns-in-Ok-of_sound c =
    planned
    (planned_by c.args.script.now c.in-Ok.made.0 c.in-Ok.made.1.items c.in-Ok.ensures.declared c.in-Ok-of_sound.plan
    (c.in-Ok-of_sound.ensures ∙ ap (λ (draft : Draft). plan_of draft) c.into_draft.ensures))

pub returns-in-Err-of_sound : goal.returns-in-Err-of_sound
returns-in-Err-of_sound c = wanting c.wanting.ensures
