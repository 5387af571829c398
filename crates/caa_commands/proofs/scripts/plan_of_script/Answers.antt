use Rattle.std.proofs.Common.{refl, Ok, Err}
use Rattle.caa_commands.proofs.Answers.{plan_answered, refusal_answered, refused_for}
use Rattle.journal_text.proofs.OnTexts.WellNamed.{well_named}
use Rattle.caa_commands.proofs.PlansOfScripts.{only_plan}
use Rattle.caa_commands.proofs.scripts.plan_of_script.Goals as goal

pub returns-in_ok-refusal-in-Err-clause-refused : goal.returns-in_ok-refusal-in-Err-clause-refused
returns-in_ok-refusal-in-Err-clause-refused c =
    let script = c.args.script.now in
    let error = c.in-Err.error in
    let told = c.in_ok-refusal-in-Err.ensures in
    refused_for script error c.in_ok-refusal-in-Err.refusal
    (refusal_answered script (Err error) error c.in-Err.ensures refl) told.line told.fault

pub returns-in-Ok-clause-plan : goal.returns-in-Ok-clause-plan
returns-in-Ok-clause-plan c =
    only_plan c.args.script.now c.in-Ok.plan c.has_one_plan.ensures
    (plan_answered c.args.script.now (Ok c.in-Ok.plan) c.in-Ok.plan c.in-Ok.ensures refl)

pub has_own_names-requires : goal.has_own_names-requires
has_own_names-requires c = plan_answered c.args.script.now (Ok c.in-Ok.plan) c.in-Ok.plan c.in-Ok.ensures refl

pub returns-in-Ok-clause-named : goal.returns-in-Ok-clause-named
returns-in-Ok-clause-named c = well_named c.in-Ok.plan c.has_own_names.ensures
