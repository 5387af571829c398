use Rattle.std.proofs.Common.{◌≤◌, length, sym, subst, ◌∙◌}
use Rattle.caa_base.specs.Written.Limits.{most_script_bytes}
use Rattle.action_script.specs.Forms.Printing.{text_of}
use Rattle.action_script.specs.Forms.ScriptValue.{Script}
use Rattle.graph_maker.specs.Answers.IsAnswer.{made, refused, wanting}
use Rattle.graph_maker.specs.MadeGraphs.{DeclaresSets}
use Rattle.graph_maker.proofs.making.make_script.Goals as goal

pub returns-in_default-clause-value : goal.returns-in_default-clause-value
returns-in_default-clause-value c = wanting c.wanting.ensures

pub returns-in-Some-clause-value : goal.returns-in-Some-clause-value
returns-in-Some-clause-value c = refused (sym c.refusal_of.ensures ∙ c.in-Some.is)

pub returns-in-Ok-script_of_sets-clause-value : goal.returns-in-Ok-script_of_sets-clause-value
returns-in-Ok-script_of_sets-clause-value c =
    made (sym c.refusal_of.ensures ∙ c.in_default-refusal_of.is) c.in-Ok-script_of_sets.ensures.value

pub returns-in-Ok-script_of_sets-clause-declares : goal.returns-in-Ok-script_of_sets-clause-declares
returns-in-Ok-script_of_sets-clause-declares c =
    subst (DeclaresSets c.args.script.now c.args.most) (sym c.in-Ok-script_of_sets.ensures.value) c.in-Ok-script_of_sets.ensures.declares

pub returns-clause-value : goal.returns-clause-value
returns-clause-value c = wanting c.wanting-in-Err.ensures

pub returns-in-Ok-script_of_sets-clause-fits : goal.returns-in-Ok-script_of_sets-clause-fits
returns-in-Ok-script_of_sets-clause-fits c =
    subst (λ (s : Script). length (text_of s) ≤ most_script_bytes) (sym c.in-Ok-script_of_sets.ensures.value)
    c.in-Ok-script_of_sets.ensures.fits
