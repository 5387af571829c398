use Rattle.std.proofs.Common.{refl, subst, Ok, IfSome, inr}
use Rattle.script_checker.specs.RefusedLines.{IsRefusedLine}
use Rattle.script_views.proofs.Answers.{plan_answered}
use Rattle.script_views.proofs.explaining.look.Goals as goal

pub returns-in-Ok-compile : goal.returns-in-Ok-compile
returns-in-Ok-compile c =
    let script = c.in-Ok.script in
    let plan = c.in-Ok-compile.plan in
    record { spelled = c.in-Ok.ensures.read; compiled = plan_answered script (Ok plan) plan c.in-Ok-compile.ensures refl }

pub returns-in-Some : goal.returns-in-Some
returns-in-Some c =
    inr (record {
      script = c.in-Ok.script;
      spelled = c.in-Ok.ensures.read;
      refused = c.in-Some.refused;
      first = subst (λ o. IfSome o (IsRefusedLine c.in-Ok.script)) c.in-Some.is c.in_ok-refused.ensures.refused;
      told = c.in_ok-refusal-in-Some.ensures;
    })
