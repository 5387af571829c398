use Rattle.std.proofs.Common.{subst}
use Rattle.action_script.specs.Forms.ScriptValue.{Script}
use Rattle.caa_commands.specs.Scripts.{IsOnlyPlan, IsRefusedLine, IsUnplanned}
use Rattle.caa_commands.proofs.NotRefused.{accepted_not_refused}
use Rattle.caa_commands.proofs.cells.cell_plan.Goals as goal

pub returns-in-Ok : goal.returns-in-Ok
returns-in-Ok c = subst (λ (s : Script). IsOnlyPlan s c.in-Ok.plan) c.in_ok-script.ensures.value c.in-Ok.ensures.plan

pub unreachable-requires : goal.unreachable-requires
unreachable-requires c =
    let script = c.in_ok-script.script in
    let refused : IsRefusedLine script c.in-Err-Refused.field-0-0 =
    subst (IsUnplanned script) c.in-Err-Refused.field-0-is c.in-Err-Refused.ensures.refused in
    accepted_not_refused script refused.error c.in_ok-script.ensures.accepted refused.first
