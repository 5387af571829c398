use Rattle.std.proofs.Common.{◌≡◌, ◌∙◌, Some, ap, inl, subst, sym}
use Rattle.caa_commands.specs.declared.command.Command.TheVariants as command
use Rattle.caa_commands.specs.Calls.{IsServed}
use Rattle.caa_commands.specs.Logging.{WasUsed, IsLogged, ScriptInLog}
use Rattle.caa_commands.specs.OutsideUse.{plant_use, left_of}
use Rattle.caa_commands.specs.inner.Parts.{threaded_command}
use Rattle.caa_commands.proofs.LoggedCalls.{used_as}
use Rattle.caa_commands.proofs.logged_serving.play_script.Goals as goal

pub returns-in-Run-clause-comes : goal.returns-in-Run-clause-comes
returns-in-Run-clause-comes g c =
    let bytes = c.args.bytes.now in
    let played = c.run_logged.result.decision in
    let left = left_of (plant_use g.P.Plant c.args.plant played.plant) played.journal.entries in
    let served : IsServed command.Run bytes played.finding left =
    record { plan = c.in-Ok.plan; script = c.in-Ok.ensures.plan; comes = c.run_logged.ensures.comes } in
    inl (subst (λ k. IsServed (threaded_command k) bytes played.finding left) (sym c.in-Run.is) served)

pub returns-in-Run-clause-logged : goal.returns-in-Run-clause-logged
returns-in-Run-clause-logged g c =
    let bytes = c.args.bytes.now in
    let played = c.run_logged.result.decision in
    let left = left_of (plant_use g.P.Plant c.args.plant played.plant) played.journal.entries in
    let used : WasUsed g.K.Sink c.args.sink (ScriptInLog g.K.Sink command.Run bytes left played.finding) played.finding
    played.journal.entries c.run_logged.result.log =
    used_as g.K.Sink c.args.sink played.finding played.journal.entries (IsLogged g.K.Sink c.in-Ok.plan played.journal.entries played.finding)
    (ScriptInLog g.K.Sink command.Run bytes left played.finding) c.run_logged.result.log
    (λ kept logged. record { plan = c.in-Ok.plan; script = c.in-Ok.ensures.plan; comes = c.run_logged.ensures.comes; logged = logged })
    c.run_logged.ensures.logged in
    subst (λ k. WasUsed g.K.Sink c.args.sink (ScriptInLog g.K.Sink (threaded_command k) bytes left played.finding) played.finding
    played.journal.entries c.run_logged.result.log) (sym c.in-Run.is) used

pub returns-in-Run-clause-told : goal.returns-in-Run-clause-told
returns-in-Run-clause-told g c = λ is. c.run_logged.ensures.told

pub returns-in-Ok-clause-told : goal.returns-in-Ok-clause-told
returns-in-Ok-clause-told g c = λ is.
    let both : Some (command.Pool c.in-Pool.workers) ≡ Some command.Run =
    sym (ap (λ k. Some (threaded_command k)) c.in-Pool.is) ∙ is in absurd cc
