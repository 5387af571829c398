use Rattle.std.proofs.Common.{◌≡◌, ◌∙◌, Some, ap, inl, subst, sym}
use Rattle.caa_commands.specs.OutsideUse.{plant_use, left_of}
use Rattle.caa_commands.specs.declared.command.Command.TheVariants as command
use Rattle.caa_commands.specs.Calls.{IsServed}
use Rattle.caa_commands.specs.inner.Parts.{threaded_command}
use Rattle.caa_commands.proofs.serving.play_in_threads.Goals as goal

pub returns-in-Run-clause-comes : goal.returns-in-Run-clause-comes
returns-in-Run-clause-comes g c =
    let bytes = c.args.bytes.now in
    let left = left_of (plant_use g.P.Plant c.args.plant c.run_plan.result.plant) c.run_plan.result.journal.entries in
    let served : IsServed command.Run bytes c.run_plan.result.finding left =
    record { plan = c.in-Ok.plan; script = c.in-Ok.ensures.plan; comes = c.run_plan.ensures.comes } in
    inl (subst (λ k. IsServed (threaded_command k) bytes c.run_plan.result.finding left) (sym c.in-Run.is) served)

pub returns-in-Run-clause-told : goal.returns-in-Run-clause-told
returns-in-Run-clause-told g c = λ is. c.run_plan.ensures.told

pub returns-in-Pool-clause-told : goal.returns-in-Pool-clause-told
returns-in-Pool-clause-told g c = λ is.
    let both : Some (command.Pool c.in-Pool.workers) ≡ Some command.Run =
    sym (ap (λ k. Some (threaded_command k)) c.in-Pool.is) ∙ is in absurd cc
