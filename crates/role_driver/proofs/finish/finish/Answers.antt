use Rattle.std.proofs.Common.{◌∙◌, arith, refl, subst}
use Rattle.role_driver.specs.Schedule.{TakesTurn, always_least}
use Rattle.role_driver.specs.Working.{IsToldInPlace}
use Rattle.role_driver.proofs.Grown.{one_more}
use Rattle.role_driver.proofs.Told.{goes_further}
use Rattle.role_driver.proofs.finish.finish.Goals as goal

pub loop-machine-preserved : goal.loop-machine-preserved
loop-machine-preserved g c =
    let kept = c.loop-machine.invariant in
    let plan = g.M.Machine.plan_of c.args.machine in
    let first = g.M.Machine.journal_of c.args.machine in
    let old = g.M.Machine.journal_of c.loop-machine.machine in
    let new = g.M.Machine.journal_of c.take_turn.new.machine in
    let turn = subst (λ p. TakesTurn p old new 0) kept.plan (c.take_turn.ensures.turn c.loop-machine-test.true) in
    record {
      plan = c.take_turn.ensures.plan ∙ kept.plan;
      base = c.take_turn.ensures.base ∙ kept.base;
      count = omega (arith, kept.count, c.take_turn.ensures.count);
      grown = (one_more always_least plan first old new kept.grown 0 refl turn).0;
      sleep = c.take_turn.ensures.sleep;
      told = goes_further (IsToldInPlace (g.G.Gate.was_told c.args.gate.now)) first old new kept.told c.take_turn.ensures.told;
    }
