use Rattle.std.proofs.Common.{◌∙◌, ◌/◌, suc, arith, ap, refl, sym, subst}
use Rattle.std.proofs.lemmas.Bool.{both_ways}
use Rattle.caa_base.specs.Written.Mixing.{next_state, state_after, turn_number}
use Rattle.role_driver.specs.Schedule.{TakesTurn}
use Rattle.role_driver.proofs.Grown.{none_yet, one_more}
use Rattle.role_driver.proofs.sim.sim.Goals as goal

pub loop-state-init : goal.loop-state-init
unfolding state_after
loop-state-init g c =
    let none = none_yet (turn_number c.args.seed) (g.M.Machine.plan_of c.args.machine) (g.M.Machine.journal_of c.args.machine) in
    record {
      plan = refl;
      base = refl;
      count = omega arith;
      small = c.next_state-state.ensures.small;
      sleep = λ t w. absurd (both_ways _ (c.nobody-asleep.ensures t) w);
      scheduled = (none.0, c.next_state-state.ensures.value ∙ sym (ap (λ n. state_after c.args.seed (suc n)) none.1));
    }

pub loop-state-preserved : goal.loop-state-preserved
unfolding state_after
loop-state-preserved g c =
    let kept = c.loop-state.invariant in
    let plan = g.M.Machine.plan_of c.args.machine in
    let first = g.M.Machine.journal_of c.args.machine in
    let old = g.M.Machine.journal_of c.loop-state.machine in
    let new = g.M.Machine.journal_of c.take_turn.new.machine in
    let state = c.loop-state.state in
    let turn = subst (λ p. TakesTurn p old new (state / 65536)) kept.plan (c.take_turn.ensures.turn c.loop-state-test.true) in
    let more = one_more (turn_number c.args.seed) plan first old new kept.scheduled.0 (state / 65536)
    (ap (λ s. s / 65536) kept.scheduled.1) turn in
    record {
      plan = c.take_turn.ensures.plan ∙ kept.plan;
      base = c.take_turn.ensures.base ∙ kept.base;
      count = omega (arith, kept.count, c.take_turn.ensures.count);
      small = c.next_state-state-in-loop-state.ensures.small;
      sleep = c.take_turn.ensures.sleep;
      scheduled = (
        more.0,
        c.next_state-state-in-loop-state.ensures.value ∙ ap next_state kept.scheduled.1
            ∙ ap (λ n. state_after c.args.seed (suc n)) (sym more.1),
      );
    }
