use Rattle.std.proofs.Common.{◌≡◌, ◌/◌, length, refl, ap, sym, ◌∙◌, arith}
use Rattle.caa_base.specs.Written.Mixing.{state_after, next_state}
use Rattle.place_plan.proofs.OnPlans.ClosedPlan.{few_roles}
use Rattle.message_plays.specs.Turns.{after_turns, with_turn}
use Rattle.message_plays.proofs.Playing.Rounds.{after_more, state_more, after_none, state_none}
use Rattle.message_plays.proofs.turns.take_turns.Goals as goal

pub overflow_mul-turn-end : goal.overflow_mul-turn-end
overflow_mul-turn-end c = omega (arith, few_roles c.args.plan.now c.is_closed.ensures 0, c.requires.world.count, c.count-turn-end.ensures)

pub loop-turn-init : goal.loop-turn-init
loop-turn-init c =
    let plan = c.args.plan.now in
    let none = ap length c.requires.past in
    record {
      world = c.requires.world;
      room = refl;
      past = c.requires.past ∙ sym (after_none plan c.args.seed);
      long = omega arith;
      small = c.requires.seed;
      state = sym (state_none c.args.seed);
    }

pub loop-turn-preserved : goal.loop-turn-preserved
loop-turn-preserved c =
    let plan = c.args.plan.now in
    let seed = c.args.seed in
    let turn = c.loop-turn._turn in
    let before = c.loop-turn.invariant in
    let taken = c.take_turn.ensures in
    let next : c.next_state-state.result ≡ next_state (state_after seed turn) =
    c.next_state-state.ensures.value ∙ ap next_state before.state in
    let earlier = before.long in
    let longer = taken.world.long in
    record {
      world = record { order = taken.world.order; count = taken.world.count };
      room = taken.world.room ∙ before.room;
      past =
          taken.past
          ∙ ap (λ es. with_turn plan es (c.next_state-state.result / 65536)) before.past
          ∙ ap (λ s. with_turn plan (after_turns plan seed turn) (s / 65536)) next
          ∙ sym (after_more plan seed turn);
      long = omega arith;
      small = c.next_state-state.ensures.small;
      state = next ∙ sym (state_more seed turn);
    }
