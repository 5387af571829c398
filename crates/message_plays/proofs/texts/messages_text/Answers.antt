use Rattle.std.proofs.Common.{length, reverse, ◌++◌, ap, sym, ◌∙◌, arith}
use Rattle.std.specs.List.{flat_map}
use Rattle.place_plan.proofs.OnPlans.ClosedPlan.{few_roles}
use Rattle.message_plays.specs.Texts.{event_line}
use Rattle.message_plays.proofs.Playing.Lines.{HasSettled, played, played_by_nobody}
use Rattle.message_plays.proofs.texts.messages_text.Goals as goal

pub overflow_cast-count : goal.overflow_cast-count
overflow_cast-count c = omega (arith, few_roles c.args.plan.now c.is_closed.ensures 0, ap length c.roles_of.ensures)

pub returns-then-count-eq0 : goal.returns-then-count-eq0
returns-then-count-eq0 c =
    played_by_nobody c.args.plan.now c.args.seed c.in_ok-text.text.items (sym (ap length c.roles_of.ensures) ∙ c.if-count-eq0.true)
    c.in_ok-text.ensures.items

pub overflow_mul-count : goal.overflow_mul-count
overflow_mul-count c = omega (arith, few_roles c.args.plan.now c.is_closed.ensures 0, ap length c.roles_of.ensures)

pub overflow_add-count : goal.overflow_add-count
overflow_add-count c = omega (arith, few_roles c.args.plan.now c.is_closed.ensures 0, ap length c.roles_of.ensures)

pub open-requires-clause-few : goal.open-requires-clause-few
open-requires-clause-few c = omega (arith, few_roles c.args.plan.now c.is_closed.ensures 0, ap length c.roles_of.ensures)

pub open-requires-clause-room : goal.open-requires-clause-room
open-requires-clause-room c = omega (arith, few_roles c.args.plan.now c.is_closed.ensures 0, ap length c.roles_of.ensures)

pub returns : goal.returns
returns c =
    let plan = c.args.plan.now in
    let old = c.take_all_turns.new.world in
    let new = c.settle.new.self in
    let done : HasSettled plan c.args.seed old new = record {
      world = c.take_all_turns.ensures.world;
      turns = c.take_all_turns.ensures.past;
      others = c.settle.ensures.others;
      settles = c.settle.ensures.settles;
      decided = c.settle.ensures.decided;
      unchanged = c.settle.ensures.unchanged;
      legal = c.is_legal.ensures;
    } in
    let told =
    c.in_ok-write_events.ensures ∙ ap (λ text. text ++ flat_map (event_line plan) (reverse new.past)) c.in_ok-text.ensures.items in
    played plan c.args.seed old new done c.write_events.new.text.items c.write_decisions.new.text.items told c.in_ok-write_decisions.ensures
