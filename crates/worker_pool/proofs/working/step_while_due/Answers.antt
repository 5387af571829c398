use Rattle.std.proofs.Common.{◌∙◌, subst, sym}
use Rattle.action_manager.specs.Managers.{plan_in}
use Rattle.action_manager.specs.Seats.{participant_of, seen_by}
use Rattle.role_driver.specs.Handling.{IsHandedOf, TellsOwnHandlers}
use Rattle.role_driver.specs.Working.{AsksStill, IsToldOf, TellsOwnWork}
use Rattle.role_driver.proofs.Told.{goes_further}
use Rattle.worker_pool.proofs.working.step_while_due.Goals as goal

pub loop-preserved : goal.loop-preserved
loop-preserved g c =
    let inv = c.loop.invariant in
    let turn = c.turn_after-answer.ensures in
    let was_told = g.G.ToldGate.was_told c.args.gate.now in
    let was_handed = g.G.ToldGate.was_handed c.args.gate.now in
    let here = seen_by c.loop.seat in
    let mid = seen_by c.turn_after-answer.new.seat in
    record {
      opened = turn.opened;
      same = turn.same ∙ inv.same;
      asks = subst (λ t. AsksStill (plan_in c.args.manager.now) mid t c.turn_after-answer.result) (sym turn.same) turn.asks;
      told = goes_further (IsToldOf was_told (participant_of c.args.seat.now)) (seen_by c.args.seat.now) here mid inv.told
          (subst (λ t. TellsOwnWork was_told t here mid) inv.same turn.told);
      handed = goes_further (IsHandedOf was_handed (participant_of c.args.seat.now)) (seen_by c.args.seat.now) here mid inv.handed
          (subst (λ t. TellsOwnHandlers was_handed t here mid) inv.same turn.handed);
    }

pub returns-in-NotYet-clause-told : goal.returns-in-NotYet-clause-told
returns-in-NotYet-clause-told g c =
    let inv = c.loop.invariant in
    let was_told = g.G.ToldGate.was_told c.args.gate.now in
    let here = seen_by c.loop.seat in
    let mid = seen_by c.turn_after-answer.new.seat in
    goes_further (IsToldOf was_told (participant_of c.args.seat.now)) (seen_by c.args.seat.now) here mid inv.told
    (subst (λ t. TellsOwnWork was_told t here mid) inv.same c.turn_after-answer.ensures.told)

pub returns-in-Over-clause-told : goal.returns-in-Over-clause-told
returns-in-Over-clause-told g c =
    let inv = c.loop.invariant in
    let was_told = g.G.ToldGate.was_told c.args.gate.now in
    let here = seen_by c.loop.seat in
    let mid = seen_by c.turn_after-answer.new.seat in
    goes_further (IsToldOf was_told (participant_of c.args.seat.now)) (seen_by c.args.seat.now) here mid inv.told
    (subst (λ t. TellsOwnWork was_told t here mid) inv.same c.turn_after-answer.ensures.told)

pub returns-in-NotYet-clause-handed : goal.returns-in-NotYet-clause-handed
returns-in-NotYet-clause-handed g c =
    let inv = c.loop.invariant in
    let was_handed = g.G.ToldGate.was_handed c.args.gate.now in
    let here = seen_by c.loop.seat in
    let mid = seen_by c.turn_after-answer.new.seat in
    goes_further (IsHandedOf was_handed (participant_of c.args.seat.now)) (seen_by c.args.seat.now) here mid inv.handed
    (subst (λ t. TellsOwnHandlers was_handed t here mid) inv.same c.turn_after-answer.ensures.handed)

pub returns-in-Over-clause-handed : goal.returns-in-Over-clause-handed
returns-in-Over-clause-handed g c =
    let inv = c.loop.invariant in
    let was_handed = g.G.ToldGate.was_handed c.args.gate.now in
    let here = seen_by c.loop.seat in
    let mid = seen_by c.turn_after-answer.new.seat in
    goes_further (IsHandedOf was_handed (participant_of c.args.seat.now)) (seen_by c.args.seat.now) here mid inv.handed
    (subst (λ t. TellsOwnHandlers was_handed t here mid) inv.same c.turn_after-answer.ensures.handed)
