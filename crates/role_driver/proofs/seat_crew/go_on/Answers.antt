use Rattle.std.proofs.Common.{subst, sym}
use Rattle.action_manager.specs.Managers.{plan_in}
use Rattle.action_manager.specs.Seats.{participant_of, seen_by}
use Rattle.role_driver.specs.Handling.{TellsOwnHandlers}
use Rattle.role_driver.specs.Working.{AsksStill, IsToldOf, TellsOwnWork, TurnsAfter}
use Rattle.role_driver.proofs.Handed.{handed_further}
use Rattle.role_driver.proofs.Told.{goes_further, over_seen}
use Rattle.role_driver.proofs.seat_crew.go_on.Goals as goal

pub turn_after-requires-clause-asked : goal.turn_after-requires-clause-asked
turn_after-requires-clause-asked g c =
    subst (λ t. AsksStill (plan_in c.args.manager.now) (seen_by c.turn_after-answer.new.seat) t c.turn_after-answer.result)
    (sym c.turn_after-answer.ensures.same) c.turn_after-answer.ensures.asks

pub returns-in-Work-clause-told : goal.returns-in-Work-clause-told
returns-in-Work-clause-told g c =
    let who = participant_of c.args.seat.now in
    let mid = seen_by c.turn_after-answer.new.seat in
    let new = seen_by c.turn_after.new.seat in
    let was_told = g.G.ToldGate.was_told c.args.gate.now in
    let later = subst (λ t. TellsOwnWork was_told t mid new) c.turn_after-answer.ensures.same c.turn_after.ensures.told in
    goes_further (IsToldOf was_told who) (seen_by c.args.seat.now) mid new c.turn_after-answer.ensures.told later

pub returns-in-Work-clause-handed : goal.returns-in-Work-clause-handed
returns-in-Work-clause-handed g c =
    let who = participant_of c.args.seat.now in
    let mid = seen_by c.turn_after-answer.new.seat in
    let new = seen_by c.turn_after.new.seat in
    let was_handed = g.G.ToldGate.was_handed c.args.gate.now in
    let later = subst (λ t. TellsOwnHandlers was_handed t mid new) c.turn_after-answer.ensures.same c.turn_after.ensures.handed in
    handed_further was_handed who (seen_by c.args.seat.now) mid new c.turn_after-answer.ensures.handed later

pub returns-in-Work-clause-over : goal.returns-in-Work-clause-over
returns-in-Work-clause-over g c = λ is.
    let plan = plan_in c.args.manager.now in
    let mid = seen_by c.turn_after-answer.new.seat in
    let new = seen_by c.turn_after.new.seat in
    let turn = subst (λ t. TurnsAfter plan mid new t c.turn_after-answer.result c.turn_after.result) c.turn_after-answer.ensures.same
    c.turn_after.ensures.turn in
    over_seen plan mid new (participant_of c.args.seat.now) turn.hint c.turn_after.result is turn.steps

pub returns-in_default-clause-over : goal.returns-in_default-clause-over
returns-in_default-clause-over g c = λ is.
    let turn = c.turn_after-answer.ensures.turn in
    over_seen (plan_in c.args.manager.now) (seen_by c.args.seat.now) (seen_by c.turn_after-answer.new.seat)
    (participant_of c.args.seat.now) turn.hint c.turn_after-answer.result is turn.steps
