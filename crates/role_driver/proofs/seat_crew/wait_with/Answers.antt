use Rattle.action_manager.specs.Managers.{plan_in}
use Rattle.role_driver.proofs.Served.{handed_back_served, served_looking}
use Rattle.role_driver.proofs.seat_crew.wait_with.Goals as goal

pub returns-in-Err-clause-member : goal.returns-in-Err-clause-member
returns-in-Err-clause-member g c =
    let wait = c.wait_past_any.ensures in
    let was_told = g.G.ToldGate.was_told in let was_handed = g.G.ToldGate.was_handed in
    let served =
    handed_back_served g.M.Machine.base_of g.M.Machine.journal_of was_told was_handed c.args.manager.now c.args._gate.now
    (λ h. (h.promise.seat.value, h.promise.gate.value)) c.args.member.now c.in-Err.seat c.in-Err.is c.requires.member in
    served_looking g.M.Machine.base_of g.M.Machine.journal_of was_told was_handed c.args.manager.now c.args._gate.now
    (plan_in c.args.manager.now) c.in-Err.seat c.wait_past_any.new.seat served wait.opened wait.same.0 wait.turn
