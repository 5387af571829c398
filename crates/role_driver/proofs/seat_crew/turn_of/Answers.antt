use Rattle.role_driver.proofs.Served.{handed_back_served, served_on}
use Rattle.role_driver.proofs.seat_crew.turn_of.Goals as goal

pub returns-in-Err-clause-member : goal.returns-in-Err-clause-member
returns-in-Err-clause-member g c =
    let turn = c.go_on.ensures in
    let was_told = g.G.ToldGate.was_told in let was_handed = g.G.ToldGate.was_handed in
    let served =
    handed_back_served g.M.Machine.base_of g.M.Machine.journal_of was_told was_handed c.args.manager.now c.args.gate.now
    (λ h. (h.promise.seat.value, h.promise.gate.value)) c.args.member.now c.in-Err.seat c.in-Err.is c.requires.member in
    served_on g.M.Machine.base_of g.M.Machine.journal_of was_told was_handed c.args.manager.now c.args.gate.now c.in-Err.seat
    c.go_on.new.seat served turn.opened turn.same turn.told turn.handed
