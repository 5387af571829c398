use Rattle.std.proofs.Common.{subst}
use Rattle.action_manager.specs.Managers.{table_of, terms_in}
use Rattle.action_manager.specs.Seats.{participant_of, seen_by}
use Rattle.action_manager.proofs.Beside.{beside_opened}
use Rattle.role_driver.specs.Handling.{TellsOwnHandlers}
use Rattle.role_driver.specs.Working.{TellsOwnWork}
use Rattle.role_driver.proofs.Served.{handed_back_served, served_on, went_served}
use Rattle.role_driver.proofs.seat_crew.come_back.Goals as goal

pub returns-in-Ok-clause-served : goal.returns-in-Ok-clause-served
returns-in-Ok-clause-served g c =
    let base_of = g.M.Machine.base_of in let journal_of = g.M.Machine.journal_of in
    let was_told = g.G.ToldGate.was_told in let was_handed = g.G.ToldGate.was_handed in
    let manager = c.args._manager.now in let gate = c.args._gate.now in
    let went =
    went_served base_of journal_of was_told was_handed manager gate (λ h. (h.promise.seat.value, h.promise.gate.value))
    c.args.member c.in-Ok.child c.in-Ok.is c.requires.member in
    let before = c.in-Ok.child.promise.seat.value in
    let after = c.join.result in
    let kept = c.join.ensures in
    served_on base_of journal_of was_told was_handed manager gate before after went.0
    (beside_opened (table_of manager) (terms_in base_of manager) before after went.0.opened kept.0) kept.1
    (subst (λ x. TellsOwnWork (was_told x) (participant_of before) (seen_by before) (seen_by after)) went.1 kept.3)
    (subst (λ x. TellsOwnHandlers (was_handed x) (participant_of before) (seen_by before) (seen_by after)) went.1 kept.4)

pub returns-in-Err-clause-served : goal.returns-in-Err-clause-served
returns-in-Err-clause-served g c =
    handed_back_served g.M.Machine.base_of g.M.Machine.journal_of g.G.ToldGate.was_told g.G.ToldGate.was_handed c.args._manager.now
    c.args._gate.now (λ h. (h.promise.seat.value, h.promise.gate.value)) c.args.member c.in-Err.seat c.in-Err.is c.requires.member
