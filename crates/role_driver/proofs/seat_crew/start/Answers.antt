use Rattle.std.proofs.Common.{◌≡◌, subst₂, sym}
use mathlib.Core.List.{[], ◌∷◌}
use mir.Syntax.{named}
use denote.Ref.{ShrRef}
use denote.Param.{param}
use denote.Param.Send.{sendable, arg_send, param_send, shr_send}
use Rattle.action_manager.specs.contracts.manager.Manager as manager
use Rattle.action_manager.specs.contracts.seat.Seat as seat
use Rattle.action_manager.proofs.SeatsCross.{seat_send, manager_sync}
use Rattle.role_driver.proofs.ClosuresCross.{closure_send}
use Rattle.action_manager.specs.Seats.{participant_of}
use Rattle.role_driver.specs.SeatsDriven.{IsServed}
use Rattle.role_driver.proofs.Served.{brought_back}
use Rattle.role_driver.proofs.seat_crew.start.Lts as lts
use Rattle.role_driver.proofs.seat_crew.start.Goals as goal

pub spawn_with-requires-send-F : goal.spawn_with-requires-send-F
spawn_with-requires-send-F g c κs within =
    let bounds = c.type_bounds in
    param_send 2 (lts.arg-3-2 g.row.E g.row.M g.row.G g.row.R g.row.F g.E.laws g.M.laws g.G.laws g.R.laws g.F.laws g.M.Machine
    g.M.Machine-dict g.G.ToldGate g.G.ToldGate-dict g.R.Threads
    g.R.Threads-dict g.R.Wait g.R.Wait-dict g.F.Flag g.F.Flag-dict κs)
    (arg_send _ denote.Exit.no _ (closure_send _
    (ShrRef (named 6) κs.1.1.1.1.1.1.0 (param 3 g.row.R)
    ∷ ShrRef (named 7) κs.1.1.1.1.1.1.1.0 (manager.the_row (param 1 g.row.M) g.M.Machine)
    ∷ seat.the_row (param 1 g.row.M)
    ∷ ShrRef (named 8) κs.1.1.1.1.1.1.1.1.0 (param 4 g.row.F)
    ∷ ShrRef (named 9) κs.1.1.1.1.1.1.1.1.1.0 (param 2 g.row.G)
    ∷ []) (
      shr_send (named 6) _ _ bounds.sync-R,
      (
        search (sendable, manager_sync),
        (search (sendable, seat_send), (shr_send _ _ _ bounds.sync-F, (shr_send _ _ _ bounds.sync-G, tt))),
      ),
    )))

pub spawn_with-requires-send-T : goal.spawn_with-requires-send-T
spawn_with-requires-send-T g c κs within = search (sendable, seat_send)

pub returns-in-Err-clause-err : goal.returns-in-Err-clause-err
returns-in-Err-clause-err g c =
    let base_of = g.M.Machine.base_of in let journal_of = g.M.Machine.journal_of in
    let was_told = g.G.ToldGate.was_told in let was_handed = g.G.ToldGate.was_handed in
    let manager = c.args.manager.now in
    let kept = c.in-Err.refused.value in
    let back = c.spawn_with-in-Err.result in
    let same = c.in-Err.ensures.err in
    let seat : kept.2 ≡ c.args.seat = λ i. (same i).2 in
    let gate : kept.4.now ≡ c.args.gate.now = λ i. (same i).4.now in
    let before = subst₂ (λ x y. IsServed base_of journal_of was_told was_handed manager x y) (sym gate) (sym seat) c.requires.served in
    subst₂ (λ x y. IsServed base_of journal_of was_told was_handed manager x back × (participant_of back ≡ participant_of y)) gate seat
    (brought_back base_of journal_of was_told was_handed manager kept.4.now (g.F.Flag.was_raised kept.3.now) kept.2 back before
    c.spawn_with-in-Err.ensures)
