use mathlib.Core.List.{[], ◌∷◌}
use mir.Syntax.{named}
use denote.Ref.{ShrRef}
use denote.Param.{param}
use denote.Param.Send.{sendable, arg_send, param_send, shr_send}
use Rattle.std.specs.contracts.sync.atomic.AtomicBool as flag
use Rattle.std.proofs.sync.atomic.AtomicBool.TheSendSync as flag_crosses
use Rattle.action_manager.specs.contracts.manager.Manager as manager
use Rattle.action_manager.proofs.SeatsCross.{manager_sync}
use Rattle.role_driver.proofs.ClosuresCross.{closure_send}
use Rattle.worker_pool.specs.contracts.hands.Relay as relay
use Rattle.worker_pool.specs.contracts.worker.Worker as worker
use Rattle.worker_pool.proofs.RelayCrosses.{relay_sync, worker_send}
use Rattle.worker_pool.proofs.worker_crew.start.Lts as lts
use Rattle.worker_pool.proofs.worker_crew.start.Goals as goal

pub spawn_with-requires-send-F : goal.spawn_with-requires-send-F
spawn_with-requires-send-F g c κs within =
    let bounds = c.type_bounds in
    param_send 2 (lts.arg-2-2 g.row.E g.row.M g.row.G g.row.R g.E.laws g.M.laws g.G.laws g.R.laws g.M.Machine g.M.Machine-dict
    g.G.ToldGate g.G.ToldGate-dict g.R.Threads g.R.Threads-dict g.R.Wait g.R.Wait-dict κs)
    (arg_send _ denote.Exit.no _ (closure_send _
    (ShrRef (named 6) κs.1.1.1.1.1.1.0 (param 3 g.row.R)
    ∷ ShrRef (named 7) κs.1.1.1.1.1.1.1.0 (manager.the_row (param 1 g.row.M) g.M.Machine)
    ∷ ShrRef (named 8) κs.1.1.1.1.1.1.1.1.0 (relay.the_row (param 1 g.row.M))
    ∷ worker.the_row (param 1 g.row.M)
    ∷ ShrRef (named 9) κs.1.1.1.1.1.1.1.1.1.0 flag.the_row
    ∷ ShrRef (named 10) κs.1.1.1.1.1.1.1.1.1.1.0 (param 2 g.row.G)
    ∷ []) (
      shr_send (named 6) _ _ bounds.sync-R,
      (
        search (sendable, manager_sync),
        (
          search (sendable, relay_sync),
          (search (sendable, worker_send), (shr_send _ _ _ flag_crosses.the_sync, (shr_send _ _ _ bounds.sync-G, tt))),
        ),
      ),
    )))

pub spawn_with-requires-send-T : goal.spawn_with-requires-send-T
spawn_with-requires-send-T g c κs within = search (sendable, worker_send)
