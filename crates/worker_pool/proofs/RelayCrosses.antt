-- Where a seat may go to another thread, threads may share a relay.
use Rattle.std.proofs.Crossing.{crosses, send, sync, frees, Vec-send}
use denote.RattleType.{RattleType}
use denote.Param.Send.{IsSend, IsSync, struct_send, struct_sync, recorded_send, sendable}
use denote.Struct.Struct.{Struct}
use denote.Struct.Declared.{shape}
use Rattle.std.specs.contracts.option.Option as option
use Rattle.std.proofs.option.Option.TheSendSync as option_crosses
use Rattle.std.specs.contracts.alloc.Global as heap
use Rattle.std.specs.contracts.impls.GlobalAllocator.TheImpl as heap_impl
use Rattle.crossbeam_queue.specs.contracts.array_queue.Doing as doing
use Rattle.crossbeam_queue.specs.contracts.array_queue.Turns as turns
use Rattle.crossbeam_queue.specs.contracts.array_queue.TurnsTableRuleOptionDoingUnit.TheImpl as ruled
use Rattle.crossbeam_queue.proofs.array_queue.Slotted.TheSendSync as queue_crosses
use Rattle.action_manager.specs.contracts.seat.Seat as seat
use Rattle.action_manager.proofs.SeatsCross.{seat_send}
use Rattle.worker_pool.specs.contracts.hand_view.HandView as view
use Rattle.worker_pool.specs.contracts.passing.OnceEach as once
use Rattle.worker_pool.specs.contracts.passing.OnceEachProtocolSeatHandView.TheImpl as rule
use Rattle.worker_pool.specs.contracts.hands.Relay as relay
use Rattle.worker_pool.specs.contracts.hands.Hand as hand
use Rattle.worker_pool.specs.contracts.worker.Worker as worker
use Rattle.atomic_table.proofs.shared.Seat.TheSendSync as token_crosses

module _ (M : RattleType) (s : IsSend M) where
  pub row_send : IsSend (seat.the_row M)
  row_send = recorded_send (Struct (shape (seat.the_type M))) (seat.the_type M).D (seat.the_type M).to (seat.the_type M).to_one
      (seat_send M s)

  pub relay_sync : IsSync (Struct (shape (relay.the_type M)))
  relay_sync = struct_sync (shape (relay.the_type M)) (
    queue_crosses.the_field_sync (option.the_row (seat.the_row M)) (doing.the_row (seat.the_row M) (view.the_row M))
        (turns.the_row (once.the_row M)) heap.the_row
        (ruled.ghosts (seat.the_row M) (view.the_row M) (once.the_row M) (rule.ghosts M) ruled.no_dict) heap_impl.ghosts
        (option_crosses.the_send (seat.the_row M) row_send) send sync (record { frees = frees.frees }),
    (search sendable, (search (crosses, sendable) depth 20, tt)),
  )

  -- so may a hand go there
  pub hand_send : IsSend (Struct (shape (hand.the_type M)))
  hand_send = struct_send (shape (hand.the_type M)) (
    token_crosses.the_send (option.the_row (seat.the_row M)) (doing.the_row (seat.the_row M) (view.the_row M))
        (option_crosses.the_send (seat.the_row M) row_send),
    (search sendable, (Vec-send (seat.the_row M) row_send, tt)),
  )

  -- and a worker
  pub worker_send : IsSend (Struct (shape (worker.the_type M)))
  worker_send = struct_send (shape (worker.the_type M)) (hand_send, (Vec-send (seat.the_row M) row_send, tt))
