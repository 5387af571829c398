-- Where a machine may go to another thread, so may a seat and its manager, and threads may share the manager.
use Rattle.std.proofs.Crossing.{crosses}
use denote.RattleType.{RattleType}
use denote.Param.Send.{IsSend, IsSync, struct_send, struct_sync, recorded_send, sendable}
use denote.Struct.Struct.{Struct}
use denote.Struct.Declared.{shape}
use Rattle.std.specs.contracts.option.Option as option
use Rattle.std.proofs.option.Option.TheSendSync as option_crosses
use Rattle.atomic_table.proofs.shared.Seat.TheSendSync as token_crosses
use Rattle.shared_views.proofs.bulletin.Announcement.TheSendSync as told_crosses
use Rattle.shared_views.proofs.cells.ResolutionCells.TheSendSync as cells_cross
use Rattle.shared_views.proofs.Sent.{bulletin_send}
use Rattle.shared_views.proofs.committed_writer.CommittedWriter.TheSendSync as writer_crosses
use Rattle.place_plan.specs.declared.rules.machine.Machine as machine
use Rattle.action_manager.specs.contracts.publishing.Publishing as publishing
use Rattle.action_manager.specs.contracts.housed.Housed as housed
use Rattle.action_manager.specs.contracts.housed.HousedHome.TheImpl as home
use Rattle.action_manager.specs.contracts.seat.Seat as seat
use Rattle.action_manager.specs.contracts.lock_view.View as view
use Rattle.action_manager.specs.contracts.manager.Manager as manager
use Rattle.action_manager.proofs.door.Door.TheSendSync as door_crosses
use Rattle.action_manager.proofs.lock.Lock.TheSendSync as lock_crosses

publishing_send : IsSend (Struct (shape publishing.the_type))
publishing_send =
    struct_send (shape publishing.the_type)
    (writer_crosses.the_send, (search (crosses, sendable) depth 20, (search (crosses, sendable) depth 20, tt)))

module _ (M : RattleType) (s : IsSend M) where
  housed_send : IsSend (Struct (shape (housed.the_type M)))
  housed_send = struct_send (shape (housed.the_type M)) (s, (bulletin_send, (publishing_send, tt)))

  housed_row_send : IsSend (housed.the_row M)
  housed_row_send =
      recorded_send (Struct (shape (housed.the_type M))) (housed.the_type M).D (housed.the_type M).to
      (housed.the_type M).to_one housed_send

  pub seat_send : IsSend (Struct (shape (seat.the_type M)))
  seat_send = struct_send (shape (seat.the_type M)) (
    token_crosses.the_send (option.the_row (housed.the_row M)) view.the_row (option_crosses.the_send (housed.the_row M) housed_row_send),
    (search sendable, (search sendable, (search sendable, (told_crosses.the_field_send, tt)))),
  )

  pub manager_sync : (g : machine.Ghosts M.Denot) → IsSync (Struct (shape (manager.the_type M g)))
  manager_sync g = struct_sync (shape (manager.the_type M g)) (
    lock_crosses.the_field_sync (housed.the_row M) (home.ghosts M g home.no_dict) housed_row_send,
    (search sendable, (cells_cross.the_sync, (door_crosses.the_field_sync, tt))),
  )

  pub manager_send : (g : machine.Ghosts M.Denot) → IsSend (Struct (shape (manager.the_type M g)))
  manager_send g = struct_send (shape (manager.the_type M g)) (
    lock_crosses.the_field_send (housed.the_row M) (home.ghosts M g home.no_dict) housed_row_send,
    (search sendable, (cells_cross.the_send, (door_crosses.the_field_send, tt))),
  )
