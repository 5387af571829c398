use denote.Param.Send.{sendable}
use Rattle.action_manager.proofs.SeatsCross.{seat_send, manager_send, manager_sync}
use Rattle.action_manager.proofs.crossing.crosses_threads.Goals as goal

pub may_cross-requires-send-T : goal.may_cross-requires-send-T
may_cross-requires-send-T g c κs within = search (sendable, seat_send)

pub may_cross-requires-2-send-T : goal.may_cross-requires-2-send-T
may_cross-requires-2-send-T g c κs within = search (sendable, manager_send)

pub may_share-requires-sync-T : goal.may_share-requires-sync-T
may_share-requires-sync-T g c κs within = search (sendable, manager_sync)
