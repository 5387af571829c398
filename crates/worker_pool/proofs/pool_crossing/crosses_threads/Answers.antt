use denote.Param.Send.{sendable}
use Rattle.worker_pool.proofs.RelayCrosses.{relay_sync, hand_send}
use Rattle.worker_pool.proofs.pool_crossing.crosses_threads.Goals as goal

pub may_share-requires-sync-T : goal.may_share-requires-sync-T
may_share-requires-sync-T g c κs within = search (sendable, relay_sync)

pub may_cross-requires-send-T : goal.may_cross-requires-send-T
may_cross-requires-send-T g c κs within = search (sendable, hand_send)
