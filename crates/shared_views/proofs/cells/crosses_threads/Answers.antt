use denote.Param.Send.{sendable}
use Rattle.shared_views.proofs.Sent.{bulletin_send}
use Rattle.shared_views.proofs.cells.crosses_threads.Goals as goal

pub may_cross-requires-2-send-T : goal.may_cross-requires-2-send-T
may_cross-requires-2-send-T c κs = search (sendable, bulletin_send)
