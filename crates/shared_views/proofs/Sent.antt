-- What keeps up with a journal may cross threads.
use Rattle.std.proofs.Crossing.{crosses}
use Rattle.std.proofs.Common.{rules}
use denote.Param.Send.{IsSend, struct_send, sendable}
use denote.Struct.Struct.{Struct}
use denote.Struct.Declared.{shape}
use Rattle.shared_views.specs.contracts.bulletin.Bulletin as bulletin
use Rattle.shared_views.specs.contracts.bulletin.Announcement as told

pub told_send : IsSend told.the_row
told_send = search rules

-- field by field, which a search doesn't reach in one go
pub bulletin_send : IsSend (Struct (shape bulletin.the_type))
bulletin_send =
    struct_send (shape bulletin.the_type) (
      search (crosses, sendable) depth 20,
      (search (crosses, sendable, told_send) depth 20, (search (crosses, sendable) depth 20, tt)),
    )
