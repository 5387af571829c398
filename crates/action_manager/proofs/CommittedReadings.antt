-- What an observer of a manager has read is committed in the manager's journal.
use Rattle.std.proofs.Common.{ℕ, List, refl, ◌∙◌, arith}
use mathlib.Core.List.{IsPrefix}
use Rattle.caa_base.specs.declared.written.entry.Entry.{Entry}
use Rattle.place_plan.specs.Plans.PlanValue.{Plan}
use Rattle.place_plan.specs.Plans.Places.{initials_of}
use Rattle.shared_views.specs.Publications.{Known, Begins}
use Rattle.shared_views.specs.Committing.{Committed, IsReading}
use Rattle.shared_views.specs.declared.observed.Reading.{Reading}
use Rattle.shared_views.proofs.Beginnings.{begins_further}
use Rattle.shared_views.proofs.Readings.{was_read, still_read}
use Rattle.action_manager.specs.Publishing.{Publishes, publications_of}
use Rattle.action_manager.specs.PublishingLaw.{PublishingLaw, IsCommitted}

-- what begins all that the writer has entered begins what the plays published
pub known_published : (plan : Plan) (past : List Entry) (w : Committed) (k : Known) → Begins k w.entered → Publishes plan past w
    → IsPrefix k.list (publications_of plan past)
known_published plan past w k begins published =
    begins_further k.list w.entered.list (publications_of plan past) begins.list published.entered

pub committed_reading : (plan : Plan) (past : List Entry) (k : Known) (o : ℕ) (r : Reading) → PublishingLaw plan past
    → IsPrefix k.list (publications_of plan past) → IsReading (initials_of plan) k o r → IsCommitted plan past o r
committed_reading plan past k o r law begins is =
    let all : Known = record { book = k.book; list = publications_of plan past } in
    let was =
    still_read (initials_of plan) k all o r (record { book = refl; list = begins }) (was_read (initials_of plan) k o r is) in
    record { ends = omega (arith, was.ends, law.count); value = was.value ∙ law.values r.ends o was.ends }
