use Rattle.std.proofs.Common.{◌∙◌, ap, is_some, set}
use lib.Seq.{map-set}
use Rattle.shared_views.proofs.cells.ResolutionCells.announce.Goals as goal

pub returns-clause-used : goal.returns-clause-used
returns-clause-used c =
    map-set is_some c.announcer.inside.boxes.items c.note.inside.place c.take.new.self
    ∙ (λ i. set (c.announcer.view_is i) (ap (λ n. n.place) c.note.view_is i) (is_some (c.take.ensures.after i)))
