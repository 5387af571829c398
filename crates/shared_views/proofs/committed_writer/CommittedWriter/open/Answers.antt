use Rattle.std.proofs.Common.{◌∙◌, ap, sym}
use Rattle.shared_views.proofs.Placed.{still_alike}
use Rattle.shared_views.proofs.committed_writer.CommittedWriter.open.Goals as goal

pub returns-clause-observers : goal.returns-clause-observers
returns-clause-observers g c =
    let known = sym (ap (λ s. s.value.publications) c.seat_all.ensures.shown.0 ∙ c.in_ok-writer.ensures.publications) in
    still_alike _ _ _ _ _ _ _ c.seat_all.ensures.same c.in_ok-seats.ensures c.deref.ensures.value known
