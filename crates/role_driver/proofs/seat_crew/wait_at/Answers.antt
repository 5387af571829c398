use Rattle.std.proofs.Common.{◌∙◌, ap}
use Rattle.std.proofs.Math.Seq.{map-set_same}
use Rattle.std.proofs.lemmas.List.Elements.{All-set}
use Rattle.role_driver.specs.inner.Crew.{IsMember, who_of}
use Rattle.role_driver.proofs.seat_crew.wait_at.Goals as goal

pub returns-clause-crew : goal.returns-clause-crew
returns-clause-crew g c =
    All-set (λ r. IsMember g.M.Machine.base_of g.M.Machine.journal_of g.G.ToldGate.was_told g.G.ToldGate.was_handed
    c.args.manager.now c.args.gate.now (λ h. (h.promise.seat.value, h.promise.gate.value)) r) c.args.crew.now.items
    c.args.index c.wait_with.new.member c.wait_with.ensures.member c.requires.crew

pub returns-clause-order : goal.returns-clause-order
returns-clause-order g c =
    map-set_same (λ r. who_of (λ h. h.promise.seat.value) r) c.args.crew.now.items c.args.index c.wait_with.new.member
    c.index_mut.result.now (c.wait_with.ensures.same ∙ ap (who_of (λ h. h.promise.seat.value)) c.index_mut.ensures.value)
