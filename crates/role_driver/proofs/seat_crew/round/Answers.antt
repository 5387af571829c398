use Rattle.std.proofs.Common.{◌∙◌, ◌+◌, ap, arith}
use Rattle.std.proofs.Math.Seq.{map-set_same}
use Rattle.std.proofs.lemmas.List.Elements.{All-set}
use Rattle.role_driver.specs.inner.Crew.{IsMember, who_of}
use Rattle.role_driver.proofs.seat_crew.round.Goals as goal

pub loop-index-preserved : goal.loop-index-preserved
loop-index-preserved g c =
    let inv = c.loop-index.invariant in
    let manager = c.args.manager.now in let base_of = g.M.Machine.base_of in
    let now = c.turn_of-answer.new.member in let was = c.index_mut.result.now in
    record {
      long = inv.long;
      crew = All-set (λ r. IsMember base_of g.M.Machine.journal_of g.G.ToldGate.was_told g.G.ToldGate.was_handed
          manager c.args.gate.now (λ h. (h.promise.seat.value, h.promise.gate.value)) r) c.loop-index.crew.items c.loop-index.index
          now c.turn_of-answer.ensures.member inv.crew;
      order = map-set_same (λ r. who_of (λ h. h.promise.seat.value) r) c.loop-index.crew.items c.loop-index.index now
          was (c.turn_of-answer.ensures.same ∙ ap (who_of (λ h. h.promise.seat.value)) c.index_mut.ensures.value) ∙ inv.order;
      progress = c.with-progress.ensures (c.loop-index.index + 1) inv.progress (omega arith);
    }
