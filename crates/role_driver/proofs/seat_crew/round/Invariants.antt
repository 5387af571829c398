use Rattle.std.proofs.Common.{◌≡◌, map, All, vec_len}
use Rattle.role_driver.specs.inner.Crew.{IsMember, IsProgressOf, who_of}
use Rattle.role_driver.proofs.seat_crew.round.Given as goal

abbrev pub invariant-loop-index : goal.invariant-loop-index
invariant-loop-index g l =
    let base_of = g.M.Machine.base_of in
    record {
      long : l.index-end ≡ vec_len l.crew;
      crew : All (λ r. IsMember base_of g.M.Machine.journal_of g.G.ToldGate.was_told g.G.ToldGate.was_handed l.manager l.gate
          (λ h. (h.promise.seat.value, h.promise.gate.value)) r) l.crew.items;
      order : map (λ r. who_of (λ h. h.promise.seat.value) r) l.crew.items ≡ map (λ r. who_of (λ h. h.promise.seat.value) r)
          l.fn.crew.items;
      progress : IsProgressOf l.index l.progress;
    }
