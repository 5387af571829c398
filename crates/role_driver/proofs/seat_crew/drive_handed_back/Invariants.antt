use Rattle.std.proofs.Common.{◌≡◌, map, All}
use Rattle.role_driver.specs.inner.Crew.{IsMember, who_of}
use Rattle.role_driver.proofs.seat_crew.drive_handed_back.Given as goal

abbrev pub invariant-loop : goal.invariant-loop
invariant-loop g l =
    let base_of = g.M.Machine.base_of in
    record {
      crew : All (λ r. IsMember base_of g.M.Machine.journal_of g.G.ToldGate.was_told g.G.ToldGate.was_handed l.manager l.gate
          (λ h. (h.promise.seat.value, h.promise.gate.value)) r) l.crew.items;
      order : map (λ r. who_of (λ h. h.promise.seat.value) r) l.crew.items ≡ map (λ r. who_of (λ h. h.promise.seat.value) r)
          l.fn.crew.items;
      goes : (goal.iterator-loop g).can_next l.iterator' × (goal.iterator-loop g).is_finite l.iterator';
    }
