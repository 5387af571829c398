use Rattle.std.proofs.Common.{◌≡◌, ◌++◌, ◌+◌, length, map, All, vec_capacity, vec_len}
use Rattle.action_manager.specs.Seats.{participant_of}
use Rattle.role_driver.specs.SeatsDriven.{IsDone, IsServed}
use Rattle.role_driver.specs.inner.Crew.{IsMember, who_of}
use Rattle.role_driver.proofs.seat_crew.join_all.Given as goal

abbrev pub invariant-loop-member : goal.invariant-loop-member
invariant-loop-member g l =
    let base_of = g.M.Machine.base_of in
    let left = l.member-iterator.rest.items in
    record {
      room : vec_len l.seats + length left ≡ vec_capacity l.seats;
      crew : All (λ r. IsMember base_of g.M.Machine.journal_of g.G.ToldGate.was_told g.G.ToldGate.was_handed l.manager l.gate
          (λ h. (h.promise.seat.value, h.promise.gate.value)) r) left;
      done : All (λ s. IsDone base_of l.manager s) l.seats.items;
      served : All (λ s. IsServed base_of g.M.Machine.journal_of g.G.ToldGate.was_told g.G.ToldGate.was_handed l.manager l.gate s)
          l.seats.items;
      order : map participant_of l.seats.items ++ map (λ r. who_of (λ h. h.promise.seat.value) r) left
          ≡ map (λ r. who_of (λ h. h.promise.seat.value) r) l.fn.crew.items;
    }
