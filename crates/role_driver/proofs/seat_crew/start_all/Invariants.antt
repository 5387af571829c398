use Rattle.std.proofs.Common.{◌≡◌, ◌++◌, ◌+◌, length, map, All, vec_capacity, vec_len}
use Rattle.action_manager.specs.Seats.{participant_of}
use Rattle.role_driver.specs.SeatsDriven.{IsServed}
use Rattle.role_driver.specs.inner.Crew.{IsMember, who_of}
use Rattle.role_driver.proofs.seat_crew.start_all.Given as goal

abbrev pub invariant-loop-seat : goal.invariant-loop-seat
invariant-loop-seat g l =
    let base_of = g.M.Machine.base_of in
    let left = l.seat-iterator.rest.items in
    record {
      room : (vec_len l.crew + length left ≡ vec_capacity l.crew) × (vec_capacity l.crew ≡ length l.handed_back);
      served : All (λ s. IsServed base_of g.M.Machine.journal_of g.G.ToldGate.was_told g.G.ToldGate.was_handed l.manager l.gate s) left;
      crew : All (λ r. IsMember base_of g.M.Machine.journal_of g.G.ToldGate.was_told g.G.ToldGate.was_handed l.manager l.gate
          (λ h. (h.promise.seat.value, h.promise.gate.value)) r) l.crew.items;
      order : map (λ r. who_of (λ h. h.promise.seat.value) r) l.crew.items ++ map participant_of left
          ≡ map participant_of l.fn.seats.items;
    }
