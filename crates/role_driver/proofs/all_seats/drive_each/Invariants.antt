use Rattle.std.proofs.Common.{◌≡◌, ◌++◌, ◌+◌, length, map, All, vec_capacity, vec_len}
use Rattle.action_manager.specs.Managers.{IsSeatIn}
use Rattle.action_manager.specs.Seats.{participant_of}
use Rattle.role_driver.specs.SeatsDriven.{IsDone}
use Rattle.role_driver.proofs.all_seats.drive_each.Given as goal

abbrev pub invariant-loop-seat : goal.invariant-loop-seat
invariant-loop-seat g l =
    let base_of = g.M.Machine.base_of in
    let left = l.seat-iterator.rest.items in
    record {
      room : vec_len l.driven + length left ≡ vec_capacity l.driven;
      opened : All (λ s. IsSeatIn base_of l.manager s) left;
      done : All (λ s. IsDone base_of l.manager s) l.driven.items;
      order : map participant_of l.driven.items ++ map participant_of left ≡ map participant_of l.fn.seats.items;
    }
