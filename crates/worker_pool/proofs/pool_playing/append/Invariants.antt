use Rattle.std.proofs.Common.{◌≡◌, ◌++◌, ◌+◌, ◌≤◌, length, vec_capacity, vec_len}
use Rattle.worker_pool.proofs.pool_playing.append.Given as goal

abbrev pub invariant-loop-seat : goal.invariant-loop-seat
invariant-loop-seat g l =
    let left = l.seat-iterator.rest.items in
    record {
      items : l.seats.items ++ left ≡ l.fn.seats.items ++ l.fn.kept.items;
      room : vec_len l.seats + length left ≤ vec_capacity l.seats;
      same : vec_capacity l.seats ≡ vec_capacity l.fn.seats;
    }
