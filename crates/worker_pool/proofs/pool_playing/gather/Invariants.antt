use Rattle.std.proofs.Common.{◌≡◌, ◌++◌, ◌+◌, ◌≤◌, length, vec_capacity, vec_len}
use Rattle.std.specs.List.{sum_by, flat_map}
use Rattle.worker_pool.proofs.pool_playing.gather.Given as goal

abbrev pub invariant-loop-more : goal.invariant-loop-more
invariant-loop-more g l =
    let left = l.more-iterator.rest.items in
    record {
      items : l.seats.items ++ flat_map (λ v. v.items) left ≡ l.fn.left.items ++ flat_map (λ v. v.items) l.fn.kept.items;
      room : vec_len l.seats + sum_by (λ v. length v.items) left ≤ vec_capacity l.seats;
    }
