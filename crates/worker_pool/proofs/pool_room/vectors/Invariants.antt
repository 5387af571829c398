use Rattle.std.proofs.Common.{◌≡◌, [], All, vec_capacity, vec_len}
use Rattle.worker_pool.proofs.pool_room.vectors.Given as goal

abbrev pub invariant-loop-worker : goal.invariant-loop-worker
invariant-loop-worker g l = record {
  many : vec_len l.kept ≡ l._worker;
  room : All (λ v. (v.items ≡ []) × (vec_capacity v ≡ l.seats)) l.kept.items;
}
