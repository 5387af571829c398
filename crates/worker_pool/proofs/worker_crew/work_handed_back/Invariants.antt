use Rattle.std.proofs.Common.{◌≡◌, map, All, vec_len}
use Rattle.worker_pool.specs.inner.Workers.{IsMember, number_by}
use Rattle.worker_pool.proofs.worker_crew.work_handed_back.Given as goal

abbrev pub invariant-loop-index : goal.invariant-loop-index
invariant-loop-index g l = record {
  long : l.index-end ≡ vec_len l.members;
  members : All (λ r. IsMember l.relay (λ h. h.promise.relay.value) r) l.members.items;
  order : map (λ r. number_by (λ h. h.promise.number) r) l.members.items ≡ map (λ r. number_by (λ h. h.promise.number) r)
      l.fn.members.items;
}
