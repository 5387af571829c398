use Rattle.std.proofs.Common.{◌≡◌, ◌++◌, ◌+◌, ◌≤◌, [], length, map, All, vec_capacity, vec_len}
use Rattle.worker_pool.specs.Hands.{IsHandOf, held_by, number_of, opened_in}
use Rattle.worker_pool.specs.inner.Workers.{IsMember, number_by}
use Rattle.worker_pool.proofs.worker_crew.start_all.Given as goal

abbrev pub invariant-loop-hand : goal.invariant-loop-hand
invariant-loop-hand g l =
    let left = l.hand-iterator.rest.items in
    record {
      room : (vec_len l.members + length left ≡ vec_capacity l.members) × (vec_capacity l.members ≡ length l.handed_back);
      hands : All (λ h. IsHandOf l.relay h × (held_by h ≡ [])) left;
      kept : All (λ v. (v.items ≡ []) × (length (opened_in l.relay) ≤ vec_capacity v)) l.kept.items;
      many : vec_len l.kept ≡ length left;
      members : All (λ r. IsMember l.relay (λ h. h.promise.relay.value) r) l.members.items;
      order : map (λ r. number_by (λ h. h.promise.number) r) l.members.items ++ map number_of left ≡ map number_of l.fn.workers.hands.items;
    }
