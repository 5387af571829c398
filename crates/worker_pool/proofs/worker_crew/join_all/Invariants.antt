use Rattle.std.proofs.Common.{◌≡◌, ◌++◌, ◌+◌, ℕ, length, map, All, vec_capacity, vec_len}
use Rattle.std.specs.List.{sum_by}
use Rattle.worker_pool.specs.Relays.{weight_of}
use Rattle.worker_pool.specs.Hands.{IsHandOf, IsOpened, number_of, weight_by}
use Rattle.worker_pool.specs.inner.Workers.{IsMember, number_by}
use Rattle.worker_pool.proofs.worker_crew.join_all.Given as goal

abbrev pub invariant-loop-member : goal.invariant-loop-member
invariant-loop-member g l =
    let left = l.member-iterator.rest.items in
    record {
      room : (vec_len l.hands + length left ≡ vec_capacity l.hands) × (vec_len l.kept + length left ≡ vec_capacity l.kept);
      members : All (λ r. IsMember l.relay (λ h. h.promise.relay.value) r) left;
      hands : All (λ h. IsHandOf l.relay h) l.hands.items;
      kept : All (λ v. All (λ s. IsOpened l.relay s) v.items) l.kept.items;
      held : (h : ℕ → ℕ) → sum_by (weight_by h) l.hands.items ≡ sum_by (λ v. weight_of h v.items) l.kept.items;
      order : map number_of l.hands.items ++ map (λ r. number_by (λ h. h.promise.number) r) left
          ≡ map (λ r. number_by (λ h. h.promise.number) r) l.fn.members.items;
    }
