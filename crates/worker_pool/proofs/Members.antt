-- Workers that begin, go on, and come back.
use Rattle.std.proofs.Common.{◌≡◌, ℕ, ◌≤◌, List, [], ◌∷◌, ◌++◌, length, sym, ap, ◌∙◌, refl, subst, All, Result, Ok, Err, IfOk, IfErr, vec_capacity}
use native.Mathlib.Omega.{arith}
use Rattle.std.specs.List.{sum_by}
use Rattle.std.proofs.lemmas.List.Sums.{sum_by_push}
use Rattle.worker_pool.specs.declared.hands.Hand.{Hand}
use Rattle.worker_pool.specs.declared.hands.Relay.{Relay}
use Rattle.worker_pool.specs.declared.worker.Worker.{Worker}
use Rattle.worker_pool.specs.Relays.{weight_of}
use Rattle.worker_pool.specs.Hands.{IsHandOf, IsOpened, held_by, number_of, opened_in, weight_by}
use Rattle.worker_pool.specs.inner.Workers.{IsAtWork, IsMember, number_by}

module _ {M : Type 0} where
  -- a worker that has taken nothing yet
  pub fresh_worker : (relay : Relay M) (worker : Worker M) → IsHandOf relay worker.hand × (held_by worker.hand ≡ [])
      → (worker.kept.items ≡ []) × (length (opened_in relay) ≤ vec_capacity worker.kept)
      → IsAtWork relay (number_of worker.hand) worker
  fresh_worker relay worker hand kept = record {
    hand = hand.0;
    numbered = refl;
    opened = subst (All (λ s. IsOpened relay s)) (sym kept.0) (λ k d less. absurd (omega (arith, less)));
    held = λ h. ap (sum_by h) hand.1 ∙ sym (ap (weight_of h) kept.0);
    room = kept.1;
  }

  -- by its own number
  pub by_own_number : (relay : Relay M) (n : ℕ) (worker : Worker M) → IsAtWork relay n worker
      → IsAtWork relay (number_of worker.hand) worker
  by_own_number relay n worker at = subst (λ k. IsAtWork relay k worker) (sym at.numbered) at

  -- the number of a member that was started
  pub number_started : {H : Type 0} (relay : Relay M) (relay_of : H → Relay M) (f : H → ℕ) (n : ℕ) (r : Result H (Worker M))
      → IfOk r (λ h. (relay_of h ≡ relay) × (f h ≡ n)) → IfErr r (λ w. IsAtWork relay n w)
      → number_by f r ≡ n
  number_started relay relay_of f n (Ok h) ok err = ok.1
  number_started relay relay_of f n (Err w) ok err = err.numbered

  pub member_started : {H : Type 0} (relay : Relay M) (relay_of : H → Relay M) (f : H → ℕ) (n : ℕ) (r : Result H (Worker M))
      → IfOk r (λ h. (relay_of h ≡ relay) × (f h ≡ n)) → IfErr r (λ w. IsAtWork relay n w)
      → IsMember relay relay_of r
  member_started relay relay_of f n (Ok h) ok err = ok.0
  member_started relay relay_of f n (Err w) ok err = by_own_number relay n w err

  -- one worker more is back
  pub held_back : {V : Type 0} (h : ℕ → ℕ) (hands hands' : List (Hand M)) (kept kept' : List V) (hand : Hand M) (v : V)
      (f : V → ℕ) → hands' ≡ hands ++ hand ∷ [] → kept' ≡ kept ++ v ∷ []
      → weight_by h hand ≡ f v → sum_by (weight_by h) hands ≡ sum_by f kept → sum_by (weight_by h) hands' ≡ sum_by f kept'
  held_back h hands hands' kept kept' hand v f more more' same all =
      let a : sum_by (weight_by h) hands' ≡ sum_by (weight_by h) (hands ++ hand ∷ []) = ap (sum_by (weight_by h)) more in
      let b : sum_by f kept' ≡ sum_by f (kept ++ v ∷ []) = ap (sum_by f) more' in
      omega (arith, a, b, same, all, sum_by_push (weight_by h) hands hand, sum_by_push f kept v)
