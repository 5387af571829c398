-- What is known while one pass takes in others.
use Rattle.std.proofs.Common.{◌≡◌, ℕ, ◌+◌, ◌≤◌, ◌<◌, List, [], ◌∷◌, ◌++◌, length, ap, slice_index_or}
use native.Mathlib.Omega.{arith}
use Rattle.std.specs.List.{sum_by, swap_remove}
use Rattle.std.proofs.lemmas.List.Sums.{sum_by_push, sum_by-append, sum_by-swap_remove}
use Rattle.crossbeam_queue.specs.Passes.{view}
use Rattle.worker_pool.specs.declared.hands.Hand.{Hand}
use Rattle.worker_pool.specs.declared.hand_view.HandView.{HandView}
use Rattle.worker_pool.specs.inner.Steps.{both_hands}
use Rattle.worker_pool.specs.Hands.{parts_by, weight_by}

module _ {M : Type 0} (v w u : HandView M) (hand : Hand M) (rest others : List (Hand M)) (joined : u ≡ both_hands v w)
    (is : w ≡ view hand.pass) (cut : others ≡ rest ++ hand ∷ []) where
  pub gathered_parts : (total : ℕ) → v.parts + sum_by parts_by others ≡ total → u.parts + sum_by parts_by rest ≡ total
  gathered_parts total e =
      let a : u.parts ≡ v.parts + w.parts = ap (λ (x : HandView M). x.parts) joined in
      let b : w.parts ≡ parts_by hand = ap (λ (x : HandView M). x.parts) is in
      let c : sum_by parts_by others ≡ sum_by parts_by (rest ++ hand ∷ []) = ap (sum_by parts_by) cut in
      omega (arith, a, b, c, e, sum_by_push parts_by rest hand)

  pub gathered_held : (h : ℕ → ℕ) (total : ℕ) → sum_by h v.held + sum_by (weight_by h) others ≡ total
      → sum_by h u.held + sum_by (weight_by h) rest ≡ total
  gathered_held h total e =
      let a : sum_by h u.held ≡ sum_by h (v.held ++ w.held) = ap (λ (x : HandView M). sum_by h x.held) joined in
      let b : sum_by h w.held ≡ weight_by h hand = ap (λ (x : HandView M). sum_by h x.held) is in
      let c : sum_by (weight_by h) others ≡ sum_by (weight_by h) (rest ++ hand ∷ []) = ap (sum_by (weight_by h)) cut in
      omega (arith, a, b, c, e, sum_by-append h v.held w.held, sum_by_push (weight_by h) rest hand)

  pub gathered_some : 0 < v.parts → 0 < u.parts
  gathered_some some = let a : u.parts ≡ v.parts + w.parts = ap (λ (x : HandView M). x.parts) joined in omega (arith, a, some)

-- one hand is taken out of a list, and its pass takes in those of the others
module _ {M : Type 0} (hands : List (Hand M)) (at : ℕ) (hand : Hand M) (rest : List (Hand M)) (v u : HandView M)
    (within : at < length hands) (value : hand ≡ slice_index_or hands at hand)
    (cut : rest ≡ swap_remove hands at hand) (is : v ≡ view hand.pass) where
  pub whole_parts : u.parts ≡ v.parts + sum_by parts_by rest → 17 ≤ sum_by parts_by hands → 17 ≤ u.parts
  whole_parts e all =
      let a : v.parts ≡ parts_by hand = ap (λ (x : HandView M). x.parts) is in
      let b : sum_by parts_by rest ≡ sum_by parts_by (swap_remove hands at hand) = ap (sum_by parts_by) cut in
      let c : parts_by hand ≡ parts_by (slice_index_or hands at hand) = ap parts_by value in
      omega (arith, a, b, c, e, all, sum_by-swap_remove parts_by hands at hand within)

  pub whole_held : (h : ℕ → ℕ) → sum_by h u.held ≡ sum_by h v.held + sum_by (weight_by h) rest
      → sum_by h u.held ≡ sum_by (weight_by h) hands
  whole_held h e =
      let a : sum_by h v.held ≡ weight_by h hand = ap (λ (x : HandView M). sum_by h x.held) is in
      let b : sum_by (weight_by h) rest ≡ sum_by (weight_by h) (swap_remove hands at hand) = ap (sum_by (weight_by h)) cut in
      let c : weight_by h hand ≡ weight_by h (slice_index_or hands at hand) = ap (weight_by h) value in
      omega (arith, a, b, c, e, sum_by-swap_remove (weight_by h) hands at hand within)
