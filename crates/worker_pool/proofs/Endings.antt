-- What is known when all hands are one.
use Rattle.std.proofs.Common.{◌≡◌, ℕ, ◌+◌, List, [], ◌∷◌, ◌++◌, length, map, sym, ap, ◌∙◌, refl, append_assoc}
use native.Mathlib.Omega.{arith}
use Rattle.std.specs.List.{sum_by}
use Rattle.std.proofs.lemmas.List.Sums.{sum_by-cons, sum_by-append}
use Rattle.action_manager.specs.declared.seat.Seat.{Seat}
use Rattle.worker_pool.specs.declared.hand_view.HandView.{HandView}
use Rattle.action_manager.specs.Seats.{participant_of}
use Rattle.worker_pool.specs.Relays.{weight_of}
use Rattle.worker_pool.specs.inner.Steps.{AreAll}

module _ {M : Type 0} where
  mapped : (seats : List (Seat M)) (x : Seat M) → map participant_of (seats ++ x ∷ []) ≡ map participant_of seats ++ participant_of x ∷ []
  mapped [] x = refl
  mapped (s ∷ seats) x = ap (λ l. participant_of s ∷ l) (mapped seats x)

  -- one more seat was taken
  pub held_more : (before : List ℕ) (seats : List (Seat M)) (x : Seat M) (held : List ℕ) → held ≡ before ++ map participant_of seats
      → held ++ participant_of x ∷ [] ≡ before ++ map participant_of (seats ++ x ∷ [])
  held_more before seats x held e = ap (λ l. l ++ participant_of x ∷ []) e
      ∙ (append_assoc before (map participant_of seats) (participant_of x ∷ []) ∙ ap (λ l. before ++ l) (sym (mapped seats x)))

  weighs_mapped : (h : ℕ → ℕ) (seats : List (Seat M)) → sum_by h (map participant_of seats) ≡ weight_of h seats
  weighs_mapped h [] = refl
  weighs_mapped h (s ∷ seats) = omega (
    arith,
    sum_by-cons h (participant_of s) (map participant_of seats),
    sum_by-cons (λ (x : Seat M). h (participant_of x)) s seats,
    weighs_mapped h seats,
  )

  nothing_weighs : (h : ℕ → ℕ) (queued : List (Seat M)) → length queued ≡ 0 → weight_of h queued ≡ 0
  nothing_weighs h [] e = refl
  nothing_weighs h (x ∷ xs) e = absurd (omega (arith, e))

  -- nothing is queued any more
  pub at_end : (v : HandView M) (before : List ℕ) (opened seats queued : List (Seat M)) → v.opened ≡ opened → v.held ≡ before
      ++ map participant_of seats
      → length queued ≡ 0 → AreAll v queued → (h : ℕ → ℕ) → weight_of h opened ≡ weight_of h seats + sum_by h before
  at_end v before opened seats queued o e none all h =
      let a = all h in
      let b : weight_of h v.opened ≡ weight_of h opened = ap (weight_of h) o in
      let c : sum_by h v.held ≡ sum_by h (before ++ map participant_of seats) = ap (sum_by h) e in
      omega (arith, a, b, c, nothing_weighs h queued none, sum_by-append h before (map participant_of seats), weighs_mapped h seats)
