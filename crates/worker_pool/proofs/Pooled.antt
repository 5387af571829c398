-- What is known of the seats that were left in a relay and those that its workers kept.
use Rattle.std.proofs.Common.{◌≡◌, ℕ, ◌+◌, ◌<◌, ◌==◌, ◌||◌, List, [], ◌∷◌, ◌++◌, length, map, sym, ap, ◌∙◌, refl, All}
use native.Mathlib.Omega.{arith}
use Rattle.std.specs.List.{sum_by, flat_map, list_any, range_with_len}
use Rattle.std.proofs.lemmas.List.Sums.{sum_by-cons, sum_by-append}
use Rattle.std.proofs.lemmas.List.Elements.{All-append, All-tail}
use Rattle.atomic_table.specs.Seated.{TableId}
use Rattle.action_manager.specs.declared.lock_view.Terms.{Terms}
use Rattle.action_manager.specs.declared.seat.Seat.{Seat}
use Rattle.action_manager.specs.Seats.{IsSeatOf, participant_of, has_seat, HaveAll as HaveAllSeats}
use Rattle.action_manager.proofs.Beside.{both_beside}
use Rattle.role_driver.proofs.Complete.{reaches}
use Rattle.worker_pool.specs.declared.hands.Hand.{Hand}
use Rattle.worker_pool.specs.declared.hands.Relay.{Relay}
use Rattle.worker_pool.specs.Relays.{weight_of, AreBeside, IsOfTheirs}
use Rattle.worker_pool.specs.Hands.{number_of, opened_in, weight_by, EachStandsOnce, HaveAll}
use Rattle.worker_pool.proofs.Weights.{ones}
use Rattle.worker_pool.proofs.SeatsHeld.{first_in, theirs_in}

-- numbers in order are those of all hands
pub order_has_hands : {M : Type 0} (n : ℕ) (hands : List (Hand M)) → map number_of hands ≡ range_with_len 0 n → HaveAll n hands
order_has_hands n hands order = λ k low. reaches number_of hands 0 n k order (omega arith) (omega (arith, low))

module _ {M V : Type 0} (f : V → List (Seat M)) where
  -- what all vectors weigh
  pub weight_flat : (h : ℕ → ℕ) (vs : List V) → weight_of h (flat_map f vs) ≡ sum_by (λ v. weight_of h (f v)) vs
  weight_flat h [] = refl
  weight_flat h (v ∷ vs) =
      omega (
        arith,
        sum_by-append (λ (s : Seat M). h s.participant) (f v) (flat_map f vs),
        sum_by-cons (λ w. weight_of h (f w)) v vs,
        weight_flat h vs,
      )

  -- how many seats they have
  pub long_flat : (vs : List V) → length (flat_map f vs) ≡ sum_by (λ v. length (f v)) vs
  long_flat [] = refl
  long_flat (v ∷ vs) = omega (
    arith,
    ones (f v ++ flat_map f vs),
    sum_by-append (λ (s : Seat M). 1) (f v) (flat_map f vs),
    ones (f v),
    ones (flat_map f vs),
    sum_by-cons (λ w. length (f w)) v vs,
    long_flat vs,
  )

  -- what holds of the seats in each holds of all
  pub all_flat : (P : Seat M → Type 0) (vs : List V) → All (λ v. All P (f v)) vs → All P (flat_map f vs)
  all_flat P [] all = λ k d less. absurd (omega (arith, less))
  all_flat P (v ∷ vs) all =
      All-append P (f v) (flat_map f vs) (all 0 v (omega arith)) (all_flat P vs (All-tail (λ w. All P (f w)) v vs all))

module _ {M : Type 0} (table : TableId) (terms : Terms) where
  -- the seats of one manager are beside one another
  pub beside_all : (seats : List (Seat M)) → All (λ s. IsSeatOf table terms s) seats → AreBeside seats
  beside_all seats all first at k d less =
      both_beside table terms first _ (first_in (IsSeatOf table terms) seats first at all) (all k d less)

  -- what is of the manager of the opened seats is of this manager
  pub theirs_all : (opened seats : List (Seat M)) → 0 < length opened → All (λ s. IsSeatOf table terms s) opened
      → All (λ s. IsOfTheirs opened s) seats → All (λ s. IsSeatOf table terms s) seats
  theirs_all opened seats some all theirs k d less = theirs_in table terms opened _ some all (theirs k d less)

-- whether a participant has a seat is told by the participants alone
has_by : {M : Type 0} (t : ℕ) (seats : List (Seat M)) → has_seat t seats ≡ list_any (λ p. p == t) (map participant_of seats)
has_by t [] = refl
has_by t (s ∷ seats) = ap (λ b. (s.participant == t) || b) (has_by t seats)

-- seats of the same participants have one for each too
pub have_all_same : {M : Type 0} (n : ℕ) (seats driven : List (Seat M)) → map participant_of driven ≡ map participant_of seats
    → HaveAllSeats n seats → HaveAllSeats n driven
have_all_same n seats driven same all t low = has_by t driven ∙ (ap (list_any (λ p. p == t)) same ∙ (sym (has_by t seats) ∙ all t low))

-- the seats that were opened weigh what those that were left and those that the workers kept weigh
pub balance : {M V : Type 0} (h : ℕ → ℕ) (relay : Relay M) (left : List (Seat M)) (hands : List (Hand M)) (kept : List V)
    (f : V → List (Seat M)) → EachStandsOnce (opened_in relay) left hands
    → ((h : ℕ → ℕ) → sum_by (weight_by h) hands ≡ sum_by (λ v. weight_of h (f v)) kept) → weight_of h (opened_in relay)
    ≡ weight_of h left + weight_of h (flat_map f kept)
balance h relay left hands kept f once held = omega (arith, once h, held h, weight_flat f h kept)

-- the seats that were left and those that were kept are as many as were opened
pub counted : {M : Type 0} (opened left kept : List (Seat M))
    → ((h : ℕ → ℕ) → weight_of h opened ≡ weight_of h left + weight_of h kept) → length opened ≡ length left + length kept
counted opened left kept same = let one = same (λ _. 1) in omega (arith, one, ones opened, ones left, ones kept)
