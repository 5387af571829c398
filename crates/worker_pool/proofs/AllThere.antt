-- Where seats weigh what all opened ones weigh, each participant has one among them.
use Rattle.std.proofs.Common.{◌≡◌, ℕ, ◌+◌, ◌≤◌, ◌==◌, ◌||◌, Bool, true, false, if◌then◌else◌, List, [], ◌∷◌, ◌++◌, refl}
use native.Mathlib.Omega.{arith}
use Rattle.std.proofs.lemmas.List.Sums.{sum_by-cons, sum_by-append}
use Rattle.action_manager.specs.declared.seat.Seat.{Seat}
use Rattle.action_manager.specs.Seats.{participant_of, has_seat, HaveAll}
use Rattle.worker_pool.specs.Relays.{weight_of}

-- one for t, and nothing for others
abbrev pub one_for : ℕ → ℕ → ℕ
one_for t p = if p == t then 1 else 0

weighs_by : (b rest : Bool) (w : ℕ) → (rest ≡ true → 1 ≤ w) → (b || rest) ≡ true → 1 ≤ (if b then 1 else 0) + w
weighs_by true rest w more = λ has. omega arith
weighs_by false rest w more = λ has. (let m = more has in omega (arith, m))

has_by : (b rest : Bool) (w : ℕ) → (1 ≤ w → rest ≡ true) → 1 ≤ (if b then 1 else 0) + w → (b || rest) ≡ true
has_by true rest w more = λ heavy. refl
has_by false rest w more = λ heavy. more (omega (arith, heavy))

module _ {M : Type 0} (t : ℕ) where
  pub weighs_one : (seats : List (Seat M)) → has_seat t seats ≡ true → 1 ≤ weight_of (one_for t) seats
  weighs_one [] has = absurd (grind (arith, has))
  weighs_one (s ∷ seats) has =
      let w = weighs_by (s.participant == t) (has_seat t seats) (weight_of (one_for t) seats) (weighs_one seats) has in
      omega (arith, w, sum_by-cons (λ (x : Seat M). one_for t (participant_of x)) s seats)

  pub has_one : (seats : List (Seat M)) → 1 ≤ weight_of (one_for t) seats → has_seat t seats ≡ true
  has_one [] heavy = absurd (omega (arith, heavy))
  has_one (s ∷ seats) heavy =
      has_by (s.participant == t) (has_seat t seats) (weight_of (one_for t) seats) (has_one seats)
      (omega (arith, heavy, sum_by-cons (λ (x : Seat M). one_for t (participant_of x)) s seats))

pub all_there : {M : Type 0} (n : ℕ) (opened left kept : List (Seat M)) → HaveAll n opened
    → ((h : ℕ → ℕ) → weight_of h opened ≡ weight_of h left + weight_of h kept) → HaveAll n (left ++ kept)
all_there {M = M} n opened left kept all same t less =
    let w = weighs_one t opened (all t less) in
    let e = same (one_for t) in
    has_one t (left ++ kept) (omega (arith, w, e, sum_by-append (λ (x : Seat M). one_for t (participant_of x)) left kept))
