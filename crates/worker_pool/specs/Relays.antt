-- The rule of a relay: what its queue and its hands have between them.
use Rattle.std.specs.Prelude.{◌≡◌, ℕ, ◌+◌, ◌<◌, List, [], ◌∷◌, slice_get, Some, All}
use Rattle.std.specs.List.{sum_by}
use mathlib.Core.Option.{some}
use lib.ListN.{get_elem?}
use Rattle.action_manager.specs.declared.seat.Seat.{Seat}
use Rattle.action_manager.specs.Seats.{participant_of, IsBeside}
use Rattle.worker_pool.specs.declared.hand_view.HandView.{HandView}

-- all parts that there are, and so the most hands
abbrev pub all_parts : ℕ
all_parts = 17

-- what some seats weigh, where each participant has a weight
abbrev pub weight_of : {M : Type 0} → (ℕ → ℕ) → List (Seat M) → ℕ
weight_of h seats = sum_by (λ s. h (participant_of s)) seats

-- what the seats weigh that hands hold
abbrev pub weight_held : {M : Type 0} → (ℕ → ℕ) → List (HandView M) → ℕ
weight_held h views = sum_by (λ v. sum_by h v.held) views

-- the parts of all hands
abbrev pub parts_in : {M : Type 0} → List (HandView M) → ℕ
parts_in views = sum_by (λ v. v.parts) views

-- the view of hand k is v
abbrev pub IsAt : {M : Type 0} → List (HandView M) → ℕ → HandView M → Type 0
IsAt views k v = get_elem? views k ≡ some v

-- these seats are of one manager, that of the first of them
abbrev pub AreBeside : {M : Type 0} → List (Seat M) → Type 0
AreBeside {M = M} seats = (first : Seat M) → slice_get seats 0 ≡ Some first → All (λ s. IsBeside first s) seats

-- the seat is of the manager of the seats that were opened
abbrev pub IsOfTheirs : {M : Type 0} → List (Seat M) → Seat M → Type 0
IsOfTheirs {M = M} opened seat = (first : Seat M) → slice_get opened 0 ≡ Some first → IsBeside first seat

-- each of these seats is of that manager
abbrev pub AreOfTheirs : {M : Type 0} → List (Seat M) → List (Seat M) → Type 0
AreOfTheirs opened [] = Unit {0}
AreOfTheirs opened (seat ∷ seats) = IsOfTheirs opened seat × AreOfTheirs opened seats

-- the rule: each seat that was opened stands once, in the queue or with one hand, since both weigh the same, whatever each participant
-- weighs; a hand without a part holds nothing, and each queued seat is of the manager of those that were opened
pub record RelayRule {M : Type 0} (queued : List (Seat M)) (views : List (HandView M)) : Type 0 where
  pub opened : List (Seat M)
  pub parts : parts_in views ≡ all_parts
  pub same : (k : ℕ) (v : HandView M) → IsAt views k v → 0 < v.parts → v.opened ≡ opened
  pub spent : (k : ℕ) (v : HandView M) → IsAt views k v → v.parts ≡ 0 → v.held ≡ []
  pub balance : (h : ℕ → ℕ) → weight_of h opened ≡ weight_of h queued + weight_held h views
  pub theirs : AreOfTheirs opened queued

-- the rule held of these queued seats, and this was the view of a hand
abbrev pub RuleHeldFor : {M : Type 0} → HandView M → List (Seat M) → Type 0
RuleHeldFor {M = M} v queued = (views : List (HandView M)) × (k : ℕ) × IsAt views k v × RelayRule queued views
