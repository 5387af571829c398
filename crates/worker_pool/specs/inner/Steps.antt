-- The views of hands, and what each step of a relay tells.
use Rattle.std.specs.Prelude.{◌≡◌, ℕ, ◌+◌, ◌-◌, ◌<◌, ◌≤◌, List, [], ◌∷◌, ◌++◌, length}
use Rattle.std.specs.List.{sum_by}
use Rattle.action_manager.specs.declared.seat.Seat.{Seat}
use Rattle.action_manager.specs.Seats.{participant_of}
use Rattle.worker_pool.specs.declared.hand_view.HandView.{HandView}
use Rattle.worker_pool.specs.SeatLists.{without}
use Rattle.worker_pool.specs.Relays.{weight_of, IsOfTheirs}

-- ---- views

-- before any seat is opened
abbrev pub first_hand : {M : Type 0} → HandView M
first_hand = record { number = 0; parts = 17; opened = []; held = [] }

-- once these were opened
abbrev pub full_hand : {M : Type 0} → List (Seat M) → HandView M
full_hand seats = record { number = 0; parts = 17; opened = seats; held = [] }

-- after a further hand was made
abbrev pub left_hand : {M : Type 0} → HandView M → HandView M
left_hand v = record v { number = v.number + 1; parts = v.parts - 1 }

-- the further hand
abbrev pub new_hand : {M : Type 0} → HandView M → HandView M
new_hand v = record v { parts = 1; held = [] }

-- two hands are one
abbrev pub both_hands : {M : Type 0} → HandView M → HandView M → HandView M
both_hands v w = record v { parts = v.parts + w.parts; held = v.held ++ w.held }

-- a hand that another has taken in
abbrev pub spent_hand : {M : Type 0} → HandView M
spent_hand = record { number = 0; parts = 0; opened = []; held = [] }

-- ---- steps

-- the seat was opened
abbrev pub Opened : {M : Type 0} → HandView M → Seat M → HandView M → Type 0
Opened v seat w = w ≡ record v { opened = v.opened ++ seat ∷ [] }

-- no more are queued than were opened
abbrev pub IsNoLonger : {M : Type 0} → HandView M → List (Seat M) → Type 0
IsNoLonger v queued = length queued ≤ length v.opened

-- the seat was taken: it is of the manager of the others, and there was room for one more
pub record Took {M : Type 0} (v : HandView M) (seat : Seat M) (w : HandView M) : Type 0 where
  pub held : w ≡ record v { held = v.held ++ participant_of seat ∷ [] }
  pub theirs : IsOfTheirs v.opened seat
  pub room : length v.held < length v.opened

-- the seat was put back
abbrev pub DidPut : {M : Type 0} → HandView M → Seat M → HandView M → Type 0
DidPut v seat w = w ≡ record v { held = without (participant_of seat) v.held }

-- fewer are queued than were opened
abbrev pub IsShort : {M : Type 0} → HandView M → List (Seat M) → Type 0
IsShort v queued = length queued < length v.opened

-- what was opened is what is queued and what this hand holds
abbrev pub AreAll : {M : Type 0} → HandView M → List (Seat M) → Type 0
AreAll v queued = (h : ℕ → ℕ) → weight_of h v.opened ≡ weight_of h queued + sum_by h v.held
