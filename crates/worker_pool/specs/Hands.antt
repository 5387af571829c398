-- A relay and its hands, as their owner sees them.
use Rattle.std.specs.Prelude.{◌≡◌, ℕ, ◌+◌, ◌-◌, ◌<◌, ◌≤◌, ◌==◌, if◌then◌else◌, Bool, false, true, List, [], length, vec_capacity}
use Rattle.std.specs.List.{sum_by, list_any}
use Rattle.crossbeam_queue.specs.Fifo.{Held}
use Rattle.crossbeam_queue.specs.Passes.{view, IsPassOf}
use Rattle.action_manager.specs.declared.seat.Seat.{Seat}
use Rattle.worker_pool.specs.declared.hands.Relay.{Relay}
use Rattle.worker_pool.specs.declared.hands.Hand.{Hand}
use Rattle.worker_pool.specs.Relays.{IsOfTheirs, RuleHeldFor, weight_of, all_parts}

-- the seats that were opened
abbrev pub opened_in : {M : Type 0} → Relay M → List (Seat M)
opened_in relay = relay.opened.value.items

-- how many hands it has
abbrev pub hands_of : {M : Type 0} → Relay M → ℕ
hands_of relay = relay.hands

-- the participants whose seats a hand holds
abbrev pub held_by : {M : Type 0} → Hand M → List ℕ
held_by hand = (view hand.pass).held

-- the number of a hand
abbrev pub number_of : {M : Type 0} → Hand M → ℕ
number_of hand = hand.number

-- the parts of a hand of so many: the last has what the others leave
abbrev pub part_of : ℕ → ℕ → ℕ
part_of hands number = if number + 1 == hands then all_parts + 1 - hands else 1

-- the hand is one of this relay's
pub record IsHandOf {M : Type 0} (relay : Relay M) (hand : Hand M) : Type 0 where
  pub here : IsPassOf relay.queue hand.pass
  pub known : hand.number < relay.hands
  pub opened : (view hand.pass).opened ≡ relay.opened.value.items
  pub parts : (view hand.pass).parts ≡ part_of relay.hands hand.number
  pub empty : hand.spare.items ≡ []
  pub room : hand.number + 1 ≡ relay.hands → length relay.opened.value.items ≤ vec_capacity hand.spare

-- the seat is of the manager of the seats that were opened
abbrev pub IsOpened : {M : Type 0} → Relay M → Seat M → Type 0
IsOpened relay seat = IsOfTheirs relay.opened.value.items seat

-- at one moment of a call no seat was queued, and the rule held for this hand
abbrev pub WasEmptyFor : {M : Type 0} → Hand M → Type 0
WasEmptyFor hand = Held 0 (RuleHeldFor (view hand.pass))

-- some hand in the list has this number
abbrev pub has_hand : {M : Type 0} → ℕ → List (Hand M) → Bool
has_hand k hands = list_any (λ h. h.number == k) hands

-- each number below this one has a hand in the list
abbrev pub HaveAll : {M : Type 0} → ℕ → List (Hand M) → Type 0
HaveAll count hands = (k : ℕ) → k < count → has_hand k hands ≡ true

-- k is the least number that has no hand in the list
pub record IsLeastMissing {M : Type 0} (count : ℕ) (hands : List (Hand M)) (k : ℕ) : Type 0 where
  pub known : k < count
  pub out : has_hand k hands ≡ false
  pub least : HaveAll k hands

-- the parts of a hand
abbrev pub parts_by : {M : Type 0} → Hand M → ℕ
parts_by hand = (view hand.pass).parts

-- what the seats weigh that a hand holds
abbrev pub weight_by : {M : Type 0} → (ℕ → ℕ) → Hand M → ℕ
weight_by h hand = sum_by h (held_by hand)

-- each seat that was opened stands once, among these seats or with one of these hands: both weigh the same, whatever each
-- participant weighs. So with a weight of one for each, as many are there; with a weight for one participant alone, its seat is
abbrev pub EachStandsOnce : {M : Type 0} → List (Seat M) → List (Seat M) → List (Hand M) → Type 0
EachStandsOnce opened seats hands = (h : ℕ → ℕ) → weight_of h opened ≡ weight_of h seats + sum_by (weight_by h) hands
