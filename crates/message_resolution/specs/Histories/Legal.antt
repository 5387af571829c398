-- Which events may come.
use Rattle.std.specs.Prelude.{◌≡◌, ℕ, ◌<◌, ◌==◌, not, Bool, true, false, List, [], ◌∷◌, slice_get, reverse, Option, Some, None}
use Rattle.cover_table.specs.Cover.{CoverOrder}
use Rattle.message_resolution.specs.declared.node.message.Message.{Message}
use Rattle.message_resolution.specs.declared.world.event.Event.{Event}
use Rattle.message_resolution.specs.declared.world.event.Event.TheVariants.{Raise, Deliver}
use Rattle.message_resolution.specs.Members.LocalEvents.{has_spoken}
use Rattle.message_resolution.specs.Members.Nodes.{sender_of}
use Rattle.message_resolution.specs.Histories.Courses.{Course, course_of}

-- there is a message, and its sender is another member than t
abbrev pub is_from_other : ℕ → Option Message → Bool
is_from_other t None = false
is_from_other t (Some m) = not (sender_of m == t)

-- a member may raise as long as it has neither raised nor been told that another did; a message may be delivered to each but its
-- sender, as often as the network likes
abbrev pub is_legal_event : Course → Event → Bool
is_legal_event course (Raise by exception) = not (has_spoken (course.local by))
is_legal_event course (Deliver to number) = is_from_other to (slice_get course.messages number)

-- members and exceptions are in range
abbrev pub IsInRange : CoverOrder → ℕ → Event → Type 0
IsInRange order count (Raise by exception) = (by < count) × (exception < order.count)
IsInRange order count (Deliver to number) = to < count

-- the event is in range, and legal after this past
pub record MayCome (order : CoverOrder) (count : ℕ) (past : List Event) (e : Event) : Type 0 where
  pub in_range : IsInRange order count e
  pub legal : is_legal_event (course_of order count past) e ≡ true

-- each event of a past might come after the earlier ones
abbrev pub LegalPast : CoverOrder → ℕ → List Event → Type 0
LegalPast order count [] = Unit {0}
LegalPast order count (e ∷ past) = LegalPast order count past × MayCome order count past e

-- a history, the oldest event first, is legal
abbrev pub IsLegal : CoverOrder → ℕ → List Event → Type 0
IsLegal order count history = LegalPast order count (reverse history)
