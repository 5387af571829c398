-- What comes of a history: the messages that were sent, and what each member met. The newest event of a past comes first.
use Rattle.std.specs.Prelude.{ℕ, ◌==◌, if◌then◌else◌, List, [], ◌∷◌, ◌++◌, slice_get, Option, Some, None, option_map, Contains}
use Rattle.std.specs.List.{flat_map}
use Rattle.cover_table.specs.Cover.{CoverOrder}
use Rattle.message_resolution.specs.declared.node.message.Message.{Message}
use Rattle.message_resolution.specs.declared.world.event.Event.{Event}
use Rattle.message_resolution.specs.declared.world.event.Event.TheVariants.{Raise, Deliver}
use Rattle.message_resolution.specs.Members.LocalEvents.{LocalEvent, raises, receives}
use Rattle.message_resolution.specs.Members.Answers.{answers, decisions}

-- the messages that were sent, the oldest first, and what each member met, the newest first
pub record Course : Type 0 where
  pub messages : List Message
  pub local : ℕ → List LocalEvent

-- whose event it is
abbrev pub member_of : Event → ℕ
member_of (Raise by exception) = by
member_of (Deliver to number) = to

-- what its member meets: a message goes by its number among those that were sent, the oldest of which is 0
abbrev pub met_at : List Message → Event → Option LocalEvent
met_at messages (Raise by exception) = Some (raises exception)
met_at messages (Deliver to number) = option_map (λ m. receives m) (slice_get messages number)

-- member t meets x: what it sends comes behind the earlier messages
abbrev pub course_with : CoverOrder → ℕ → Course → ℕ → Option LocalEvent → Course
course_with order count course t None = course
course_with order count course t (Some x) = record {
  messages = course.messages ++ answers order count t (course.local t) x;
  local = λ u. if u == t then x ∷ course.local u else course.local u;
}

-- what has come of a past, in which so many members take part
abbrev pub course_of : CoverOrder → ℕ → List Event → Course
course_of order count [] = record { messages = []; local = λ u. [] }
course_of order count (e ∷ past) =
    let course = course_of order count past in
    course_with order count course (member_of e) (met_at course.messages e)

-- what an event raises
abbrev pub raised_by : Event → List ℕ
raised_by (Raise by exception) = exception ∷ []
raised_by (Deliver to number) = []

-- everything that was raised
abbrev pub all_raised : List Event → List ℕ
all_raised past = flat_map raised_by past

-- member t has decided e: it sent a Resolved with e, or one was delivered to it
abbrev pub HasDecided : CoverOrder → ℕ → List Event → ℕ → ℕ → Type 0
HasDecided order count past t e = Contains (decisions order count t ((course_of order count past).local t)) e
