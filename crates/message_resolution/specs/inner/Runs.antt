-- What a run keeps: the messages that its history sent, and a node that stands for each member.
use Rattle.std.specs.Prelude.{◌≡◌, ◌≢◌, ℕ, ◌*◌, ◌<◌, ◌≤◌, List, [], length, slice_get, slice_set, Some}
use Rattle.cover_table.specs.Cover.{CoverOrder}
use Rattle.message_resolution.specs.declared.node.message.Message.{Message}
use Rattle.message_resolution.specs.declared.node.sent.Sent.{Sent}
use Rattle.message_resolution.specs.declared.world.event.Event.{Event}
use Rattle.message_resolution.specs.declared.world.event.Event.TheVariants.{Raise, Deliver}
use Rattle.message_resolution.specs.declared.node.state.State.TheVariants.{Normal}
use Rattle.message_resolution.specs.Members.LocalEvents.{LocalEvent}
use Rattle.message_resolution.specs.Members.Nodes.{Known, IsNodeOf, IsMessage, Meets, most_members, sender_of}
use Rattle.message_resolution.specs.Histories.Courses.{course_of, met_at, member_of}
use Rattle.message_resolution.specs.Histories.Legal.{LegalPast}
use Rattle.message_resolution.specs.Histories.Worlds.{IsNodeAt}

-- a run is its order, its members, its past, the newest event first, and the room for events
pub record RunView : Type 0 where
  pub order : CoverOrder
  pub count : ℕ
  pub past : List Event
  pub event_room : ℕ

-- the past is legal, the messages are those that it sent, each node stands for its member, and there is room for two messages each
pub record HoldsRun (order : CoverOrder) (count : ℕ) (past : List Event) (messages : List Message) (nodes : List Known)
    (message_room : ℕ) : Type 0 where
  pub few : count ≤ most_members
  pub legal : LegalPast order count past
  pub sent : messages ≡ (course_of order count past).messages
  pub many : length nodes ≡ count
  pub each : (t : ℕ) (node : Known) → slice_get nodes t ≡ Some node → IsNodeAt order count past t node
  pub room : 2 * count ≤ message_room

-- nodes of so many members that have met nothing
abbrev pub AreFreshNodes : ℕ → List Known → Type 0
AreFreshNodes count nodes = (order : CoverOrder) (t : ℕ) (node : Known) → slice_get nodes t ≡ Some node → IsNodeAt order count [] t node

-- a node may raise where it is Normal, and may be told of another's message
abbrev pub MayMeetNode : CoverOrder → List Message → Known → Event → Type 0
MayMeetNode order messages node (Raise by exception) = (node.state ≡ Normal) × (exception < order.count)
MayMeetNode order messages node (Deliver to number) = (m : Message) × (slice_get messages number ≡ Some m)
    × (sender_of m ≢ node.me) × IsMessage order node.count m

abbrev pub MayMeetAt : CoverOrder → List Message → List Known → Event → Type 0
MayMeetAt order messages nodes e =
    (node : Known) → slice_get nodes (member_of e) ≡ Some node → IsNodeOf order node × MayMeetNode order messages node e

-- the node of t meets x, and the others stay as they were
pub record OneMeets (order : CoverOrder) (old new : List Known) (t : ℕ) (x : LocalEvent) (sent : Sent) : Type 0 where
  pub node : Known
  pub next : Known
  pub was : slice_get old t ≡ Some node
  pub is : new ≡ slice_set old t next
  pub meets : Meets order x node next sent

-- where an event is met, its member's node meets it
abbrev pub NodesMeet : CoverOrder → List Message → List Known → List Known → Event → Sent → Type 0
NodesMeet order messages old new e sent = (x : LocalEvent) → met_at messages e ≡ Some x → OneMeets order old new (member_of e) x sent
