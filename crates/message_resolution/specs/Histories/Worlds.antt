-- What a world is, and its node of a member.
use Rattle.std.specs.Prelude.{◌≡◌, ℕ, List}
use Rattle.cover_table.specs.Cover.{CoverOrder}
use Rattle.message_resolution.specs.declared.world.event.Event.{Event}
use Rattle.message_resolution.specs.Members.Nodes.{Known, StandsFor}
use Rattle.message_resolution.specs.Histories.Courses.{course_of}

-- no world is opened with room for more events than this
abbrev pub most_room : ℕ
most_room = 1000000

-- the order of a world's exceptions, how many members it has, the room for events, and what has come to pass, the newest event first
pub record WorldView : Type 0 where
  pub order : CoverOrder
  pub count : ℕ
  pub room : ℕ
  pub past : List Event

-- the node is that of member t, and stands for what t has met
pub record IsNodeAt (order : CoverOrder) (count : ℕ) (past : List Event) (t : ℕ) (node : Known) : Type 0 where
  pub me : node.me ≡ t
  pub members : node.count ≡ count
  pub stands : StandsFor order ((course_of order count past).local t) node
