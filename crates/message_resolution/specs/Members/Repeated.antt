-- A message that is delivered to a member once more.
use Rattle.std.specs.Prelude.{◌≡◌, ◌↔◌, ℕ, List, [], ◌∷◌, ◌++◌, Contains}
use Rattle.cover_table.specs.Cover.{CoverOrder}
use Rattle.message_resolution.specs.declared.node.message.Message.{Message}
use Rattle.message_resolution.specs.Members.LocalEvents.{LocalEvent, receives}
use Rattle.message_resolution.specs.Members.Answers.{answers, decisions}

-- m, delivered to `me` after these events, makes no difference to what `me` sends and decides, then and later
pub record ChangesNothing (order : CoverOrder) (count me : ℕ) (m : Message) (past : List LocalEvent) : Type 0 where
  -- nothing is sent in answer
  pub unanswered : answers order count me past (receives m) ≡ []
  -- whatever is met later, the same is sent as without it
  pub sends : (later : List LocalEvent) (x : LocalEvent)
      → answers order count me (later ++ receives m ∷ past) x ≡ answers order count me (later ++ past) x
  -- and the same was decided
  pub decides : (later : List LocalEvent) (e : ℕ)
      → Contains (decisions order count me (later ++ receives m ∷ past)) e ↔ Contains (decisions order count me (later ++ past)) e
