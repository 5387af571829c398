-- What a world keeps: room for its own events and for those of settling.
use Rattle.std.specs.Prelude.{ℕ, ◌+◌, ◌*◌, ◌<◌, ◌≤◌, length}
use Rattle.message_resolution.specs.Members.Nodes.{most_members}
use Rattle.message_resolution.specs.Histories.Settling.{IsSettled}
use Rattle.message_resolution.specs.Histories.Worlds.{most_room}
use Rattle.message_resolution.specs.inner.Runs.{RunView}

-- there is room for all that settling can add, and what stands beyond the world's own room came by settling, so nothing is due
pub record HoldsWorld (run : RunView) (room : ℕ) : Type 0 where
  pub few : run.count ≤ most_members
  pub fits : room ≤ most_room
  pub spare : room + 2 * run.count * run.count ≤ run.event_room
  pub long : length run.past ≤ room + 2 * run.count * run.count
  pub beyond : room < length run.past → IsSettled run.order run.count run.past
