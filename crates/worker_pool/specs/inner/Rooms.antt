-- What is made ready before anything is played.
use Rattle.std.specs.Prelude.{◌≡◌, ℕ, ◌<◌, ◌≤◌, Option, Some, None, [], length, vec_capacity, All}
use Rattle.crossbeam_queue.specs.Passes.{view, IsPassOf, ruled_capacity}
use Rattle.role_driver.specs.VectorRoom.{HasRoomFor}
use Rattle.worker_pool.specs.declared.pool_room.PoolRoom.{PoolRoom}
use Rattle.worker_pool.specs.declared.relay_room.RelayRoom.{RelayRoom}
use Rattle.worker_pool.specs.inner.Steps.{first_hand}

-- there is a queue for so many seats, in which nothing was opened, and room for so many hands
pub record IsRelayRoomFor {M : Type 0} (seats count : ℕ) (r : RelayRoom M) : Type 0 where
  pub long : ruled_capacity r.queue ≡ seats
  pub pass : IsPassOf r.queue r.pass × (view r.pass ≡ first_hand)
  pub counted : r.count ≡ count
  pub hands : HasRoomFor count r.hands

-- there is a relay for so many seats, and for as many workers as it has hands there is room for what each of them keeps, for the
-- members of the crew, and for the workers when they come back; and there is room for all seats when they are over
pub record IsRoomFor {M : Type 0} (seats : ℕ) (r : PoolRoom M) : Type 0 where
  pub some : 0 < seats
  pub workers : (1 ≤ r.relay.count) × (r.relay.count ≤ 16)
  pub relay : IsRelayRoomFor seats r.relay.count r.relay
  pub many : length r.kept.items ≡ r.relay.count
  pub kept : All (λ v. (v.items ≡ []) × (vec_capacity v ≡ seats)) r.kept.items
  pub members : HasRoomFor r.relay.count r.members
  pub flags : length r.handed_back.items ≡ r.relay.count
  pub back_hands : HasRoomFor r.relay.count r.back.hands
  pub back_kept : HasRoomFor r.relay.count r.back.kept
  pub driven : HasRoomFor seats r.driven

-- there is such room, where there is a participant
abbrev pub IsRoomForAny : {M : Type 0} → ℕ → Option (PoolRoom M) → Type 0
IsRoomForAny seats None = seats ≡ 0
IsRoomForAny seats (Some room) = IsRoomFor seats room
