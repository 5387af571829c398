-- What is made ready for the drivers of the seats before anything is played.
use Rattle.std.specs.Prelude.{◌≡◌, ℕ, length}
use Rattle.role_driver.specs.declared.crew_room.CrewRoom.{CrewRoom}
use Rattle.role_driver.specs.VectorRoom.{HasRoomFor}

-- there is room for so many threads, for their seats when they come back, and a flag for each
pub record IsRoomForAll {M G : Type 0} (count : ℕ) (r : CrewRoom M G) : Type 0 where
  pub members : HasRoomFor count r.members
  pub back : HasRoomFor count r.back
  pub flags : length r.handed_back.items ≡ count
