-- What a plant in memory keeps.
use Rattle.std.specs.Prelude.{ℕ, [], Option, Some, None}
use Rattle.caa_base.specs.Outside.PlantState.{PlantState, Drilling}

-- the memory of a plant that was laid out: its state, and how many puts there is room for
pub record Laid : Type 0 where
  pub state : PlantState
  pub room : ℕ

-- the state of a plant, which is empty before the plant is laid out
abbrev pub state_of : Option Laid → PlantState
state_of None = record { values = []; puts = [] }
state_of (Some laid) = laid.state

-- the room for puts of a plant, of which there is none before the plant is laid out
abbrev pub room_of : Option Laid → ℕ
room_of None = 0
room_of (Some laid) = laid.room

-- the drills and tries of a plant, of which there are none before the plant is laid out
abbrev pub drilling_of : Option Drilling → Drilling
drilling_of None = record { drills = []; tries = [] }
drilling_of (Some drilling) = drilling
