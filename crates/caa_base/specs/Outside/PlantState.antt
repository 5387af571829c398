-- What a plant is seen as: its values and puts, its drills and tries, and all that it was ever asked for and told of.
use Rattle.std.specs.Prelude.{ℕ, ℤ, ◌+◌, Bool, true, false, ◌==◌, ◌&&◌, List, [], ◌∷◌, ◌++◌, replicate, slice_index, slice_set, Option, Result, Ok, Err}
use Rattle.std.specs.List.{list_any}
use Rattle.std.specs.Option.{option_map}
use Rattle.caa_base.specs.declared.written.entry.Drill.{Drill}
use Rattle.caa_base.specs.declared.outside.plant.Asked.{Asked}
use Rattle.caa_base.specs.declared.outside.plant.PlantError.{PlantError}
use Rattle.caa_base.specs.declared.outside.plant.PlantError.TheVariants.{Failed, OutOfMemory}

-- the value of each object, and the puts that succeeded since these values were laid, the oldest first
pub record PlantState : Type 0 where
  pub values : List ℤ
  pub puts : List (ℕ × ℤ)

-- a state, where it is known, after these values were laid
abbrev pub after_lay : Option PlantState → List ℤ → Option PlantState
after_lay known values = option_map (λ _. record { values = values; puts = [] }) known

-- a state, where it is known, after a put that succeeded
abbrev pub after_put : Option PlantState → ℕ → ℤ → Option PlantState
after_put known object value =
    option_map (λ s. record { values = slice_set s.values object value; puts = s.puts ++ (object, value) ∷ [] }) known

-- a drill refuses the put of this object that is the nth one, counted from 1
abbrev pub has_drill : List Drill → ℕ → ℕ → Bool
has_drill drills object nth = list_any (λ d. d.object == object && d.nth == nth) drills

-- the drills that were laid, and how many puts of each object were tried since
pub record Drilling : Type 0 where
  pub drills : List Drill
  pub tries : List ℕ

-- a drilling, where it is known, after these drills were laid for so many objects
abbrev pub after_drills : Option Drilling → List Drill → ℕ → Option Drilling
after_drills known drills objects = option_map (λ _. record { drills = drills; tries = replicate objects 0 }) known

-- the number that the next try of an object has, counted from 1
abbrev pub next_try : Drilling → ℕ → ℕ
next_try drilling object = slice_index drilling.tries object + 1

-- a drilling, where it is known, after one more try of an object
abbrev pub after_try : Option Drilling → ℕ → Option Drilling
after_try known object = option_map (λ d. record { drills = d.drills; tries = slice_set d.tries object (next_try d object) }) known

-- a drill refuses the next try of an object
abbrev pub is_drilled : Drilling → ℕ → Bool
is_drilled drilling object = has_drill drilling.drills object (next_try drilling object)

-- all that a plant was ever asked for and told of, where it is known, after one thing more
abbrev pub after_asked : Option (List Asked) → Asked → Option (List Asked)
after_asked known asked = option_map (λ before. before ++ asked ∷ []) known

-- a plant refused to be laid out
abbrev pub is_refused : {T : Type 0} → Result T PlantError → Bool
is_refused (Ok v) = false
is_refused (Err Failed) = true
is_refused (Err OutOfMemory) = false
