-- How many bytes were read from a source.
use Rattle.std.specs.Prelude.{◌≡◌, ◌≤◌, ◌+◌, ℕ, Bool, true, false, List, [], length, Option, Result, Ok, Err}
use Rattle.std.specs.Option.{option_map}
use Rattle.std.specs.Io.KnownBytes.{prepend_known}
use Rattle.caa_base.specs.declared.outside.reading.ReadError.{ReadError}
use Rattle.caa_base.specs.declared.outside.reading.ReadError.TheVariants.{Fault, TooLong, OutOfMemory}

-- what is left of a source at its end, where it tells that
abbrev pub emptied : Option (List ℕ) → Option (List ℕ)
emptied known = option_map (λ _. []) known

-- a reading answered a fault
abbrev pub is_fault : {T : Type 0} → Result T ReadError → Bool
is_fault (Ok v) = false
is_fault (Err Fault) = true
is_fault (Err TooLong) = false
is_fault (Err OutOfMemory) = false

-- so many bytes were taken off the front of what a source had left
pub record TookOff (old new : Option (List ℕ)) (count : ℕ) : Type 0 where
  pub bytes : List ℕ
  pub number : length bytes ≡ count
  pub front : old ≡ prepend_known bytes new

-- no more than so many bytes were taken off
pub record TookAtMost (old new : Option (List ℕ)) (count : ℕ) : Type 0 where
  pub bytes : List ℕ
  pub number : length bytes ≤ count
  pub front : old ≡ prepend_known bytes new

-- what a reading took that ended with an error: one byte past the limit where it was too long, and else none past it
abbrev pub TookUntil : Option (List ℕ) → Option (List ℕ) → ℕ → ReadError → Type 0
TookUntil old new limit TooLong = TookOff old new (limit + 1)
TookUntil old new limit Fault = TookAtMost old new limit
TookUntil old new limit OutOfMemory = TookAtMost old new limit
