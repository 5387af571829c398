-- How much of some bytes was written to a sink.
use Rattle.std.specs.Prelude.{◌≡◌, ◌<◌, ℕ, List, length, take, Option}
use Rattle.std.specs.Io.KnownBytes.{append_known}

-- what a sink holds grew by a front of these bytes that is not all of them
pub record WrotePart (old new : Option (List ℕ)) (bytes : List ℕ) : Type 0 where
  pub count : ℕ
  pub proper : count < length bytes
  pub front : new ≡ append_known old (take count bytes)
