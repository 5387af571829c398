-- What stands first in a stream of which so many bytes have come.
use Rattle.std.specs.Prelude.{ℕ, ◌<◌, ◌≤◌}
use Rattle.server_messages.specs.declared.framing.Front.{Front}
use Rattle.server_messages.specs.declared.framing.Front.TheVariants as front

-- it lies within these bytes, and something goes off their front
abbrev pub IsWithin : Front → ℕ → Type 0
IsWithin front.Part count = Unit {0}
IsWithin (front.Body start end) count = (0 < start) × (start ≤ end) × (end ≤ count)
IsWithin (front.Odd end) count = (0 < end) × (end ≤ count)
IsWithin (front.TooLong start length) count = (0 < start) × (start ≤ count)
