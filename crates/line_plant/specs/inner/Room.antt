-- How much memory the line of a put takes.
use Rattle.std.specs.Prelude.{ℕ, ◌+◌, ◌<◌, ◌≤◌, List, length}
use Rattle.caa_base.specs.Written.Names.{name_at}

-- the most bytes of a line that puts the object of this name, or restores it: a word of at most 7, a number and a value of at most 20
-- each, three spaces and the line feed
abbrev pub most_put_bytes : List ℕ → ℕ
most_put_bytes name = length name + 51

-- there is room for the line of each put of the first so many objects
abbrev pub HasRoom : ℕ → List (List ℕ) → ℕ → Type 0
HasRoom objects names room = (n : ℕ) → n < objects → most_put_bytes (name_at names n) ≤ room
