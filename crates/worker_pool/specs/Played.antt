-- What comes of a pool.
use Rattle.std.specs.Prelude.{◌≡◌, Option, Some, None, []}
use Rattle.journal_text.specs.Watching.Looks.{Looks}

-- it is told what was seen, and that is nothing
abbrev pub HasNoLooks : Option Looks → Type 0
HasNoLooks (Some looks) = looks.seens ≡ []
HasNoLooks None = ⊥
