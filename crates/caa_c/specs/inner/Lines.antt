-- A line that was looked for in the room for one.
use Rattle.std.specs.Prelude.{◌≡◌, ℕ, Bool, true, false, List, Option, Some, None, Result, Ok, Err}
use Rattle.caa_base.specs.declared.written.entry.OutOfMemory.{OutOfMemory}
use Rattle.caa_c.specs.Handed.{IsHanded, IsUnhanded}
use Rattle.caa_c.specs.declared.code.Code.{Code}
use Rattle.caa_c.specs.declared.code.Code.TheVariants as code

-- the line in the room, where it was found
abbrev pub line_found : Bool → List ℕ → Option (List ℕ)
line_found true line = Some line
line_found false line = None

-- what C is handed of it, and answered
abbrev pub HandsLine : Result Bool OutOfMemory → List ℕ → List ℕ → List ℕ → ℕ → Code → Type 0
HandsLine (Ok true) line before after n c = IsHanded line before after n × (c ≡ code.Done)
HandsLine (Ok false) line before after n c = IsUnhanded before after n × (c ≡ code.Unfit)
HandsLine (Err error) line before after n c = IsUnhanded before after n × (c ≡ code.NoMemory)
