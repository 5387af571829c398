-- What a table of refused puts says of the drills that refuse them.
use Rattle.std.specs.Prelude.{◌≡◌, ℕ, ◌==◌, Bool, ◌&&◌, List}
use Rattle.std.specs.List.{list_any}
use Rattle.std.specs.HashSet.{HashSet, contains}
use Rattle.caa_base.specs.declared.written.entry.Drill.{Drill}
use Rattle.script_checker.specs.Numbers.{is_drill}

-- a put is told by its object and by which put of the object it is
abbrev pub same_put : ℕ × ℕ → ℕ × ℕ → Bool
same_put a b = (a.0 == b.0) && (a.1 == b.1)

-- the table has just the puts that are drilled
abbrev pub HasPutsOf : {S : Type 0} → HashSet (ℕ × ℕ) S → List Drill → Type 0
HasPutsOf puts drills = (object nth : ℕ) → contains same_put puts (object, nth) ≡ list_any (is_drill object nth) drills
