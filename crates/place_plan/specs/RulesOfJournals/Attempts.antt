-- How a journal asks the device, attempt by attempt, and whether the device refused just what it was drilled to refuse.
use Rattle.std.specs.Prelude.{◌≡◌, ℕ, ◌==◌, Bool, ◌&&◌, ◌||◌, List, filter, slice_get, Some, suc}
use Rattle.caa_base.specs.declared.written.entry.Entry.{Entry}
use Rattle.caa_base.specs.declared.written.entry.Kind.TheVariants as kind
use Rattle.caa_base.specs.Outside.PlantState.{has_drill}
use Rattle.place_plan.specs.Plans.PlanValue.{Plan}
use Rattle.place_plan.specs.RulesOfJournals.Entries.{is_of}
use Rattle.place_plan.specs.RulesOfJournals.Journals.{is_fault}

-- the entry asks the device to change an object
abbrev pub is_attempt : Entry → Bool
is_attempt e = is_of kind.Write e || (is_of kind.PutFault e || is_of kind.Restore e)

-- the entry asks the device to change o
abbrev pub is_attempt_on : ℕ → Entry → Bool
is_attempt_on o e = is_attempt e && (e.arg == o)

-- the attempts on o in a journal, in order
abbrev pub attempts_on : List Entry → ℕ → List Entry
attempts_on journal o = filter (is_attempt_on o) journal

-- of the attempts on each object, counted from 1, the device refused just those that the plan drills
abbrev pub IsDrilled : Plan → List Entry → Type 0
IsDrilled plan journal =
    (o k : ℕ) (e : Entry)
    → slice_get (attempts_on journal o) k ≡ Some e → is_fault e ≡ has_drill plan.drills o (suc k)
