-- By which entries a device is given up, and what it does after that.
use Rattle.std.specs.Prelude.{◌≡◌, ℕ, ◌==◌, Bool, ◌&&◌, true, false, if◌then◌else◌, List, [], ◌∷◌}
use Rattle.caa_base.specs.Written.Lists.{member}
use Rattle.caa_base.specs.Written.Marks.{mark_of}
use Rattle.caa_base.specs.declared.outside.plant.Asked.{Asked}
use Rattle.caa_base.specs.declared.outside.plant.Asked.TheVariants as asked
use Rattle.caa_base.specs.declared.written.entry.Entry.{Entry}
use Rattle.caa_base.specs.declared.written.entry.Kind.TheVariants as kind
use Rattle.caa_base.specs.declared.written.entry.Outcome.TheVariants as outcome
use Rattle.place_plan.specs.Plans.PlanValue.{Plan}
use Rattle.place_plan.specs.RulesOfJournals.Entries.{is_of}
use Rattle.line_plant.specs.Sent.{NoneDone}

-- the entry says that one of these places ended as failed
abbrev pub says_failed : List ℕ → Entry → Bool
says_failed places e = is_of kind.End e && ((e.mark == mark_of outcome.Failed) && member e.place places)

-- a device is told that one of these places ended as failed
abbrev pub tells_failed : List ℕ → Asked → Bool
tells_failed places (asked.Laid values drills puts done) = false
tells_failed places (asked.Put object value back done) = false
tells_failed places (asked.Entered e) = says_failed places e

-- once it was told that one of these places ended as failed, it did nothing any more
abbrev pub StaysStill : List ℕ → List Asked → Type 0
StaysStill places [] = Unit {0}
StaysStill places (a ∷ more) = (tells_failed places a ≡ true → NoneDone more) × StaysStill places more

-- the places whose failure ends the use of a device: the plays of the plan, or none, where it goes on
abbrev pub fatal_places : Bool → Plan → List ℕ
fatal_places goes_on plan = if goes_on then [] else plan.plays
