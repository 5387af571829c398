-- What is kept of all objects, and the journal that it stands for.
use Rattle.std.specs.Prelude.{◌≡◌, ℕ, ℤ, pos, ◌<◌, true, List, [], None, length, slice_index_or}
use Rattle.caa_base.specs.Written.Limits.{most_depth}
use Rattle.caa_base.specs.declared.written.entry.Entry.{Entry}
use Rattle.place_plan.specs.Plans.PlanValue.{Plan}
use Rattle.place_plan.specs.Plans.Places.{around, uses}
use Rattle.place_plan.specs.RulesOfJournals.Whereabouts.{is_live}
use Rattle.place_plan.specs.RulesOfJournals.Objects.{holder_of, value_of, before_start}
use Rattle.object_versions.specs.declared.version.Version.{Version}

-- of an object that isn't there nothing is kept
abbrev pub nothing_kept : Version
nothing_kept = record { value = pos 0; holder = None; saved = [] }

-- what is kept of o
abbrev pub at : List Version → ℕ → Version
at versions o = slice_index_or versions o nothing_kept

-- how many places stand round p
abbrev pub depth : Plan → ℕ → ℕ
depth plan p = length (around plan p)

-- the value that the place so deep has saved
abbrev pub saved_at : Version → ℕ → ℤ
saved_at version d = slice_index_or version.saved d (pos 0)

-- what is kept of o is its holder and its value by the past, and for each live place that uses it the value at the start of that place
pub record IsVersionOf (plan : Plan) (past : List Entry) (o : ℕ) (version : Version) : Type 0 where
  pub holder : version.holder ≡ holder_of plan past o
  pub value : version.value ≡ value_of plan past o
  pub room : length version.saved ≡ most_depth
  pub at_start : (p : ℕ) → is_live past p ≡ true → uses plan p o ≡ true
      → saved_at version (depth plan p) ≡ value_of plan (before_start past p) o

-- so it is for each object of the plan
pub record StandsFor (plan : Plan) (past : List Entry) (versions : List Version) : Type 0 where
  pub as_many : length versions ≡ length plan.objects
  pub each : (o : ℕ) → o < length plan.objects → IsVersionOf plan past o (at versions o)
