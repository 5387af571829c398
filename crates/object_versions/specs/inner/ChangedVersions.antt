-- What the calls change of what is kept, and the entries that do as much.
use Rattle.std.specs.Prelude.{◌≡◌, ℕ, ℤ, ◌<◌, true, false, List, ◌∷◌, Option, Some, length, slice_set}
use Rattle.caa_base.specs.Written.Lists.{member}
use Rattle.caa_base.specs.declared.written.entry.Entry.{Entry}
use Rattle.caa_base.specs.declared.written.entry.Kind.TheVariants as kind
use Rattle.place_plan.specs.Plans.PlanValue.{Plan}
use Rattle.place_plan.specs.Plans.Places.{parent, uses}
use Rattle.place_plan.specs.RulesOfJournals.Whereabouts.{is_live}
use Rattle.place_plan.specs.RulesOfJournals.Objects.{value_of}
use Rattle.place_plan.specs.RulesOfJournals.Journals.{is_put}
use Rattle.object_versions.specs.declared.version.Version.{Version}
use Rattle.object_versions.specs.inner.KeptVersions.{at, depth}

-- ---- changes of one object

-- p, which is so deep, takes the object, and its value is saved
abbrev pub taken : ℕ → ℕ → Version → Version
taken p d version = record version { holder = Some p; saved = slice_set version.saved d version.value }

-- this place has the object at its disposal, or none
abbrev pub held_by : Option ℕ → Version → Version
held_by holder version = record version { holder = holder }

-- the object has this value
abbrev pub valued : ℤ → Version → Version
valued v version = record version { value = v }

-- ---- changes of the objects of a place

-- the place round p has each object of p; for a play each is free
abbrev pub HasFree : Plan → ℕ → List Version → Type 0
HasFree plan p versions = (o : ℕ) → uses plan p o ≡ true → (at versions o).holder ≡ parent plan p

-- p has each of its objects
abbrev pub HoldsItsOwn : Plan → ℕ → List Version → Type 0
HoldsItsOwn plan p versions = (o : ℕ) → uses plan p o ≡ true → (at versions o).holder ≡ Some p

-- what is kept of each of these objects changes like this, and of no other
pub record ChangesEach (objects : List ℕ) (change : Version → Version) (old new : List Version) : Type 0 where
  pub as_many : length new ≡ length old
  pub each : (o : ℕ) → member o objects ≡ true → at new o ≡ change (at old o)
  pub others : (o : ℕ) → member o objects ≡ false → at new o ≡ at old o

-- ---- entries

-- the entry is the start of p, and each live place that shares an object with p is less deep
pub record Takes (plan : Plan) (past : List Entry) (e : Entry) (p : ℕ) : Type 0 where
  pub starts : e.kind ≡ kind.Start
  pub here : e.place ≡ p
  pub deepest : (o q : ℕ) → uses plan p o ≡ true → uses plan q o ≡ true → is_live past q ≡ true → depth plan q < depth plan p

-- the entry is the end of p
pub record GivesBack (e : Entry) (p : ℕ) : Type 0 where
  pub ends : e.kind ≡ kind.End
  pub here : e.place ≡ p

-- the device took this value of o by the entry, and it is the value of o from then on
pub record Puts (plan : Plan) (past : List Entry) (e : Entry) (o : ℕ) (v : ℤ) : Type 0 where
  pub takes : is_put e ≡ true
  pub object : e.arg ≡ o
  pub value : value_of plan (e ∷ past) o ≡ v
