-- Which step of a script a put of a journal is, and a journal that refuses just this one.
use Rattle.std.specs.Prelude.{◌≡◌, ℕ, true, false, List, Some, slice_get, take, reverse, unwrap_or}
use Rattle.caa_base.specs.declared.written.entry.Entry.{Entry}
use Rattle.caa_base.specs.declared.written.entry.Kind.{Kind}
use Rattle.caa_base.specs.declared.written.entry.Kind.TheVariants as kind
use Rattle.place_plan.specs.Plans.PlanValue.{Plan}
use Rattle.place_plan.specs.Plans.Places.{place_at, role_of}
use Rattle.place_plan.specs.RulesOfJournals.Journals.{is_put}
use Rattle.place_plan.specs.RulesOfJournals.Raising.{exception_handled}
use Rattle.place_plan.specs.RulesOfJournals.Roles.{position}
use Rattle.journal_replay.specs.IsDue.{IsRefusalOf}
use Rattle.fault_trials.specs.declared.modes.Spot.{Spot}
use Rattle.fault_trials.specs.declared.modes.Spot.TheVariants as spot
use Rattle.fault_trials.specs.declared.puts.Put.{Put}

-- the step of its role that a put is: of the handler that the role has begun, or of its body
abbrev pub step_spot : Plan → List Entry → Entry → Spot
step_spot plan past e =
    spot.Step (place_at plan e.place).action (unwrap_or (role_of plan e.place e.by) 0) (exception_handled past e.place e.by)
    (position plan past e.place e.by)

-- what a put of this kind stands for: a restore for an object that its action sets back, and another for a step of its role
abbrev pub spot_by : Kind → Plan → List Entry → Entry → Spot
spot_by kind.Restore plan past e = spot.Back (place_at plan e.place).action e.arg
spot_by _ plan past e = step_spot plan past e

-- what a put stands for, which comes after this past
abbrev pub spot_of : Plan → List Entry → Entry → Spot
spot_of plan past e = spot_by e.kind plan past e

-- up to the entry i the journals say the same, and there the device refuses in the other the put that it took
pub record RefusedAt (base tried : List Entry) (i : ℕ) (put : Entry) : Type 0 where
  pub before : take i base ≡ take i tried
  pub refused : Entry
  pub there : slice_get tried i ≡ Some refused
  pub twin : IsRefusalOf refused put

-- the entry i of the journal is this put, which the device took, with what it stands for
pub record IsPutAt (plan : Plan) (journal : List Entry) (i : ℕ) (put : Put) : Type 0 where
  pub index : put.index ≡ i
  pub stands : slice_get journal i ≡ Some put.entry
  pub taken : is_put put.entry ≡ true
  pub spot : put.spot ≡ spot_of plan (reverse (take i journal)) put.entry

-- the entry i of the journal, if there is one, is no put that the device took
pub record HasNoPutAt (journal : List Entry) (i : ℕ) : Type 0 where
  pub none : (e : Entry) → slice_get journal i ≡ Some e → is_put e ≡ false
