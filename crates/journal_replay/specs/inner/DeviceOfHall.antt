-- What a hall keeps of its device.
use Rattle.std.specs.Prelude.{◌≡◌, ℕ, ◌+◌, ◌-◌, ◌^◌, ◌<◌, ◌≤◌, List, length, Option, Some}
use Rattle.caa_base.specs.declared.written.entry.Entry.{Entry}
use Rattle.caa_base.specs.Outside.PlantState.{PlantState, Drilling}
use Rattle.caa_base.specs.declared.outside.plant.Asked.{Asked}
use Rattle.place_plan.specs.Plans.PlanValue.{Plan}
use Rattle.place_plan.specs.Plans.Bound.{bound}
use Rattle.place_plan.specs.RulesOfJournals.Journals.{faults_in}
use Rattle.journal_replay.specs.Device.{attempts_in, history_after, history_before, HasValues, HasDrills}

-- a device, seen as what it was ever asked for, its count of faults, its calls, its room for calls, its objects, and what it tells
pub record Device : Type 0 where
  pub history : Option (List Asked)
  pub faults : ℕ
  pub calls : ℕ
  pub room : ℕ
  pub objects : ℕ
  pub state : Option PlantState
  pub drilling : Option Drilling

-- the count of faults rose by one for each put and restore of the journal that was refused, as long as it doesn't stand at its end
abbrev pub IsCounted : ℕ → ℕ → List Entry → Type 0
IsCounted base count journal = count < 2 ^ 64 - 1 → count ≡ base + faults_in journal

-- the device was asked what the journal says, and nothing else
pub record FitsJournal (plan : Plan) (base : ℕ) (journal : List Entry) (device : Device) : Type 0 where
  pub history : device.history ≡ history_after plan journal (history_before journal device.history)
  pub begun : base ≤ device.faults
  pub counted : IsCounted base device.faults journal
  pub calls : device.calls ≡ attempts_in journal
  pub room : device.room ≡ bound plan
  pub objects : device.objects ≡ length plan.objects
  pub state : (s : PlantState) → device.state ≡ Some s → HasValues plan journal s
  pub drilling : (d : Drilling) → device.drilling ≡ Some d → HasDrills plan journal d
