-- What a call of the program serves, for which device, and what it sent to that.
use Rattle.std.specs.Prelude.{◌≡◌, if◌then◌else◌, ℕ, Bool, ◌&&◌, not, true, false, List, [], ◌∷◌, Option, None, Some}
use Rattle.std.specs.List.{list_any}
use Rattle.caa_base.specs.declared.outside.plant.Plant.{Ghosts as PlantGhosts}
use Rattle.caa_base.specs.declared.outside.sink.Sink.{Ghosts as SinkGhosts}
use Rattle.caa_base.specs.declared.outside.source.Source.{Ghosts as SourceGhosts}
use Rattle.caa_base.specs.declared.written.entry.Entry.{Entry}
use Rattle.place_plan.specs.Plans.PlanValue.{Plan}
use Rattle.caa_commands.specs.Commands.{asks_for_threads, without_threads}
use Rattle.caa_commands.specs.Logging.{LogAnswers}
use Rattle.caa_commands.specs.OutsideUse.{SinkUse, PlantUse, plant_use, call_over}
use Rattle.caa_commands.specs.Scripts.{IsThePlan, IsRefusedScript}
use Rattle.caa_commands.specs.declared.command.Command.{Command}
use Rattle.caa_commands.specs.declared.fault.Refusal.{Refusal}
use Rattle.caa_commands.specs.declared.status.Status.{Status}
use Rattle.line_plant.specs.Devices.{LineDevice, WireCarried}
use Rattle.journal_replay.specs.Device.{history_after}
use Rattle.place_plan.specs.RulesOfJournals.Attempts.{is_attempt}
use Rattle.place_plan.specs.RulesOfJournals.Journals.{is_fault}
use Rattle.line_plant.specs.GivenUp.{fatal_places, says_failed}
use Rattle.line_plant.specs.Lines.{object_names}

-- the command that is served: by the call that may wait, where it needs threads, and else by the one that always returns
abbrev pub served_of : Option Command → Option Command
served_of asked = if asks_for_threads asked then asked else without_threads asked

-- these are the names of the objects of the plan, and the places whose failure ends the use of the device: its plays, unless it goes on
pub record IsOfPlan {S K : Type 0} (goes_on : Bool) (device : LineDevice S K) (plan : Plan) : Type 0 where
  pub names : device.names ≡ object_names plan
  pub fatal : device.fatal ≡ fatal_places goes_on plan

-- it is the device of this plan, which is that of the script that these bytes spell; or there is none, since the script is refused
abbrev pub IsOfScript : {S K : Type 0} → List ℕ → Bool → LineDevice S K → Option Plan → Type 0
IsOfScript bytes goes_on device (Some plan) = IsThePlan bytes plan × IsOfPlan goes_on device plan
IsOfScript bytes goes_on device None = (refusal : Refusal) × IsRefusedScript bytes refusal

-- a device that was made for the script of these bytes, with this plan, over a source that had this left and a sink that held this, and
-- was asked for nothing yet
pub record IsMadeFor {S K : Type 0} (bytes : List ℕ) (goes_on : Bool) (left held : Option (List ℕ)) (plan : Option Plan)
    (device : LineDevice S K) : Type 0 where
  pub of_script : IsOfScript bytes goes_on device plan
  pub start : device.start ≡ held
  pub to_come : device.to_come ≡ left
  pub unasked : device.asked ≡ []

-- the two are made with the same: names, the places whose failure ends their use, and what their streams held at first
pub record AreMadeAlike {S K : Type 0} (one other : LineDevice S K) : Type 0 where
  pub names : one.names ≡ other.names
  pub fatal : one.fatal ≡ other.fatal
  pub start : one.start ≡ other.start
  pub to_come : one.to_come ≡ other.to_come

-- all that ever came to the device, by the use that the call made of it, is what went over its wire; and it is the one that was made
pub record IsOnWire {P S K : Type 0} (sources : SourceGhosts S) (sinks : SinkGhosts K) (plant : PlantUse P) (made device : LineDevice S K) :
    Type 0 where
  pub alike : AreMadeAlike device made
  pub history : plant.history ≡ Some device.asked
  pub carried : WireCarried sources sinks device

-- the device took the put of the entry
abbrev pub is_taken : Entry → Bool
is_taken e = is_attempt e && not (is_fault e)

-- once one of these places ended as failed, no put is taken any more
abbrev pub NothingMoves : List ℕ → List Entry → Type 0
NothingMoves places [] = Unit {0}
NothingMoves places (e ∷ later) = (says_failed places e ≡ true → list_any is_taken later ≡ false) × NothingMoves places later

-- so it is with the journal that was played on the device
abbrev pub StandsStill : {P : Type 0} → PlantUse P → List ℕ → List Entry → Type 0
StandsStill plant fatal journal = (plan : Plan) → plant.history ≡ history_after plan journal plant.history_before → NothingMoves fatal journal

-- a call that makes its device for the script of these bytes, and serves a command over them
pub record Serves {S P A K : Type 0} (sources : SourceGhosts S) (plants : PlantGhosts P) (answers : SourceGhosts A) (sinks : SinkGhosts K)
    (lines : P → LineDevice A K) (asked : Option Command) (bytes : List ℕ) (goes_on : Bool) (to_come held : Option (List ℕ))
    (plan : Option Plan) (left : P) (journal : List Entry) (log : SinkUse) (answer : Status) : Type 0 where
  pub device : P
  pub made : IsMadeFor bytes goes_on to_come held plan (lines device)
  pub source : S
  pub read : S
  pub whole : sources.left source ≡ Some bytes
  pub answered : LogAnswers (call_over sources plants (served_of asked) source read device left journal) log answer
  pub wire : IsOnWire answers sinks (plant_use plants device left) (lines device) (lines left)
  pub still : StandsStill (plant_use plants device left) (lines device).fatal journal
