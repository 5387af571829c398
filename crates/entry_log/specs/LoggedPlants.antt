-- A device that writes the journal of its play as it moves.
use Rattle.std.specs.Prelude.{◌≡◌, ℕ, Bool, false, ◌||◌, if◌then◌else◌, List, [], ◌∷◌, Option, None, Some, Ok}
use Rattle.action_script.specs.Forms.ScriptValue.{Script}
use Rattle.action_script.specs.Lines.Spelling.{reading_of}
use Rattle.caa_base.specs.declared.outside.plant.Asked.{Asked}
use Rattle.caa_base.specs.declared.outside.plant.Asked.TheVariants as asked
use Rattle.caa_base.specs.declared.outside.plant.Plant.{Ghosts as PlantGhosts}
use Rattle.place_plan.specs.Plans.PlanValue.{Plan}
use Rattle.script_checker.specs.Compiled.{IsPlanOf}
use Rattle.entry_log.specs.declared.line_log.LineLog.{LineLog}
use Rattle.entry_log.specs.Live.{Opening, Moment}

-- the bytes spell a script that has this plan
pub record SpellPlan (bytes : List ℕ) (plan : Plan) : Type 0 where
  pub script : Script
  pub spelled : reading_of bytes ≡ Ok script
  pub compiled : IsPlanOf script plan

-- and no other
pub record IsOnlyPlanOf (bytes : List ℕ) (plan : Plan) : Type 0 where
  pub has : SpellPlan bytes plan
  pub only : (other : Plan) → SpellPlan bytes other → other ≡ plan

-- a device with a log: the script, and the plan of that, by which the log is written; the device, and the log; how the sink of the log
-- was at first; and all that came to the device, the oldest first
pub record LoggedDevice (P K : Type 0) : Type 0 where
  pub script : List ℕ
  pub plan : Plan
  pub plant : P
  pub log : LineLog K
  pub opening : Opening
  pub course : List (Moment K)

-- the same when all is over
pub record ClosedDevice (P K : Type 0) : Type 0 where
  pub plant : P
  pub plan : Plan
  pub log : LineLog K
  pub course : List (Moment K)

-- it was laid out
abbrev pub is_laid : Asked → Bool
is_laid (asked.Laid values drills puts done) = done
is_laid (asked.Put object value back done) = false
is_laid (asked.Entered e) = false

-- the device was laid out in this course
abbrev pub was_laid : {K : Type 0} → List (Moment K) → Bool
was_laid [] = false
was_laid (m ∷ later) = is_laid m.came || was_laid later

-- how many objects the device can be asked to put: none before it was laid out
abbrev pub objects_of : {P K : Type 0} → PlantGhosts P → LoggedDevice P K → ℕ
objects_of plants device = if was_laid device.course then plants.objects device.plant else 0

-- what is known, written as numbers
abbrev pub coded : Option (List ℕ) → List ℕ
coded None = []
coded (Some bytes) = 1 ∷ bytes

-- what a device with a log was made with: the script, how its sink was at first, and what the device beneath was made with
abbrev pub constants_of : {P K : Type 0} → PlantGhosts P → LoggedDevice P K → List (List ℕ)
constants_of plants device =
    device.script ∷ coded device.opening.held ∷ (device.opening.faults ∷ []) ∷ plants.constants device.plant
