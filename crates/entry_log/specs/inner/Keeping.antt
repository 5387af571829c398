-- What a device with a log keeps from one call to the next.
use Rattle.std.specs.Prelude.{◌≡◌, ℕ, true, List, [], map, IfSome}
use Rattle.caa_base.specs.declared.outside.plant.Plant.{Ghosts as PlantGhosts}
use Rattle.caa_base.specs.declared.outside.sink.Sink.{Ghosts as SinkGhosts}
use Rattle.place_plan.specs.Plans.PlanValue.{Plan}
use Rattle.place_plan.specs.RulesOfJournals.WellFormed.{AllWellFormed}
use Rattle.entry_log.specs.declared.course.Course.{Course}
use Rattle.entry_log.specs.declared.line_log.LineLog.{LineLog}
use Rattle.entry_log.specs.declared.line_log.LogStage.TheVariants as stage
use Rattle.entry_log.specs.Live.{IsLive, entries_with, opening_of}
use Rattle.entry_log.specs.LineLogs.{Tells}
use Rattle.entry_log.specs.LoggedPlants.{IsOnlyPlanOf, was_laid}

pub record Keeps {P K : Type 0} (plants : PlantGhosts P) (sinks : SinkGhosts K) (script : List ℕ) (plan : Plan) (plant : P)
    (log : LineLog K) (course : Course K) : Type 0 where
  pub planned : IsOnlyPlanOf script plan
  pub all : IfSome (plants.history plant) (λ all. all ≡ map (λ m. m.came) course.seen)
  pub begun : was_laid course.seen ≡ true → log.stage ≡ stage.Unopened → ⊥
  pub told : AllWellFormed plan (entries_with [] course.seen) → Tells sinks plan (opening_of sinks course.opened) log (entries_with [] course.seen)
  pub live : AllWellFormed plan (entries_with [] course.seen) → IsLive sinks plan (opening_of sinks course.opened) [] course.seen
