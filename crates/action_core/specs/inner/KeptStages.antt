-- How far each place has come, and the journal that this stands for.
use Rattle.std.specs.Prelude.{◌≡◌, ℕ, false, List, None, length, slice_index_or}
use Rattle.caa_base.specs.declared.written.entry.Entry.{Entry}
use Rattle.caa_base.specs.declared.written.entry.Kind.TheVariants as kind
use Rattle.place_plan.specs.Plans.PlanValue.{Plan}
use Rattle.place_plan.specs.RulesOfJournals.Entries.{is_in, newest}
use Rattle.place_plan.specs.RulesOfJournals.Whereabouts.{has_started, is_undoing}
use Rattle.journal_replay.specs.Questions.{outcome_of_end}
use Rattle.action_core.specs.declared.stage.Stage.{Stage}

-- a place that isn't there never starts
abbrev pub unstarted : Stage
unstarted = record { started = false; undoing = false; ended = None }

-- how far p has come
abbrev pub at : List Stage → ℕ → Stage
at stages p = slice_index_or stages p unstarted

-- the stage is that of p by the past
pub record IsStageOf (past : List Entry) (p : ℕ) (stage : Stage) : Type 0 where
  pub started : stage.started ≡ has_started past p
  pub undoing : stage.undoing ≡ is_undoing past p
  pub ended : stage.ended ≡ outcome_of_end (newest (is_in kind.End p) past)

-- the stages are those of all places by the past
pub record StageOfEach (plan : Plan) (past : List Entry) (stages : List Stage) : Type 0 where
  pub as_many : length stages ≡ length plan.places
  pub each : (p : ℕ) → IsStageOf past p (at stages p)
