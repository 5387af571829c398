-- The table of refused puts.
use Rattle.std.specs.Prelude.{◌≡◌, ℕ, true, List, [], ◌∷◌, ◌++◌, length, Some, slice_get, take, reverse}
use Rattle.std.specs.List.{All, Contains}
use Rattle.caa_base.specs.declared.written.entry.Entry.{Entry}
use Rattle.place_plan.specs.Plans.PlanValue.{Plan}
use Rattle.place_plan.specs.Plans.Places.{top_of}
use Rattle.place_plan.specs.RulesOfJournals.Journals.{IsLegal, IsComplete, is_put, faults_in}
use Rattle.fault_trials.specs.Puts.{RefusedAt, spot_of}
use Rattle.fault_trials.specs.Classes.{Measure, class_of}
use Rattle.fault_trials.specs.Measures.{IsMeasured}
use Rattle.fault_trials.specs.declared.modes.Class.{Class}
use Rattle.fault_trials.specs.declared.modes.Mode.{Mode}
use Rattle.fault_trials.specs.declared.modes.Mode.TheVariants as mode
use Rattle.fault_trials.specs.declared.modes.Spot.{Spot}
use Rattle.fault_trials.specs.declared.trials.Base.{Base}
use Rattle.fault_trials.specs.declared.trials.Line.{Line}
use Rattle.fault_trials.specs.declared.trials.Question.{Question}

-- the lines of a table grew, if at all: none was taken away
pub record Grown (old new : List Line) : Type 0 where
  pub more : List Line
  pub added : new ≡ old ++ more

-- one line was added, which says that puts of this spot were refused in this mode, and to which class that came
pub record Added (old new : List Line) (spot : Spot) (mode : Mode) (class : Class) : Type 0 where
  pub line : Line
  pub added : new ≡ old ++ line ∷ []
  pub of_spot : line.spot ≡ spot
  pub in_mode : line.mode ≡ mode
  pub of_class : line.class ≡ class

-- some line says that a put of this spot, refused alone, came to this class
pub record Tells (lines : List Line) (spot : Spot) (class : Class) : Type 0 where
  pub line : Line
  pub stands : Contains lines line
  pub of_spot : line.spot ≡ spot
  pub alone : line.mode ≡ mode.Once
  pub of_class : line.class ≡ class

-- the put that is the entry i of a journal was refused alone: there is a legal and complete journal that refuses just this put, and
-- no other, and the table has a line with its spot, and with the class of what that journal shows of its play
pub record IsTried (plan : Plan) (m : Measure) (lines : List Line) (base : List Entry) (i : ℕ) (put : Entry) : Type 0 where
  pub tried : List Entry
  pub legal : IsLegal plan tried
  pub complete : IsComplete plan tried
  pub refused : RefusedAt base tried i put
  pub alone : faults_in tried ≡ 1
  pub told : Tells lines (spot_of plan (reverse (take i base)) put) (class_of plan m tried (top_of plan put.place))

-- if the entry i of a journal is a put, it was
pub record TriesAt (plan : Plan) (m : Measure) (lines : List Line) (base : List Entry) (i : ℕ) : Type 0 where
  pub of_put : (put : Entry) → slice_get base i ≡ Some put → is_put put ≡ true → IsTried plan m lines base i put

-- each put of a journal was
pub record AllTried (plan : Plan) (m : Measure) (lines : List Line) (base : List Entry) : Type 0 where
  pub each : (i : ℕ) → TriesAt plan m lines base i

-- the journal is legal and complete, and the device refused nothing
pub record IsWhole (plan : Plan) (base : Base) : Type 0 where
  pub legal : IsLegal plan base.journal.entries
  pub complete : IsComplete plan base.journal.entries
  pub unrefused : faults_in base.journal.entries ≡ 0

-- there are as many legal and complete journals without a fault as was asked for. What has to be off and what is counted up is what
-- was asked, and what counts as usual is of these journals. The table has a line for each put of each
pub record Tabled (plan : Plan) (question : Question) (m : Measure) (lines : List Line) : Type 0 where
  pub bases : List Base
  pub all : length bases ≡ question.schedules
  pub whole : All (IsWhole plan) bases
  pub off : m.off ≡ question.off.items
  pub counted : m.counted ≡ question.counted.items
  pub measured : IsMeasured plan m bases
  pub tried : All (λ base. AllTried plan m lines base.journal.entries) bases
