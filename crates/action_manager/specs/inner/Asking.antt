-- Turns that ask on after a work, and turns that don't.
use Rattle.std.specs.Prelude.{ℕ, Bool, true, false, Option}
use Rattle.caa_base.specs.Written.Mixing.{Worked}
use Rattle.place_plan.specs.Plans.PlanValue.{Plan}
use Rattle.place_plan.specs.RulesOfJournals.Machine.{Answers}
use Rattle.place_plan.specs.declared.rules.machine.Answer.{Answer}
use Rattle.action_manager.specs.OwnEntries.{Journal}
use Rattle.action_manager.specs.Stepping.{AnswersTurn, Steps, StepsOn}

-- what a turn answers, by whether it asks on
abbrev pub AnswersAs : Bool → Plan → Journal → Journal → ℕ → Option Worked → Answer → Type 0
AnswersAs true = AnswersTurn
AnswersAs false = Answers

-- what a seat has seen after a turn and what it is told, by whether the turn asks on
abbrev pub StepsAs : Bool → Plan → Journal → Journal → ℕ → Option Worked → Answer → Type 0
StepsAs true = StepsOn
StepsAs false = Steps
