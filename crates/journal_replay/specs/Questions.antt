-- What is asked of a past beside what the rules name.
use Rattle.std.specs.Prelude.{ℕ, ◌==◌, if◌then◌else◌, Option, Some, None}
use Rattle.caa_base.specs.declared.written.entry.Entry.{Entry}
use Rattle.caa_base.specs.declared.written.entry.Outcome.{Outcome}
use Rattle.caa_base.specs.Written.Marks.{naming_mark}
use Rattle.place_plan.specs.RulesOfJournals.Whereabouts.{outcome_at}

-- the outcome that an End says, where there is one
abbrev pub outcome_of_end : Option Entry → Option Outcome
outcome_of_end None = None
outcome_of_end (Some e) = Some (outcome_at e)

-- the exception that an Abort names, where there is one
abbrev pub name_of_abort : Option Entry → Option ℕ
name_of_abort None = None
name_of_abort (Some e) = if e.mark == naming_mark then Some e.arg else None
