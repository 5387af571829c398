-- The numbers by which C is answered.
use Rattle.std.specs.Prelude.{ℕ, Option, Some, None}
use Rattle.caa_base.specs.declared.written.entry.Outcome.{Outcome}
use Rattle.caa_base.specs.declared.written.entry.Outcome.TheVariants as outcome
use Rattle.journal_replay.specs.declared.moves.Lack.{Lack}
use Rattle.journal_replay.specs.declared.moves.Lack.TheVariants as lack
use Rattle.caa_c.specs.declared.code.Code.{Code}
use Rattle.caa_c.specs.declared.code.Code.TheVariants as code

-- the number of an answer
abbrev pub number_of : Code → ℕ
number_of code.Closed = 0
number_of code.Done = 1
number_of code.Refused = 2
number_of code.NoMemory = 3
number_of code.Unfit = 4
number_of code.Did = 5
number_of code.Works = 6
number_of code.Puts = 7
number_of code.Busy = 8
number_of code.Waits = 9
number_of code.Over = 10

-- the number of what is lacking
abbrev pub lack_number : Lack → ℕ
lack_number lack.Roles = 1
lack_number lack.Objects = 2
lack_number lack.Halts = 3
lack_number lack.Verdicts = 4
lack_number lack.GiveUps = 5
lack_number (lack.Object o) = 6

-- the number of an outcome, if there is one
abbrev pub outcome_number : Option Outcome → ℕ
outcome_number None = 0
outcome_number (Some outcome.Commit) = 1
outcome_number (Some (outcome.Signal x)) = 2
outcome_number (Some outcome.Undone) = 3
outcome_number (Some outcome.Aborted) = 4
outcome_number (Some outcome.Failed) = 5
