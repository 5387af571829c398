-- What C is told of what is next for a participant.
use Rattle.std.specs.Prelude.{ℕ, pos, false}
use Rattle.caa_base.specs.declared.written.entry.Entry.{Entry}
use Rattle.caa_base.specs.declared.written.entry.Kind.TheVariants as kind
use Rattle.place_plan.specs.RulesOfJournals.Entries.{is_of}
use Rattle.journal_replay.specs.declared.moves.Lack.{Lack}
use Rattle.journal_replay.specs.declared.moves.Lack.TheVariants as lack
use Rattle.told_machine.specs.declared.next.Next.{Next}
use Rattle.told_machine.specs.declared.next.Next.TheVariants as next
use Rattle.caa_c.specs.declared.code.Code.{Code}
use Rattle.caa_c.specs.declared.code.Code.TheVariants as code
use Rattle.caa_c.specs.declared.step.Step.{Step}
use Rattle.caa_c.specs.Codes.{number_of, lack_number}

-- this answer, and nothing besides
abbrev pub bare_step : Code → Step
bare_step c =
    record { what = number_of c; place = 0; object = 0; rounds = 0; lack = 0; value = pos 0; entry = 0; ticket = 0; restores = false }

-- the object is to be brought to the value of this put, or of this restore
abbrev pub put_step : Code → Entry → Step
put_step c put =
    record (bare_step c) { place = put.place; object = put.arg; value = put.value; restores = is_of kind.Restore put }

-- the object that is lacking, if it is one
abbrev pub object_lacking : Lack → ℕ
object_lacking (lack.Object o) = o
object_lacking _ = 0

-- what is told of an answer of the machine, at a journal of n entries
abbrev pub step_of : Next → ℕ → Step
step_of (next.Did e) n = record (bare_step code.Did) { place = e.place; entry = n }
step_of (next.Works work ticket) n = record (bare_step code.Works) { place = work.place; rounds = work.rounds; ticket = ticket }
step_of (next.Puts put) n = put_step code.Puts put
step_of (next.Busy put) n = put_step code.Busy put
step_of (next.Waits wait) n =
    record (bare_step code.Waits) { place = wait.place; lack = lack_number wait.lack; object = object_lacking wait.lack }
step_of next.Over n = bare_step code.Over
