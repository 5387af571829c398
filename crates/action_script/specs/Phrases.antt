-- How a cause is told: its number and its word.
use Rattle.std.specs.Prelude.{ℕ, List, codes}
use Rattle.action_script.specs.declared.script_error.ScriptCause.{ScriptCause}
use Rattle.action_script.specs.declared.script_error.ScriptCause.TheVariants as cause

abbrev pub phrase_of : ScriptCause → List ℕ
phrase_of cause.BadLine = codes "1 bad-line"
phrase_of cause.BadNumber = codes "2 bad-number"
phrase_of cause.BadName = codes "3 bad-name"
phrase_of cause.TooLong = codes "4 too-long"
phrase_of cause.OutOfMemory = codes "21 out-of-memory"
