-- The marks of entries. A verdict and an outcome are kept as a mark, and an exception beside it, which is 0 where none is signalled.
use Rattle.std.specs.Prelude.{ℕ, ◌==◌, if◌then◌else◌}
use Rattle.caa_base.specs.declared.written.entry.Outcome.{Outcome}
use Rattle.caa_base.specs.declared.written.entry.Outcome.TheVariants as outcome
use Rattle.caa_base.specs.declared.written.entry.Verdict.{Verdict}
use Rattle.caa_base.specs.declared.written.entry.Verdict.TheVariants as verdict

-- the mark of a verdict, and the exception beside it
abbrev pub verdict_mark : Verdict → ℕ × ℕ
verdict_mark verdict.Done = (0, 0)
verdict_mark (verdict.Signal x) = (1, x)
verdict_mark verdict.Undo = (2, 0)

-- the verdict of a mark with an exception beside it; a mark that no verdict has is read as undo
abbrev pub verdict_of_mark : ℕ → ℕ → Verdict
verdict_of_mark mark x =
    if mark == 0 then verdict.Done
    else (if mark == 1 then verdict.Signal x else verdict.Undo)

-- the mark of an outcome, and the exception beside it
abbrev pub outcome_mark : Outcome → ℕ × ℕ
outcome_mark outcome.Commit = (0, 0)
outcome_mark (outcome.Signal x) = (1, x)
outcome_mark outcome.Undone = (2, 0)
outcome_mark outcome.Aborted = (3, 0)
outcome_mark outcome.Failed = (4, 0)

-- its mark alone
abbrev pub mark_of : Outcome → ℕ
mark_of o = (outcome_mark o).0

-- the outcome of a mark with an exception beside it; a mark that no outcome has is read as failed
abbrev pub outcome_of_mark : ℕ → ℕ → Outcome
outcome_of_mark mark x =
    if mark == 0 then outcome.Commit
    else (if mark == 1 then outcome.Signal x
    else (if mark == 2 then outcome.Undone
    else (if mark == 3 then outcome.Aborted else outcome.Failed)))

-- the mark of an entry of which nothing more is to be told
abbrev pub no_mark : ℕ
no_mark = 0

-- the mark of an Abort or a Leave that names an exception
abbrev pub naming_mark : ℕ
naming_mark = 1

-- the marks of a Restore: the device took it, or refused it
abbrev pub taken_mark : ℕ
taken_mark = 0

abbrev pub refused_mark : ℕ
refused_mark = 1
