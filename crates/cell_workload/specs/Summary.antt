-- The summary of a journal of the production cell; `entries` is the journal, the oldest entry first.
use Rattle.std.specs.Prelude.{ℕ, ◌+◌, ◌==◌, Bool, ◌&&◌, if◌then◌else◌, List, [], ◌∷◌, ◌++◌, reverse, codes, decimal}
use Rattle.caa_base.specs.declared.written.entry.Entry.{Entry}
use Rattle.caa_base.specs.declared.written.entry.Kind.TheVariants as kind
use Rattle.caa_base.specs.declared.written.entry.Outcome.TheVariants as outcome
use Rattle.caa_base.specs.Written.Lines.{line}
use Rattle.caa_base.specs.Written.Marks.{mark_of}
use Rattle.place_plan.specs.Plans.PlanValue.{Plan}
use Rattle.place_plan.specs.RulesOfJournals.Entries.{is_of}
use Rattle.place_plan.specs.RulesOfJournals.Whereabouts.{outcome_at}
use Rattle.journal_text.specs.Texts.Text.{object_lines}

-- an entry is the End of a place, with an outcome of this mark
abbrev pub says_outcome : ℕ → Entry → Bool
says_outcome mark e = is_of kind.End e && (mark_of (outcome_at e) == mark)

-- how many places ended so
abbrev pub ends_counted : ℕ → List Entry → ℕ
ends_counted mark [] = 0
ends_counted mark (e ∷ entries) = (if says_outcome mark e then 1 else 0) + ends_counted mark entries

-- a word with a number behind it, on a line of their own
abbrev pub counted_line : List ℕ → ℕ → List ℕ
counted_line word count = line word (decimal count ∷ [])

-- how many places were kept, were kept and signalled an exception, were undone, were aborted, and failed
abbrev pub ending_lines : List Entry → List ℕ
ending_lines entries =
    counted_line (codes "commit") (ends_counted (mark_of outcome.Commit) entries)
    ++ (counted_line (codes "signal") (ends_counted (mark_of (outcome.Signal 0)) entries)
    ++ (counted_line (codes "undone") (ends_counted (mark_of outcome.Undone) entries)
    ++ (counted_line (codes "aborted") (ends_counted (mark_of outcome.Aborted) entries)
    ++ counted_line (codes "failed") (ends_counted (mark_of outcome.Failed) entries))))

-- the number of cycles, how the places ended, and the value of each object after the journal
abbrev pub summary_text : Plan → List Entry → ℕ → List ℕ
summary_text plan entries cycles =
    counted_line (codes "cell") cycles ++ (ending_lines entries ++ object_lines plan (reverse entries))
