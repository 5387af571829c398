-- Who sleeps on after a turn, and when a play has ended in it.
use Rattle.std.specs.Prelude.{◌≡◌, ◌⊎◌, ℕ, Bool, true, false, List, reverse}
use Rattle.cover_table.specs.Cover.{has_bit}
use Rattle.caa_base.specs.declared.written.entry.Entry.{Entry}
use Rattle.place_plan.specs.Plans.PlanValue.{Plan}
use Rattle.place_plan.specs.RulesOfJournals.Journals.{ends_play}
use Rattle.place_plan.specs.declared.rules.machine.Answer.{Answer}
use Rattle.place_plan.specs.declared.rules.machine.Answer.TheVariants as answer
use Rattle.journal_laws.specs.Laws.{wakes}

-- the answer is the entry that ends a play
abbrev pub did_end : Plan → Answer → Bool
did_end plan (answer.Did e) = ends_play plan e
did_end plan _ = false

-- t may sleep on after an answer to a participant, which left this journal, where this crew slept before: it slept, and the entry, if
-- one was made, doesn't wake it; or it is the participant, which has no entry now
abbrev pub SleepsOn : Plan → List Entry → ℕ → Answer → ℕ → ℕ → Type 0
SleepsOn plan journal by (answer.Did e) asleep t = (has_bit asleep t ≡ true) × (wakes plan (reverse journal) e t ≡ false)
SleepsOn plan journal by answer.NotYet asleep t = (has_bit asleep t ≡ true) ⊎ (t ≡ by)
SleepsOn plan journal by _ asleep t = has_bit asleep t ≡ true
