-- What an answer adds to a journal.
use Rattle.std.specs.Prelude.{List, [], ◌∷◌, ◌++◌}
use Rattle.caa_base.specs.declared.written.entry.Entry.{Entry}
use Rattle.place_plan.specs.Plans.PlanValue.{Plan}
use Rattle.place_plan.specs.RulesOfJournals.WellFormed.{IsWellFormed}
use Rattle.place_plan.specs.declared.rules.machine.Answer.{Answer}
use Rattle.place_plan.specs.declared.rules.machine.Answer.TheVariants as answer

-- a journal with the entry that the answer says was made, if one was
abbrev pub after_answer : Answer → List Entry → List Entry
after_answer (answer.Did e) journal = journal ++ e ∷ []
after_answer (answer.Work p rounds from) journal = journal
after_answer answer.NotYet journal = journal
after_answer answer.Over journal = journal

-- the entry that was made, if one was, is well formed
abbrev pub MadeWell : Plan → Answer → Type 0
MadeWell plan (answer.Did e) = IsWellFormed plan e
MadeWell plan (answer.Work p rounds from) = Unit {0}
MadeWell plan answer.NotYet = Unit {0}
MadeWell plan answer.Over = Unit {0}
