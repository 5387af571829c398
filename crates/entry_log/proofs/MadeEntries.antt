-- What an answer of a machine made.
use Rattle.std.proofs.Common.{◌≡◌, ℕ, List, ◌∷◌, reverse, Option, sym}
use Rattle.std.proofs.lemmas.List.Elements.{All-head}
use Rattle.caa_base.specs.Written.Mixing.{Worked}
use Rattle.caa_base.specs.declared.written.entry.Entry.{Entry}
use Rattle.place_plan.specs.Plans.PlanValue.{Plan}
use Rattle.place_plan.specs.RulesOfJournals.Journals.{LegalPast}
use Rattle.place_plan.specs.RulesOfJournals.Machine.{Answers}
use Rattle.place_plan.specs.RulesOfJournals.WellFormed.{IsWellFormed, AllWellFormed}
use Rattle.place_plan.specs.declared.rules.machine.Answer.{Answer}
use Rattle.place_plan.specs.declared.rules.machine.Answer.TheVariants as answer
use Rattle.journal_laws.specs.Laws.{Holds}
use Rattle.entry_log.specs.Telling.{after_answer, MadeWell}

-- the entry that was made, if one was, is well formed
pub made_well : (plan : Plan) (old new : List Entry) (t : ℕ) (hint : Option Worked) (a : Answer)
    → Holds AllWellFormed plan → LegalPast plan (reverse old) → Answers plan old new t hint a → MadeWell plan a
made_well plan old new t hint (answer.Did e) law legal given =
    All-head (IsWellFormed plan) e (reverse old) (law (e ∷ reverse old) (legal, given.may))
made_well plan old new t hint (answer.Work p rounds from) law legal given = tt
made_well plan old new t hint answer.NotYet law legal given = tt
made_well plan old new t hint answer.Over law legal given = tt

-- the journal has just that entry more
pub grown_by : (plan : Plan) (old new : List Entry) (t : ℕ) (hint : Option Worked) (a : Answer)
    → Answers plan old new t hint a → after_answer a old ≡ new
grown_by plan old new t hint (answer.Did e) given = sym given.added
grown_by plan old new t hint (answer.Work p rounds from) given = sym given.kept
grown_by plan old new t hint answer.NotYet given = sym given.0.kept
grown_by plan old new t hint answer.Over given = sym given.0.kept
