use Rattle.place_plan.specs.RulesOfJournals.WellFormed.{AllWellFormed}
use Rattle.journal_states.proofs.fronts.entries_of.Given as goal

abbrev pub invariant-loop : goal.invariant-loop
invariant-loop l = AllWellFormed l.plan l.entries.items
