use Rattle.std.proofs.Common.{◌≡◌, ◌≤◌, ◌++◌, length}
use Rattle.std.specs.List.{flat_map}
use Rattle.place_plan.specs.RulesOfJournals.WellFormed.{AllWellFormed}
use Rattle.journal_text.specs.Texts.Text.{entry_line}
use Rattle.journal_text.proofs.texts.text_reader.read_entries.Given as goal

abbrev pub decreases-loop-entry : goal.decreases-loop-entry
decreases-loop-entry l = length l.rest

abbrev pub invariant-loop-entry : goal.invariant-loop-entry
invariant-loop-entry l = record {
  fit : AllWellFormed l.plan l.entries.items;
  few : length l.entries.items ≤ l.limit;
  front : l.text ≡ flat_map (entry_line l.plan) l.entries.items ++ l.rest;
}
