use Rattle.std.proofs.Common.{◌≡◌, reverse, take}
use Rattle.place_plan.specs.RulesOfJournals.Journals.{plays_ended}
use Rattle.journal_text.proofs.looks.right.plays_ended.Given as goal

abbrev pub invariant-loop-entry : goal.invariant-loop-entry
invariant-loop-entry l = l.ended.items ≡ plays_ended l.plan (reverse (take l.entry-index l.entries))
