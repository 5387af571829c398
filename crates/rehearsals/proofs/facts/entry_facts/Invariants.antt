use Rattle.std.proofs.Common.{◌≡◌, take}
use Rattle.std.specs.Prelude.{filter_map}
use Rattle.rehearsals.specs.Facts.{fact_of}
use Rattle.rehearsals.proofs.facts.entry_facts.Given as goal

abbrev pub invariant-loop-entry : goal.invariant-loop-entry
invariant-loop-entry l = l.facts.items ≡ filter_map (fact_of l.plan l.paths) (take l.entry-index l.entries)
