use Rattle.std.proofs.Common.{◌≡◌, ◌++◌}
use Rattle.std.specs.Prelude.{filter_map}
use Rattle.rehearsals.specs.Facts.{fact_of, last_facts}
use Rattle.rehearsals.proofs.facts.facts_of.Given as goal

abbrev pub invariant-loop-object : goal.invariant-loop-object
invariant-loop-object l = l.facts.items ≡ filter_map (fact_of l.plan l.paths) l.journal.entries ++ last_facts l.values.items l.object
