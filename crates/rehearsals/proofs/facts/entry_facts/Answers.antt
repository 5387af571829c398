use Rattle.std.proofs.Common.{◌∙◌}
use Rattle.rehearsals.specs.Facts.{fact_of}
use Rattle.rehearsals.proofs.JournalsCounted.{facts_more}
use Rattle.rehearsals.proofs.facts.entry_facts.Goals as goal

pub loop-entry-preserved : goal.loop-entry-preserved
loop-entry-preserved c =
    c.in_ok-add_fact.ensures
    ∙ facts_more (fact_of c.args.plan.now c.args.paths.now) c.args.entries.now c.loop-entry.entry-index _ c.loop-entry.facts.items
    c.fact_of-fact.result c.loop-entry-test.true c.loop-entry.invariant c.fact_of-fact.ensures
