use Rattle.std.proofs.Common.{arith}
use Rattle.rehearsals.proofs.Counting.{counts_nothing, note_step, within_more}
use Rattle.rehearsals.proofs.tally.Tally.note.Goals as goal

pub loop-fact-init : goal.loop-fact-init
loop-fact-init c = record {
  within = within_more c.self.inside.noted _ c.self.inside.rows.items (omega arith) c.self.invariant;
  counts = counts_nothing _ c.self.inside.rows.items;
}

pub loop-fact-preserved : goal.loop-fact-preserved
loop-fact-preserved c =
    note_step c.self.inside.noted _ c.loop-fact.fact-index c.self.inside.rows.items c.loop-fact.rows.items c.count.new.rows.items
    c.args.facts.now _ (omega arith) c.self.invariant c.loop-fact.invariant.within c.loop-fact-test.true c.in_ok-count.ensures
    c.loop-fact.invariant.counts
