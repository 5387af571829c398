use Rattle.exception_graph.proofs.Pairs.{pairs_more}
use Rattle.exception_graph.proofs.closing.add_pairs.Goals as goal

pub loop-upper-preserved : goal.loop-upper-preserved
loop-upper-preserved c = pairs_more _ _ _ _ _ c.loop-upper-test.true c.loop-upper.invariant c.add_pair.ensures
