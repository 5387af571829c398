use Rattle.set_graphs.proofs.Chosen.{table_more}
use Rattle.set_graphs.proofs.sets.make_table.Goals as goal

pub loop-size-preserved : goal.loop-size-preserved
loop-size-preserved c =
    table_more c.args.primitives c.loop-size.size _ _ c.loop-size.invariant c.in_ok-push_sets.ensures
