use Rattle.std.proofs.Common.{◌<◌, length, arith}
use Rattle.exception_graph.proofs.ClosingSteps.{told_in_one, closed_more, chains_more, within_more}
use Rattle.exception_graph.proofs.closing.close.Goals as goal

pub loop-over-preserved : goal.loop-over-preserved
loop-over-preserved c =
    let old = c.loop-over.rows in
    let new = c.extend_over.new.rows in
    let step = c.extend_over.ensures in
    let before = c.loop-over.invariant in
    let in_old : c.loop-over.over < length old = omega arith in
    record {
      as_many = omega arith;
      more = λ a b a_in told. told_in_one old new _ step a b (omega arith) (before.more a b a_in told);
      closed = closed_more old new _ step in_old before.closed;
      chains =
          λ pairs chains. chains_more old new _ step (length c.args.rows.now) pairs (omega arith) (omega arith)
          (before.chains pairs chains);
      within =
          λ count within. within_more old new _ step count (omega arith) (before.within count within);
    }
