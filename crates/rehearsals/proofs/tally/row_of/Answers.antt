use Rattle.std.proofs.Common.{subst, sym, add-one}
use Rattle.rehearsals.specs.inner.Counting.{NoneAmong}
use Rattle.rehearsals.proofs.Counting.{none_more}
use Rattle.rehearsals.proofs.tally.row_of.Goals as goal

pub loop-index-preserved : goal.loop-index-preserved
loop-index-preserved c =
    subst (λ n. NoneAmong n c.args.rows.now c.args.fact) (sym (add-one c.loop-index.index))
    (none_more c.args.rows.now c.loop-index.index c.args.fact _ c.loop-index-test.true c.loop-index.invariant (sym c.if-is_same.ensures))
