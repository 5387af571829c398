use Rattle.std.proofs.Common.{arith, refl}
use Rattle.cover_table.proofs.joins.joins_of.Goals as goal

pub returns-in-None-clause-lacks : goal.returns-in-None-clause-lacks
returns-in-None-clause-lacks g c = (
  refl,
  record {
    in_range = omega arith;
    without = c.in-None.ensures.lacks;
    earlier = λ d lt. (_, c.loop-b.invariant.found d lt);
  },
)
