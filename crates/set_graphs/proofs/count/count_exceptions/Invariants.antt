use Rattle.std.proofs.Common.{◌≡◌, length}
use Rattle.set_graphs.specs.Sets.{exception_count}
use Rattle.set_graphs.specs.inner.Counts.{CountSets}
use Rattle.set_graphs.proofs.count.count_exceptions.Given as goal

abbrev pub invariant-loop-primitive : goal.invariant-loop-primitive
invariant-loop-primitive l = record {
  many : length l.counts ≡ 8;
  counted : CountSets l._primitive l.counts;
}

abbrev pub invariant-loop-size : goal.invariant-loop-size
invariant-loop-size l = l.count ≡ exception_count l.primitives l.size
