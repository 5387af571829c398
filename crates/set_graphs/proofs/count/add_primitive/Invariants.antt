use Rattle.std.proofs.Common.{◌≡◌, ℕ, ◌+◌, ◌<◌, ◌≤◌, ◌∷◌, slice_index}
use Rattle.set_graphs.proofs.count.add_primitive.Given as goal

abbrev pub invariant-loop-count : goal.invariant-loop-count
invariant-loop-count l = record {
  fewer : l.fewer ≡ slice_index (0 ∷ l.fn.counts) l.count-index;
  done : (k : ℕ) → k < l.count-index → slice_index l.counts k ≡ slice_index l.fn.counts k + slice_index (0 ∷ l.fn.counts) k;
  left : (k : ℕ) → l.count-index ≤ k → slice_index l.counts k ≡ slice_index l.fn.counts k;
}
