use Rattle.std.proofs.Common.{ℕ, ◌<◌, slice_index_or}
use Rattle.script_outcomes.proofs.covering.pairs_are_below.Given as goal

abbrev pub invariant-loop-pair : goal.invariant-loop-pair
invariant-loop-pair l =
    (k : ℕ) (d : ℕ × ℕ) → k < l.pair-index → (slice_index_or l.pairs k d).0 < l.count × (slice_index_or l.pairs k d).1 < l.count
