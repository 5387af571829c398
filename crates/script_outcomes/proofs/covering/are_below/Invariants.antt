use Rattle.std.proofs.Common.{ℕ, ◌<◌, slice_index_or}
use Rattle.script_outcomes.proofs.covering.are_below.Given as goal

abbrev pub invariant-loop-number : goal.invariant-loop-number
invariant-loop-number l = (k : ℕ) (d : ℕ) → k < l.number-index → slice_index_or l.numbers k d < l.count
