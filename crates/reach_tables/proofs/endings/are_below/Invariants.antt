use Rattle.std.proofs.Common.{ℕ, ◌<◌, slice_index_or}
use Rattle.reach_tables.proofs.endings.are_below.Given as goal

abbrev pub invariant-loop-exception : goal.invariant-loop-exception
invariant-loop-exception l = (k : ℕ) (d : ℕ) → k < l.exception-index → slice_index_or l.exceptions k d < l.count
