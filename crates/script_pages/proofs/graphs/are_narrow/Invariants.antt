use Rattle.std.proofs.Common.{ℕ, ◌<◌, ◌^◌, slice_index_or}
use Rattle.script_pages.proofs.graphs.are_narrow.Given as goal

abbrev pub invariant-loop-width : goal.invariant-loop-width
invariant-loop-width l = (k : ℕ) (d : ℕ) → k < l.width-index → slice_index_or l.widths k d < 2 ^ 20
