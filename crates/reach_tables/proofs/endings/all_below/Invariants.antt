use Rattle.std.proofs.Common.{ℕ, ◌<◌, List, slice_index_or}
use Rattle.std.specs.List.{All}
use Rattle.reach_tables.proofs.endings.all_below.Given as goal

abbrev pub invariant-loop-group : goal.invariant-loop-group
invariant-loop-group l =
    (k : ℕ) (d : List ℕ) → k < l.group-index → All (λ (x : ℕ). x < l.count) (slice_index_or l.groups k d)
