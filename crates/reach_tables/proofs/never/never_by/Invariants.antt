use Rattle.std.proofs.Common.{ℕ, ◌<◌, ◌≡◌, [], length, slice_index_or}
use Rattle.reach_tables.specs.ReachTable.{row_of}
use Rattle.reach_tables.specs.inner.NoneComes.{NoneComes}
use Rattle.reach_tables.proofs.never.never_by.Given as goal

abbrev pub invariant-loop-action : goal.invariant-loop-action
invariant-loop-action l =
    (length l.lists.items ≡ l.action)
    × ((a : ℕ) → a < length l.lists.items → NoneComes l.plan (row_of l.table a) a (slice_index_or l.lists.items a []))
