use Rattle.std.proofs.Common.{◌≡◌, ◌<◌, ◌∷◌, ℕ, [], length, slice_index, slice_index_or}
use Rattle.cover_table.specs.Cover.{order_of, IsLeastCover}
use Rattle.cover_table.proofs.joins.JoinTable.from_order.Given as goal

abbrev pub invariant-loop-a : goal.invariant-loop-a
invariant-loop-a g l = record {
  len : length l.joins ≡ g.row.N;
  found : (c d : ℕ) → c < l.a → d < l.order.count
      → IsLeastCover (order_of l.order.count l.order.rows) (c ∷ d ∷ []) (slice_index (slice_index_or l.joins c []) d);
}
