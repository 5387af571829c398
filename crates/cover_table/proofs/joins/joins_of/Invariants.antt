use Rattle.std.proofs.Common.{◌≡◌, ◌<◌, ℕ, length, slice_index}
use Rattle.cover_table.specs.inner.Uppers.{IsJoin}
use Rattle.cover_table.proofs.joins.joins_of.Given as goal

abbrev pub invariant-loop-b : goal.invariant-loop-b
invariant-loop-b g l = record {
  len : length l.joins ≡ g.row.N;
  found : (d : ℕ) → d < l.b → IsJoin l.uppers l.a d (slice_index l.joins d);
}
