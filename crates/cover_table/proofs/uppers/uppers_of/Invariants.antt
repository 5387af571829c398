use Rattle.std.proofs.Common.{◌≡◌, ◌<◌, ◌≤◌, ℕ, false, length, slice_index}
use Rattle.cover_table.specs.Cover.{has_bit}
use Rattle.cover_table.proofs.uppers.uppers_of.Given as goal

abbrev pub invariant-loop-a : goal.invariant-loop-a
invariant-loop-a g l = record {
  len : length l.uppers ≡ g.row.N;
  done : (d b : ℕ) → d < l.a → b < length l.rows → has_bit (slice_index l.uppers b) d ≡ has_bit (slice_index l.rows d) b;
  left : (d b : ℕ) → l.a ≤ d → b < length l.rows → has_bit (slice_index l.uppers b) d ≡ false;
}
