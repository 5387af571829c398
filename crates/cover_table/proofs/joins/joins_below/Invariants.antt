use Rattle.std.proofs.Common.{◌≡◌, ◌<◌, ◌&&◌, ℕ, true, not, length, slice_index, if◌then◌else◌}
use Rattle.cover_table.specs.Cover.{has_bit, most_exceptions}
use Rattle.cover_table.proofs.joins.joins_below.Given as goal

abbrev pub invariant-loop-b : goal.invariant-loop-b
invariant-loop-b g l = record {
  len : length l.joins ≡ g.row.N;
  told : (d : ℕ) → d < g.row.N → d < most_exceptions
      → slice_index l.joins d ≡ (if has_bit l.row d
      && not (has_bit l.rest d) then l.a else slice_index l.joins_above d);
  left : (d : ℕ) → d < most_exceptions → has_bit l.rest d ≡ true → has_bit l.row d ≡ true;
}

abbrev pub decreases-loop-b : goal.decreases-loop-b
decreases-loop-b g l = l.rest
