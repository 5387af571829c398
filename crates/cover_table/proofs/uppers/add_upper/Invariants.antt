use Rattle.std.proofs.Common.{◌≡◌, ◌<◌, ◌==◌, ◌&&◌, ◌||◌, ℕ, true, length, not}
use Rattle.cover_table.specs.Cover.{has_bit, most_exceptions, tells}
use Rattle.cover_table.proofs.uppers.add_upper.Given as goal

abbrev pub invariant-loop-b : goal.invariant-loop-b
invariant-loop-b l = record {
  as_many : length l.uppers ≡ length l.initial.uppers;
  tell : (d c : ℕ) → d < length l.initial.uppers
      → tells l.uppers d c ≡ (tells l.initial.uppers d c || (c == l.a && (has_bit l.row d && not (has_bit l.rest d))));
  left : (d : ℕ) → d < most_exceptions → has_bit l.rest d ≡ true → has_bit l.row d ≡ true;
}

abbrev pub decreases-loop-b : goal.decreases-loop-b
decreases-loop-b l = l.rest
