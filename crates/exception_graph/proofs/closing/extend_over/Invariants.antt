use Rattle.std.proofs.Common.{◌≡◌, ◌<◌, ◌≤◌, ◌||◌, ◌&&◌, ℕ, get_or}
use Rattle.cover_table.specs.Cover.{tells}
use Rattle.exception_graph.proofs.closing.extend_over.Given as goal

abbrev pub invariant-loop-row : goal.invariant-loop-row
invariant-loop-row l = record {
  done : (a b : ℕ) → a < l.row-index
      → tells l.rows a b ≡ (tells l.initial.rows a b
      || (tells l.initial.rows a l.over && tells l.initial.rows l.over b));
  left : (a : ℕ) → l.row-index ≤ a → get_or l.rows a 0 ≡ get_or l.initial.rows a 0;
}
