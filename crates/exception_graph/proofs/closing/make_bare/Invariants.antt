use Rattle.std.proofs.Common.{◌≡◌, ◌==◌, ◌||◌, ◌<◌, ℕ, true}
use Rattle.cover_table.specs.Cover.{tells}
use Rattle.exception_graph.proofs.closing.make_bare.Given as goal

abbrev pub invariant-loop-a : goal.invariant-loop-a
invariant-loop-a l = record {
  bare : (d b : ℕ) → d < l.a → b < l.count → tells l.rows d b ≡ (d == 0 || b == d);
  within : (d b : ℕ) → d < l.a → tells l.rows d b ≡ true → b < l.count;
}
