use Rattle.std.proofs.Common.{◌≡◌, ◌<◌, ℕ, true}
use Rattle.cover_table.specs.Cover.{covers, order_of_rows}
use Rattle.exception_graph.proofs.cycles.is_mutual.Given as goal

abbrev pub invariant-loop-b : goal.invariant-loop-b
invariant-loop-b l =
    (d : ℕ) → d < l.b → l.a < d → covers (order_of_rows l.rows) l.a d ≡ true
    → covers (order_of_rows l.rows) d l.a ≡ true → ⊥
