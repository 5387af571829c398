use Rattle.std.proofs.Common.{◌≡◌, ◌<◌, ◌↔◌, ℕ, true}
use Rattle.cover_table.specs.Cover.{has_bit}
use Rattle.exception_graph.proofs.closing.full_row.Given as goal

abbrev pub invariant-loop-b : goal.invariant-loop-b
invariant-loop-b l = (d : ℕ) → (has_bit l.row d ≡ true) ↔ (d < l.b)
