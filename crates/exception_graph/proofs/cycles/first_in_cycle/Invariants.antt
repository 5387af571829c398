use Rattle.std.proofs.Common.{◌<◌, ℕ}
use Rattle.cover_table.specs.Cover.{order_of_rows}
use Rattle.exception_graph.specs.inner.Cycles.{IsMutual}
use Rattle.exception_graph.proofs.cycles.first_in_cycle.Given as goal

abbrev pub invariant-loop-a : goal.invariant-loop-a
invariant-loop-a l = (d : ℕ) → d < l.a → ¬ (IsMutual (order_of_rows l.rows) d)
