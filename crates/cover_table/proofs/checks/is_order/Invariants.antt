use Rattle.std.proofs.Common.{◌<◌, ℕ}
use Rattle.cover_table.specs.inner.Checks.{IsRightAt}
use Rattle.cover_table.specs.Cover.{order_of_rows}
use Rattle.cover_table.proofs.checks.is_order.Given as goal

abbrev pub invariant-loop-a : goal.invariant-loop-a
invariant-loop-a l = (d : ℕ) → d < l.a → IsRightAt (order_of_rows l.rows) d
