use Rattle.std.proofs.Common.{◌≡◌, ◌<◌, ℕ, true}
use Rattle.cover_table.specs.inner.Checks.{IsRightPair}
use Rattle.cover_table.specs.Cover.{covers, order_of_rows}
use Rattle.cover_table.proofs.checks.is_right_at.Given as goal

abbrev pub invariant-loop-b : goal.invariant-loop-b
invariant-loop-b l = (d : ℕ) → d < l.b → covers (order_of_rows l.rows) l.a d ≡ true → IsRightPair (order_of_rows l.rows) l.a d
