use Rattle.std.proofs.Common.{◌≡◌, ◌<◌, ℕ, true}
use Rattle.cover_table.specs.Cover.{covers, order_of_rows}
use Rattle.cover_table.proofs.checks.covers_all_of.Given as goal

abbrev pub invariant-loop-c : goal.invariant-loop-c
invariant-loop-c l = (d : ℕ) → d < l.c → covers (order_of_rows l.rows) l.b d ≡ true → covers (order_of_rows l.rows) l.a d ≡ true
