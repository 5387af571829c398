-- What a table ends as, one row of which was lent to be changed.
use Rattle.std.specs.Prelude.{ℕ, List, Option, slice_set}
use Rattle.std.specs.Borrow.{LendsIf, MutBor, Fml, RattleType}
use Rattle.script_checker.specs.contracts.table.Table.{the_row as a_table}

-- the table has in that row what is left behind the reference, or is as it was where it has no such row
abbrev pub LendsRow : (T : RattleType) → MutBor (List T.Denot) → ℕ → Option (MutBor T.Denot) → Fml
LendsRow T table i row = LendsIf (a_table T) T table row (slice_set table.now i) table.now
