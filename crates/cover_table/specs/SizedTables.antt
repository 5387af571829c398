-- The sizes of tables, and why an order has none.
use Rattle.std.specs.Prelude.{ℕ, nat_le, if◌then◌else◌}
use Rattle.cover_table.specs.Cover.{CoverOrder, IsFirstWithoutLeast, IsSound}
use Rattle.cover_table.specs.declared.sizes.TableError.{TableError}
use Rattle.cover_table.specs.declared.sizes.TableError.TheVariants.{NoLeast, OutOfMemory}

-- the smallest size of a table that has room for this many numbers
abbrev pub least_size : ℕ → ℕ
least_size count =
    if nat_le count 8 then 8
    else (if nat_le count 16 then 16
    else (if nat_le count 32 then 32
    else (if nat_le count 64 then 64 else 128)))

-- why an order has no table: its first two numbers without a least cover, or, where there are none, memory alone
abbrev pub LacksTable : CoverOrder → TableError → Type 0
LacksTable order (NoLeast a b) = IsFirstWithoutLeast order a b
LacksTable order OutOfMemory = IsSound order
