-- What a table of some size is seen as, and that its size is the least.
use Rattle.std.specs.Prelude.{◌≡◌}
use Rattle.cover_table.specs.Cover.{CoverOrder}
use Rattle.cover_table.specs.SizedTables.{least_size}
use Rattle.cover_table.specs.declared.sizes.Sized.{Sized}
use Rattle.cover_table.specs.declared.sizes.Sized.TheVariants.{UpTo8, UpTo16, UpTo32, UpTo64, UpTo128}
use Rattle.cover_table.specs.declared.sizes.SizedBox.{SizedBox}
use Rattle.cover_table.specs.declared.sizes.SizedBox.TheVariants as boxed

-- the order of a table of some size
abbrev pub order_of_sized : Sized → CoverOrder
order_of_sized (UpTo8 table) = table
order_of_sized (UpTo16 table) = table
order_of_sized (UpTo32 table) = table
order_of_sized (UpTo64 table) = table
order_of_sized (UpTo128 table) = table

-- its size is the least that holds the order
abbrev pub HasLeastSize : Sized → Type 0
HasLeastSize (UpTo8 table) = least_size table.count ≡ 8
HasLeastSize (UpTo16 table) = least_size table.count ≡ 16
HasLeastSize (UpTo32 table) = least_size table.count ≡ 32
HasLeastSize (UpTo64 table) = least_size table.count ≡ 64
HasLeastSize (UpTo128 table) = least_size table.count ≡ 128

-- the order of a table of some size in memory of its own
abbrev pub order_of_boxed : SizedBox → CoverOrder
order_of_boxed (boxed.UpTo8 table) = table.value
order_of_boxed (boxed.UpTo16 table) = table.value
order_of_boxed (boxed.UpTo32 table) = table.value
order_of_boxed (boxed.UpTo64 table) = table.value
order_of_boxed (boxed.UpTo128 table) = table.value
