-- Numbers of an order that cover each other.
use Rattle.std.specs.Prelude.{◌≡◌, ◌≢◌, ◌<◌, ℕ, true}
use Rattle.cover_table.specs.Cover.{CoverOrder, covers}

-- a covers another number that covers it
pub record IsMutual (order : CoverOrder) (a : ℕ) : Type 0 where
  pub other : ℕ
  pub in_range : other < order.count
  pub apart : other ≢ a
  pub down : covers order a other ≡ true
  pub up : covers order other a ≡ true

-- the least number that covers another which covers it
pub record IsFirstMutual (order : CoverOrder) (at : ℕ) : Type 0 where
  pub in_range : at < order.count
  pub cycle : IsMutual order at
  pub first : (a : ℕ) → a < at → ¬ (IsMutual order a)
