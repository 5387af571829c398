-- What the order of a graph has besides being sound.
use Rattle.std.specs.Prelude.{◌≡◌, ◌<◌, ℕ, true}
use Rattle.cover_table.specs.Cover.{CoverOrder, covers}

-- number 0 is there, and covers all
pub record HasUniversal (order : CoverOrder) : Type 0 where
  pub some : 0 < order.count
  pub covers_all : (a : ℕ) → a < order.count → covers order 0 a ≡ true
