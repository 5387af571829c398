-- What makes rows an order, number by number.
use Rattle.std.specs.Prelude.{◌≡◌, ℕ, ◌<◌, true}
use Rattle.cover_table.specs.Cover.{CoverOrder, covers}

-- a covers what b covers
abbrev pub CoversAllOf : CoverOrder → ℕ → ℕ → Type 0
CoversAllOf order a b = (c : ℕ) → c < order.count → covers order b c ≡ true → covers order a c ≡ true

-- a covers b rightly: all that b covers, and b covers a only where the two are one
pub record IsRightPair (order : CoverOrder) (a b : ℕ) : Type 0 where
  pub through : CoversAllOf order a b
  pub apart : covers order b a ≡ true → a ≡ b

-- a covers itself, and each number that it covers rightly
pub record IsRightAt (order : CoverOrder) (a : ℕ) : Type 0 where
  pub itself : covers order a a ≡ true
  pub others : (b : ℕ) → b < order.count → covers order a b ≡ true → IsRightPair order a b
