-- The order that declared pairs make, and what makes a graph of exceptions unsound.
use Rattle.std.specs.Prelude.{◌≡◌, ◌≢◌, ◌↔◌, ◌<◌, ◌≤◌, ℕ, true, List, Contains, length}
use Rattle.cover_table.specs.Cover.{most_exceptions, CoverOrder, covers, IsFirstWithoutLeast, IsSound}

-- a is declared over b: by a pair, or since 0 is universal
pub data IsDeclared (count : ℕ) (pairs : List (ℕ × ℕ)) : ℕ → ℕ → Type 0 where
  universal : {b : ℕ} → b < count → IsDeclared count pairs 0 b
  pair : {a b : ℕ} → Contains pairs (a, b) → IsDeclared count pairs a b

-- b is reached from a by going down declared pairs, as often as it takes; a reaches itself by none
pub data Chain (count : ℕ) (pairs : List (ℕ × ℕ)) : ℕ → ℕ → Type 0 where
  none : {a : ℕ} → Chain count pairs a a
  more : {a b c : ℕ} → IsDeclared count pairs a b → Chain count pairs b c → Chain count pairs a c

-- the order whose rows tell just the chains: a row for each exception, and no bit past them
pub record IsOrderOf (count : ℕ) (pairs : List (ℕ × ℕ)) (order : CoverOrder) : Type 0 where
  pub counts : order.count ≡ count
  pub rows : length order.rows ≡ count
  pub within : (a b : ℕ) → a < count → covers order a b ≡ true → b < count
  pub tells : (a b : ℕ) → a < count → b < count → (covers order a b ≡ true) ↔ Chain count pairs a b

-- a covers another exception that covers it
pub record IsInCycle (count : ℕ) (pairs : List (ℕ × ℕ)) (a : ℕ) : Type 0 where
  pub other : ℕ
  pub in_range : other < count
  pub apart : other ≢ a
  pub down : Chain count pairs a other
  pub up : Chain count pairs other a

-- the least exception that covers another which covers it
pub record IsFirstInCycle (count : ℕ) (pairs : List (ℕ × ℕ)) (at : ℕ) : Type 0 where
  pub in_range : at < count
  pub cycle : IsInCycle count pairs at
  pub first : (a : ℕ) → a < at → ¬ (IsInCycle count pairs a)

-- there is no cycle, and a < b are the first exceptions without a least cover
pub record IsFirstUnjoined (count : ℕ) (pairs : List (ℕ × ℕ)) (a b : ℕ) : Type 0 where
  pub acyclic : (c : ℕ) → c < count → ¬ (IsInCycle count pairs c)
  pub order : CoverOrder
  pub is_order_of : IsOrderOf count pairs order
  pub first : IsFirstWithoutLeast order a b

-- few enough exceptions, and an order in which each two have a least cover
pub record IsSoundGraph (count : ℕ) (pairs : List (ℕ × ℕ)) : Type 0 where
  pub few : count ≤ most_exceptions
  pub order : CoverOrder
  pub is_order_of : IsOrderOf count pairs order
  pub sound : IsSound order
