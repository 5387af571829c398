-- Which exceptions cover which, and what covers several of them most closely.
use Rattle.std.specs.Prelude.{◌≡◌, ℕ, ◌==◌, ◌/◌, ◌%◌, ◌^◌, ◌<◌, ◌⊎◌, Bool, true, List, [], ◌∷◌, length, take, slice_index, All}
use Rattle.std.specs.List.{list_all}

-- a graph has no more exceptions than this, the universal one among them
abbrev pub most_exceptions : ℕ
most_exceptions = 128

-- which of the numbers below `count` cover which: row a has bit b where a covers b
pub record CoverOrder : Type 0 where
  pub count : ℕ
  pub rows : List ℕ

-- bit b of a row
abbrev pub has_bit : ℕ → ℕ → Bool
has_bit row b = row / 2 ^ b % 2 == 1

-- row a has bit b
abbrev pub tells : List ℕ → ℕ → ℕ → Bool
tells rows a b = has_bit (slice_index rows a) b

-- a covers b
abbrev pub covers : CoverOrder → ℕ → ℕ → Bool
covers order a b = tells order.rows a b

-- x covers each of xs
abbrev pub covers_each : CoverOrder → ℕ → List ℕ → Bool
covers_each order x xs = list_all (covers order x) xs

-- x is above all of xs, and below whatever else is above all of them
pub record IsLeastCover (order : CoverOrder) (xs : List ℕ) (x : ℕ) : Type 0 where
  pub in_range : x < order.count
  pub above : covers_each order x xs ≡ true
  pub least : (y : ℕ) → y < order.count → covers_each order y xs ≡ true → covers order y x ≡ true

-- the order that rows tell
abbrev pub order_of_rows : List ℕ → CoverOrder
order_of_rows rows = record { count = length rows; rows = rows }

-- the order that the first `count` of these rows tell, whatever stands past them
abbrev pub order_of : ℕ → List ℕ → CoverOrder
order_of count rows = record { count = count; rows = take count rows }

-- each number covers itself and what those that it covers cover, and no two cover each other
pub record IsOrder (order : CoverOrder) : Type 0 where
  pub reflexive : (a : ℕ) → a < order.count → covers order a a ≡ true
  pub transitive : (a b c : ℕ) → a < order.count → b < order.count → c < order.count
      → covers order a b ≡ true → covers order b c ≡ true → covers order a c ≡ true
  pub antisymmetric : (a b : ℕ) → a < order.count → b < order.count → covers order a b ≡ true → covers order b a ≡ true → a ≡ b

-- some number is the least cover of xs
abbrev pub HasLeastCover : CoverOrder → List ℕ → Type 0
HasLeastCover order xs = (x : ℕ) × IsLeastCover order xs x

-- an order in which each two numbers have a least cover
pub record IsSound (order : CoverOrder) : Type 0 where
  pub is_order : IsOrder order
  pub pairs : (a b : ℕ) → a < order.count → b < order.count → HasLeastCover order (a ∷ b ∷ [])

-- each list of numbers that isn't empty has a least cover
abbrev pub SetsHaveLeastCovers : CoverOrder → Type 0
SetsHaveLeastCovers order = (xs : List ℕ) → 0 < length xs → All (λ x. x < order.count) xs → HasLeastCover order xs

-- the pair (a, b) comes before (c, d): by its first number, and then by its second
abbrev pub ComesBefore : ℕ → ℕ → ℕ → ℕ → Type 0
ComesBefore a b c d = (a < c) ⊎ ((a ≡ c) × (b < d))

-- a < b have no least cover, and each earlier pair has one
pub record IsFirstWithoutLeast (order : CoverOrder) (a b : ℕ) : Type 0 where
  pub ascending : a < b
  pub in_range : b < order.count
  pub without : ¬ (HasLeastCover order (a ∷ b ∷ []))
  pub earlier : (c d : ℕ) → c < d → d < order.count → ComesBefore c d a b → HasLeastCover order (c ∷ d ∷ [])
