-- How rows of bits come to tell the chains of declared pairs.
use Rattle.std.specs.Prelude.{◌≡◌, ◌==◌, ◌<◌, ◌⊎◌, ◌&&◌, ◌||◌, ℕ, true, List, Contains, length, take}
use Rattle.cover_table.specs.Cover.{tells}
use Rattle.exception_graph.specs.Chains.{Chain, IsDeclared}

-- what rows tell of exceptions below the count is a chain
abbrev pub TellChains : ℕ → List (ℕ × ℕ) → List ℕ → Type 0
TellChains count pairs rows = (a b : ℕ) → a < count → b < count → tells rows a b ≡ true → Chain count pairs a b

-- rows tell of each exception that it covers itself, and what it is declared over
pub record TellDeclared (count : ℕ) (pairs : List (ℕ × ℕ)) (rows : List ℕ) : Type 0 where
  pub itself : (a : ℕ) → a < count → tells rows a a ≡ true
  pub declared : (a b : ℕ) → a < count → b < count → IsDeclared count pairs a b → tells rows a b ≡ true

-- rows tell all that they tell in two steps over an exception below `bound`
abbrev pub AreClosedOver : List ℕ → ℕ → Type 0
AreClosedOver rows bound =
    (m a b : ℕ) → m < bound → a < length rows → tells rows a m ≡ true → tells rows m b ≡ true → tells rows a b ≡ true

-- no row tells of an exception from the count on
abbrev pub StayBelow : ℕ → List ℕ → Type 0
StayBelow count rows = (a b : ℕ) → a < length rows → tells rows a b ≡ true → b < count

-- the new rows tell what the old ones did
abbrev pub TellMore : List ℕ → List ℕ → Type 0
TellMore old new = (a b : ℕ) → a < length old → tells old a b ≡ true → tells new a b ≡ true

-- the new rows tell what the old ones did in one step, or in two over m
pub record AreExtended (old new : List ℕ) (m : ℕ) : Type 0 where
  pub as_many : length new ≡ length old
  pub tell : (a b : ℕ) → a < length old → tells new a b ≡ (tells old a b || (tells old a m && tells old m b))

-- rows tell of each exception that it covers itself, of 0 that it covers all, and nothing more
abbrev pub AreBare : List ℕ → Type 0
AreBare rows = (a b : ℕ) → a < length rows → b < length rows → tells rows a b ≡ (a == 0 || b == a)

-- the new rows tell what the old ones did and that `upper` covers `lower`
pub record AddsPair (old new : List ℕ) (upper lower : ℕ) : Type 0 where
  pub as_many : length new ≡ length old
  pub more : TellMore old new
  pub told : tells new upper lower ≡ true
  pub only : (a b : ℕ) → a < length old → tells new a b ≡ true → (tells old a b ≡ true) ⊎ ((a ≡ upper) × (b ≡ lower))

-- the new rows tell what the old ones did and the first n of these pairs
pub record AddsPairs (old new : List ℕ) (pairs : List (ℕ × ℕ)) (n : ℕ) : Type 0 where
  pub as_many : length new ≡ length old
  pub more : TellMore old new
  pub told : (a b : ℕ) → a < length old → Contains (take n pairs) (a, b) → tells new a b ≡ true
  pub only : (a b : ℕ) → a < length old → tells new a b ≡ true → (tells old a b ≡ true) ⊎ Contains (take n pairs) (a, b)
