-- What least covers are found by.
use Rattle.std.specs.Prelude.{◌≡◌, ◌==◌, ◌&&◌, ◌||◌, ℕ, ◌<◌, List, length, slice_index, bit_and}
use Rattle.cover_table.specs.Cover.{has_bit, tells}

-- row b of `uppers` has bit a where row a of `rows` has bit b
pub record AreUppers (rows uppers : List ℕ) : Type 0 where
  pub as_many : length uppers ≡ length rows
  pub tell : (a b : ℕ) → b < length rows → tells uppers b a ≡ tells rows a b

-- each new row has the bits of the old one, and bit a besides where `row` has the bit of its number
pub record AddsUpper (old new : List ℕ) (a row : ℕ) : Type 0 where
  pub as_many : length new ≡ length old
  pub tell : (b c : ℕ) → b < length old → tells new b c ≡ (tells old b c || (c == a && has_bit row b))

-- row `below` has bit `below` and the bits of row `above`, and no others
abbrev pub IsNextAbove : List ℕ → ℕ → ℕ → Type 0
IsNextAbove uppers above below = (a : ℕ) → tells uppers below a ≡ (a == below || tells uppers above a)

-- row x has the bits that rows a and b share, and no others
pub record IsJoin (uppers : List ℕ) (a b x : ℕ) : Type 0 where
  pub in_range : x < length uppers
  pub common : slice_index uppers x ≡ bit_and (slice_index uppers a) (slice_index uppers b)

-- some row has just the bits that rows a and b share
abbrev pub HasJoin : List ℕ → ℕ → ℕ → Type 0
HasJoin uppers a b = (x : ℕ) × IsJoin uppers a b x

-- no row has just the bits that rows a and b share, and there is one for a and each number below b
pub record FailsAt (uppers : List ℕ) (a b : ℕ) : Type 0 where
  pub in_range : b < length uppers
  pub without : ¬ (HasJoin uppers a b)
  pub earlier : (d : ℕ) → d < b → HasJoin uppers a d
