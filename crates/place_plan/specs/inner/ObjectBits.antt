-- Bits for the numbers of objects.
use Rattle.std.specs.Prelude.{◌≡◌, ◌/◌, ◌%◌, ℕ, Bool, true, List, slice_index, Option, Some, None}
use Rattle.cover_table.specs.Cover.{has_bit}
use Rattle.caa_base.specs.Written.Lists.{member}

-- number n has bit n % 128 of row n / 128
abbrev pub bits_have : List ℕ → ℕ → Bool
bits_have bits n = has_bit (slice_index bits (n / 128)) (n % 128)

-- just the numbers of the list have their bits
abbrev pub AreBitsOf : List ℕ → List ℕ → Type 0
AreBitsOf bits numbers = (n : ℕ) → bits_have bits n ≡ member n numbers

-- where there are bits, just the numbers of the list have theirs
abbrev pub MayBeBitsOf : Option (List ℕ) → List ℕ → Type 0
MayBeBitsOf None numbers = Unit {0}
MayBeBitsOf (Some bits) numbers = AreBitsOf bits numbers

-- the numbers that have their bits in `others` have them in `bits` too
abbrev pub HaveAllBits : List ℕ → List ℕ → Type 0
HaveAllBits bits others = (n : ℕ) → bits_have others n ≡ true → bits_have bits n ≡ true
