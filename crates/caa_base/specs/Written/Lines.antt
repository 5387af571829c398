-- How a line of a text is made of words. A number is a word too: `decimal` and `signed_decimal` of the standard library.
use Rattle.std.specs.Prelude.{ℕ, ◌+◌, ◌-◌, ◌*◌, nat_le, if◌then◌else◌, List, [], ◌∷◌, ◌++◌, Option, Some, None}

-- each of these words after a space
abbrev pub spaced : List (List ℕ) → List ℕ
spaced [] = []
spaced (word ∷ words) = 32 ∷ word ++ spaced words

-- the words of a line with one space between each two, and a line feed
abbrev pub line : List ℕ → List (List ℕ) → List ℕ
line first others = first ++ spaced others ++ 10 ∷ []

-- the number that these digits make, read behind those of n
abbrev pub digits_after : ℕ → List ℕ → ℕ
digits_after n [] = n
digits_after n (b ∷ rest) = digits_after (10 * n + (b - 48)) rest

-- a number that is no greater than the most
abbrev pub at_most : ℕ → Option ℕ → Option ℕ
at_most most None = None
at_most most (Some n) = if nat_le n most then Some n else None

-- the number that these digits make, where it is no greater than the most
abbrev pub digits_within : ℕ → List ℕ → Option ℕ
digits_within most digits = at_most most (Some (digits_after 0 digits))
