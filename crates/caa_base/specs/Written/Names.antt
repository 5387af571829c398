-- Which words are names.
use Rattle.std.specs.Prelude.{ℕ, ◌==◌, nat_le, Bool, false, ◌&&◌, ◌||◌, List, [], ◌∷◌, length, slice_index_or}
use Rattle.std.specs.List.{list_all}
use Rattle.caa_base.specs.Written.Limits.{most_name_bytes}

-- `A` to `Z`, or `a` to `z`
abbrev pub is_letter : ℕ → Bool
is_letter b = (nat_le 65 b && nat_le b 90) || (nat_le 97 b && nat_le b 122)

-- `0` to `9`
abbrev pub is_digit : ℕ → Bool
is_digit b = nat_le 48 b && nat_le b 57

-- letters, digits, `_` and `-`
abbrev pub is_name_byte : ℕ → Bool
is_name_byte b = is_letter b || (is_digit b || ((b == 95) || (b == 45)))

-- the first byte is a letter
abbrev pub begins_with_letter : List ℕ → Bool
begins_with_letter [] = false
begins_with_letter (b ∷ rest) = is_letter b

-- a name begins with a letter, and has such characters up to the limit
abbrev pub is_name : List ℕ → Bool
is_name word = begins_with_letter word && (nat_le (length word) most_name_bytes && list_all is_name_byte word)

-- the name of this number, which is empty where there is none
abbrev pub name_at : List (List ℕ) → ℕ → List ℕ
name_at names n = slice_index_or names n []
