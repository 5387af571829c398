-- The data of a page: numbers and texts in lists. Each part brings its own comma, and a list ends with a 0 that says nothing.
use Rattle.std.specs.Prelude.{◌≡◌, ◌⊎◌, ℕ, ◌+◌, ◌/◌, ◌%◌, ◌==◌, nat_lt, nat_le, Bool, true, not, ◌&&◌, if◌then◌else◌, List, [], ◌∷◌, ◌++◌, codes, decimal}
use Rattle.std.specs.List.{flat_map}
use Rattle.page_text.specs.declared.fixed.TheConstants.{FRONT, BACK}
use Rattle.page_text.specs.declared.parts.Part.{Part}
use Rattle.page_text.specs.declared.parts.Part.TheVariants as part

-- a byte that can stand as it is: it shows something, and is none of " & < > and the backslash
abbrev pub is_plain : ℕ → Bool
is_plain b = nat_le 32 b && nat_lt b 127 && not (b == 34) && not (b == 38) && not (b == 60) && not (b == 62) && not (b == 92)

-- a digit of four bits
abbrev pub hex_digit : ℕ → ℕ
hex_digit n = if nat_lt n 10 then 48 + n else 87 + n

-- a byte, written by its number where it isn't plain
abbrev pub escaped_byte : ℕ → List ℕ
escaped_byte b = if is_plain b then b ∷ [] else codes "\\u00" ++ hex_digit (b / 16) ∷ hex_digit (b % 16) ∷ []

-- each byte so
abbrev pub escaped : List ℕ → List ℕ
escaped bytes = flat_map escaped_byte bytes

-- what can stand within a text of the data: a plain byte, or a backslash
abbrev pub IsHarmless : ℕ → Type 0
IsHarmless b = (is_plain b ≡ true) ⊎ (b ≡ 92)

-- a number
abbrev pub number_text : ℕ → List ℕ
number_text n = decimal n ++ 44 ∷ []

-- a text
abbrev pub string_text : List ℕ → List ℕ
string_text bytes = 34 ∷ escaped bytes ++ 34 ∷ 44 ∷ []

-- a part of the data
abbrev pub part_text : Part → List ℕ
part_text part.Open = codes "["
part_text part.Close = codes "0],\n"
part_text (part.Number n) = number_text n
part_text (part.Text bytes) = string_text bytes.items

-- parts of the data
abbrev pub parts_text : List Part → List ℕ
parts_text parts = flat_map part_text parts

-- a page with this data: what stands before it in each page, and behind it
abbrev pub page_text : List ℕ → List ℕ
page_text data' = FRONT.now ++ data' ++ BACK.now
