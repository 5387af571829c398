-- Places in a text, by lines and units of UTF-16.
use Rattle.std.specs.Prelude.{◌≡◌, ℕ, ◌+◌, ◌-◌, ◌==◌, nat_le, nat_lt, if◌then◌else◌, Bool, false, not, ◌&&◌, ◌||◌, List, [], ◌∷◌, length, sum_by, encode_utf8}
use Rattle.std.specs.Char.Escape.{encode_utf16}
use Rattle.script_documents.specs.declared.positions.Position.{Position}

-- ---- bytes

-- the byte belongs to a line end
abbrev pub is_break : ℕ → Bool
is_break b = (b == 10) || (b == 13)

-- how many units of UTF-16 the character has that begins with this byte: none where the byte goes on with one, two where it begins four
abbrev pub units_at : ℕ → ℕ
units_at b = if nat_le 128 b && nat_lt b 192 then 0 else (if nat_le 240 b then 2 else 1)

-- the units of a character of UTF-8 are those that it has in UTF-16
abbrev pub CountsUnits : ℕ → Type 0
CountsUnits c = sum_by units_at (encode_utf8 c) ≡ length (encode_utf16 c)

-- ---- lines

-- a line feed stands first
abbrev pub begins_feed : List ℕ → Bool
begins_feed [] = false
begins_feed (b ∷ rest) = b == 10

-- the first byte is the last of a line end: a line feed, or a carriage return before which none stands
abbrev pub ends_line : List ℕ → Bool
ends_line [] = false
ends_line (b ∷ rest) = (b == 10) || ((b == 13) && not (begins_feed rest))

-- how many line ends are still to come after the first byte, where so many were
abbrev pub ends_left : List ℕ → ℕ → ℕ
ends_left text count = if ends_line text then count - 1 else count

-- what stands behind so many line ends
abbrev pub after_ends : ℕ → List ℕ → List ℕ
after_ends count [] = []
after_ends count (b ∷ rest) = if count == 0 then b ∷ rest else after_ends (ends_left (b ∷ rest) count) rest

-- ---- from a place to a number of bytes

-- how many bytes stand before so many units of the first line: all of a line that has fewer, and none of a character in which they end
abbrev pub bytes_before : ℕ → List ℕ → ℕ
bytes_before units [] = 0
bytes_before units (b ∷ rest) =
    if is_break b || nat_lt units (units_at b) then 0 else 1 + bytes_before (units - units_at b) rest

-- how many bytes of a text stand before a place
abbrev pub offset_of : List ℕ → Position → ℕ
offset_of text p = length text - length (after_ends p.line text) + bytes_before p.character (after_ends p.line text)

-- ---- from a number of bytes to a place

-- the place behind the first byte, where the place before it is this
abbrev pub stepped : Position → List ℕ → Position
stepped p [] = p
stepped p (b ∷ rest) =
    if ends_line (b ∷ rest) then record { line = p.line + 1; character = 0 }
    else record { line = p.line; character = p.character + units_at b }

-- the place behind so many bytes, where the place before the text is this
abbrev pub position_from : Position → ℕ → List ℕ → Position
position_from p count [] = p
position_from p count (b ∷ rest) = if count == 0 then p else position_from (stepped p (b ∷ rest)) (count - 1) rest

-- the place before which so many bytes of a text stand
abbrev pub position_of : List ℕ → ℕ → Position
position_of text offset = position_from (record { line = 0; character = 0 }) offset text
