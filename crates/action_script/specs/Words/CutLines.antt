-- How the bytes of a script are cut into lines, and a line into words.
use Rattle.std.specs.Prelude.{ℕ, ◌==◌, nat_le, if◌then◌else◌, Bool, false, not, ◌&&◌, ◌||◌, List, [], ◌∷◌, filter}
use Rattle.std.specs.List.{slice_split}
use Rattle.caa_base.specs.Written.Lists.{is_empty}

-- ---- lines

-- a text that ends with a line feed has no further line behind it
abbrev pub without_empty_last : List (List ℕ) → List (List ℕ)
without_empty_last [] = []
without_empty_last (piece ∷ []) = if is_empty piece then [] else piece ∷ []
without_empty_last (piece ∷ next ∷ more) = piece ∷ without_empty_last (next ∷ more)

-- what stands between the line feeds of a text
abbrev pub lines_of : List ℕ → List (List ℕ)
lines_of bytes = without_empty_last (slice_split (λ b. b == 10) bytes)

-- ---- words

-- a byte that parts words: a space, a tab, or the carriage return that some editors put before a line feed
abbrev pub is_blank : ℕ → Bool
is_blank b = (b == 32) || ((b == 9) || (b == 13))

-- a byte that a line may have which isn't skipped
abbrev pub is_plain : ℕ → Bool
is_plain b = is_blank b || (nat_le 33 b && nat_le b 126)

-- those pieces of a line that aren't empty
abbrev pub filled_of : List (List ℕ) → List (List ℕ)
filled_of pieces = filter (λ piece. not (is_empty piece)) pieces

-- what stands between blanks, where anything does
abbrev pub words_of : List ℕ → List (List ℕ)
words_of line = filled_of (slice_split is_blank line)

-- a word that begins a comment
abbrev pub begins_comment : List ℕ → Bool
begins_comment [] = false
begins_comment (b ∷ rest) = b == 35
