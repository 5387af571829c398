-- A line cut into words.
use Rattle.std.proofs.Common.{◌≡◌, ℕ, ◌+◌, ◌<◌, ◌≤◌, ◌==◌, ◌||◌, Bool, true, false, List, [], ◌∷◌, ◌++◌, length, take, drop, refl, sym, ap, ◌∙◌, arith}
use Rattle.std.specs.List.{position_or_len, before_first, after_first, slice_split}
use Rattle.std.proofs.lemmas.List.{append-nil}
use Rattle.std.proofs.lemmas.List.Splits.{slice_split_first, slice_split_none}
use Rattle.std.proofs.lemmas.List.Sums.{fails_before_first}
use Rattle.memchr.specs.Find.{is_byte3}
use Rattle.action_script.specs.Words.CutLines.{filled_of, is_blank, words_of}

-- how many bytes stand before the first blank, or all
abbrev pub end_of : List ℕ → ℕ
end_of line = position_or_len is_blank line

-- there are three blanks
three_tests : (a b c : Bool) → ((a || b) || c) ≡ (a || (b || c))
three_tests true b c = refl
three_tests false b c = refl

pub three_blanks : is_byte3 32 9 13 ≡ is_blank
three_blanks = λ i b. three_tests (b == 32) (b == 9) (b == 13) i

filled_cons : (piece : List ℕ) (pieces : List (List ℕ)) → filled_of (piece ∷ pieces) ≡ filled_of (piece ∷ []) ++ filled_of pieces
filled_cons [] pieces = refl
filled_cons (b ∷ piece) pieces = refl

-- up to the first blank, and what follows it
pub first_piece : (line : List ℕ) → end_of line < length line
    → words_of line ≡ filled_of (take (end_of line) line ∷ []) ++ words_of (drop (end_of line + 1) line)
first_piece line h =
    ap filled_of (slice_split_first is_blank line 0 h) ∙ filled_cons (before_first is_blank line)
    (slice_split is_blank (after_first is_blank line))

-- or the whole line, where there is none
pub only_piece : (line : List ℕ) → length line ≤ end_of line → words_of line ≡ filled_of (line ∷ []) ++ []
only_piece line h =
    ap filled_of (slice_split_none is_blank line (λ k d l. fails_before_first is_blank line k d (omega (arith, h)))) ∙ sym
    (append-nil (filled_of (line ∷ [])))
