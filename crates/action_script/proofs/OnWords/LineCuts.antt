-- A text cut into lines.
use Rattle.std.proofs.Common.{◌≡◌, ◌≢◌, ℕ, ◌+◌, ◌<◌, ◌≤◌, ◌==◌, List, [], ◌∷◌, length, take, drop, refl, ap, ◌∙◌, arith}
use Rattle.std.specs.List.{position_or_len, slice_split}
use Rattle.std.proofs.lemmas.List.Splits.{slice_split_first, slice_split_none}
use Rattle.std.proofs.lemmas.List.Sums.{fails_before_first}
use Rattle.action_script.specs.Words.CutLines.{lines_of, without_empty_last}
use Rattle.action_script.proofs.OnWords.Pieces.{some_piece}

-- how many bytes stand before the first line feed, or all
abbrev pub end_of : List ℕ → ℕ
end_of text = position_or_len (λ b. b == 10) text

abbrev pub pieces_of : List ℕ → List (List ℕ)
pieces_of text = slice_split (λ b. b == 10) text

pub without_empty_last-cons : (piece : List ℕ) (pieces : List (List ℕ)) → pieces ≢ []
    → without_empty_last (piece ∷ pieces) ≡ piece ∷ without_empty_last pieces
without_empty_last-cons piece [] h = absurd (h refl)
without_empty_last-cons piece (next ∷ more) h = refl

-- the first line up to the first line feed, and the others
pub lines_of-cut : (text : List ℕ) → end_of text < length text
    → lines_of text ≡ take (end_of text) text ∷ lines_of (drop (end_of text + 1) text)
lines_of-cut text h =
    ap without_empty_last (slice_split_first (λ b. b == 10) text 0 h)
    ∙ without_empty_last-cons (take (end_of text) text) (pieces_of (drop (end_of text + 1) text))
    (some_piece (λ b. b == 10) (drop (end_of text + 1) text))

filled_whole : (text : List ℕ) → 0 < length text → without_empty_last (text ∷ []) ≡ text ∷ []
filled_whole [] h = absurd (omega arith)
filled_whole (b ∷ rest) h = refl

-- or the whole text, where there is none
pub lines_of-whole : (text : List ℕ) → 0 < length text → length text ≤ end_of text → lines_of text ≡ text ∷ []
lines_of-whole text filled h =
    ap without_empty_last (slice_split_none (λ b. b == 10) text (λ k d l. fails_before_first (λ b. b == 10) text k d (omega (arith, h))))
    ∙ filled_whole text filled
