-- The pieces into which a text is split, and how many bytes they have.
use Rattle.std.proofs.Common.{◌≡◌, ◌≢◌, ℕ, ◌+◌, Bool, true, false, cond, List, [], ◌∷◌, length, slice_index, Option, Some, None, unwrap_or, refl, sym, ap, arith}
use Rattle.std.specs.List.{slice_split, onto_first, position_or_len}
use Rattle.std.proofs.lemmas.Bool.{false_from_ne_true}
use Rattle.std.proofs.lemmas.List.Splits.{length-slice_split}
use Rattle.std.proofs.lemmas.List.Sums.{position_or_len_is}
use Rattle.memchr.specs.Find.{IsFirstByte}

-- there is one at least
pub some_piece : (p : ℕ → Bool) (text : List ℕ) → slice_split p text ≢ []
some_piece p text h = omega (arith, length-slice_split p text, ap length h)

-- the bytes of some pieces, and one more for each
abbrev pub weight : List (List ℕ) → ℕ
weight [] = 0
weight (piece ∷ pieces) = length piece + 1 + weight pieces

weight-onto_first : (b : ℕ) (pieces : List (List ℕ)) → pieces ≢ [] → weight (onto_first b pieces) ≡ weight pieces + 1
weight-onto_first b [] h = absurd (h refl)
weight-onto_first b (piece ∷ pieces) h = omega arith

-- what parts two pieces is a byte of the text
pub weight-split : (p : ℕ → Bool) (text : List ℕ) → weight (slice_split p text) ≡ length text + 1
weight-split p [] = refl
weight-split p (b ∷ text) = by (p b) (weight-split p text) (weight-onto_first b (slice_split p text) (some_piece p text))
  where
    by : (c : Bool) → weight (slice_split p text) ≡ length text + 1
        → weight (onto_first b (slice_split p text)) ≡ weight (slice_split p text) + 1
        → weight (cond c ([] ∷ slice_split p text) (onto_first b (slice_split p text))) ≡ length (b ∷ text) + 1
    by true h g = omega arith
    by false h g = omega arith

-- a search for a byte tells how many stand before the first, where there is one, and else all do
pub end_found : (p : ℕ → Bool) (text : List ℕ) (place : Option ℕ) → IsFirstByte p text place
    → unwrap_or place (length text) ≡ position_or_len p text
end_found p text None none =
    sym
    (position_or_len_is p text (length text) 0 (omega arith)
    (λ k below. false_from_ne_true (p (slice_index text k)) (none k (omega arith) below)) (λ past. absurd (omega (arith, past))))
end_found p text (Some place) first =
    sym
    (position_or_len_is p text place 0 (omega (arith, first.0.high))
    (λ k below. false_from_ne_true (p (slice_index text k)) (first.0.before k (omega arith) below)) (λ within. first.1))
