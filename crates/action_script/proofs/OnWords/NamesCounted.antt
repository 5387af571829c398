-- How many names there can be: no more than there are words, and no more words than bytes.
use Rattle.std.proofs.Common.{ℕ, ◌+◌, ◌≤◌, Bool, true, false, cond, if◌then◌else◌, List, [], ◌∷◌, ◌++◌, length, map, filter, arith}
use Rattle.std.specs.List.{slice_split, onto_first}
use Rattle.std.proofs.Math.ListN.{length-append}
use Rattle.action_script.specs.Words.CutLines.{filled_of, is_blank, words_of}
use Rattle.action_script.specs.Lines.Asked.{Asked}
use Rattle.action_script.specs.Words.NumberedNames.{is_among, with_name, with_names}
use Rattle.action_script.specs.Lines.Spelling.{is_name_part, names_of}

length-with_name : (names : List (List ℕ)) (word : List ℕ) → length (with_name names word) ≤ length names + 1
length-with_name names word = by (is_among names word)
  where
    by : (b : Bool) → length (if b then names else names ++ word ∷ []) ≤ length names + 1
    by true = omega arith
    by false = omega (arith, length-append names (word ∷ []))

-- a word that is a name or not adds no more than one
pub length-taken : (b : Bool) (names : List (List ℕ)) (word : List ℕ)
    → length (if b then with_name names word else names) ≤ length names + 1
length-taken true names word = length-with_name names word
length-taken false names word = omega arith

pub length-with_names : (names words : List (List ℕ)) → length (with_names names words) ≤ length names + length words
length-with_names names [] = omega arith
length-with_names names (word ∷ words) = omega (arith, length-with_names (with_name names word) words, length-with_name names word)

pub length-names_of : (asked : List Asked) → length (names_of asked) ≤ length asked
length-names_of [] = omega arith
length-names_of (a ∷ asked) = by (is_name_part a.part) (length-names_of asked)
  where
    by : (b : Bool) → length (names_of asked) ≤ length asked
        → length (map (λ a. a.word) (cond b (a ∷ filter (λ a. is_name_part a.part) asked) (filter (λ a. is_name_part a.part) asked))) ≤
        length (a ∷ asked)
    by true h = omega arith
    by false h = omega arith

-- ---- words

filled-onto_first : (b : ℕ) (pieces : List (List ℕ)) → length (filled_of (onto_first b pieces)) ≤ length (filled_of pieces) + 1
filled-onto_first b [] = omega arith
filled-onto_first b ([] ∷ pieces) = omega arith
filled-onto_first b ((c ∷ piece) ∷ pieces) = omega arith

pub length-words_of : (line : List ℕ) → length (words_of line) ≤ length line
length-words_of [] = omega arith
length-words_of (b ∷ line) = by (is_blank b) (length-words_of line) (filled-onto_first b (slice_split is_blank line))
  where
    by : (blank : Bool) → length (words_of line) ≤ length line
        → length (filled_of (onto_first b (slice_split is_blank line))) ≤ length (filled_of (slice_split is_blank line)) + 1
        → length (filled_of (cond blank ([] ∷ slice_split is_blank line) (onto_first b (slice_split is_blank line)))) ≤ length (b ∷ line)
    by true h g = omega arith
    by false h g = omega arith
