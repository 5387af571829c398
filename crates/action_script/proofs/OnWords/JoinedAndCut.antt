-- What is joined is cut again: words by spaces, lines by line feeds.
use Rattle.std.proofs.Common.{◌≡◌, ℕ, ◌≤◌, ◌==◌, nat_le, Bool, true, false, not, cond, List, [], ◌∷◌, ◌++◌, refl, ap, ◌∙◌, arith}
use Rattle.std.specs.List.{list_all, slice_split, All}
use Rattle.std.proofs.lemmas.Bool.{and_parts, leb-true, not-true}
use Rattle.std.proofs.lemmas.List.Elements.{All-cons}
use Rattle.std.proofs.lemmas.Bool.Decides.{nat_tests}
use Rattle.std.proofs.lemmas.List.{append-nil}
use Rattle.std.proofs.lemmas.List.Folds.{list_all-append}
use Rattle.std.proofs.lemmas.List.Splits.{slice_split_at, slice_split_none}
use Rattle.action_script.specs.Words.CutLines.{filled_of, is_blank, is_plain, words_of, lines_of, without_empty_last}
use Rattle.caa_base.specs.Written.Lines.{spaced}
use Rattle.action_script.proofs.OnWords.LineCuts.{without_empty_last-cons}
use Rattle.action_script.proofs.OnWords.Pieces.{some_piece}
use Rattle.action_script.proofs.OnWords.Inky.{is_inky, IsWord}

-- each of these is a word
abbrev pub AreWords : List (List ℕ) → Type 0
AreWords [] = Unit {0}
AreWords (word ∷ words) = IsWord word × AreWords words

-- ---- bytes

inky_range : (b : ℕ) → is_inky b ≡ true → (33 ≤ b) × (b ≤ 126)
inky_range b h = let p = and_parts (nat_le 33 b) _ h in (leb-true 33 b p.0, leb-true b 126 p.1)

inky_blank : (b : ℕ) → is_inky b ≡ true → is_blank b ≡ false
inky_blank b h = let p = inky_range b h in grind (arith, nat_tests)

inky_line_feed : (b : ℕ) → is_inky b ≡ true → (b == 10) ≡ false
inky_line_feed b h = let p = inky_range b h in grind (arith, nat_tests)

pub inky_plain : (b : ℕ) → is_inky b ≡ true → is_plain b ≡ true
inky_plain b h = rw (inky_blank b h, h) refl

none_pass : (test : ℕ → Bool) → ((b : ℕ) → is_inky b ≡ true → test b ≡ false) → (word : List ℕ) → list_all is_inky word ≡ true
    → All (λ b. test b ≡ false) word
none_pass test one [] h = λ k d l. absurd (omega arith)
none_pass test one (b ∷ word) h =
    let p = and_parts (is_inky b) _ h in
    All-cons (λ b. test b ≡ false) b word (one b p.0) (none_pass test one word p.1)

-- ---- words

-- a word alone, and one before a space
words_of-word : (word : List ℕ) → IsWord word → words_of word ≡ word ∷ []
words_of-word word h =
    let none = none_pass is_blank inky_blank word h.inky in
    ap filled_of (slice_split_none is_blank word none) ∙ ap (λ b. cond (not b) (word ∷ []) []) h.filled

words_of-spaced : (word rest : List ℕ) → IsWord word → words_of (word ++ 32 ∷ rest) ≡ word ∷ words_of rest
words_of-spaced word rest h =
    let none = none_pass is_blank inky_blank word h.inky in
    ap filled_of (slice_split_at is_blank word 32 rest none refl) ∙ ap (λ b. cond (not b) (word ∷ words_of rest) (words_of rest)) h.filled

-- words parted by spaces are these words
pub words_of-joined : (first : List ℕ) (words : List (List ℕ)) → IsWord first → AreWords words
    → words_of (first ++ spaced words) ≡ first ∷ words
words_of-joined first [] h hs = ap words_of (append-nil first) ∙ words_of-word first h
words_of-joined first (word ∷ words) h hs =
    words_of-spaced first (word ++ spaced words) h ∙ ap (λ l. first ∷ l) (words_of-joined word words hs.0 hs.1)

-- and their bytes are plain, with no line feed among them
pub each_byte : (test : ℕ → Bool) → ((b : ℕ) → is_inky b ≡ true → test b ≡ true) → (word : List ℕ) → list_all is_inky word ≡ true
    → list_all test word ≡ true
each_byte test one [] h = refl
each_byte test one (b ∷ word) h = let p = and_parts (is_inky b) _ h in rw (one b p.0, each_byte test one word p.1) refl

spaced_bytes : (test : ℕ → Bool) → ((b : ℕ) → is_inky b ≡ true → test b ≡ true) → test 32 ≡ true → (words : List (List ℕ)) → AreWords words
    → list_all test (spaced words) ≡ true
spaced_bytes test one space [] h = refl
spaced_bytes test one space (word ∷ words) h =
    rw (list_all-append test word (spaced words), space, each_byte test one word h.0.inky, spaced_bytes test one space words h.1) refl

joined_bytes : (test : ℕ → Bool) → ((b : ℕ) → is_inky b ≡ true → test b ≡ true) → test 32 ≡ true → (first : List ℕ) (words : List (List ℕ))
    → IsWord first → AreWords words → list_all test (first ++ spaced words) ≡ true
joined_bytes test one space first words h hs =
    rw (list_all-append test first (spaced words), each_byte test one first h.inky, spaced_bytes test one space words hs) refl

pub joined_plain : (first : List ℕ) (words : List (List ℕ)) → IsWord first → AreWords words
    → list_all is_plain (first ++ spaced words) ≡ true
joined_plain first words h hs = joined_bytes is_plain inky_plain refl first words h hs

-- a line without a line feed
abbrev pub is_one_line : List ℕ → Bool
is_one_line line = list_all (λ b. not (b == 10)) line

pub joined_one_line : (first : List ℕ) (words : List (List ℕ)) → IsWord first → AreWords words → is_one_line (first ++ spaced words) ≡ true
joined_one_line first words h hs = joined_bytes (λ b. not (b == 10)) (λ b h. ap not (inky_line_feed b h)) refl first words h hs

-- ---- lines

not_line_feed : (line : List ℕ) → is_one_line line ≡ true → All (λ b. (b == 10) ≡ false) line
not_line_feed [] h = λ k d l. absurd (omega arith)
not_line_feed (b ∷ line) h =
    let p = and_parts (not (b == 10)) _ h in
    All-cons (λ b. (b == 10) ≡ false) b line (not-true (b == 10) p.0) (not_line_feed line p.1)

-- one line with its line feed, and what follows
pub lines_of-line : (line rest : List ℕ) → is_one_line line ≡ true → lines_of (line ++ 10 ∷ rest) ≡ line ∷ lines_of rest
lines_of-line line rest h =
    ap without_empty_last (slice_split_at (λ b. b == 10) line 10 rest (not_line_feed line h) refl)
    ∙ without_empty_last-cons line (slice_split (λ b. b == 10) rest) (some_piece (λ b. b == 10) rest)
