-- What one token after another tells of a line.
use Rattle.std.proofs.Common.{◌≡◌, ℕ, ◌<◌, ◌≤◌, true, List, ◌∷◌, ◌++◌, Option, Some, None, sym, ap, ◌∙◌, arith}
use Rattle.caa_base.specs.Written.Lines.{spaced}
use Rattle.journal_text.specs.Texts.Naming.{index_among}
use Rattle.journal_text.specs.inner.Tokens.{is_whole, BeginsWithGap, TokenRead, LineRead}
use Rattle.journal_text.proofs.OnTexts.WordLemmas.{word-told, begins-line, next-word}
use Rattle.journal_text.proofs.OnTexts.NamingLemmas.{Named, index-named}

-- ---- one token

-- a token behind a byte
pub token-after : {A R : Type 0} (now : R → List ℕ) (Fits : A → Type 0) (spelled : A → List ℕ) (first : ℕ) (text rest : List ℕ)
    (read : Option (A × R)) → text ≡ first ∷ rest → TokenRead now Fits spelled rest read
    → TokenRead now Fits (λ a. first ∷ spelled a) text read
token-after now Fits spelled first text rest None is h = λ a more fits gap same.
    let later : rest ≡ spelled a ++ more = cc in
    h a more fits gap later
token-after now Fits spelled first text rest (Some r) is h = (h.0, h.1, is ∙ ap (λ t. first ∷ t) h.2)

-- ---- words of a line

-- words up to the end of their line, and what follows it
abbrev pub rest_of : List (List ℕ) → List ℕ → List ℕ
rest_of words more = spaced words ++ 10 ∷ more

-- the first word of a line, as a token finds it
pub first-there : (word : List ℕ) (words : List (List ℕ)) (more text : List ℕ) → text ≡ spaced (word ∷ words) ++ 10 ∷ more
    → text ≡ 32 ∷ word ++ (spaced words ++ 10 ∷ more)
first-there word words more text same = same ∙ next-word word words more

-- a word that was read is the first word of the line, and the others follow
pub passed : (read word : List ℕ) (words : List (List ℕ)) (text rest more : List ℕ) → is_whole read ≡ true → is_whole word ≡ true
    → BeginsWithGap rest → text ≡ 32 ∷ read ++ rest → text ≡ spaced (word ∷ words) ++ 10 ∷ more
    → (read ≡ word) × (rest ≡ spaced words ++ 10 ∷ more)
passed read word words text rest more h k gap is same =
    let whole : 32 ∷ read ++ rest ≡ 32 ∷ word ++ (spaced words ++ 10 ∷ more) = sym is ∙ first-there word words more text same in
    let cut : read ++ rest ≡ word ++ (spaced words ++ 10 ∷ more) = cc in
    word-told read word rest (spaced words ++ 10 ∷ more) h k gap (begins-line words more) cut

-- a word before the words of the rest of a line
pub joined : (word : List ℕ) (words : List (List ℕ)) (text rest more : List ℕ) → text ≡ 32 ∷ word ++ rest
    → rest ≡ spaced words ++ 10 ∷ more → text ≡ spaced (word ∷ words) ++ 10 ∷ more
joined word words text rest more is later = is ∙ ap (λ t. 32 ∷ word ++ t) later ∙ sym (next-word word words more)

-- ---- the rest of a line

-- what fits and is said in other words
pub line-as : {A R : Type 0} (now : R → List ℕ) (Fits Others : A → Type 0) (words others : A → List (List ℕ)) (text : List ℕ)
    (read : Option (A × R)) → ((a : A) → Fits a → Others a) → ((a : A) → Others a → Fits a) → ((a : A) → Others a → words a ≡ others a)
    → LineRead now Fits words text read → LineRead now Others others text read
line-as now Fits Others words others text None to back same h = λ a rest fits is.
    h a rest (back a fits) (is ∙ ap (λ ws. spaced ws ++ 10 ∷ rest) (sym (same a fits)))
line-as now Fits Others words others text (Some r) to back same h =
    (to r.0 h.0, h.1 ∙ ap (λ ws. spaced ws ++ 10 ∷ now r.1) (same r.0 (to r.0 h.0)))

-- ---- names

module _ {R : Type 0} (now : R → List ℕ) (name_of : ℕ → List ℕ) (n : ℕ) (names : Named name_of n) (text word : List ℕ) (rest : R)
    (whole : is_whole word ≡ true) (gap : BeginsWithGap (now rest)) (is : text ≡ 32 ∷ word ++ now rest) (i : ℕ)
    (found : i ≡ index_among name_of word 0 n) where
  -- the number that was found has the name
  pub name-found : i < n → TokenRead now (λ k. k < n) (λ k. 32 ∷ name_of k) text (Some (i, rest))
  name-found low =
      let same : name_of i ≡ word = ap name_of found ∙ index-named name_of word 0 n (omega (arith, low, found)) in
      (low, gap, is ∙ ap (λ w. 32 ∷ w ++ now rest) (sym same))

  -- where none was found, no name stands there
  pub name-none : n ≤ i → TokenRead {R = R} now (λ k. k < n) (λ k. 32 ∷ name_of k) text None
  name-none high k more low ends same =
      let both : 32 ∷ word ++ now rest ≡ 32 ∷ name_of k ++ more = sym is ∙ same in
      let cut : word ++ now rest ≡ name_of k ++ more = cc in
      let told = word-told word (name_of k) (now rest) more whole (names.whole k low) gap ends cut in
      omega (arith, low, high, found ∙ ap (λ w. index_among name_of w 0 n) told.0 ∙ names.own k low)
