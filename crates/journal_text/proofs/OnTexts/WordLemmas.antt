-- Words up to a gap: a text tells each of them, and what follows it.
use Rattle.std.proofs.Common.{◌≡◌, ℕ, ℤ, pos, negsuc, ◌<◌, ◌+◌, ◌-◌, ◌%◌, ◌^◌, true, false, not, List, [], ◌∷◌, ◌++◌, bytes_eq, decimal, refl, sym, ap, ◌∙◌, subst, arith, suc, add-one, append_assoc}
use Rattle.std.specs.List.{list_all}
use Rattle.std.specs.Fmt.{signed_decimal}
use Rattle.std.proofs.lemmas.Bool.{cond-false, and_parts, and_from, not-true, false≢true}
use Rattle.std.proofs.lemmas.Bool.Decides.{nat_tests}
use Rattle.std.proofs.lemmas.Fmt.{decimal_by_steps}
use Rattle.std.proofs.lemmas.Int.{ints}
use Rattle.caa_base.specs.Written.Lines.{spaced, line}
use Rattle.caa_base.specs.Written.Limits.{IsValue}
use Rattle.journal_text.specs.Texts.Naming.{index_among}
use Rattle.journal_text.specs.inner.Tokens.{is_gap, is_whole, BeginsWithGap}

-- ---- words

no_gap_inside : (b : ℕ) (rest : List ℕ) → is_whole (b ∷ rest) ≡ true → is_gap b ≡ true → ⊥
no_gap_inside b rest w g = false≢true (sym (not-true (is_gap b) (and_parts (not (is_gap b)) (is_whole rest) w).0) ∙ g)

rest_whole : (b : ℕ) (rest : List ℕ) → is_whole (b ∷ rest) ≡ true → is_whole rest ≡ true
rest_whole b rest w = (and_parts (not (is_gap b)) (is_whole rest) w).1

-- a whole word that stands in front is a front of any word that stands there up to a gap
pub front-told : (w v x y : List ℕ) → is_whole w ≡ true → BeginsWithGap y → w ++ x ≡ v ++ y
    → (z : List ℕ) × (v ≡ w ++ z) × (x ≡ z ++ y)
front-told [] v x y h g e = (v, refl, e)
front-told (b ∷ w) [] x y h g e = absurd (no_gap_inside b w h (subst BeginsWithGap (sym e) g))
front-told (b ∷ w) (c ∷ v) x y h g e =
    let first : b ≡ c = cc in
    let same : w ++ x ≡ v ++ y = cc in
    let told = front-told w v x y (rest_whole b w h) g same in
    let is : v ≡ w ++ told.0 = told.1 in
    (told.0, cc, told.2)

-- a text tells the word in front of it, up to a gap
pub word-told : (w v x y : List ℕ) → is_whole w ≡ true → is_whole v ≡ true → BeginsWithGap x → BeginsWithGap y
    → w ++ x ≡ v ++ y → (w ≡ v) × (x ≡ y)
word-told [] [] x y hw hv gx gy e = (refl, e)
word-told [] (c ∷ v) x y hw hv gx gy e = absurd (no_gap_inside c v hv (subst BeginsWithGap e gx))
word-told (b ∷ w) [] x y hw hv gx gy e = absurd (no_gap_inside b w hw (subst BeginsWithGap (sym e) gy))
word-told (b ∷ w) (c ∷ v) x y hw hv gx gy e =
    let first : b ≡ c = cc in
    let same : w ++ x ≡ v ++ y = cc in
    let told = word-told w v x y (rest_whole b w hw) (rest_whole c v hv) gx gy same in
    let is : w ≡ v = told.0 in
    (cc, told.1)

-- ---- lines of words

-- the rest of a line of words begins with a gap
pub begins-line : (words : List (List ℕ)) (text : List ℕ) → BeginsWithGap (spaced words ++ 10 ∷ text)
begins-line [] text = refl
begins-line (word ∷ words) text = refl

-- a word after a space, and what follows it in a line
pub next-word : (word : List ℕ) (words : List (List ℕ)) (text : List ℕ)
    → spaced (word ∷ words) ++ 10 ∷ text ≡ 32 ∷ word ++ (spaced words ++ 10 ∷ text)
next-word word words text = ap (λ t. 32 ∷ t) (append_assoc word (spaced words) (10 ∷ text))

-- a line and what follows it, as words
pub line-words : (first : List ℕ) (words : List (List ℕ)) (more : List ℕ) → line first words ++ more ≡ first ++ (spaced words ++ 10 ∷ more)
line-words first words more = append_assoc (first ++ spaced words) (10 ∷ []) more ∙ append_assoc first (spaced words) (10 ∷ more)

-- a text tells the words of the line with which it begins
pub words-told : (ws vs : List (List ℕ)) (x y : List ℕ) → list_all is_whole ws ≡ true → list_all is_whole vs ≡ true
    → spaced ws ++ 10 ∷ x ≡ spaced vs ++ 10 ∷ y → (ws ≡ vs) × (x ≡ y)
words-told [] [] x y hw hv e = (refl, cc)
words-told [] (v ∷ vs) x y hw hv e = cc
words-told (w ∷ ws) [] x y hw hv e = cc
words-told (w ∷ ws) (v ∷ vs) x y hw hv e =
    let one = and_parts (is_whole w) (list_all is_whole ws) hw in
    let two = and_parts (is_whole v) (list_all is_whole vs) hv in
    let whole : 32 ∷ w ++ (spaced ws ++ 10 ∷ x) ≡ 32 ∷ v ++ (spaced vs ++ 10 ∷ y) = sym (next-word w ws x) ∙ e ∙ next-word v vs y in
    let same : w ++ (spaced ws ++ 10 ∷ x) ≡ v ++ (spaced vs ++ 10 ∷ y) = cc in
    let told =
    word-told w v (spaced ws ++ 10 ∷ x) (spaced vs ++ 10 ∷ y) one.0 two.0 (begins-line ws x) (begins-line vs y) same in
    let later = words-told ws vs x y one.1 two.1 told.1 in
    let first : w ≡ v = told.0 in
    let rest : ws ≡ vs = later.0 in
    (cc, later.1)

-- ---- numbers

whole-append : (a b : List ℕ) → is_whole a ≡ true → is_whole b ≡ true → is_whole (a ++ b) ≡ true
whole-append [] b h k = k
whole-append (x ∷ a) b h k = let p = and_parts (not (is_gap x)) (is_whole a) h in and_from _ _ p.0 (whole-append a b p.1 k)

whole-digit : (n : ℕ) → n < 10 → is_whole ((48 + n) ∷ []) ≡ true
whole-digit n h = grind (arith, nat_tests)

pub whole-decimal : (n : ℕ) → n < 2 ^ 64 → is_whole (decimal n) ≡ true
whole-decimal n h =
    decimal_by_steps (λ m ds. is_whole ds ≡ true) whole-digit
    (λ m ds l k. whole-append ds ((48 + m % 10) ∷ []) k (whole-digit (m % 10) (omega arith))) n h

pub whole-signed : (z : ℤ) → IsValue z → is_whole (signed_decimal z) ≡ true
whole-signed (pos n) h = whole-decimal n (omega (arith, ints, h.1))
whole-signed (negsuc n) h = whole-decimal (suc n) (omega (arith, ints, h.0))

-- ---- names

-- the search passes a name that differs
pub index-passed : (name_of : ℕ → List ℕ) (word : List ℕ) (from n : ℕ) → from < n → bytes_eq (name_of from) word ≡ false
    → index_among name_of word (from + 1) (n - (from + 1)) ≡ index_among name_of word from (n - from)
index-passed name_of word from n within other =
    let left : n - from ≡ suc (n - (from + 1)) = omega arith in
    rw (left, add-one) (sym (cond-false (bytes_eq (name_of from) word) from (index_among name_of word (suc from) (n - suc from)) other))
