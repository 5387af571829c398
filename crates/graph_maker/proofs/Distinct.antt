-- Names that come once.
use Rattle.std.proofs.Common.{◌≡◌, ◌≢◌, ℕ, ◌+◌, ◌<◌, ◌≤◌, Bool, true, false, ◌||◌, if◌then◌else◌, List, [], ◌∷◌, ◌++◌, length, take, get_or, bytes_eq, refl, sym, ap, ◌∙◌, arith}
use Rattle.std.proofs.lemmas.List.{length_push, take_more}
use Rattle.action_script.specs.Words.NumberedNames.{is_among, number_in, with_name, with_names}
use Rattle.action_script.proofs.OnLines.Steadiness.{with_names-append}

-- a word that isn't there has the count of names as its number, and any other a lesser one
pub absent : (names : List (List ℕ)) (word : List ℕ) → is_among names word ≡ false → number_in names word ≡ length names
absent [] word h = refl
absent (name ∷ names) word h = by (bytes_eq word name) (absent names word) h
  where
    by : (b : Bool) → (is_among names word ≡ false → number_in names word ≡ length names) → (b || is_among names word) ≡ false
        → (if b then 0 else 1 + number_in names word) ≡ length (name ∷ names)
    by true rest g = cc
    by false rest g = omega (arith, rest g)

pub present : (names : List (List ℕ)) (word : List ℕ) → is_among names word ≡ true → number_in names word < length names
present [] word h = cc
present (name ∷ names) word h = by (bytes_eq word name) (present names word) h
  where
    by : (b : Bool) → (is_among names word ≡ true → number_in names word < length names) → (b || is_among names word) ≡ true
        → (if b then 0 else 1 + number_in names word) < length (name ∷ names)
    by true rest g = omega arith
    by false rest g = omega (arith, rest g)

pub new_name : (names : List (List ℕ)) (word : List ℕ) → number_in names word ≡ length names → names ++ word ∷ [] ≡ with_name names word
new_name names word h = by (is_among names word) refl
  where
    by : (b : Bool) → is_among names word ≡ b → names ++ word ∷ [] ≡ (if b then names else names ++ word ∷ [])
    by true e = let less = present names word e in absurd (omega (arith, less, h))
    by false e = refl

pub old_name : (names : List (List ℕ)) (word : List ℕ) → number_in names word ≢ length names → names ≡ with_name names word
old_name names word h = by (is_among names word) refl
  where
    by : (b : Bool) → is_among names word ≡ b → names ≡ (if b then names else names ++ word ∷ [])
    by true e = refl
    by false e = absurd (h (absent names word e))

-- one word more
pub names_more : (words : List (List ℕ)) (i : ℕ) (word : List ℕ) → i < length words → word ≡ get_or words i word
    → with_name (with_names [] (take i words)) word ≡ with_names [] (take (i + 1) words)
names_more words i word within is =
    sym (ap (with_names []) (take_more words i word within ∙ ap (λ (w : List ℕ). take i words ++ w ∷ []) (sym is))
    ∙ with_names-append [] (take i words) (word ∷ []))

length-with_name : (names : List (List ℕ)) (word : List ℕ) → length (with_name names word) ≤ length names + 1
length-with_name names word = by (is_among names word)
  where
    by : (b : Bool) → length (if b then names else names ++ word ∷ []) ≤ length names + 1
    by true = omega arith
    by false = simp length_push (omega arith)

pub few_more : (names new : List (List ℕ)) (word : List ℕ) (i : ℕ) → new ≡ with_name names word → length names ≤ i → length new ≤ i + 1
few_more names new word i is few =
    let more = length-with_name names word in
    let same = ap (λ (l : List (List ℕ)). length l) is in
    omega (arith, more, same, few)
