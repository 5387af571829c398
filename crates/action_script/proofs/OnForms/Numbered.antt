-- Names that first appear in this order have their places as numbers.
use Rattle.std.proofs.Common.{◌≡◌, ℕ, zero, suc, ◌+◌, ◌<◌, nat_lt, Bool, true, false, ◌||◌, if◌then◌else◌, List, [], ◌∷◌, ◌++◌, length, get_or, bytes_eq, refl, sym, ap, ◌∙◌, subst, arith, length-append}
use Rattle.std.proofs.lemmas.Bool.{ltb-true, ltb-false}
use Rattle.std.proofs.lemmas.List.{get_or_append_left}
use Rattle.std.proofs.Math.Seq.{get_or-append_seam}
use Rattle.action_script.specs.Words.NumberedNames.{is_among, with_name, with_names, number_in}
use Rattle.action_script.proofs.OnLines.Steadiness.{bytes_eq-same, number_in-push}
use Rattle.action_script.proofs.OnForms.Fits.{AreNumbered}

-- the name at a place is among the names
name_among : (names : List (List ℕ)) (n : ℕ) → n < length names → is_among names (get_or names n []) ≡ true
name_among [] n h = absurd (omega arith)
name_among (name ∷ names) zero h = ap (λ b. b || is_among names name) (bytes_eq-same name)
name_among (name ∷ names) (suc n) h = by (bytes_eq (get_or names n []) name) (name_among names n (omega arith))
  where
    by : (b : Bool) → is_among names (get_or names n []) ≡ true → (b || is_among names (get_or names n [])) ≡ true
    by true g = refl
    by false g = g

-- a name that wasn't there gets the count of names as its number
number_in-push_new : (names : List (List ℕ)) (word : List ℕ) → is_among names word ≡ false
    → number_in (names ++ word ∷ []) word ≡ length names
number_in-push_new [] word h = ap (λ b. if b then 0 else 1) (bytes_eq-same word)
number_in-push_new (name ∷ names) word h = by (bytes_eq word name) (number_in-push_new names word) h
  where
    by : (b : Bool) → (is_among names word ≡ false → number_in (names ++ word ∷ []) word ≡ length names)
        → (b || is_among names word) ≡ false → (if b then 0 else 1 + number_in (names ++ word ∷ []) word) ≡ length (name ∷ names)
    by true rest g = cc
    by false rest g = omega (arith, rest g)

numbered-push : (names : List (List ℕ)) (word : List ℕ) → is_among names word ≡ false → AreNumbered names → AreNumbered (names ++ word ∷ [])
numbered-push names word none h n l = by (nat_lt n (length names)) refl
  where
    by : (b : Bool) → nat_lt n (length names) ≡ b → number_in (names ++ word ∷ []) (get_or (names ++ word ∷ []) n []) ≡ n
    by true e =
        let within = ltb-true n (length names) e in
        let same : get_or (names ++ word ∷ []) n [] ≡ get_or names n [] = get_or_append_left names (word ∷ []) [] n within in
        ap (number_in (names ++ word ∷ [])) same ∙ number_in-push names word (get_or names n []) (name_among names n within) ∙ h n within
    by false e =
        let past = ltb-false n (length names) e in
        let last : n ≡ length names = omega (arith, length-append names (word ∷ [])) in
        let same : get_or (names ++ word ∷ []) (length names) [] ≡ word = get_or-append_seam names word [] [] in
        subst (λ k. number_in (names ++ word ∷ []) (get_or (names ++ word ∷ []) k []) ≡ k) (sym last)
        (ap (number_in (names ++ word ∷ [])) same ∙ number_in-push_new names word none)

numbered-with_name : (names : List (List ℕ)) (word : List ℕ) → AreNumbered names → AreNumbered (with_name names word)
numbered-with_name names word h = by (is_among names word) refl
  where
    by : (b : Bool) → is_among names word ≡ b → AreNumbered (if b then names else names ++ word ∷ [])
    by true e = h
    by false e = numbered-push names word e h

pub numbered-with_names : (names words : List (List ℕ)) → AreNumbered names → AreNumbered (with_names names words)
numbered-with_names names [] h = h
numbered-with_names names (word ∷ words) h = numbered-with_names (with_name names word) words (numbered-with_name names word h)

pub numbered-none : AreNumbered []
numbered-none n h = absurd (omega arith)
