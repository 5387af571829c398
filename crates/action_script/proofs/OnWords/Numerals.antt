-- Numbers that are written and read.
use Rattle.std.proofs.Common.{rules, ◌≡◌, ℕ, ℤ, pos, negsuc, zero, suc, ◌+◌, ◌<◌, ◌≤◌, ◌==◌, ◌^◌, nat_le, Bool, true, false, ◌&&◌, if◌then◌else◌, List, [], ◌∷◌, length, get_or, Option, Some, None, option_map, decimal, refl, sym, ap, ◌∙◌, subst, arith}
use Rattle.std.specs.List.{list_all}
use Rattle.std.specs.Fmt.{signed_decimal}
use Rattle.std.proofs.lemmas.Bool.{and_parts, le-leb, leb-true}
use Rattle.std.proofs.lemmas.Bool.Decides.{nat_tests}
use Rattle.std.proofs.lemmas.Fmt.{decimal_digit, first_decimal, decimal_nonempty, digits_decimal, digits_value-decimal, decimal-digits_value}
use Rattle.std.proofs.lemmas.Str.Parse.{IsNumeralModel, numerals_by_fold}
use Rattle.action_script.specs.Words.ScriptWords.{leads_well, natural_of, at_least_one, negative_of, value_of, count_of, rounds_of}
use Rattle.caa_base.specs.Written.Names.{is_digit}
use Rattle.caa_base.specs.Written.Limits.{is_value}
use Rattle.caa_base.specs.Written.Lines.{digits_after, at_most}

own : IsNumeralModel (λ ds. list_all is_digit ds ≡ true) (digits_after 0)
own = numerals_by_fold _ (search rules) digits_after (search rules)

-- ---- numbers without a sign

leads_well-first : (word : List ℕ) → 48 < get_or word 0 0 → leads_well word ≡ true
leads_well-first [] h = absurd (omega arith)
leads_well-first (b ∷ rest) h = grind (arith, nat_tests)

leads_well-decimal : (n : ℕ) → n < 2 ^ 64 → leads_well (decimal n) ≡ true
leads_well-decimal zero h = ap leads_well (decimal_digit 0 (omega arith))
leads_well-decimal (suc n) h = leads_well-first (decimal (suc n)) (first_decimal (suc n) (omega arith) h)

pub natural_of-decimal : (n : ℕ) → n < 2 ^ 64 → natural_of (decimal n) ≡ Some n
natural_of-decimal n h = rw (leads_well-decimal n h, digits_decimal own n h, digits_value-decimal own n h) refl

leads_well-filled : (word : List ℕ) → leads_well word ≡ true → 0 < length word
leads_well-filled [] h = cc
leads_well-filled (b ∷ rest) h = omega arith

leads_well-zero : (word : List ℕ) → leads_well word ≡ true → get_or word 0 0 ≡ 48 → length word ≡ 1
leads_well-zero [] h e = cc
leads_well-zero (b ∷ []) h e = refl
leads_well-zero (b ∷ c ∷ rest) h e = grind (arith, nat_tests)

-- what is known of a word that is a number
pub record IsNatural (word : List ℕ) (n : ℕ) : Type 0 where
  pub leads : leads_well word ≡ true
  pub digits : list_all is_digit word ≡ true
  pub value : digits_after 0 word ≡ n

pub natural_of-some : (word : List ℕ) (n : ℕ) → natural_of word ≡ Some n → IsNatural word n
natural_of-some word n h = by (leads_well word) (list_all is_digit word) refl refl h
  where
    by : (a b : Bool) → leads_well word ≡ a → list_all is_digit word ≡ b → (if a && b then Some (digits_after 0 word) else None) ≡ Some n
        → IsNatural word n
    by true true e f g = record { leads = e; digits = f; value = cc }
    by true false e f g = cc
    by false b e f g = cc

pub decimal-natural : (word : List ℕ) (n : ℕ) → IsNatural word n → n < 2 ^ 64 → decimal n ≡ word
decimal-natural word n h small =
    subst (λ m. decimal m ≡ word) h.value
    (decimal-digits_value own word h.digits (leads_well-filled word h.leads) (leads_well-zero word h.leads)
    (subst (λ m. m < 2 ^ 64) (sym h.value) small))

pub at_most-some : (most : ℕ) (o : Option ℕ) (n : ℕ) → at_most most o ≡ Some n → (o ≡ Some n) × (n ≤ most)
at_most-some most None n h = cc
at_most-some most (Some m) n h = by (nat_le m most) refl h
  where
    by : (b : Bool) → nat_le m most ≡ b → (if b then Some m else None) ≡ Some n → (Some m ≡ Some n) × (n ≤ most)
    by true e g = let same : m ≡ n = cc in (g, omega (arith, leb-true m most e))
    by false e g = cc

at_most-within : (most n : ℕ) → n ≤ most → at_most most (Some n) ≡ Some n
at_most-within most n h = rw (le-leb n most h) refl

-- ---- rounds and counts

pub rounds_of-decimal : (k : ℕ) → k ≤ 1000000 → rounds_of (decimal k) ≡ Some k
rounds_of-decimal k h = ap (at_most 1000000) (natural_of-decimal k (omega arith)) ∙ at_most-within 1000000 k h

pub rounds_of-some : (word : List ℕ) (k : ℕ) → rounds_of word ≡ Some k → IsNatural word k × (k ≤ 1000000)
rounds_of-some word k h = let p = at_most-some 1000000 (natural_of word) k h in (natural_of-some word k p.0, p.1)

pub count_of-decimal : (k : ℕ) → 1 ≤ k → k ≤ 1000000 → count_of (decimal k) ≡ Some k
count_of-decimal zero low h = absurd (omega arith)
count_of-decimal (suc k) low h = ap at_least_one (rounds_of-decimal (suc k) h)

at_least_one-some : (o : Option ℕ) (k : ℕ) → at_least_one o ≡ Some k → (o ≡ Some k) × (1 ≤ k)
at_least_one-some None k h = cc
at_least_one-some (Some zero) k h = cc
at_least_one-some (Some (suc n)) k h = let same : suc n ≡ k = cc in (h, omega arith)

pub count_of-some : (word : List ℕ) (k : ℕ) → count_of word ≡ Some k → (rounds_of word ≡ Some k) × (1 ≤ k)
count_of-some word k h = at_least_one-some (rounds_of word) k h

-- ---- values

first_digit : (b : ℕ) (rest : List ℕ) → list_all is_digit (b ∷ rest) ≡ true → (b == 45) ≡ false
first_digit b rest h =
    let p = and_parts (is_digit b) _ h in
    let q = and_parts (nat_le 48 b) _ p.0 in
    let r = leb-true 48 b q.0 in
    grind (arith, nat_tests)

value_of-digits : (word : List ℕ) → 0 < length word → list_all is_digit word ≡ true
    → value_of word ≡ option_map pos (at_most 1000000000000 (natural_of word))
value_of-digits [] filled h = absurd (omega arith)
value_of-digits (b ∷ rest) filled h =
    ap
    (λ c. if c then negative_of (at_most 1000000000000 (natural_of rest)) else option_map pos
    (at_most 1000000000000 (natural_of (b ∷ rest))))
    (first_digit b rest h)

pub value_of-decimal : (v : ℤ) → is_value v ≡ true → value_of (signed_decimal v) ≡ Some v
value_of-decimal (pos n) h =
    let small = leb-true n 1000000000000 h in
    value_of-digits (decimal n) (decimal_nonempty n (omega arith)) (digits_decimal own n (omega arith))
    ∙ ap (λ o. option_map pos (at_most 1000000000000 o)) (natural_of-decimal n (omega arith))
    ∙ ap (option_map pos) (at_most-within 1000000000000 n small)
value_of-decimal (negsuc n) h =
    let small = leb-true (n + 1) 1000000000000 h in
    ap (λ o. negative_of (at_most 1000000000000 o)) (natural_of-decimal (suc n) (omega arith))
    ∙ ap negative_of (at_most-within 1000000000000 (suc n) (omega arith))

-- a word that is a value, written with a sign if it is below 0
pub record IsValueWord (word : List ℕ) (v : ℤ) : Type 0 where
  pub written : signed_decimal v ≡ word
  pub within : is_value v ≡ true

positive : (word : List ℕ) (o : Option ℕ) (v : ℤ) → at_most 1000000000000 (natural_of word) ≡ o → option_map pos o ≡ Some v
    → IsValueWord word v
positive word None v e h = cc
positive word (Some n) v e h =
    let same : pos n ≡ v = cc in
    let p = at_most-some 1000000000000 (natural_of word) n e in
    subst (IsValueWord word) same
    (record { written = decimal-natural word n (natural_of-some word n p.0) (omega (arith, p.1)); within = le-leb n 1000000000000 p.1 })

negative : (rest : List ℕ) (o : Option ℕ) (v : ℤ) → at_most 1000000000000 (natural_of rest) ≡ o → negative_of o ≡ Some v
    → IsValueWord (45 ∷ rest) v
negative rest None v e h = cc
negative rest (Some zero) v e h = cc
negative rest (Some (suc n)) v e h =
    let same : negsuc n ≡ v = cc in
    let p = at_most-some 1000000000000 (natural_of rest) (suc n) e in
    subst (IsValueWord (45 ∷ rest)) same
    (record {
      written = ap (λ w. 45 ∷ w) (decimal-natural rest (suc n) (natural_of-some rest (suc n) p.0) (omega (arith, p.1)));
      within = le-leb (n + 1) 1000000000000 (omega (arith, p.1));
    })

pub value_of-some : (word : List ℕ) (v : ℤ) → value_of word ≡ Some v → IsValueWord word v
value_of-some [] v h = cc
value_of-some (b ∷ rest) v h = by (b == 45) refl h
  where
    by : (c : Bool) → (b == 45) ≡ c
        →
        (if c then negative_of (at_most 1000000000000 (natural_of rest)) else option_map pos
        (at_most 1000000000000 (natural_of (b ∷ rest))))
        ≡ Some v
        → IsValueWord (b ∷ rest) v
    by true e g =
        let same : 45 ≡ b = grind (arith, nat_tests) in
        subst (λ x. IsValueWord (x ∷ rest) v) same (negative rest (at_most 1000000000000 (natural_of rest)) v refl g)
    by false e g = positive (b ∷ rest) (at_most 1000000000000 (natural_of (b ∷ rest))) v refl g
