-- Numbers as they are spelled: what the digits in front of a text say of a number, and the other way round.
use Rattle.std.proofs.Common.{◌≡◌, ℕ, ℤ, pos, negsuc, neg_ℤ, ◌+◌, ◌-◌, ◌*◌, ◌<◌, ◌≤◌, ◌^◌, ◌%◌, true, false, not, List, [], ◌∷◌, ◌++◌, length, take, drop, get_or, decimal, Some, None, to_z, of_z, w64, refl, sym, ap, ◌∙◌, subst, arith, inl, inr, suc, zero, get_or-take, append-nil}
use Rattle.std.specs.Fmt.{signed_decimal}
use Rattle.std.specs.Str.Parse.{AllDigits, digits_value}
use Rattle.std.proofs.lemmas.Bool.{cases_lt, and_from, false≢true}
use Rattle.std.proofs.lemmas.Bool.Decides.{nat_tests}
use Rattle.std.proofs.lemmas.Fmt.{decimal_is_IsNumeral, decimal_by_steps, decimal_digit, decimal_injective, decimal_nonempty, first_decimal, decimal-digits_value}
use Rattle.std.proofs.lemmas.Int.Digits.{digits_more, digits_value_more}
use Rattle.std.proofs.lemmas.List.{length-take-le, length-append, take-append-drop}
use Rattle.std.proofs.lemmas.Str.{digit_value_digit}
use Rattle.std.proofs.lemmas.Str.Parse.{numerals_by_value, tells_digits, digit_from_value, digits_value-take-le}
use Rattle.std.proofs.Math.Seq.{take-append_seam}
use Rattle.std.proofs.lemmas.Int.{ints, to_z-of_z}
use Rattle.caa_base.specs.Written.Limits.{most_value, IsValue}
use Rattle.caa_base.specs.Written.Names.{is_digit}
use Rattle.journal_text.specs.inner.Tokens.{is_gap, is_whole, BeginsWithGap, AreDigits, TokenRead}
use Rattle.journal_text.proofs.OnTexts.WordLemmas.{front-told, word-told, whole-decimal}

-- ---- digits

-- the test and the range
digit_is : (b : ℕ) → 48 ≤ b → b ≤ 57 → is_digit b ≡ true
digit_is b low high = grind (arith, nat_tests)

digit_low : (b : ℕ) → is_digit b ≡ true → 48 ≤ b
digit_low b is = grind (arith, nat_tests)

digit_high : (b : ℕ) → is_digit b ≡ true → b ≤ 57
digit_high b is = grind (arith, nat_tests)

digit_whole : (b : ℕ) → 48 ≤ b → b ≤ 57 → not (is_gap b) ≡ true
digit_whole b low high = grind (arith, nat_tests)

whole-digits : (ds : List ℕ) → AllDigits 10 ds → is_whole ds ≡ true
whole-digits [] h = refl
whole-digits (b ∷ ds) h = let is = digit_from_value b h.0 in and_from _ _ (digit_whole b is.0 is.1) (whole-digits ds h.1)

later_digits : (ds es : List ℕ) → AllDigits 10 (ds ++ es) → AllDigits 10 es
later_digits [] es h = h
later_digits (b ∷ ds) es h = later_digits ds es h.1

-- one digit more
pub digits_on : (text : List ℕ) (i : ℕ) → i < length text → is_digit (get_or text i 0) ≡ true → AllDigits 10 (take i text)
    → AllDigits 10 (take (i + 1) text)
digits_on text i low is all =
    let v = digit_value_digit (get_or text i 0) (digit_low (get_or text i 0) is, digit_high (get_or text i 0) is) in
    digits_more 10 text i low all (omega (arith, v, digit_high (get_or text i 0) is))

pub value_on : (text : List ℕ) (i number : ℕ) → i < length text → is_digit (get_or text i 0) ≡ true
    → number ≡ digits_value 10 (take i text) → 10 * number + (get_or text i 0 - 48) ≡ digits_value 10 (take (i + 1) text)
value_on text i number low is so_far =
    let v = digit_value_digit (get_or text i 0) (digit_low (get_or text i 0) is, digit_high (get_or text i 0) is) in
    omega (arith, v, so_far, digits_value_more 10 text i low)

-- ---- where no number is spelled

gap_some : (rest : List ℕ) → BeginsWithGap rest → 0 < length rest
gap_some [] h = absurd h
gap_some (b ∷ rest) h = omega arith

-- after digits stands what is neither a digit nor a gap
pub stray : (ds x rest : List ℕ) (b n : ℕ) → AllDigits 10 ds → is_digit b ≡ false → is_gap b ≡ false → n < 2 ^ 64
    → BeginsWithGap rest → ds ++ (b ∷ x) ≡ decimal n ++ rest → ⊥
stray ds x rest b n all undigit other small gap same =
    let told = front-told ds (decimal n) (b ∷ x) rest (whole-digits ds all) gap same in
    by told.0 told.1 told.2
  where
    by : (z : List ℕ) → decimal n ≡ ds ++ z → b ∷ x ≡ z ++ rest → ⊥
    by [] is e = false≢true (sym other ∙ subst BeginsWithGap (sym e) gap)
    by (c ∷ z) is e =
        let first : b ≡ c = cc in
        let digits = later_digits ds (c ∷ z) (subst (AllDigits 10) is (decimal_is_IsNumeral n small).0.1) in
        let range = digit_from_value c digits.0 in
        false≢true (sym undigit ∙ ap is_digit first ∙ digit_is c range.0 range.1)

-- the digits make a number past 64 bits
pub too_large : (ds x rest : List ℕ) (n : ℕ) → AllDigits 10 ds → 2 ^ 64 ≤ digits_value 10 ds → n < 2 ^ 64
    → BeginsWithGap rest → ds ++ x ≡ decimal n ++ rest → ⊥
too_large ds x rest n all large small gap same =
    let told = front-told ds (decimal n) x rest (whole-digits ds all) gap same in
    let is : decimal n ≡ ds ++ told.0 = told.1 in
    let front : take (length ds) (decimal n) ≡ ds = ap (take (length ds)) is ∙ take-append_seam ds told.0 in
    omega (
      arith,
      ap (digits_value 10) front,
      digits_value-take-le 10 (decimal n) (length ds) (omega arith),
      (decimal_is_IsNumeral n small).1,
    )

-- the text ends with the digits
pub unended : (ds rest : List ℕ) (n : ℕ) → AllDigits 10 ds → BeginsWithGap rest → ds ≡ decimal n ++ rest → ⊥
unended ds rest n all gap same =
    let told = front-told ds (decimal n) [] rest (whole-digits ds all) gap (append-nil ds ∙ same) in
    omega (arith, ap length told.2, length-append told.0 rest, gap_some rest gap)

-- ---- numbers

-- a run of digits without a zero in front spells the number that they make
pub spells : (text : List ℕ) (number end : ℕ) → AreDigits text number end → number < 2 ^ 64 → 0 < end
    → (1 < end → get_or text 0 0 ≡ 48 → ⊥) → take end text ≡ decimal number
spells text number end are small some plain =
    let long : length (take end text) ≡ end = length-take-le end text are.inside in
    let lead : get_or (take end text) 0 0 ≡ 48 → length (take end text) ≡ 1 =
    λ first. elim (cases_lt 1 end) [
      | inl more ↦ absurd (plain more (sym (get_or-take end text 0 0 some) ∙ first))
      | inr one ↦ omega (arith, long)
    ] in
    sym (ap decimal are.value
    ∙ decimal-digits_value (numerals_by_value _ tells_digits) (take end text) are.digits (omega (arith, long)) lead
    (omega (arith, are.value, small)))

-- a number that is spelled there is the number of the digits
pub number-told : (text rest : List ℕ) (number end n : ℕ) → AreDigits text number end → n < 2 ^ 64 → BeginsWithGap rest
    → text ≡ decimal n ++ rest → (take end text ≡ decimal n) × (number ≡ n) × (end ≡ length (decimal n))
number-told text rest number end n are small gap same =
    let told =
    word-told (take end text) (decimal n) (drop end text) rest (whole-digits (take end text) are.digits) (whole-decimal n small)
    are.gap gap (take-append-drop end text ∙ same) in (
      told.0,
      are.value ∙ ap (digits_value 10) told.0 ∙ (decimal_is_IsNumeral n small).1,
      omega (arith, length-take-le end text are.inside, ap length told.0),
    )

-- a number that is spelled by several digits doesn't begin with a zero
no_zero : (ds : List ℕ) (n : ℕ) → n < 2 ^ 64 → ds ≡ decimal n → 1 < length (decimal n) → get_or ds 0 0 ≡ 48 → ⊥
no_zero ds n small is more lead =
    let same : get_or ds 0 0 ≡ get_or (decimal n) 0 0 = ap (λ l. get_or l 0 0) is in
    elim (cases_lt n 10) [
      | inl digit ↦ omega (arith, ap length (decimal_digit n digit))
      | inr large ↦ omega (arith, same, lead, first_decimal n (omega arith) small)
    ]

-- the digits of a number that is spelled there pass as spelled
pub is_plain : (text rest : List ℕ) (number end n : ℕ) → AreDigits text number end → n < 2 ^ 64 → BeginsWithGap rest
    → text ≡ decimal n ++ rest → (0 < end → (1 < end) × (get_or text 0 0 ≡ 48)) → ⊥
is_plain text rest number end n are small gap same unspelled =
    let told = number-told text rest number end n are small gap same in
    let some : 0 < end = omega (arith, told.2, decimal_nonempty n small) in
    let two = unspelled some in
    no_zero (take end text) n small told.0 (omega (arith, told.2, two.0)) (get_or-take end text 0 0 some ∙ two.1)

-- ---- signs

abbrev BeginsWithDigit : List ℕ → Type 0
BeginsWithDigit [] = ⊥
BeginsWithDigit (b ∷ rest) = b ≡ 45 → ⊥

more_digits : (ds : List ℕ) (d : ℕ) → BeginsWithDigit ds → BeginsWithDigit (ds ++ d ∷ [])
more_digits [] d h = absurd h
more_digits (b ∷ ds) d h = h

no_minus_in : (ds x rest : List ℕ) → BeginsWithDigit ds → 45 ∷ x ≡ ds ++ rest → ⊥
no_minus_in [] x rest h e = h
no_minus_in (b ∷ ds) x rest h e = let first : b ≡ 45 = cc in h first

-- a number has no minus
pub no_minus : (n : ℕ) (x rest : List ℕ) → n < 2 ^ 64 → 45 ∷ x ≡ decimal n ++ rest → ⊥
no_minus n x rest small =
    no_minus_in (decimal n) x rest
    (decimal_by_steps (λ m ds. BeginsWithDigit ds) (λ m l e. omega (arith, e)) (λ m ds l k. more_digits ds (48 + m % 10) k) n small)

-- ---- values, as tokens

-- a value with a minus
module _ {R : Type 0} (now : R → List ℕ) (text digits : List ℕ) (is : text ≡ 45 ∷ digits) where
  pub minus-none : TokenRead {R = R} now (λ n. n ≤ most_value) decimal digits None → TokenRead {R = R} now IsValue signed_decimal text None
  minus-none h (pos n) rest fits gap same = no_minus n digits rest (omega (arith, ints, fits.1)) (sym is ∙ same)
  minus-none h (negsuc n) rest fits gap same =
      let later : digits ≡ decimal (suc n) ++ rest = cc in
      h (suc n) rest (omega (arith, ints, fits.0)) gap later

  pub minus-zero : (number : ℕ) (after : R) → TokenRead now (λ n. n ≤ most_value) decimal digits (Some (number, after)) → number ≡ 0
      → TokenRead {R = R} now IsValue signed_decimal text None
  minus-zero number after h nothing (pos n) rest fits gap same = no_minus n digits rest (omega (arith, ints, fits.1)) (sym is ∙ same)
  minus-zero number after h nothing (negsuc n) rest fits gap same =
      let small : suc n < 2 ^ 64 = omega (arith, ints, fits.0) in
      let later : digits ≡ decimal (suc n) ++ rest = cc in
      let told =
      word-told (decimal number) (decimal (suc n)) (now after) rest (whole-decimal number (omega (arith, nothing))) (whole-decimal (suc n) small)
      h.1 gap (sym h.2 ∙ later) in
      omega (arith, nothing, decimal_injective number (suc n) (omega (arith, nothing)) small told.0)

  pub minus-some : (number : ℕ) (after : R) → TokenRead now (λ n. n ≤ most_value) decimal digits (Some (number, after))
      → (number ≡ 0 → ⊥) → TokenRead now IsValue signed_decimal text (Some (neg_ℤ (pos number), after))
  minus-some zero after h some = absurd (some refl)
  minus-some (suc m) after h some = (
    (omega (arith, ints, h.0), omega (arith, ints, h.0)),
    h.1,
    is ∙ ap (λ t. 45 ∷ t) h.2,
  )

-- a value without a minus
module _ {R : Type 0} (now : R → List ℕ) (text : List ℕ) (none : (rest : List ℕ) → text ≡ 45 ∷ rest → ⊥) where
  pub plain-none : TokenRead {R = R} now (λ n. n ≤ most_value) decimal text None → TokenRead {R = R} now IsValue signed_decimal text None
  plain-none h (pos n) rest fits gap same = h n rest (omega (arith, ints, fits.1)) gap same
  plain-none h (negsuc n) rest fits gap same = none (decimal (suc n) ++ rest) same

pub plain-some : {R : Type 0} (now : R → List ℕ) (text : List ℕ) (number : ℕ) (after : R)
    → TokenRead now (λ n. n ≤ most_value) decimal text (Some (number, after))
    → TokenRead now IsValue signed_decimal text (Some (pos number, after))
plain-some now text number after h = ((omega (arith, ints, h.0), omega (arith, ints, h.0)), h.1, h.2)

-- a value that is kept in 64 bits
pub value-kept : (v : ℤ) → IsValue v → to_z w64 (of_z w64 v) ≡ v
value-kept (pos n) h = to_z-of_z w64 (pos n) (omega (arith, ints, h.1))
value-kept (negsuc n) h = to_z-of_z w64 (negsuc n) (omega (arith, ints, h.0))

pub nothing-kept : (v : ℤ) → v ≡ pos 0 → to_z w64 (of_z w64 v) ≡ pos 0
nothing-kept v h = ap (λ z. to_z w64 (of_z w64 z)) h
