-- Words and fields, part by part: what a right word says is written as that word, and what is written of a field says that field.
use Rattle.std.proofs.Common.{◌≡◌, ℕ, ℤ, pos, zero, suc, ◌+◌, ◌<◌, ◌≤◌, nat_le, Bool, true, false, ◌||◌, if◌then◌else◌, List, [], ◌∷◌, length, get_or, Option, Some, None, is_some, unwrap_or, bytes_eq, refl, sym, ap, subst, arith}
use Rattle.std.proofs.lemmas.Bool.{and_parts, leb-true, le-leb}
use Rattle.std.proofs.lemmas.Bool.Decides.{nat_tests}
use Rattle.std.proofs.lemmas.Slice.Eq.{bytes_eq-Decides}
use Rattle.caa_base.specs.declared.written.entry.Test.{Test}
use Rattle.caa_base.specs.declared.written.entry.Test.TheVariants as test
use Rattle.action_script.specs.declared.lines.field.Part.{Part}
use Rattle.action_script.specs.declared.lines.field.Part.TheVariants as part
use Rattle.action_script.specs.declared.lines.field.Field.{Field}
use Rattle.action_script.specs.declared.lines.field.Field.TheVariants as field
use Rattle.action_script.specs.Words.ScriptWords.{value_of, count_of, rounds_of, test_of}
use Rattle.caa_base.specs.Written.Names.{is_name}
use Rattle.action_script.specs.Words.NumberedNames.{is_among, number_in}
use Rattle.action_script.specs.Lines.Spelling.{is_part, is_name_part, field_by}
use Rattle.action_script.specs.Forms.Printing.{field_word, fits_part}
use Rattle.action_script.proofs.OnWords.Numerals.{decimal-natural, value_of-decimal, value_of-some, rounds_of-decimal, rounds_of-some, count_of-decimal, count_of-some}
use Rattle.action_script.proofs.OnWords.Inky.{test_of-some}

-- ---- names and numbers

-- each name has its place as its number
abbrev pub AreNumbered : List (List ℕ) → Type 0
AreNumbered names = (n : ℕ) → n < length names → number_in names (get_or names n []) ≡ n

-- a name that is among the names is the one of its number
pub name-number : (names : List (List ℕ)) (word : List ℕ) → is_among names word ≡ true → get_or names (number_in names word) [] ≡ word
name-number [] word h = cc
name-number (name ∷ names) word h = by (bytes_eq word name) refl (name-number names word) h
  where
    by : (b : Bool) → bytes_eq word name ≡ b → (is_among names word ≡ true → get_or names (number_in names word) [] ≡ word)
        → (b || is_among names word) ≡ true → get_or (name ∷ names) (if b then 0 else 1 + number_in names word) [] ≡ word
    by true e rest g = sym ((bytes_eq-Decides word name).0 e)
    by false e rest g =
        let next : suc (number_in names word) ≡ 1 + number_in names word = omega arith in
        subst (λ k. get_or (name ∷ names) k [] ≡ word) next (rest g)

past_the_end : (names : List (List ℕ)) (n : ℕ) → length names ≤ n → get_or names n [] ≡ []
past_the_end [] n h = refl
past_the_end (name ∷ names) zero h = absurd (omega arith)
past_the_end (name ∷ names) (suc n) h = past_the_end names n (omega arith)

-- what is a name isn't past the end
pub named_within : (names : List (List ℕ)) (n : ℕ) → is_name (get_or names n []) ≡ true → n < length names
named_within names n h = by (nat_le (length names) n) refl
  where
    by : (b : Bool) → nat_le (length names) n ≡ b → n < length names
    by true e =
        let empty = past_the_end names n (leb-true (length names) n e) in
        let none : is_name [] ≡ true = subst (λ w. is_name w ≡ true) empty h in
        cc
    by false e = grind (arith, nat_tests)

-- ---- from a field to a word, and back

-- the word of a field is what its part asks for
pub field_word-part : (names : List (List ℕ)) (p : Part) (f : Field) → fits_part names p f ≡ true → is_part p (field_word names f) ≡ true
field_word-part names (part.Name naming) (field.Name n) h = h
field_word-part names part.Value (field.Value v) h = ap is_some (value_of-decimal v h)
field_word-part names part.Count (field.Count k) h =
    let p = and_parts (nat_le 1 k) _ h in
    ap is_some (count_of-decimal k (leb-true 1 k p.0) (leb-true k 1000000 p.1))
field_word-part names part.Rounds (field.Count k) h = ap is_some (rounds_of-decimal k (leb-true k 1000000 h))
field_word-part names part.Test (field.Test test.Below) h = refl
field_word-part names part.Test (field.Test test.Above) h = refl
field_word-part names part.Test (field.Test test.Equal) h = refl
field_word-part names _ _ h = cc

-- and says that field
pub field_by-word : (names : List (List ℕ)) (p : Part) (f : Field) → AreNumbered names → fits_part names p f ≡ true
    → field_by names p (field_word names f) ≡ f
field_by-word names (part.Name naming) (field.Name n) numbered h = ap field.Name (numbered n (named_within names n h))
field_by-word names part.Value (field.Value v) numbered h = ap (λ o. field.Value (unwrap_or o (pos 0))) (value_of-decimal v h)
field_by-word names part.Count (field.Count k) numbered h =
    let p = and_parts (nat_le 1 k) _ h in
    ap (λ o. field.Count (unwrap_or o 0)) (count_of-decimal k (leb-true 1 k p.0) (leb-true k 1000000 p.1))
field_by-word names part.Rounds (field.Count k) numbered h =
    ap (λ o. field.Count (unwrap_or o 0)) (rounds_of-decimal k (leb-true k 1000000 h))
field_by-word names part.Test (field.Test test.Below) numbered h = refl
field_by-word names part.Test (field.Test test.Above) numbered h = refl
field_by-word names part.Test (field.Test test.Equal) numbered h = refl
field_by-word names _ _ numbered h = cc

-- ---- from a word to a field, and back

pub record IsFieldOf (names : List (List ℕ)) (p : Part) (word : List ℕ) (f : Field) : Type 0 where
  pub fits : fits_part names p f ≡ true
  pub written : field_word names f ≡ word

value_field : (names : List (List ℕ)) (word : List ℕ) (o : Option ℤ) → value_of word ≡ o → is_some o ≡ true
    → IsFieldOf names part.Value word (field.Value (unwrap_or o (pos 0)))
value_field names word None e h = cc
value_field names word (Some v) e h = let p = value_of-some word v e in record { fits = p.within; written = p.written }

count_field : (names : List (List ℕ)) (word : List ℕ) (o : Option ℕ) → count_of word ≡ o → is_some o ≡ true
    → IsFieldOf names part.Count word (field.Count (unwrap_or o 0))
count_field names word None e h = cc
count_field names word (Some k) e h =
    let p = count_of-some word k e in
    let q = rounds_of-some word k p.0 in
    record { fits = rw (le-leb 1 k p.1, le-leb k 1000000 q.1) refl; written = decimal-natural word k q.0 (omega (arith, q.1)) }

rounds_field : (names : List (List ℕ)) (word : List ℕ) (o : Option ℕ) → rounds_of word ≡ o → is_some o ≡ true
    → IsFieldOf names part.Rounds word (field.Count (unwrap_or o 0))
rounds_field names word None e h = cc
rounds_field names word (Some k) e h =
    let q = rounds_of-some word k e in
    record { fits = le-leb k 1000000 q.1; written = decimal-natural word k q.0 (omega (arith, q.1)) }

test_field : (names : List (List ℕ)) (word : List ℕ) (o : Option Test) → test_of word ≡ o → is_some o ≡ true
    → IsFieldOf names part.Test word (field.Test (unwrap_or o test.Below))
test_field names word None e h = cc
test_field names word (Some t) e h = record { fits = refl; written = test_of-some word t e }

pub field_by-is : (names : List (List ℕ)) (p : Part) (word : List ℕ) → is_part p word ≡ true
    → (is_name_part p ≡ true → is_among names word ≡ true) → IsFieldOf names p word (field_by names p word)
field_by-is names (part.Name naming) word h named =
    let own = name-number names word (named refl) in
    record { fits = subst (λ w. is_name w ≡ true) (sym own) h; written = own }
field_by-is names part.Value word h named = value_field names word (value_of word) refl h
field_by-is names part.Count word h named = count_field names word (count_of word) refl h
field_by-is names part.Rounds word h named = rounds_field names word (rounds_of word) refl h
field_by-is names part.Test word h named = test_field names word (test_of word) refl h
