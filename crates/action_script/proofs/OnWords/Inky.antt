-- The bytes of words: none is a blank, a line feed or another byte that lines may not have.
use Rattle.std.proofs.Common.{◌≡◌, ℕ, pos, ◌≤◌, ◌==◌, nat_le, Bool, true, false, ◌&&◌, if◌then◌else◌, List, [], ◌∷◌, length, Option, Some, None, is_some, option_map, codes, bytes_eq, refl, sym, subst, arith}
use Rattle.std.specs.List.{list_all}
use Rattle.std.proofs.lemmas.Bool.{and_parts, leb-true, le-leb}
use Rattle.std.proofs.lemmas.Bool.Decides.{nat_tests}
use Rattle.std.proofs.lemmas.Slice.Eq.{bytes_eq-Decides}
use Rattle.caa_base.specs.declared.written.entry.Test.{Test}
use Rattle.caa_base.specs.declared.written.entry.Test.TheVariants as test
use Rattle.action_script.specs.declared.lines.field.Part.{Part}
use Rattle.action_script.specs.declared.lines.field.Part.TheVariants as part
use Rattle.action_script.specs.declared.lines.kind.LineKind.{LineKind}
use Rattle.action_script.specs.declared.lines.kind.LineKind.TheVariants as kind
use Rattle.caa_base.specs.Written.Lines.{at_most}
use Rattle.action_script.specs.Words.ScriptWords.{leads_well, natural_of, negative_of, value_of, count_of, rounds_of, test_of, test_word}
use Rattle.caa_base.specs.Written.Lists.{is_empty}
use Rattle.caa_base.specs.Written.Names.{is_letter, is_digit, is_name_byte, is_name}
use Rattle.action_script.specs.Words.CutLines.{begins_comment}
use Rattle.action_script.specs.Lines.Kinds.{word_of}
use Rattle.action_script.specs.Lines.Spelling.{is_part}
use Rattle.action_script.proofs.OnWords.Numerals.{natural_of-some, count_of-some, at_most-some}

abbrev pub is_inky : ℕ → Bool
is_inky b = nat_le 33 b && nat_le b 126

-- a word has a byte, and its bytes are of this kind
pub record IsWord (word : List ℕ) : Type 0 where
  pub filled : is_empty word ≡ false
  pub inky : list_all is_inky word ≡ true

pub inky_byte : (b : ℕ) → 33 ≤ b → b ≤ 126 → is_inky b ≡ true
inky_byte b low high = rw (le-leb 33 b low, le-leb b 126 high) refl

all_inky : (test : ℕ → Bool) → ((b : ℕ) → test b ≡ true → is_inky b ≡ true) → (word : List ℕ) → list_all test word ≡ true
    → list_all is_inky word ≡ true
all_inky test one [] h = refl
all_inky test one (b ∷ rest) h = let p = and_parts (test b) _ h in rw (one b p.0, all_inky test one rest p.1) refl

digit_inky : (b : ℕ) → is_digit b ≡ true → is_inky b ≡ true
digit_inky b h = let p = and_parts (nat_le 48 b) _ h in inky_byte b (omega (arith, leb-true 48 b p.0)) (omega (arith, leb-true b 57 p.1))

name_inky : (b : ℕ) → is_name_byte b ≡ true → is_inky b ≡ true
name_inky b h = let low : 33 ≤ b = grind (arith, nat_tests) in let high : b ≤ 126 = grind (arith, nat_tests) in inky_byte b low high

-- ---- each word that is what a part asks for

filled_natural : (word : List ℕ) → leads_well word ≡ true → is_empty word ≡ false
filled_natural [] h = cc
filled_natural (b ∷ rest) h = refl

name_word : (word : List ℕ) → is_name word ≡ true → IsWord word
name_word [] h = cc
name_word (b ∷ rest) h =
    let p = and_parts (is_letter b) _ h in
    let q = and_parts (nat_le (length (b ∷ rest)) 32) _ p.1 in
    record { filled = refl; inky = all_inky is_name_byte name_inky (b ∷ rest) q.1 }

natural_word : (word : List ℕ) (n : ℕ) → natural_of word ≡ Some n → IsWord word
natural_word word n h =
    let p = natural_of-some word n h in
    record { filled = filled_natural word p.leads; inky = all_inky is_digit digit_inky word p.digits }

rounds_word : (word : List ℕ) (o : Option ℕ) → rounds_of word ≡ o → is_some o ≡ true → IsWord word
rounds_word word None e h = cc
rounds_word word (Some k) e h = natural_word word k (at_most-some 1000000 (natural_of word) k e).0

count_word : (word : List ℕ) (o : Option ℕ) → count_of word ≡ o → is_some o ≡ true → IsWord word
count_word word None e h = cc
count_word word (Some k) e h = let p = count_of-some word k e in rounds_word word (Some k) p.0 refl

within_word : (word : List ℕ) (most : ℕ) (o : Option ℕ) → at_most most (natural_of word) ≡ o → is_some o ≡ true → IsWord word
within_word word most None e h = cc
within_word word most (Some k) e h = natural_word word k (at_most-some most (natural_of word) k e).0

some_negative : (o : Option ℕ) → is_some (negative_of o) ≡ true → is_some o ≡ true
some_negative None h = cc
some_negative (Some n) h = refl

some_positive : (o : Option ℕ) → is_some (option_map pos o) ≡ true → is_some o ≡ true
some_positive None h = cc
some_positive (Some n) h = refl

value_word : (word : List ℕ) → is_some (value_of word) ≡ true → IsWord word
value_word [] h = cc
value_word (b ∷ rest) h = by (b == 45) refl h
  where
    by : (c : Bool) → (b == 45) ≡ c
        → is_some
        (if c then negative_of (at_most 1000000000000 (natural_of rest)) else option_map pos
        (at_most 1000000000000 (natural_of (b ∷ rest))))
        ≡ true
        → IsWord (b ∷ rest)
    by true e g =
        let same : 45 ≡ b = grind (arith, nat_tests) in
        let p =
        within_word rest 1000000000000 (at_most 1000000000000 (natural_of rest)) refl
        (some_negative (at_most 1000000000000 (natural_of rest)) g) in
        subst (λ x. IsWord (x ∷ rest)) same (record { filled = refl; inky = p.inky })
    by false e g =
        within_word (b ∷ rest) 1000000000000 (at_most 1000000000000 (natural_of (b ∷ rest))) refl
        (some_positive (at_most 1000000000000 (natural_of (b ∷ rest))) g)

same_word : (word other : List ℕ) → bytes_eq word other ≡ true → other ≡ word
same_word word other h = sym ((bytes_eq-Decides word other).0 h)

pub test_of-some : (word : List ℕ) (t : Test) → test_of word ≡ Some t → test_word t ≡ word
test_of-some word t h = by_below (bytes_eq word (codes "below")) refl h
  where
    by_equal : (c : Bool) → bytes_eq word (codes "equal") ≡ c → (if c then Some test.Equal else None) ≡ Some t → test_word t ≡ word
    by_equal true e g = let same : test.Equal ≡ t = cc in subst (λ x. test_word x ≡ word) same (same_word word (codes "equal") e)
    by_equal false e g = cc

    by_above : (c : Bool) → bytes_eq word (codes "above") ≡ c
        → (if c then Some test.Above else (if bytes_eq word (codes "equal") then Some test.Equal else None)) ≡ Some t → test_word t ≡ word
    by_above true e g = let same : test.Above ≡ t = cc in subst (λ x. test_word x ≡ word) same (same_word word (codes "above") e)
    by_above false e g = by_equal (bytes_eq word (codes "equal")) refl g

    by_below : (c : Bool) → bytes_eq word (codes "below") ≡ c
        →
        (if c then Some test.Below else
        (if bytes_eq word (codes "above") then Some test.Above else (if bytes_eq word (codes "equal") then Some test.Equal else None)))
        ≡ Some t
        → test_word t ≡ word
    by_below true e g = let same : test.Below ≡ t = cc in subst (λ x. test_word x ≡ word) same (same_word word (codes "below") e)
    by_below false e g = by_above (bytes_eq word (codes "above")) refl g

test_inky : (t : Test) → IsWord (test_word t)
test_inky test.Below = record { filled = refl; inky = refl }
test_inky test.Above = record { filled = refl; inky = refl }
test_inky test.Equal = record { filled = refl; inky = refl }

test_is_word : (word : List ℕ) (o : Option Test) → test_of word ≡ o → is_some o ≡ true → IsWord word
test_is_word word None e h = cc
test_is_word word (Some t) e h = subst IsWord (test_of-some word t e) (test_inky t)

pub right_word : (p : Part) (word : List ℕ) → is_part p word ≡ true → IsWord word
right_word (part.Name naming) word h = name_word word h
right_word part.Value word h = value_word word h
right_word part.Count word h = count_word word (count_of word) refl h
right_word part.Rounds word h = rounds_word word (rounds_of word) refl h
right_word part.Test word h = test_is_word word (test_of word) refl h

-- ---- the first words of lines

pub first_word : (k : LineKind) → IsWord (word_of k)
first_word kind.Participant = record { filled = refl; inky = refl }
first_word _ = record { filled = refl; inky = refl }

pub first_speaks : (k : LineKind) → begins_comment (word_of k) ≡ false
first_speaks kind.Participant = refl
first_speaks _ = refl
