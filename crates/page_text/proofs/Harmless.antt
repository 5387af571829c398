-- What stands for bytes is harmless.
use Rattle.std.proofs.Common.{◌≡◌, ℕ, ◌+◌, ◌/◌, ◌%◌, ◌<◌, ◌≤◌, nat_lt, true, false, List, [], ◌∷◌, ◌++◌, codes, refl, inl, inr, arith}
use Rattle.std.specs.List.{All}
use Rattle.std.specs.Prelude.{if◌then◌else◌}
use Rattle.std.proofs.lemmas.Bool.{ltb-true, ltb-false}
use Rattle.std.proofs.lemmas.Bool.Decides.{nat_tests}
use Rattle.std.proofs.lemmas.List.Concat.{flat_map-cons}
use Rattle.std.proofs.lemmas.List.Elements.{All-nil, All-cons, All-append, All-same, All-head, All-tail}
use Rattle.page_text.specs.Parts.{is_plain, hex_digit, escaped_byte, escaped, IsHarmless}

-- digits and small letters are plain
digit_is_plain : (b : ℕ) → 48 ≤ b → b < 58 → is_plain b ≡ true
digit_is_plain b low high = grind (arith, nat_tests)

letter_is_plain : (b : ℕ) → 97 ≤ b → b < 123 → is_plain b ≡ true
letter_is_plain b low high = grind (arith, nat_tests)

-- a digit of four bits is plain
hex_is_plain : (n : ℕ) → n < 16 → is_plain (hex_digit n) ≡ true
hex_is_plain n h =
    elim (nat_lt n 10) as (λ t. nat_lt n 10 ≡ t → is_plain (if t then 48 + n else 87 + n) ≡ true) [
      | true ↦ λ t. digit_is_plain (48 + n) (omega arith) (omega (arith, ltb-true n 10 t))
      | false ↦ λ t. letter_is_plain (87 + n) (omega (arith, ltb-false n 10 t)) (omega arith)
    ] refl

-- what stands for a byte that isn't plain
number_is_harmless : (x y : ℕ) → is_plain x ≡ true → is_plain y ≡ true → All IsHarmless (92 ∷ 117 ∷ 48 ∷ 48 ∷ x ∷ y ∷ [])
number_is_harmless x y h k =
    All-cons IsHarmless 92 (117 ∷ 48 ∷ 48 ∷ x ∷ y ∷ []) (inr refl)
    (All-cons IsHarmless 117 (48 ∷ 48 ∷ x ∷ y ∷ []) (inl refl)
    (All-cons IsHarmless 48 (48 ∷ x ∷ y ∷ []) (inl refl)
    (All-cons IsHarmless 48 (x ∷ y ∷ []) (inl refl)
    (All-cons IsHarmless x (y ∷ []) (inl h)
    (All-cons IsHarmless y [] (inl k) (All-nil IsHarmless))))))

-- what stands for a byte
byte_is_harmless : (b : ℕ) → b < 256 → All IsHarmless (escaped_byte b)
byte_is_harmless b h =
    elim (is_plain b) as (λ p. is_plain b ≡ p → All IsHarmless (if p then b ∷ [] else codes "\\u00" ++ hex_digit (b / 16) ∷ hex_digit (b % 16) ∷ [])) [
      | true ↦ λ p. All-cons IsHarmless b [] (inl p) (All-nil IsHarmless)
      | false ↦ λ p. number_is_harmless (hex_digit (b / 16)) (hex_digit (b % 16)) (hex_is_plain (b / 16) (omega arith)) (hex_is_plain (b % 16) (omega arith))
    ] refl

-- what stands for bytes
pub bytes_are_harmless : (bytes : List ℕ) → All (λ b. b < 256) bytes → All IsHarmless (escaped bytes)
bytes_are_harmless [] h = All-nil IsHarmless
bytes_are_harmless (b ∷ bytes) h =
    All-same IsHarmless _ _ (flat_map-cons escaped_byte b bytes)
    (All-append IsHarmless (escaped_byte b) (escaped bytes) (byte_is_harmless b (All-head (λ x. x < 256) b bytes h))
    (bytes_are_harmless bytes (All-tail (λ x. x < 256) b bytes h)))
