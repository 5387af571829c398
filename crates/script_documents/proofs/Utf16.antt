-- The units of a character, by its bytes in UTF-8.
use Rattle.std.proofs.Common.{◌≡◌, ℕ, ◌+◌, ◌-◌, ◌/◌, ◌%◌, ◌<◌, ◌≤◌, Bool, true, false, cond, [], ◌∷◌, length, sum_by, ltb, ltb-true, ltb-false, refl, arith}
use Rattle.std.proofs.lemmas.Bool.Decides.{nat_tests}
use lib.Utf8.{encode, next}
use Rattle.script_documents.specs.Positions.{units_at, CountsUnits}

-- a byte that is a character
one_byte : (b : ℕ) → b < 128 → units_at b ≡ 1
one_byte b low = grind (arith, nat_tests)

-- one that begins two or three
few_bytes : (b : ℕ) → 192 ≤ b → b < 240 → units_at b ≡ 1
few_bytes b low high = grind (arith, nat_tests)

-- one that begins four
four_bytes : (b : ℕ) → 240 ≤ b → units_at b ≡ 2
four_bytes b low = grind (arith, nat_tests)

-- one that goes on with a character
goes_on : (b : ℕ) → 128 ≤ b → b < 192 → units_at b ≡ 0
goes_on b low high = grind (arith, nat_tests)

next_is : (k : ℕ) → units_at (next k) ≡ 0
next_is k = goes_on (next k) (omega arith) (omega arith)

-- by how many bytes the character has
by_bytes : (c : ℕ) (one two three : Bool) → ltb c 128 ≡ one → ltb c 2048 ≡ two → ltb c 65536 ≡ three
    → sum_by units_at (cond one (c ∷ []) (cond two ((192 + c / 64) ∷ next c ∷ []) (cond three ((224 + c / 4096) ∷ next (c / 64) ∷ next c ∷ [])
    ((240 + c / 262144) ∷ next (c / 4096) ∷ next (c / 64) ∷ next c ∷ []))))
    ≡ length (cond three (c ∷ []) ((0xD800 + (c - 0x1_0000) / 0x400) ∷ (0xDC00 + (c - 0x1_0000) % 0x400) ∷ []))
by_bytes c true two true a b d = let low = one_byte c (ltb-true c 128 a) in omega (arith, low)
by_bytes c true two false a b d = absurd (omega (arith, ltb-true c 128 a, ltb-false c 65536 d))
by_bytes c false true true a b d =
    let below = ltb-true c 2048 b in
    let first = few_bytes (192 + c / 64) (omega arith) (omega (arith, below)) in
    let last = next_is c in omega (arith, first, last)
by_bytes c false true false a b d = absurd (omega (arith, ltb-true c 2048 b, ltb-false c 65536 d))
by_bytes c false false true a b d =
    let below = ltb-true c 65536 d in
    let first = few_bytes (224 + c / 4096) (omega arith) (omega (arith, below)) in
    let second = next_is (c / 64) in let last = next_is c in omega (arith, first, second, last)
by_bytes c false false false a b d =
    let first = four_bytes (240 + c / 262144) (omega arith) in
    let second = next_is (c / 4096) in let third = next_is (c / 64) in let last = next_is c in
    omega (arith, first, second, third, last)

pub counts_units : (c : ℕ) → CountsUnits c
unfolding encode
counts_units c = by_bytes c (ltb c 128) (ltb c 2048) (ltb c 65536) refl refl refl
