-- Bits for the numbers of objects.
use Rattle.std.proofs.Common.{◌≡◌, ◌<◌, ◌+◌, ◌*◌, ◌/◌, ◌%◌, ◌^◌, ◌==◌, ◌||◌, inl, inr, ℕ, zero, suc, Bool, true, false, List, [], ◌∷◌, length, drop, slice_index, slice_set, bit_and, get_or-set_same, get_or-set_other, refl, sym, ap, ap₂, add-one, ◌∙◌, arith}
use Rattle.std.specs.List.{list_all}
use Rattle.std.proofs.lemmas.Bool.{cases_eq, cases_lt, eq-eqb, ne_eqb, false≢true}
use Rattle.std.proofs.Math.Seq.{drop-cons}
use Rattle.std.proofs.lemmas.List.{get_or_past}
use Rattle.std.proofs.lemmas.Nat.{and_le_r}
use Rattle.std.proofs.lemmas.Nat.Bits.{same_from_bits_below}
use Rattle.cover_table.specs.Cover.{has_bit}
use Rattle.cover_table.proofs.Bits.{had_in_zero, had_in_both, had_from_both, same_bit}
use Rattle.caa_base.specs.Written.Lists.{member}
use Rattle.caa_base.proofs.ListLemmas.{all_at, all_from}
use Rattle.place_plan.specs.inner.ObjectBits.{bits_have, AreBitsOf, HaveAllBits}

-- ---- one number more

-- a number is told by its row and its bit
same_place : (x n : ℕ) → x / 128 ≡ n / 128 → (n % 128 == x % 128) ≡ (x == n)
same_place x n row = elim (cases_eq x n) [
  | inl same ↦ rw (eq-eqb x n same) (eq-eqb (n % 128) (x % 128) (ap (λ k. k % 128) (sym same)))
  | inr apart ↦ rw (ne_eqb x n apart) (ne_eqb (n % 128) (x % 128) (λ bit. apart (omega arith)))
]

-- one bit more is one number more
pub one_bit_more : (bits : List ℕ) (x fuller n : ℕ) → x / 128 < length bits
    → ((b : ℕ) → has_bit fuller b ≡ (b == x % 128 || has_bit (slice_index bits (x / 128)) b))
    → bits_have (slice_set bits (x / 128) fuller) n ≡ ((x == n) || bits_have bits n)
one_bit_more bits x fuller n within more = elim (cases_eq (n / 128) (x / 128)) [
  | inl same ↦
      let written : slice_index (slice_set bits (x / 128) fuller) (n / 128) ≡ fuller =
      rw same (get_or-set_same bits (x / 128) fuller 0 within) in
      ap (λ r. has_bit r (n % 128)) written ∙ more (n % 128)
      ∙ ap₂ (λ p q. p || has_bit (slice_index bits q) (n % 128)) (same_place x n (sym same)) (sym same)
  | inr apart ↦
      let other : x ≡ n → ⊥ = λ e. apart (ap (λ k. k / 128) (sym e)) in
      ap (λ r. has_bit r (n % 128)) (get_or-set_other bits (x / 128) (n / 128) fuller 0 apart)
      ∙ sym (ap (λ p. p || bits_have bits n) (ne_eqb x n other))
]

-- no bit is no number
pub no_bits : (n : ℕ) → bits_have (0 ∷ 0 ∷ []) n ≡ false
no_bits n = ap (λ row. has_bit row (n % 128)) (row (n / 128)) ∙ had_in_zero (n % 128)
  where
    row : (k : ℕ) → slice_index (0 ∷ 0 ∷ []) k ≡ 0
    row zero = refl
    row (suc zero) = refl
    row (suc (suc k)) = refl

-- what had a bit, and the number that gets one, and the numbers after it are all numbers of the list
pub one_number_more : (numbers : List ℕ) (i n : ℕ) (had has : Bool) → i < length numbers
    → has ≡ ((slice_index numbers i == n) || had) → (had || member n (drop i numbers)) ≡ member n numbers
    → (has || member n (drop (i + 1) numbers)) ≡ member n numbers
one_number_more numbers i n had has l more told =
    rw (more, add-one) (swapped (slice_index numbers i == n) had (member n (drop (suc i) numbers))
    ∙ ap (λ rest. had || member n rest) (sym (drop-cons numbers i 0 l)) ∙ told)
  where
    swapped : (p q r : Bool) → ((p || q) || r) ≡ (q || (p || r))
    swapped true true r = refl
    swapped true false r = refl
    swapped false q r = refl

-- ---- all numbers of a list

-- what holds of both rows holds of each
of_each : (P : ℕ → Type 0) → P 0 → P 1 → (k : ℕ) → k < 2 → P k
of_each P first second zero l = first
of_each P first second (suc zero) l = second
of_each P first second (suc (suc k)) l = absurd (omega arith)

-- bit i of row k
at_place : (bits : List ℕ) (k i : ℕ) → i < 128 → bits_have bits (128 * k + i) ≡ has_bit (slice_index bits k) i
at_place bits k i l =
    let row : (128 * k + i) / 128 ≡ k = omega arith in
    let bit : (128 * k + i) % 128 ≡ i = omega arith in
    ap₂ (λ r b. has_bit (slice_index bits r) b) row bit

-- a row that shares all bits of another has them
abbrev pub Shares : List ℕ → List ℕ → ℕ → Type 0
Shares bits others k = bit_and (slice_index bits k) (slice_index others k) ≡ slice_index others k

pub all_from_rows : (bits others : List ℕ) → length others ≡ 2 → Shares bits others 0 → Shares bits others 1 → HaveAllBits bits others
all_from_rows bits others two first second n had = elim (cases_lt (n / 128) 2) [
  | inl low ↦
      let row = of_each (Shares bits others) first second (n / 128) low in
      (had_in_both (slice_index bits (n / 128)) (slice_index others (n / 128)) (n % 128) (ap (λ r. has_bit r (n % 128)) row ∙ had)).0
  | inr past ↦
      absurd (false≢true (sym (had_in_zero (n % 128))
      ∙ sym (ap (λ r. has_bit r (n % 128)) (get_or_past others (n / 128) 0 (omega arith))) ∙ had))
]

pub row_from_all : (bits others : List ℕ) (k : ℕ) → slice_index others k < 2 ^ 128 → HaveAllBits bits others → Shares bits others k
row_from_all bits others k fits all =
    let low = and_le_r (slice_index bits k) (slice_index others k) in
    same_from_bits_below 128 (bit_and (slice_index bits k) (slice_index others k)) (slice_index others k)
    (omega arith) fits (λ i l. same_bit _ _ i
    (λ had. (had_in_both (slice_index bits k) (slice_index others k) i had).1)
    (λ had. had_from_both (slice_index bits k) (slice_index others k) i
    (sym (at_place bits k i l) ∙ all (128 * k + i) (at_place others k i l ∙ had)) had))

-- two tests are one where each is passed if the other is
same_test : (a b : Bool) → (a ≡ true → b ≡ true) → (b ≡ true → a ≡ true) → a ≡ b
same_test true true there back = refl
same_test true false there back = sym (there refl)
same_test false true there back = back refl
same_test false false there back = refl

-- the bits tell whether all numbers of one list are in another
pub told_by_bits : (numbers list bits others : List ℕ) (told : Bool) → AreBitsOf bits list → AreBitsOf others numbers
    → (told ≡ true → HaveAllBits bits others) → (HaveAllBits bits others → told ≡ true)
    → told ≡ list_all (λ n. member n list) numbers
told_by_bits numbers list bits others told are_list are_numbers there back =
    same_test told (list_all (λ n. member n list) numbers)
    (λ yes. all_from (λ n. member n list) numbers (λ n m. sym (are_list n) ∙ there yes n (are_numbers n ∙ m)))
    (λ all. back (λ n had. are_list n ∙ all_at (λ k. member k list) numbers n all (sym (are_numbers n) ∙ had)))
