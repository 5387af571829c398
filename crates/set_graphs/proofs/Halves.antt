-- A set by its first primitive and by the others, each under the number before.
use Rattle.std.proofs.Common.{◌≡◌, ◌≢◌, ℕ, zero, suc, ◌+◌, ◌-◌, ◌/◌, ◌%◌, ◌^◌, ◌<◌, ◌≤◌, ◌⊎◌, inl, inr, true, false, nat_eq, sym, ap, ◌∙◌, refl, arith}
use Rattle.std.proofs.Math.Nat.{two-pow-succ}
use Rattle.std.proofs.lemmas.Bool.{eqb-true, eq-eqb, cases_Bool, cases_eq, both_ways}
use Rattle.std.proofs.lemmas.Nat.Bits.{bit_at_lowest, bit_at-suc, same_from_bits}
use Rattle.cover_table.specs.Cover.{has_bit}
use Rattle.cover_table.proofs.Bits.{had_in_zero, same_bit}
use Rattle.set_graphs.specs.Sets.{size_of, with_first, without_first, without_member, IsWithin}

pub bit_next : (set bit : ℕ) → has_bit set (suc bit) ≡ has_bit (set / 2) bit
bit_next set bit = ap (λ b. nat_eq b 1) (bit_at-suc set bit)

pub bit_first : (set : ℕ) → has_bit set 0 ≡ nat_eq (set % 2) 1
bit_first set = ap (λ b. nat_eq b 1) (bit_at_lowest set)

-- the first primitive is there, or it isn't
pub odd : (set : ℕ) → has_bit set 0 ≡ true → set % 2 ≡ 1
odd set had = eqb-true (set % 2) 1 (sym (bit_first set) ∙ had)

pub even : (set : ℕ) → has_bit set 0 ≡ false → set % 2 ≡ 0
even set not =
    elim (cases_eq (set % 2) 1) [
      | inl one ↦ absurd (both_ways (has_bit set 0) not (bit_first set ∙ eq-eqb (set % 2) 1 one))
      | inr other ↦ omega arith
    ]

pub first_from : (set : ℕ) → set % 2 ≡ 1 → has_bit set 0 ≡ true
first_from set one = bit_first set ∙ eq-eqb (set % 2) 1 one

pub not_first_from : (set : ℕ) → set % 2 ≡ 0 → has_bit set 0 ≡ false
not_first_from set none = bit_first set ∙ ap (λ b. nat_eq b 1) none

half_with : (set : ℕ) → with_first set / 2 ≡ set
half_with set = omega arith

half_without : (set : ℕ) → without_first set / 2 ≡ set
half_without set = omega arith

pub first_had : (set : ℕ) → has_bit (with_first set) 0 ≡ true
first_had set =
    let e : with_first set % 2 ≡ 1 = omega arith in
    first_from (with_first set) e

pub first_lacked : (set : ℕ) → has_bit (without_first set) 0 ≡ false
first_lacked set =
    let e : without_first set % 2 ≡ 0 = omega arith in
    not_first_from (without_first set) e

pub with_next : (set bit : ℕ) → has_bit (with_first set) (suc bit) ≡ has_bit set bit
with_next set bit = bit_next (with_first set) bit ∙ ap (λ half. has_bit half bit) (half_with set)

pub without_next : (set bit : ℕ) → has_bit (without_first set) (suc bit) ≡ has_bit set bit
without_next set bit = bit_next (without_first set) bit ∙ ap (λ half. has_bit half bit) (half_without set)

-- a set is one of the two
pub with_half : (set : ℕ) → set % 2 ≡ 1 → set ≡ with_first (set / 2)
with_half set one = omega arith

pub without_half : (set : ℕ) → set % 2 ≡ 0 → set ≡ without_first (set / 2)
without_half set none = omega arith

pub size_with : (n set : ℕ) → size_of (suc n) (with_first set) ≡ suc (size_of n set)
size_with n set =
    let one : with_first set % 2 ≡ 1 = omega arith in
    let size : size_of n (with_first set / 2) ≡ size_of n set = ap (size_of n) (half_with set) in
    omega arith

pub size_without : (n set : ℕ) → size_of (suc n) (without_first set) ≡ size_of n set
size_without n set =
    let one : without_first set % 2 ≡ 0 = omega arith in
    let size : size_of n (without_first set / 2) ≡ size_of n set = ap (size_of n) (half_without set) in
    omega arith

-- nothing has no members, and what has none is nothing
pub size_none : (n : ℕ) → size_of n 0 ≡ 0
size_none zero = refl
size_none (suc n) = let e = size_none n in omega (arith, e)

pub half_below : (n set : ℕ) → set < 2 ^ suc n → set / 2 < 2 ^ n
half_below n set low = let e = two-pow-succ n in omega (arith, e, low)

pub none_from_size : (n set : ℕ) → set < 2 ^ n → size_of n set ≡ 0 → set ≡ 0
none_from_size zero set low none = omega (arith, low)
none_from_size (suc n) set low none =
    let e : set / 2 ≡ 0 = none_from_size n (set / 2) (half_below n set low) (omega (arith, none)) in
    omega (arith, none, e)

-- what is within another has its half within the other's half
pub halves_within : (set other : ℕ) → IsWithin set other → IsWithin (set / 2) (other / 2)
halves_within set other within bit had = sym (bit_next other bit) ∙ within (suc bit) (bit_next set bit ∙ had)

-- what is within another has no more members
pub size_within : (n set other : ℕ) → IsWithin set other → size_of n set ≤ size_of n other
size_within zero set other within = omega arith
size_within (suc n) set other within =
    let rest = size_within n (set / 2) (other / 2) (halves_within set other within) in
    elim (cases_eq (set % 2) 1) [
      | inl one ↦ let too = odd other (within 0 (first_from set one)) in omega (arith, rest, one, too)
      | inr none ↦ omega (arith, rest, none)
    ]

-- two sets within each other are one
pub same_within : (set other : ℕ) → IsWithin set other → IsWithin other set → set ≡ other
same_within set other there back = same_from_bits set other (λ bit. same_bit set other bit (there bit) (back bit))

-- a member that the one set has and the other lacks
pub record IsMissing (n set other : ℕ) : Type 0 where
  pub bit : ℕ
  pub in_range : bit < n
  pub had : has_bit set bit ≡ true
  pub lacked : has_bit other bit ≡ false

after : (set other : ℕ) → IsWithin (set / 2) (other / 2) → (has_bit set 0 ≡ true → has_bit other 0 ≡ true) → (bit : ℕ)
    → has_bit set bit ≡ true → has_bit other bit ≡ true
after set other within first zero had = first had
after set other within first (suc bit) had = bit_next other bit ∙ within bit (sym (bit_next set bit) ∙ had)

-- either there is one, or the set is within the other
pub missing : (n set other : ℕ) → set < 2 ^ n → IsMissing n set other ⊎ IsWithin set other
missing zero set other low =
    let none : set ≡ 0 = omega (arith, low) in
    inr (λ bit had. absurd (both_ways (has_bit set bit) (ap (λ s. has_bit s bit) none ∙ had_in_zero bit) had))
missing (suc n) set other low =
    elim (missing n (set / 2) (other / 2) (half_below n set low)) [
      | inl found ↦ inl (record {
        bit = suc found.bit;
        in_range = let below = found.in_range in omega arith;
        had = bit_next set found.bit ∙ found.had;
        lacked = bit_next other found.bit ∙ found.lacked;
      })
      | inr within ↦ elim (cases_Bool (has_bit set 0)) [
        | inl had ↦ elim (cases_Bool (has_bit other 0)) [
          | inl too ↦ inr (λ bit. after set other within (λ _. too) bit)
          | inr lacked ↦ inl (record { bit = 0; in_range = omega arith; had = had; lacked = lacked })
        ]
        | inr lacked ↦ inr (λ bit. after set other within (λ had. absurd (both_ways (has_bit set 0) lacked had)) bit)
      ]
    ]

-- what is left of a set without a member
pub record IsWithout (n set bit : ℕ) : Type 0 where
  pub had : 2 ^ bit ≤ set
  pub gone : has_bit (without_member set bit) bit ≡ false
  pub others : (other : ℕ) → other ≢ bit → has_bit (without_member set bit) other ≡ has_bit set other
  pub size : size_of n (without_member set bit) + 1 ≡ size_of n set

pub taken_out : (n set bit : ℕ) → bit < n → has_bit set bit ≡ true → IsWithout n set bit
taken_out zero set bit below had = absurd (omega (arith, below))
taken_out (suc n) set zero below had =
    let one = odd set had in
    let left : set - 2 ^ 0 ≡ without_first (set / 2) = omega (arith, one) in
    record {
      had = omega (arith, one);
      gone = ap (λ s. has_bit s 0) left ∙ first_lacked (set / 2);
      others = others set left;
      size =
          let e : size_of (suc n) (set - 2 ^ 0) ≡ size_of n (set / 2) = ap (size_of (suc n)) left ∙ size_without n (set / 2) in
          omega (arith, e, one);
    }
  where
    others : (set : ℕ) → set - 2 ^ 0 ≡ without_first (set / 2) → (other : ℕ) → other ≢ 0 → has_bit (set - 2 ^ 0) other ≡ has_bit set other
    others set left zero apart = absurd (apart refl)
    others set left (suc other) apart = ap (λ s. has_bit s (suc other)) left ∙ (without_next (set / 2) other ∙ sym (bit_next set other))
taken_out (suc n) set (suc bit) below had =
    let rest = taken_out n (set / 2) bit (omega (arith, below)) (sym (bit_next set bit) ∙ had) in
    let twice = two-pow-succ bit in
    let under = rest.had in
    let half : (set - 2 ^ suc bit) / 2 ≡ set / 2 - 2 ^ bit = omega (arith, twice, under) in
    let first : (set - 2 ^ suc bit) % 2 ≡ set % 2 = omega (arith, twice, under) in
    record {
      had = omega (arith, twice, under);
      gone = bit_next (set - 2 ^ suc bit) bit ∙ (ap (λ s. has_bit s bit) half ∙ rest.gone);
      others = others set bit half first rest.others;
      size =
          let e : size_of n ((set - 2 ^ suc bit) / 2) ≡ size_of n (set / 2 - 2 ^ bit) = ap (size_of n) half in
          let f = rest.size in
          omega (arith, e, f, first);
    }
  where
    others : (set bit : ℕ) → (set - 2 ^ suc bit) / 2 ≡ set / 2 - 2 ^ bit → (set - 2 ^ suc bit) % 2 ≡ set % 2
        → ((other : ℕ) → other ≢ bit → has_bit (set / 2 - 2 ^ bit) other ≡ has_bit (set / 2) other)
        → (other : ℕ) → other ≢ suc bit → has_bit (set - 2 ^ suc bit) other ≡ has_bit set other
    others set bit half first rest zero apart = bit_first (set - 2 ^ suc bit) ∙ (ap (λ b. nat_eq b 1) first ∙ sym (bit_first set))
    others set bit half first rest (suc other) apart =
        bit_next (set - 2 ^ suc bit) other
        ∙ (ap (λ s. has_bit s other) half ∙ (rest other (λ same. apart (ap suc same)) ∙ sym (bit_next set other)))
