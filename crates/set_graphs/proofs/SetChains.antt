-- Chains of the pairs that the graph of sets declares tell which set is within which.
use Rattle.std.proofs.Common.{◌≡◌, ℕ, zero, suc, ◌+◌, ◌<◌, ◌≤◌, inl, inr, true, false, Contains, sym, ap, ◌∙◌, refl, subst, arith}
use Rattle.std.proofs.lemmas.Bool.{both_ways, cases_eq}
use Rattle.cover_table.specs.Cover.{has_bit}
use Rattle.cover_table.proofs.Bits.{had_in_zero}
use Rattle.exception_graph.specs.Chains.{Chain, IsDeclared, IsInCycle, none, more, universal, pair}
use Rattle.set_graphs.specs.Sets.{exception_count, members_of, number_of, pairs_of, size_of, table, without_member, IsSet, IsWithin}
use Rattle.set_graphs.proofs.Halves.{missing, same_within, size_within, taken_out, IsMissing}
use Rattle.set_graphs.proofs.Lowered.{lowered_has, lowered_is, pair_has, pair_is, IsLowered}
use Rattle.set_graphs.proofs.Numbers.{members_apart, number_whole, numbered}

-- without a member a set is within itself, as it was
without_within : (set bit : ℕ) → has_bit set bit ≡ true → IsWithin (without_member set bit) set
without_within set bit had other there =
    let left = taken_out (suc bit) set bit (omega arith) had in
    elim (cases_eq other bit) [
      | inl same ↦ subst (λ (b : ℕ). has_bit set b ≡ true) (sym same) had
      | inr apart ↦ sym (left.others other apart) ∙ there
    ]

-- what is within a set and lacks a member is within what is left without it
within_without : (set bit low : ℕ) → has_bit set bit ≡ true → IsWithin low set → has_bit low bit ≡ false
    → IsWithin low (without_member set bit)
within_without set bit low had within lacked other there =
    let left = taken_out (suc bit) set bit (omega arith) had in
    elim (cases_eq other bit) [
      | inl same ↦ absurd (both_ways (has_bit low bit) lacked (subst (λ (b : ℕ). has_bit low b ≡ true) same there))
      | inr apart ↦ left.others other apart ∙ within other there
    ]

-- where something is within a set, the set has something
pub some_within : (low set : ℕ) → 0 < low → IsWithin low set → 0 < set
some_within low set some into =
    elim (cases_eq set 0) [
      | inl empty ↦
          let same : low ≡ set =
          same_within low set into
          (λ bit had. absurd (both_ways (has_bit set bit) (ap (λ s. has_bit s bit) empty ∙ had_in_zero bit) had)) in
          absurd (omega (arith, some, empty, same))
      | inr some_there ↦ omega (arith, some_there)
    ]

module _ (n most : ℕ) where
  -- a set that lacks a member of one that stands in the table stands there too
  set_lowered : (set bit low : ℕ) → IsSet n most set → IsLowered set bit low → IsSet n most low
  set_lowered set bit low is lowered =
      let into : IsWithin low set = subst (λ (s : ℕ). IsWithin s set) lowered.lacks (without_within set bit lowered.had) in
      let fewer = size_within n low set into in
      let few = is.few in
      let below = is.primitives in
      let lacks = lowered.lacks in
      record {
        some = lowered.some;
        primitives = omega (arith, below, lacks);
        few = omega (arith, few, fewer);
      }

  -- a declared pair is of two sets, the lower within the upper
  declared_within : (a b : ℕ) → Contains (pairs_of n most) (a, b) → (0 < a) × (0 < b) × IsWithin (members_of n most b) (members_of n most a)
  declared_within a b among =
      let is = pair_is n (table n most) (exception_count n most) a b among in
      let set = members_of n most a in
      let low = is.1.low in
      let found = lowered_is n set low is.1.among in
      let lowered = found.1 in
      let into : IsWithin low set = subst (λ (s : ℕ). IsWithin s set) lowered.lacks (without_within set found.0 lowered.had) in
      let some_set = some_within low set lowered.some into in
      let a_some : 0 < a = elim (cases_eq a 0) [
        | inl zero_is ↦
            let empty : set ≡ 0 = ap (members_of n most) zero_is in
            absurd (omega (arith, empty, some_set))
        | inr apart ↦ omega (arith, apart)
      ] in
      let number = number_whole n most low (set_lowered set found.0 low ((numbered n most).stands a a_some is.0) lowered) in
      let named : number_of n most low ≡ b = is.1.number in
      let members : low ≡ members_of n most b = sym number.members ∙ ap (members_of n most) named in
      (a_some, subst (λ (x : ℕ). 0 < x) named number.some, subst (λ (s : ℕ). IsWithin s set) members into)

  -- how exceptions stand to each other in the graph of sets
  pub data IsOver : ℕ → ℕ → Type 0 where
    top : {b : ℕ} → IsOver 0 b
    within : {a b : ℕ} → 0 < a → 0 < b → IsWithin (members_of n most b) (members_of n most a) → IsOver a b

  itself_over : (a : ℕ) → IsOver a a
  itself_over zero = top
  itself_over (suc a) = within (omega arith) (omega arith) (λ bit had. had)

  through : (a b c : ℕ) → 0 < a → 0 < b → IsWithin (members_of n most b) (members_of n most a) → IsOver b c → IsOver a c
  through a b c a_some b_some into top = absurd (omega (arith, b_some))
  through a b c a_some b_some into (within _ c_some further) = within a_some c_some (λ bit had. into bit (further bit had))

  step_over : (a b c : ℕ) → IsDeclared (exception_count n most) (pairs_of n most) a b → IsOver b c → IsOver a c
  step_over a b c (universal below) over = top
  step_over a b c (pair among) over =
      let is = declared_within a b among in
      through a b c is.0 is.1 is.2 over

  -- what is reached from an exception by chains
  pub over_from : {a b : ℕ} → Chain (exception_count n most) (pairs_of n most) a b → IsOver a b
  over_from {a} none = itself_over a
  over_from (more {a} {b} {c} step rest) = step_over a b c step (over_from rest)

  -- one step down from a set, to one that lacks a member and still has another set within it
  record IsStepDown (a b : ℕ) : Type 0 where
    lower : ℕ
    declared : Contains (pairs_of n most) (a, lower)
    some : 0 < lower
    in_range : lower < exception_count n most
    fewer : size_of n (members_of n most lower) + 1 ≡ size_of n (members_of n most a)
    into : IsWithin (members_of n most b) (members_of n most lower)

  one_down : (a b : ℕ) → 0 < a → a < exception_count n most → 0 < b → b < exception_count n most
      → IsWithin (members_of n most b) (members_of n most a) → IsMissing n (members_of n most a) (members_of n most b) → IsStepDown a b
  one_down a b a_some a_in b_some b_in into found =
      let set = members_of n most a in
      let other = members_of n most b in
      let low = without_member set found.bit in
      let under : IsWithin other low = within_without set found.bit other found.had into found.lacked in
      let some = some_within other low ((numbered n most).stands b b_some b_in).some under in
      let lowered : IsLowered set found.bit low = record { had = found.had; some = some; lacks = refl } in
      let number = number_whole n most low (set_lowered set found.bit low ((numbered n most).stands a a_some a_in) lowered) in
      let left = taken_out n set found.bit found.in_range found.had in
      record {
        lower = number_of n most low;
        declared = pair_has n (table n most) (exception_count n most) a (number_of n most low) a_in (record {
          low = low;
          among = lowered_has n set found.bit low found.in_range lowered;
          number = refl;
        });
        some = number.some;
        in_range = number.in_range;
        fewer = ap (λ (s : ℕ). size_of n s + 1) number.members ∙ left.size;
        into = subst (IsWithin other) (sym number.members) under;
      }

  -- from a set to each that is within it there is a chain, by one member less at each step
  down_to : (size a b : ℕ) → size_of n (members_of n most a) ≤ size → 0 < a → a < exception_count n most → 0 < b
      → b < exception_count n most
      → IsWithin (members_of n most b) (members_of n most a) → Chain (exception_count n most) (pairs_of n most) a b
  down_to zero a b sized a_some a_in b_some b_in into =
      elim (missing n (members_of n most a) (members_of n most b) ((numbered n most).stands a a_some a_in).primitives) [
        | inr back ↦ subst (λ (x : ℕ). Chain (exception_count n most) (pairs_of n most) a x)
            (members_apart n most a b a_in b_in (same_within (members_of n most a) (members_of n most b) back into)) none
        | inl found ↦
            let down = one_down a b a_some a_in b_some b_in into found in
            let fewer = down.fewer in
            absurd (omega (arith, sized, fewer))
      ]
  down_to (suc size) a b sized a_some a_in b_some b_in into =
      elim (missing n (members_of n most a) (members_of n most b) ((numbered n most).stands a a_some a_in).primitives) [
        | inr back ↦ subst (λ (x : ℕ). Chain (exception_count n most) (pairs_of n most) a x)
            (members_apart n most a b a_in b_in (same_within (members_of n most a) (members_of n most b) back into)) none
        | inl found ↦
            let down = one_down a b a_some a_in b_some b_in into found in
            let fewer = down.fewer in
            more (pair down.declared)
            (down_to size down.lower b (omega (arith, sized, fewer)) down.some down.in_range b_some b_in down.into)
      ]

  pub chain_from : (a b : ℕ) → a < exception_count n most → b < exception_count n most → IsOver a b
      → Chain (exception_count n most) (pairs_of n most) a b
  chain_from a b a_in b_in top = more (universal b_in) none
  chain_from a b a_in b_in (within a_some b_some into) =
      down_to (size_of n (members_of n most a)) a b (omega arith) a_some a_in b_some b_in into

  -- two exceptions over each other are one
  pub over_apart : (a b : ℕ) → a < exception_count n most → b < exception_count n most → IsOver a b → IsOver b a → a ≡ b
  over_apart a b a_in b_in top top = refl
  over_apart a b a_in b_in top (within _ some _) = absurd (omega (arith, some))
  over_apart a b a_in b_in (within _ some _) top = absurd (omega (arith, some))
  over_apart a b a_in b_in (within _ _ into) (within _ _ back) = members_apart n most a b a_in b_in (same_within _ _ back into)

  -- what is over universal is universal
  pub over_universal : (a : ℕ) → IsOver a 0 → a ≡ 0
  over_universal a top = refl
  over_universal a (within _ some _) = absurd (omega (arith, some))

  pub within_from : (a b : ℕ) → 0 < a → IsOver a b → IsWithin (members_of n most b) (members_of n most a)
  within_from a b some top = absurd (omega (arith, some))
  within_from a b some (within _ _ into) = into

  -- there is no cycle
  pub acyclic : (a : ℕ) → a < exception_count n most → IsInCycle (exception_count n most) (pairs_of n most) a → ⊥
  acyclic a a_in cycle = cycle.apart (sym (over_apart a cycle.other a_in cycle.in_range (over_from cycle.down) (over_from cycle.up)))
