-- A step of closing rows: what is told over one exception more.
use Rattle.std.proofs.Common.{◌≡◌, ◌<◌, ◌+◌, ◌&&◌, ◌⊎◌, inl, inr, ℕ, true, List, length, sym, ◌∙◌, subst, arith}
use Rattle.std.proofs.lemmas.Bool.{or_cases, or_left, or_right, and_parts, and_from, cases_eq}
use Rattle.cover_table.specs.Cover.{tells}
use Rattle.exception_graph.specs.Chains.{Chain, none, more}
use Rattle.exception_graph.specs.inner.Closing.{TellChains, AreClosedOver, AreExtended, StayBelow}

-- chains one after another
pub chain-append : {count : ℕ} {pairs : List (ℕ × ℕ)} {a b c : ℕ} → Chain count pairs a b → Chain count pairs b c → Chain count pairs a c
chain-append none next = next
chain-append (more step rest) next = more step (chain-append rest next)

module _ (old new : List ℕ) (m : ℕ) (step : AreExtended old new m) where
  -- what the new rows tell was told in one step or in two
  pub told_before : (a b : ℕ) → a < length old → tells new a b ≡ true
      → (tells old a b ≡ true) ⊎ ((tells old a m ≡ true) × (tells old m b ≡ true))
  told_before a b a_in told =
      elim (or_cases (tells old a b) (tells old a m && tells old m b) (sym (step.tell a b a_in) ∙ told)) [
        | inl one ↦ inl one
        | inr two ↦ inr (and_parts (tells old a m) (tells old m b) two)
      ]

  pub told_in_one : (a b : ℕ) → a < length old → tells old a b ≡ true → tells new a b ≡ true
  told_in_one a b a_in one = step.tell a b a_in ∙ or_left (tells old a b) (tells old a m && tells old m b) one

  pub told_in_two : (a b : ℕ) → a < length old → tells old a m ≡ true → tells old m b ≡ true → tells new a b ≡ true
  told_in_two a b a_in first second =
      step.tell a b a_in ∙ or_right (tells old a b) (tells old a m && tells old m b)
      (and_from (tells old a m) (tells old m b) first second)

  -- what leads to m, and from it, was told before
  told_to : (a : ℕ) → a < length old → tells new a m ≡ true → tells old a m ≡ true
  told_to a a_in told = elim (told_before a m a_in told) [ inl one ↦ one | inr two ↦ two.0 ]

  told_from : (b : ℕ) → m < length old → tells new m b ≡ true → tells old m b ≡ true
  told_from b m_in told = elim (told_before m b m_in told) [ inl one ↦ one | inr two ↦ two.1 ]

  -- rows closed over all below m are then closed over m too
  pub closed_more : m < length old → AreClosedOver old m → AreClosedOver new (m + 1)
  closed_more m_in closed k a b k_in a_new first second =
      let many = step.as_many in
      let a_in : a < length old = omega arith in
      elim (cases_eq k m) [
        | inl same ↦
            let first' : tells new a m ≡ true = subst (λ (x : ℕ). tells new a x ≡ true) same first in
            let second' : tells new m b ≡ true = subst (λ (x : ℕ). tells new x b ≡ true) same second in
            told_in_two a b a_in (told_to a a_in first') (told_from b m_in second')
        | inr apart ↦
            let k_below : k < m = omega arith in
            let k_old : k < length old = omega arith in
            elim (told_before a k a_in first) [
              | inl ak ↦ elim (told_before k b k_old second) [
                | inl kb ↦ told_in_one a b a_in (closed k a b k_below a_in ak kb)
                | inr kmb ↦ told_in_two a b a_in (closed k a m k_below a_in ak kmb.0) kmb.1
              ]
              | inr amk ↦ elim (told_before k b k_old second) [
                | inl kb ↦ told_in_two a b a_in amk.0 (closed k m b k_below m_in amk.1 kb)
                | inr kmb ↦ told_in_two a b a_in amk.0 kmb.1
              ]
            ]
      ]

  -- rows that tell chains still do
  pub chains_more : (count : ℕ) (pairs : List (ℕ × ℕ)) → count ≡ length old → m < count → TellChains count pairs old
      → TellChains count pairs new
  chains_more count pairs many m_in chains a b a_in b_in told =
      let a_old : a < length old = omega arith in
      elim (told_before a b a_old told) [
        | inl one ↦ chains a b a_in b_in one
        | inr two ↦ chain-append (chains a m a_in m_in two.0) (chains m b m_in b_in two.1)
      ]

  -- rows that stay below a count still do
  pub within_more : (count : ℕ) → m < length old → StayBelow count old → StayBelow count new
  within_more count m_in within a b a_new told =
      let many = step.as_many in
      let a_in : a < length old = omega arith in
      elim (told_before a b a_in told) [ inl one ↦ within a b a_in one | inr two ↦ within m b m_in two.1 ]
