-- The graphs of the cell have no cycle, and any two of their exceptions have a least cover.
use Rattle.std.proofs.Common.{◌≡◌, ◌≢◌, ℕ, ◌<◌, ◌≤◌, ◌⊎◌, inl, inr, true, ◌&&◌, List, [], ◌∷◌, All, Contains, refl, sym, subst, arith}
use Rattle.std.proofs.lemmas.Bool.{and_from, and_parts, cases_eq}
use Rattle.std.proofs.lemmas.List.Elements.{All-cons, All-contains, All-nil, Contains-get_or}
use Rattle.cover_table.specs.Cover.{CoverOrder, covers, covers_each, HasLeastCover, IsLeastCover}
use Rattle.exception_graph.specs.Chains.{Chain, IsDeclared, IsFirstInCycle, IsFirstUnjoined, IsOrderOf, universal, pair, none, more}

-- ---- any graph

module _ (count : ℕ) (pairs : List (ℕ × ℕ)) where
  -- each pair goes to a greater number
  abbrev pub GoesUp : Type 0
  GoesUp = All (λ (p : ℕ × ℕ). p.0 ≤ p.1) pairs

  step_up : (a b : ℕ) → GoesUp → IsDeclared count pairs a b → a ≤ b
  step_up a b up (universal lt) = omega arith
  step_up a b up (pair among) = All-contains (λ (p : ℕ × ℕ). p.0 ≤ p.1) pairs (a, b) up among

  chain_up : (a b : ℕ) → GoesUp → Chain count pairs a b → a ≤ b
  chain_up a b up none = omega arith
  chain_up a b up (more {b = c} first rest) =
      let here = step_up a c up first in
      let later = chain_up c b up rest in
      omega (arith, here, later)

  -- so there is no cycle
  pub no_cycle : (at : ℕ) → GoesUp → IsFirstInCycle count pairs at → ⊥
  no_cycle at up first =
      let cycle = first.cycle in
      let down = chain_up at cycle.other up cycle.down in
      let back = chain_up cycle.other at up cycle.up in
      cycle.apart (omega (arith, down, back))

  module _ (order : CoverOrder) (is : IsOrderOf count pairs order) where
    covered : (a b : ℕ) → a < count → b < count → Chain count pairs a b → covers order a b ≡ true
    covered a b a_in b_in chain = (is.tells a b a_in b_in).1 chain

    both_covered : (x a b : ℕ) → x < count → a < count → b < count → Chain count pairs x a → Chain count pairs x b
        → covers_each order x (a ∷ b ∷ []) ≡ true
    both_covered x a b x_in a_in b_in first second =
        and_from (covers order x a) (covers order x b && true) (covered x a x_in a_in first)
        (and_from (covers order x b) true (covered x b x_in b_in second) refl)

    -- what is over another is the least that covers both
    pub upper_is_least : (a b : ℕ) → a < count → b < count → Chain count pairs a b → HasLeastCover order (a ∷ b ∷ [])
    upper_is_least a b a_in b_in chain = (
      a,
      record {
        in_range = subst (λ k. a < k) (sym is.counts) a_in;
        above = both_covered a a b a_in a_in b_in none chain;
        least = λ y y_in each. (and_parts (covers order y a) (covers order y b && true) each).0;
      },
    )

-- ---- two exceptions

nothing_up : GoesUp 2 []
nothing_up = All-nil (λ (p : ℕ × ℕ). p.0 ≤ p.1)

pub one_acyclic : (at : ℕ) → IsFirstInCycle 2 [] at → ⊥
one_acyclic at = no_cycle 2 [] at nothing_up

-- the first pair of a graph without a least cover isn't (0, b)
universal_first : (count : ℕ) (pairs : List (ℕ × ℕ)) (b : ℕ) → b < count → IsFirstUnjoined count pairs 0 b → ⊥
universal_first count pairs b b_in unjoined =
    unjoined.first.without (upper_is_least count pairs unjoined.order unjoined.is_order_of 0 b (omega (arith, b_in)) b_in
    (more (universal b_in) none))

pub one_joined : (a b : ℕ) → IsFirstUnjoined 2 [] a b → ⊥
one_joined a b unjoined =
    let first = unjoined.first in
    let many = unjoined.is_order_of.counts in
    let less = first.ascending in
    let below = first.in_range in
    let zero_is : a ≡ 0 = omega (arith, many, less, below) in
    universal_first 2 [] b (omega (arith, many, below)) (subst (λ k. IsFirstUnjoined 2 [] k b) zero_is unjoined)

-- ---- a jam, and the two that it covers

abbrev pub jam_pairs : List (ℕ × ℕ)
jam_pairs = (1, 2) ∷ (1, 3) ∷ []

-- what a pair says, or a chain
abbrev IsOver : ℕ → ℕ → Type 0
IsOver a b = (a ≡ 0) ⊎ ((a ≡ b) ⊎ ((a ≡ 1) × (1 < b)))

abbrev IsJam : ℕ × ℕ → Type 0
IsJam p = (p.0 ≡ 1) × (1 < p.1)

jam_up : GoesUp 4 jam_pairs
jam_up =
    All-cons (λ (p : ℕ × ℕ). p.0 ≤ p.1) (1, 2) ((1, 3) ∷ []) (omega arith)
    (All-cons (λ (p : ℕ × ℕ). p.0 ≤ p.1) (1, 3) [] (omega arith) (All-nil (λ (p : ℕ × ℕ). p.0 ≤ p.1)))

jams_are : All IsJam jam_pairs
jams_are = All-cons IsJam (1, 2) ((1, 3) ∷ []) (refl, omega arith) (All-cons IsJam (1, 3) [] (refl, omega arith) (All-nil IsJam))

over_by : (a b c : ℕ) → IsDeclared 4 jam_pairs a b → IsOver b c → IsOver a c
over_by a b c (universal lt) over = inl refl
over_by a b c (pair among) over =
    let is = All-contains IsJam jam_pairs (a, b) jams_are among in
    elim over [
      | inl zero_is ↦ absurd (omega (arith, is.1, zero_is))
      | inr (inl same) ↦ inr (inr (is.0, omega (arith, is.1, same)))
      | inr (inr below) ↦ inr (inr (is.0, below.1))
    ]

chain_over : (a b : ℕ) → Chain 4 jam_pairs a b → IsOver a b
chain_over a b none = inr (inl refl)
chain_over a b (more {b = c} first rest) = over_by a c b first (chain_over c b rest)

pub jam_acyclic : (at : ℕ) → IsFirstInCycle 4 jam_pairs at → ⊥
jam_acyclic at = no_cycle 4 jam_pairs at jam_up

first_pair : Contains jam_pairs (1, 2)
first_pair = Contains-get_or jam_pairs 0 (0, 0) (omega arith)

second_pair : Contains jam_pairs (1, 3)
second_pair = Contains-get_or jam_pairs 1 (0, 0) (omega arith)

jam_over : (b : ℕ) → 1 < b → b < 4 → Chain 4 jam_pairs 1 b
jam_over b some few =
    elim (cases_eq b 2) [
      | inl two ↦ subst (λ k. Chain 4 jam_pairs 1 k) (sym two) (more (pair first_pair) none)
      | inr apart ↦
          let three : b ≡ 3 = omega (arith, some, few, apart) in
          subst (λ k. Chain 4 jam_pairs 1 k) (sym three) (more (pair second_pair) none)
    ]

-- the least that covers both jams is the first exception
jam_least : (order : CoverOrder) → IsOrderOf 4 jam_pairs order → IsLeastCover order (2 ∷ 3 ∷ []) 1
jam_least order is = record {
  in_range = subst (λ k. 1 < k) (sym is.counts) (omega arith);
  above =
      both_covered 4 jam_pairs order is 1 2 3 (omega arith) (omega arith) (omega arith) (jam_over 2 (omega arith) (omega arith))
      (jam_over 3 (omega arith) (omega arith));
  least = λ y y_in each.
      let many = is.counts in
      let inside : y < 4 = omega (arith, y_in, many) in
      let p = and_parts (covers order y 2) (covers order y 3 && true) each in
      let two = (is.tells y 2 inside (omega arith)).0 p.0 in
      let three = (is.tells y 3 inside (omega arith)).0 (and_parts (covers order y 3) true p.1).0 in
      elim (cases_eq y 0) [
        | inl zero_is ↦
            (is.tells y 1 inside (omega arith)).1
            (subst (λ k. Chain 4 jam_pairs k 1) (sym zero_is) (more (universal (omega arith)) none))
        | inr apart ↦
            let one : y ≡ 1 = below_both y apart (chain_over y 2 two) (chain_over y 3 three) in
            (is.tells y 1 inside (omega arith)).1 (subst (λ k. Chain 4 jam_pairs k 1) (sym one) none)
      ];
}
  where
    below_both : (y : ℕ) → y ≢ 0 → IsOver y 2 → IsOver y 3 → y ≡ 1
    below_both y apart (inl zero_is) over = absurd (apart zero_is)
    below_both y apart (inr (inr below)) over = below.0
    below_both y apart (inr (inl same)) (inl zero_is) = absurd (apart zero_is)
    below_both y apart (inr (inl same)) (inr (inr below)) = below.0
    below_both y apart (inr (inl same)) (inr (inl other)) = absurd (omega (arith, same, other))

pub jam_joined : (a b : ℕ) → IsFirstUnjoined 4 jam_pairs a b → ⊥
jam_joined a b unjoined =
    let order = unjoined.order in
    let is = unjoined.is_order_of in
    let many = is.counts in
    let less = unjoined.first.ascending in
    let below = unjoined.first.in_range in
    let inside : b < 4 = omega (arith, many, below) in
    elim (cases_eq a 0) [
      | inl zero_is ↦ universal_first 4 jam_pairs b inside (subst (λ k. IsFirstUnjoined 4 jam_pairs k b) zero_is unjoined)
      | inr some ↦
          elim (cases_eq a 1) [
            | inl one ↦
                unjoined.first.without
                (subst (λ k. HasLeastCover order (k ∷ b ∷ [])) (sym one)
                (upper_is_least 4 jam_pairs order is 1 b (omega arith) inside (jam_over b (omega (arith, one, less)) inside)))
            | inr apart ↦
                let two : a ≡ 2 = omega (arith, some, apart, less, inside) in
                let three : b ≡ 3 = omega (arith, some, apart, less, inside) in
                unjoined.first.without
                (subst (λ k. HasLeastCover order (k ∷ b ∷ [])) (sym two)
                (subst (λ k. HasLeastCover order (2 ∷ k ∷ [])) (sym three) (1, jam_least order is)))
          ]
    ]
