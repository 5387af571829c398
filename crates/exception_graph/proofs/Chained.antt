-- Closed rows that tell what is declared tell just the chains.
use Rattle.std.proofs.Common.{◌≡◌, ◌==◌, ◌<◌, inl, inr, ℕ, true, List, All, Contains, length, sym, ◌∙◌, subst, refl, arith}
use Rattle.std.proofs.Math.Seq.{take-length}
use Rattle.std.proofs.lemmas.Bool.{or_cases, or_right, eqb-true, eq-eqb}
use Rattle.std.proofs.lemmas.List.Elements.{All-contains}
use Rattle.cover_table.specs.Cover.{order_of_rows, tells}
use Rattle.exception_graph.specs.Chains.{Chain, IsDeclared, IsOrderOf, none, more, universal, pair}
use Rattle.exception_graph.specs.inner.Closing.{AddsPairs, AreBare, AreClosedOver, StayBelow, TellChains, TellDeclared, TellMore}

module _ (count : ℕ) (pairs : List (ℕ × ℕ)) (in_range : All (λ (p : ℕ × ℕ). (p.0 < count) × (p.1 < count)) pairs) where
  declared_in : {a b : ℕ} → IsDeclared count pairs a b → b < count
  declared_in (universal below) = below
  declared_in (pair {a} {b} among) = (All-contains (λ (p : ℕ × ℕ). (p.0 < count) × (p.1 < count)) pairs (a, b) in_range among).1

  -- a chain stays below the count
  chain_in : {a b : ℕ} → Chain count pairs a b → a < count → b < count
  chain_in none a_in = a_in
  chain_in (more step rest) a_in = chain_in rest (declared_in step)

  -- bare rows with the pairs added tell what is declared
  pub added_declared : (bare added : List ℕ) → length bare ≡ count → AreBare bare
      → AddsPairs bare added pairs (length pairs) → TellDeclared count pairs added
  added_declared bare added many is_bare adds = record {
    itself = λ a a_in.
        let here : (a == a) ≡ true = eq-eqb a a refl in
        adds.more a a (omega arith) (is_bare a a (omega arith) (omega arith) ∙ or_right (a == 0) (a == a) here);
    declared = λ a b a_in b_in step. told a b a_in b_in step;
  }
    where
      told : (a b : ℕ) → a < count → b < count → IsDeclared count pairs a b → tells added a b ≡ true
      told a b a_in b_in (universal below) = adds.more 0 b (omega arith) (is_bare 0 b (omega arith) (omega arith))
      told a b a_in b_in (pair among) =
          adds.told a b (omega arith)
          (subst (λ (xs : List (ℕ × ℕ)). Contains xs (a, b)) (sym (take-length pairs)) among)

  -- and only chains
  pub added_chains : (bare added : List ℕ) → length bare ≡ count → AreBare bare
      → AddsPairs bare added pairs (length pairs) → TellChains count pairs added
  added_chains bare added many is_bare adds a b a_in b_in told =
      elim (adds.only a b (omega arith) told) [
        | inl before ↦ elim (or_cases (a == 0) (b == a) (sym (is_bare a b (omega arith) (omega arith)) ∙ before)) [
          | inl top ↦ subst (λ (x : ℕ). Chain count pairs x b) (sym (eqb-true a 0 top)) (more (universal b_in) none)
          | inr same ↦ subst (λ (x : ℕ). Chain count pairs a x) (sym (eqb-true b a same)) none
        ]
        | inr among ↦ more (pair (subst (λ (xs : List (ℕ × ℕ)). Contains xs (a, b)) (take-length pairs) among)) none
      ]

  -- closed rows that tell what is declared tell each chain
  pub chain_told : (rows : List ℕ) → length rows ≡ count → TellDeclared count pairs rows
      → AreClosedOver rows (length rows) → {a b : ℕ} → Chain count pairs a b → a < count → tells rows a b ≡ true
  chain_told rows many declares closed {a} none a_in = declares.itself a a_in
  chain_told rows many declares closed (more {a} {b} {c} step rest) a_in =
      let b_in = declared_in step in
      let c_in = chain_in rest b_in in
      closed b a c (omega arith) (omega arith) (declares.declared a b a_in b_in step) (chain_told rows many declares closed rest b_in)

  -- rows that tell more still tell what is declared
  pub declared_more : (old new : List ℕ) → length old ≡ count → TellDeclared count pairs old → TellMore old new
      → TellDeclared count pairs new
  declared_more old new many declares grows = record {
    itself = λ a a_in. grows a a (omega arith) (declares.itself a a_in);
    declared = λ a b a_in b_in step. grows a b (omega arith) (declares.declared a b a_in b_in step);
  }

  -- and stay below the count, as the bare ones do
  pub added_within : (bare added : List ℕ) → length bare ≡ count → StayBelow count bare
      → AddsPairs bare added pairs (length pairs) → StayBelow count added
  added_within bare added many within adds a b a_in told =
      let as_many = adds.as_many in
      elim (adds.only a b (omega arith) told) [
        | inl before ↦ within a b (omega arith) before
        | inr among ↦ declared_in (pair (subst (λ (xs : List (ℕ × ℕ)). Contains xs (a, b)) (take-length pairs) among))
      ]

  -- such rows are the order of the pairs
  pub order_told : (rows : List ℕ) → length rows ≡ count → TellDeclared count pairs rows
      → AreClosedOver rows (length rows) → TellChains count pairs rows → StayBelow count rows
      → IsOrderOf count pairs (order_of_rows rows)
  order_told rows many declares closed chains within = record {
    counts = many;
    rows = many;
    within = λ a b a_in told. within a b (omega arith) told;
    tells = λ a b a_in b_in. (chains a b a_in b_in, λ chain. chain_told rows many declares closed chain a_in);
  }
