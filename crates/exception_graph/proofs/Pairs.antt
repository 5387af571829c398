-- Rows that tell declared pairs.
use Rattle.std.proofs.Common.{◌≡◌, ◌<◌, ◌+◌, inl, inr, ℕ, true, List, [], ◌∷◌, ◌++◌, Contains, length, take, get_or, sym, ap, ◌∙◌, subst, arith}
use Rattle.std.proofs.lemmas.List.{take_more}
use Rattle.std.proofs.lemmas.List.Elements.{Contains-push, Contains-push_cases, Contains-append_left}
use Rattle.cover_table.specs.Cover.{tells}
use Rattle.exception_graph.specs.inner.Closing.{AddsPair, AddsPairs}

-- one more pair
pub pairs_more : (start old new : List ℕ) (pairs : List (ℕ × ℕ)) (n : ℕ) → n < length pairs
    → AddsPairs start old pairs n → AddsPair old new (get_or pairs n (0, 0)).0 (get_or pairs n (0, 0)).1
    → AddsPairs start new pairs (n + 1)
pairs_more start old new pairs n n_in before step =
    let many = before.as_many in
    let pair : ℕ × ℕ = get_or pairs n (0, 0) in
    let front : List (ℕ × ℕ) = take n pairs in
    let all : take (n + 1) pairs ≡ front ++ pair ∷ [] = take_more pairs n (0, 0) n_in in
    let back : (a b : ℕ) → Contains (front ++ pair ∷ []) (a, b) → Contains (take (n + 1) pairs) (a, b) =
    λ a b. subst (λ (xs : List (ℕ × ℕ)). Contains xs (a, b)) (sym all) in
    record {
      as_many = step.as_many ∙ before.as_many;
      more = λ a b a_in told. step.more a b (omega arith) (before.more a b a_in told);
      told = λ a b a_in declared.
          elim (Contains-push_cases front pair (a, b) (subst (λ (xs : List (ℕ × ℕ)). Contains xs (a, b)) all declared)) [
            | inl earlier ↦ step.more a b (omega arith) (before.told a b a_in earlier)
            | inr this ↦ subst (λ (p : ℕ × ℕ). tells new p.0 p.1 ≡ true) this step.told
          ];
      only = λ a b a_in told.
          elim (step.only a b (omega arith) told) [
            | inl old_told ↦ elim (before.only a b a_in old_told) [
              | inl start_told ↦ inl start_told
              | inr earlier ↦ inr (back a b (Contains-append_left front (pair ∷ []) (a, b) earlier))
            ]
            | inr this ↦
                let at : ℕ → ℕ → ℕ × ℕ = λ x y. (x, y) in
                let same : pair ≡ (a, b) = ap (λ x. at x pair.1) (sym this.0) ∙ ap (at a) (sym this.1) in
                inr (back a b (subst (λ (p : ℕ × ℕ). Contains (front ++ pair ∷ []) p) same (Contains-push front pair)))
          ];
    }
