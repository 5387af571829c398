-- Lists that get one longer.
use Rattle.std.proofs.Common.{◌≡◌, ℕ, ◌<◌, List, [], ◌∷◌, ◌++◌, length, slice_index_or, sym, subst, arith, inl, inr, length-append}
use Rattle.std.proofs.lemmas.List.{get_or_append_left, get_or_push}
use Rattle.place_plan.proofs.OnPlans.Passing.{below_or_not}

-- what holds of each list, and of one more, holds of each of all
pub lists_more : (P : ℕ → List ℕ → Type 0) (lists : List (List ℕ)) (xs : List ℕ)
    → ((a : ℕ) → a < length lists → P a (slice_index_or lists a [])) → P (length lists) xs
    → (a : ℕ) → a < length (lists ++ xs ∷ []) → P a (slice_index_or (lists ++ xs ∷ []) a [])
lists_more P lists xs each last a l = elim (below_or_not a (length lists)) [
  | inl below ↦ subst (P a) (sym (get_or_append_left lists (xs ∷ []) [] a below)) (each a below)
  | inr past ↦
      let more = length-append lists (xs ∷ []) in
      let same : length lists ≡ a = omega (arith, l, past, more) in
      subst (P a) (sym (get_or_push lists xs [] a same)) (subst (λ n. P n xs) same last)
]
