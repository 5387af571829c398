-- Places in a list, and past its end.
use Rattle.std.proofs.Common.{◌≡◌, ℕ, ◌<◌, ◌≤◌, List, [], ◌∷◌, length, slice_index_or, zero, suc, refl, inl, inr, ◌⊎◌, arith}

-- past the end of a list is the default
pub past_end : {A : Type 0} (xs : List A) (i : ℕ) (d : A) → length xs ≤ i → slice_index_or xs i d ≡ d
past_end [] i d l = refl
past_end (x ∷ xs) zero d l = absurd (omega arith)
past_end (x ∷ xs) (suc i) d l = past_end xs i d (omega arith)

pub below_or_not : (a n : ℕ) → (a < n) ⊎ (n ≤ a)
below_or_not a zero = inr (omega arith)
below_or_not zero (suc n) = inl (omega arith)
below_or_not (suc a) (suc n) = elim (below_or_not a n) [ inl x ↦ inl (omega arith) | inr x ↦ inr (omega arith) ]
