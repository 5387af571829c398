-- Tests of each number below another.
use Rattle.std.proofs.Common.{◌≡◌, ℕ, zero, suc, ◌+◌, ◌<◌, ◌≤◌, ◌&&◌, ◌∙◌, add-zero, Bool, true, false, List, [], ◌∷◌, length, slice_index_or, inl, inr, arith, refl, sym, subst, ap}
use Rattle.std.specs.List.{list_all, range_with_len}
use Rattle.std.proofs.lemmas.Bool.{and_parts, and_from, cases_eq, cond_both, both_ways}
use Rattle.message_resolution.specs.Members.LeastCover.{first_such}

pub all_in_range : (p : ℕ → Bool) (a n : ℕ) → ((x : ℕ) → a ≤ x → x < a + n → p x ≡ true) → list_all p (range_with_len a n) ≡ true
all_in_range p a zero h = refl
all_in_range p a (suc n) h =
    and_from _ _ (h a (omega arith) (omega arith)) (all_in_range p (a + 1) n (λ x low high. h x (omega arith) (omega arith)))

pub in_range_all : (p : ℕ → Bool) (a n : ℕ) → list_all p (range_with_len a n) ≡ true → (x : ℕ) → a ≤ x → x < a + n → p x ≡ true
in_range_all p a zero all x low high = absurd (omega arith)
in_range_all p a (suc n) all x low high =
    let parts = and_parts (p a) (list_all p (range_with_len (a + 1) n)) all in
    elim (cases_eq x a) [
      | inl same ↦ subst (λ k. p k ≡ true) (sym same) parts.0
      | inr other ↦ in_range_all p (a + 1) n parts.1 x (omega arith) (omega arith)
    ]

-- where some number passes, the first such is found
pub first_passes : (p : ℕ → Bool) (a n x : ℕ) → a ≤ x → x < a + n → p x ≡ true
    → (p (first_such p (range_with_len a n)) ≡ true) × (first_such p (range_with_len a n) < a + n)
first_passes p a zero x low high holds = absurd (omega arith)
first_passes p a (suc n) x low high holds =
    cond_both (p a) a (first_such p (range_with_len (a + 1) n)) (λ r. (p r ≡ true) × (r < a + suc n)) (λ here. (here, omega arith))
    (λ fails.
    let apart : x ≡ a → ⊥ = λ same. both_ways (p a) fails (subst (λ k. p k ≡ true) same holds) in
    let found = first_passes p (a + 1) n x (omega arith) (omega arith) holds in
    let below = found.1 in
    (found.0, omega arith))

-- a list that holds the answers of a test holds it throughout just where the test passes throughout
pub all_of_answers : (p : ℕ → Bool) (answers : List Bool) (a : ℕ)
    → ((u : ℕ) → u < length answers → slice_index_or answers u false ≡ p (a + u))
    → list_all (λ b. b) answers ≡ list_all p (range_with_len a (length answers))
all_of_answers p [] a h = refl
all_of_answers p (b ∷ answers) a h =
    let here : b ≡ p a = rw add-zero at (h 0 (omega arith)) in
    let later = all_of_answers p answers (a + 1) (λ u less. h (suc u) (omega arith) ∙ ap p (omega arith)) in
    λ i. here i && later i
