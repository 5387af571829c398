-- What a list contains, one element at a time.
use Rattle.std.proofs.Common.{◌≡◌, Bool, true, List, [], ◌∷◌, inl, inr, ◌⊎◌, arith, refl, sym, subst, Contains}
use Rattle.std.specs.List.{list_any, list_all, flat_map}
use Rattle.std.proofs.lemmas.Bool.{and_parts, and_from, or_cases, or_left, or_right, false≢true}
use Rattle.std.proofs.lemmas.List.Elements.{Contains-append_left, Contains-append_right, Contains-append_cases, Contains-push, Contains-push_cases}

pub nothing_in : {A : Type 0} (x : A) → Contains [] x → ⊥
nothing_in x at = omega (arith, at.1)

pub first_in : {A : Type 0} (x : A) (xs : List A) → Contains (x ∷ xs) x
first_in x xs = Contains-append_left (x ∷ []) xs x (Contains-push [] x)

pub later_in : {A : Type 0} (y : A) (xs : List A) (x : A) → Contains xs x → Contains (y ∷ xs) x
later_in y xs x at = Contains-append_right (y ∷ []) xs x at

pub one_in : {A : Type 0} (y x : A) → Contains (y ∷ []) x → y ≡ x
one_in y x at = elim (Contains-push_cases [] y x at) [ inl none ↦ absurd (nothing_in x none) | inr same ↦ same ]

pub cases_in : {A : Type 0} (y : A) (xs : List A) (x : A) → Contains (y ∷ xs) x → (y ≡ x) ⊎ Contains xs x
cases_in y xs x at =
    elim (Contains-append_cases (y ∷ []) xs x at) [ inl one ↦ inl (one_in y x one) | inr later ↦ inr later ]

pub list_all_from : {A : Type 0} (p : A → Bool) (xs : List A) → ((x : A) → Contains xs x → p x ≡ true) → list_all p xs ≡ true
list_all_from p [] h = refl
list_all_from p (x ∷ xs) h = and_from _ _ (h x (first_in x xs)) (list_all_from p xs (λ y at. h y (later_in x xs y at)))

pub list_all_in : {A : Type 0} (p : A → Bool) (xs : List A) (x : A) → list_all p xs ≡ true → Contains xs x → p x ≡ true
list_all_in p [] x all at = absurd (nothing_in x at)
list_all_in p (y ∷ xs) x all at =
    let parts = and_parts (p y) (list_all p xs) all in
    elim (cases_in y xs x at) [ inl same ↦ subst (λ z. p z ≡ true) same parts.0 | inr later ↦ list_all_in p xs x parts.1 later ]

pub any_member : {A : Type 0} (p : A → Bool) (xs : List A) → list_any p xs ≡ true → (x : A) × Contains xs x × (p x ≡ true)
any_member p [] any = absurd (false≢true any)
any_member p (x ∷ xs) any =
    elim (or_cases (p x) (list_any p xs) any) [
      | inl now ↦ (x, first_in x xs, now)
      | inr later ↦ let found = any_member p xs later in (found.0, later_in x xs found.0 found.1, found.2)
    ]

pub any_from : {A : Type 0} (p : A → Bool) (xs : List A) (x : A) → Contains xs x → p x ≡ true → list_any p xs ≡ true
any_from p [] x at holds = absurd (nothing_in x at)
any_from p (y ∷ xs) x at holds =
    elim (cases_in y xs x at) [
      | inl same ↦ or_left (p y) (list_any p xs) (subst (λ z. p z ≡ true) (sym same) holds)
      | inr later ↦ or_right (p y) (list_any p xs) (any_from p xs x later holds)
    ]

pub flat_map_from : {A B : Type 0} (f : A → List B) (xs : List A) (x : A) (y : B) → Contains xs x → Contains (f x) y
    → Contains (flat_map f xs) y
flat_map_from f [] x y at here = absurd (nothing_in x at)
flat_map_from f (z ∷ xs) x y at here =
    elim (cases_in z xs x at) [
      | inl same ↦ Contains-append_left (f z) (flat_map f xs) y (subst (λ w. Contains (f w) y) (sym same) here)
      | inr later ↦ Contains-append_right (f z) (flat_map f xs) y (flat_map_from f xs x y later here)
    ]

pub flat_map_member : {A B : Type 0} (f : A → List B) (xs : List A) (y : B) → Contains (flat_map f xs) y
    → (x : A) × Contains xs x × Contains (f x) y
flat_map_member f [] y at = absurd (nothing_in y at)
flat_map_member f (x ∷ xs) y at =
    elim (Contains-append_cases (f x) (flat_map f xs) y at) [
      | inl here ↦ (x, first_in x xs, here)
      | inr later ↦ let found = flat_map_member f xs y later in (found.0, later_in x xs found.0 found.1, found.2)
    ]
