-- What stands at a place of a list, as an option.
use Rattle.std.proofs.Common.{◌≡◌, ◌≢◌, ℕ, zero, suc, List, [], ◌∷◌, ◌++◌, length, slice_get, slice_set, Some, inl, inr, ◌⊎◌, refl, sym, ◌∙◌, subst, Contains, reverse, arith, Bool, ◌↔◌}
use Rattle.std.specs.Prelude.{IsTrue}
use Rattle.std.specs.List.{list_any}
use Rattle.message_resolution.specs.declared.world.event.Event.{Event}
use Rattle.message_resolution.specs.declared.world.event.Event.TheVariants.{Deliver}
use Rattle.message_resolution.specs.inner.Deliveries.{is_delivery}
use Rattle.message_resolution.proofs.Coming.Settled.{is_delivery_true, delivers_itself}
use Rattle.std.proofs.lemmas.List.Elements.{Contains-append_left, Contains-append_right}
use Rattle.std.proofs.lemmas.List.{reverse-append, reverse-reverse}
use Rattle.message_resolution.proofs.Containing.{nothing_in, first_in, cases_in, any_member, any_from}

-- at a place of a longer list
pub got_push : {A : Type 0} (xs : List A) (y x : A) (k : ℕ) → slice_get (xs ++ y ∷ []) k ≡ Some x
    → (slice_get xs k ≡ Some x) ⊎ ((k ≡ length xs) × (y ≡ x))
got_push [] y x zero is = inr (refl, cc)
got_push [] y x (suc k) is = absurd cc
got_push (z ∷ xs) y x zero is = inl is
got_push (z ∷ xs) y x (suc k) is = elim (got_push xs y x k is) [
  | inl before ↦ inl before
  | inr last ↦ let at = last.0 in inr (omega arith, last.1)
]

-- at a place of a list that was changed at one
pub got_set : {A : Type 0} (xs : List A) (i : ℕ) (y x : A) (k : ℕ) → slice_get (slice_set xs i y) k ≡ Some x
    → ((k ≡ i) × (y ≡ x)) ⊎ ((k ≢ i) × (slice_get xs k ≡ Some x))
got_set [] i y x k is = absurd cc
got_set (z ∷ xs) zero y x zero is = inl (refl, cc)
got_set (z ∷ xs) zero y x (suc k) is = inr (λ same. omega arith, is)
got_set (z ∷ xs) (suc i) y x zero is = inr (λ same. omega arith, is)
got_set (z ∷ xs) (suc i) y x (suc k) is = elim (got_set xs i y x k is) [
  | inl here ↦ let at = here.0 in inl (omega arith, here.1)
  | inr other ↦ let apart = other.0 in inr (λ same. apart (omega arith), other.1)
]

-- a list backwards contains the same
pub Contains-reverse : {A : Type 0} (xs : List A) (x : A) → Contains xs x → Contains (reverse xs) x
Contains-reverse [] x at = absurd (nothing_in x at)
Contains-reverse (y ∷ xs) x at =
    subst (λ ys. Contains ys x) (sym (reverse-append (y ∷ []) xs)) (elim (cases_in y xs x at) [
      | inl same ↦ Contains-append_right (reverse xs) (reverse (y ∷ [])) x (subst (Contains (y ∷ [])) same (first_in y []))
      | inr later ↦ Contains-append_left (reverse xs) (reverse (y ∷ [])) x (Contains-reverse xs x later)
    ])

pub Contains-from_reverse : {A : Type 0} (xs : List A) (x : A) → Contains (reverse xs) x → Contains xs x
Contains-from_reverse xs x at = subst (λ ys. Contains ys x) (reverse-reverse xs) (Contains-reverse (reverse xs) x at)

-- a delivery is found among the events just where the past has it
pub delivery_found : (events : List Event) (t number : ℕ) (found : Bool) → found ≡ list_any (is_delivery t number) events
    → IsTrue found ↔ Contains (reverse events) (Deliver t number)
delivery_found events t number found is = (
  λ holds.
      let some = any_member (is_delivery t number) events (sym is ∙ holds) in
      Contains-reverse events (Deliver t number) (subst (Contains events) (is_delivery_true t number some.0 some.2) some.1),
  λ at. is ∙ any_from (is_delivery t number) events (Deliver t number) (Contains-from_reverse events (Deliver t number) at)
      (delivers_itself t number),
)
