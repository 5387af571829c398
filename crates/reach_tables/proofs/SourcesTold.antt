-- What a source raises stands among all that is told of an action.
use Rattle.std.proofs.Common.{◌≡◌, ℕ, ◌==◌, ◌+◌, Bool, true, List, [], ◌∷◌, ◌++◌, slice_index_or, slice_get, Some, zero, suc, refl, sym, ◌∙◌, subst, arith, inl, inr}
use Rattle.std.specs.List.{list_any}
use Rattle.std.proofs.lemmas.Bool.{or_cases, or_left, or_right, eqb-true, false≢true}
use Rattle.std.proofs.lemmas.List.Folds.{list_any-append}
use Rattle.caa_base.specs.Written.Lists.{member}
use Rattle.place_plan.specs.declared.drafts.draft_rows.ActionRow.{ActionRow}
use Rattle.place_plan.specs.declared.drafts.draft_rows.RoleRow.{RoleRow}
use Rattle.place_plan.specs.declared.drafts.draft_rows.Step.{Step}
use Rattle.place_plan.specs.declared.drafts.draft_rows.Step.TheVariants as step
use Rattle.place_plan.specs.Plans.Places.{no_role}
use Rattle.journal_laws.proofs.Options.{some_apart, some_same}
use Rattle.reach_laws.specs.ReachedSteps.{reached, can_raise}
use Rattle.reach_laws.specs.CanCome.{step_in, Source, step_of_role, nested_use, given_up_use, AreTogether}
use Rattle.reach_tables.specs.declared.table.RaisedBy.{RaisedBy}
use Rattle.reach_tables.specs.declared.table.RaisedBy.TheVariants as by
use Rattle.reach_tables.specs.declared.table.ReachRow.{ReachRow}
use Rattle.reach_tables.specs.declared.table.Told.{Told}
use Rattle.reach_tables.specs.declared.table.UseOrder.{UseOrder}
use Rattle.reach_tables.specs.ReachTable.{source_of, told_step, told_steps, told_roles, told_of, told_uses, told_given_up, all_told, are_together, tells_order}
use Rattle.reach_tables.proofs.OrderTold.{together_passes}

-- ---- sources by their names

-- the source as a table names it
abbrev pub name_of : Source → RaisedBy
name_of (step_of_role r i) = by.Step r i
name_of (nested_use k) = by.Use k
name_of (given_up_use k) = by.GivenUp k

pub source_named : (s : Source) → source_of (name_of s) ≡ s
source_named (step_of_role r i) = refl
source_named (nested_use k) = refl
source_named (given_up_use k) = refl

-- the source with an exception
abbrev pub told_as : Source → ℕ → Told
told_as source x = record { by = name_of source; exception = x }

-- what can be raised in one place passes the test of it
pub named_together : (action : ActionRow) (order : List UseOrder) → tells_order action order ≡ true → (s t : Source)
    → AreTogether action s t → are_together action order (name_of s) (name_of t) ≡ true
named_together action order right s t both =
    together_passes action order right (name_of s) (name_of t)
    (subst (λ z. AreTogether action z (source_of (name_of t))) (sym (source_named s))
    (subst (AreTogether action s) (sym (source_named t)) both))

-- ---- what stands among others

-- whatever test it passes, some of them pass
abbrev pub IsAmong : List Told → Told → Type 0
IsAmong told t = (test : Told → Bool) → test t ≡ true → list_any test told ≡ true

among_left : (xs ys : List Told) (t : Told) → IsAmong xs t → IsAmong (xs ++ ys) t
among_left xs ys t among test h = list_any-append test xs ys ∙ or_left (list_any test xs) (list_any test ys) (among test h)

among_right : (xs ys : List Told) (t : Told) → IsAmong ys t → IsAmong (xs ++ ys) t
among_right xs ys t among test h = list_any-append test xs ys ∙ or_right (list_any test xs) (list_any test ys) (among test h)

one_source : (s : RaisedBy) (xs : List ℕ) (x : ℕ) → member x xs ≡ true → IsAmong (told_of s xs) (record { by = s; exception = x })
one_source s [] x m test h = absurd (false≢true m)
one_source s (y ∷ ys) x m test h = elim (or_cases (y == x) (member x ys) m) [
  | inl e ↦ or_left _ _ (subst (λ z. test (record { by = s; exception = z }) ≡ true) (sym (eqb-true y x e)) h)
  | inr e ↦ or_right _ _ (one_source s ys x e test h)
]

-- ---- steps

step_among : (fault r i x : ℕ) (s : Step) → can_raise fault x s ≡ true → IsAmong (told_step fault r i s) (told_as (step_of_role r i) x)
step_among fault r i x (step.Put o v) h = one_source (by.Step r i) (fault ∷ []) x (or_left _ _ h)
step_among fault r i x (step.Add o v) h = one_source (by.Step r i) (fault ∷ []) x (or_left _ _ h)
step_among fault r i x (step.Check test bound y) h = one_source (by.Step r i) (y ∷ []) x (or_left _ _ h)
step_among fault r i x (step.Raise y) h = one_source (by.Step r i) (y ∷ []) x (or_left _ _ h)
step_among fault r i x _ h = absurd (false≢true h)

steps_among : (fault r n i m x : ℕ) (s : Step) (steps : List Step) → n + i ≡ m → slice_get steps i ≡ Some s
    → can_raise fault x s ≡ true → IsAmong (told_steps fault r n steps) (told_as (step_of_role r m) x)
steps_among fault r n i m x s [] e at_i h = absurd (some_apart at_i)
steps_among fault r n zero m x s (t ∷ steps) e at_i h =
    let number : n ≡ m = omega (arith, e) in
    among_left (told_step fault r n t) (told_steps fault r (suc n) steps) (told_as (step_of_role r m) x)
    (subst (λ z. IsAmong (told_step fault r n t) (told_as (step_of_role r z) x)) number
    (step_among fault r n x t (subst (λ z. can_raise fault x z ≡ true) (sym (some_same at_i)) h)))
steps_among fault r n (suc i) m x s (t ∷ steps) e at_i h =
    among_right (told_step fault r n t) (told_steps fault r (suc n) steps) (told_as (step_of_role r m) x)
    (steps_among fault r (suc n) i m x s steps (omega (arith, e)) at_i h)

roles_among : (fault n q r i x : ℕ) (s : Step) (roles : List RoleRow) → n + q ≡ r
    → slice_get (reached (slice_index_or roles q no_role).body.steps) i ≡ Some s → can_raise fault x s ≡ true
    → IsAmong (told_roles fault n roles) (told_as (step_of_role r i) x)
roles_among fault n q r i x s [] e at_i h = absurd (some_apart at_i)
roles_among fault n zero r i x s (role ∷ roles) e at_i h =
    let number : n ≡ r = omega (arith, e) in
    let steps = reached role.body.steps in
    among_left (told_steps fault n 0 steps) (told_roles fault (suc n) roles) (told_as (step_of_role r i) x)
    (subst (λ z. IsAmong (told_steps fault n 0 steps) (told_as (step_of_role z i) x)) number
    (steps_among fault n 0 i i x s steps (omega arith) at_i h))
roles_among fault n (suc q) r i x s (role ∷ roles) e at_i h =
    among_right (told_steps fault n 0 (reached role.body.steps)) (told_roles fault (suc n) roles)
    (told_as (step_of_role r i) x) (roles_among fault (suc n) q r i x s roles (omega (arith, e)) at_i h)

-- ---- uses

uses_among : (n k m x : ℕ) (uses : List (List ℕ)) → n + k ≡ m → member x (slice_index_or uses k []) ≡ true
    → IsAmong (told_uses n uses) (told_as (nested_use m) x)
uses_among n k m x [] e h = absurd (false≢true h)
uses_among n zero m x (xs ∷ uses) e h =
    let number : n ≡ m = omega (arith, e) in
    among_left (told_of (by.Use n) xs) (told_uses (suc n) uses) (told_as (nested_use m) x)
    (subst (λ z. IsAmong (told_of (by.Use n) xs) (told_as (nested_use z) x)) number (one_source (by.Use n) xs x h))
uses_among n (suc k) m x (xs ∷ uses) e h =
    among_right (told_of (by.Use n) xs) (told_uses (suc n) uses) (told_as (nested_use m) x)
    (uses_among (suc n) k m x uses (omega (arith, e)) h)

given_among : (n k m x : ℕ) (uses : List (List ℕ)) → n + k ≡ m → member x (slice_index_or uses k []) ≡ true
    → IsAmong (told_given_up n uses) (told_as (given_up_use m) x)
given_among n k m x [] e h = absurd (false≢true h)
given_among n zero m x (xs ∷ uses) e h =
    let number : n ≡ m = omega (arith, e) in
    among_left (told_of (by.GivenUp n) xs) (told_given_up (suc n) uses) (told_as (given_up_use m) x)
    (subst (λ z. IsAmong (told_of (by.GivenUp n) xs) (told_as (given_up_use z) x)) number (one_source (by.GivenUp n) xs x h))
given_among n (suc k) m x (xs ∷ uses) e h =
    among_right (told_of (by.GivenUp n) xs) (told_given_up (suc n) uses) (told_as (given_up_use m) x)
    (given_among (suc n) k m x uses (omega (arith, e)) h)

-- ---- all of them

module _ (action : ActionRow) (row : ReachRow) where
  abbrev steps : List Told
  steps = told_roles action.fault 0 action.roles

  abbrev uses : List Told
  uses = told_uses 0 row.by_uses

  abbrev given : List Told
  given = told_given_up 0 row.given_up

  pub step_told : (r i x : ℕ) (s : Step) → step_in action r i ≡ Some s → can_raise action.fault x s ≡ true
      → IsAmong (all_told action row) (told_as (step_of_role r i) x)
  step_told r i x s at_i h =
      among_left steps (uses ++ given) (told_as (step_of_role r i) x)
      (roles_among action.fault 0 r r i x s action.roles (omega arith) at_i h)

  pub use_told : (k x : ℕ) → member x (slice_index_or row.by_uses k []) ≡ true
      → IsAmong (all_told action row) (told_as (nested_use k) x)
  use_told k x m =
      among_right steps (uses ++ given) (told_as (nested_use k) x)
      (among_left uses given (told_as (nested_use k) x) (uses_among 0 k k x row.by_uses (omega arith) m))

  pub given_told : (k x : ℕ) → member x (slice_index_or row.given_up k []) ≡ true
      → IsAmong (all_told action row) (told_as (given_up_use k) x)
  given_told k x m =
      among_right steps (uses ++ given) (told_as (given_up_use k) x)
      (among_right uses given (told_as (given_up_use k) x) (given_among 0 k k x row.given_up (omega arith) m))
