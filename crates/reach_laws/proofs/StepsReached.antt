-- Steps that somebody comes to, since no step before them is a raise.
use Rattle.std.proofs.Common.{◌≡◌, ℕ, ℤ, ◌<◌, Bool, true, false, cond, ◌||◌, List, [], ◌∷◌, slice_get, Some, None, Option, zero, suc, refl, sym, ap, ◌∙◌, subst, arith, inl, inr, ◌⊎◌}
use Rattle.std.specs.List.{list_any}
use Rattle.std.proofs.lemmas.Bool.{or_left, or_right, eqb-true, eq-eqb, false≢true, cases_lt}
use Rattle.place_plan.specs.declared.drafts.draft_rows.Step.{Step}
use Rattle.place_plan.specs.declared.drafts.draft_rows.Step.TheVariants as step
use Rattle.place_plan.specs.RulesOfJournals.Roles.{raise_of, meets}
use Rattle.place_plan.specs.RulesOfJournals.Rules.{put_of, is_check}
use Rattle.caa_base.proofs.ListLemmas.{chosen}
use Rattle.journal_laws.proofs.Options.{some_apart, some_same}
use Rattle.reach_laws.specs.ReachedSteps.{is_raise, reached, can_raise, can_break, is_enter}

-- no step before this number is a raise
abbrev pub NoRaise : List Step → ℕ → Type 0
NoRaise steps n = (m : ℕ) (s : Step) → m < n → slice_get steps m ≡ Some s → is_raise s ≡ false

-- so the step of this number is come to
pub is_reached : (test : Step → Bool) (steps : List Step) (n : ℕ) (s : Step) → NoRaise steps n → slice_get steps n ≡ Some s
    → test s ≡ true → list_any test (reached steps) ≡ true
is_reached test [] n s none here passes = absurd cc
is_reached test (x ∷ steps) zero s none here passes =
    let same : x ≡ s = cc in by_raise (is_raise x) (subst (λ z. test z ≡ true) (sym same) passes)
  where
    by_raise : (b : Bool) → test x ≡ true → list_any test (cond b (x ∷ []) (x ∷ reached steps)) ≡ true
    by_raise true h = or_left _ _ h
    by_raise false h = or_left _ _ h
is_reached test (x ∷ steps) (suc n) s none here passes =
    by_raise (is_raise x) (none zero x (omega arith) refl)
    (is_reached test steps n s (λ m z l at. none (suc m) z (omega arith) at) here passes)
  where
    by_raise : (b : Bool) → b ≡ false → list_any test (reached steps) ≡ true → list_any test (cond b (x ∷ []) (x ∷ reached steps)) ≡ true
    by_raise true f h = absurd (false≢true (sym f))
    by_raise false f h = or_right _ _ h

-- and a program whose end somebody comes to has no raise
pub has_no_raise : (steps : List Step) (n : ℕ) → NoRaise steps n → slice_get steps n ≡ None → list_any is_raise steps ≡ false
has_no_raise [] n none past_end = refl
has_no_raise (x ∷ steps) zero none past_end = absurd cc
has_no_raise (x ∷ steps) (suc n) none past_end =
    by_raise (is_raise x) (none zero x (omega arith) refl)
    (has_no_raise steps n (λ m z l at. none (suc m) z (omega arith) at) past_end)
  where
    by_raise : (b : Bool) → b ≡ false → list_any is_raise steps ≡ false → b || list_any is_raise steps ≡ false
    by_raise true f h = absurd (false≢true (sym f))
    by_raise false f h = h

-- one step further
pub one_further : (steps : List Step) (n : ℕ) → NoRaise steps n → ((s : Step) → slice_get steps n ≡ Some s → is_raise s ≡ false)
    → NoRaise steps (suc n)
one_further steps n none here m s l at = elim (cases_lt m n) [
  | inl x ↦ none m s x at
  | inr x ↦ let same : m ≡ n = omega arith in here s (subst (λ i. slice_get steps i ≡ Some s) same at)
]

-- fewer steps
pub no_further : (steps : List Step) (n m : ℕ) → NoRaise steps n → m < n → NoRaise steps m
no_further steps n m none l i s k at = none i s (omega arith) at

-- ---- what a step tells

-- a step that puts: it is no raise, it can raise whatever a refused put raises, and a handler can be broken off at it
abbrev pub IsPut : Step → Type 0
IsPut s = (is_raise s ≡ false) × ((fault : ℕ) → can_raise fault fault s ≡ true) × (can_break s ≡ true)

pub put_step : (o : Option Step) (r : ℤ) (x : ℕ × ℤ) → put_of o r ≡ Some x → (s : Step) × (o ≡ Some s) × IsPut s
put_step None r x h = absurd (some_apart h)
put_step (Some (step.Put a b)) r x h = (step.Put a b, refl, (refl, λ fault. eq-eqb fault fault refl, refl))
put_step (Some (step.Add a b)) r x h = (step.Add a b, refl, (refl, λ fault. eq-eqb fault fault refl, refl))
put_step (Some (step.Read a)) r x h = absurd (some_apart h)
put_step (Some (step.Work a)) r x h = absurd (some_apart h)
put_step (Some (step.Check a b c)) r x h = absurd (some_apart h)
put_step (Some (step.Raise a)) r x h = absurd (some_apart h)
put_step (Some (step.Enter a)) r x h = absurd (some_apart h)

-- a step that raises x: it is a raise, or a handler can be broken off at it
abbrev pub IsRaising : ℕ → Step → Type 0
IsRaising x s = ((fault : ℕ) → can_raise fault x s ≡ true) × ((is_raise s ≡ true) ⊎ (can_break s ≡ true))

pub raise_step : (o : Option Step) (r : ℤ) (x : ℕ) → raise_of o r ≡ Some x → (s : Step) × (o ≡ Some s) × IsRaising x s
raise_step None r x h = absurd (some_apart h)
raise_step (Some (step.Raise y)) r x h = (step.Raise y, refl, (λ fault. eq-eqb y x (some_same h), inl refl))
raise_step (Some (step.Check test bound y)) r x h = elim (chosen (meets test bound r) (Some y) None (Some x) h) [
  | inl z ↦ (step.Check test bound y, refl, (λ fault. eq-eqb y x (some_same z.1), inr refl))
  | inr z ↦ absurd (some_apart z.1)
]
raise_step (Some (step.Read a)) r x h = absurd (some_apart h)
raise_step (Some (step.Put a b)) r x h = absurd (some_apart h)
raise_step (Some (step.Add a b)) r x h = absurd (some_apart h)
raise_step (Some (step.Work a)) r x h = absurd (some_apart h)
raise_step (Some (step.Enter a)) r x h = absurd (some_apart h)

-- a check is no raise
pub check_step : (o : Option Step) → is_check o ≡ true → (s : Step) × (o ≡ Some s) × (is_raise s ≡ false)
check_step None h = absurd (false≢true h)
check_step (Some (step.Check a b c)) h = (step.Check a b c, refl, refl)
check_step (Some (step.Read a)) h = absurd (false≢true h)
check_step (Some (step.Put a b)) h = absurd (false≢true h)
check_step (Some (step.Add a b)) h = absurd (false≢true h)
check_step (Some (step.Work a)) h = absurd (false≢true h)
check_step (Some (step.Raise a)) h = absurd (false≢true h)
check_step (Some (step.Enter a)) h = absurd (false≢true h)

-- ---- steps that are come to

-- the step of this number is come to where none before it is a raise
pub there_reached : (steps : List Step) (n : ℕ) (s : Step) → NoRaise steps n → slice_get steps n ≡ Some s
    → slice_get (reached steps) n ≡ Some s
there_reached [] n s none here = absurd cc
there_reached (x ∷ steps) zero s none here = by_raise (is_raise x)
  where
    by_raise : (b : Bool) → slice_get (cond b (x ∷ []) (x ∷ reached steps)) zero ≡ Some s
    by_raise true = here
    by_raise false = here
there_reached (x ∷ steps) (suc n) s none here =
    by_raise (is_raise x) (none zero x (omega arith) refl)
    (there_reached steps n s (λ m z l at. none (suc m) z (omega arith) at) here)
  where
    by_raise : (b : Bool) → b ≡ false → slice_get (reached steps) n ≡ Some s
        → slice_get (cond b (x ∷ []) (x ∷ reached steps)) (suc n) ≡ Some s
    by_raise true f h = absurd (false≢true (sym f))
    by_raise false f h = h

-- and what is come to is a step of the program
pub reached_there : (steps : List Step) (n : ℕ) (s : Step) → slice_get (reached steps) n ≡ Some s → slice_get steps n ≡ Some s
reached_there [] n s here = absurd cc
reached_there (x ∷ steps) zero s here = by_raise (is_raise x) here
  where
    by_raise : (b : Bool) → slice_get (cond b (x ∷ []) (x ∷ reached steps)) zero ≡ Some s → Some x ≡ Some s
    by_raise true h = h
    by_raise false h = h
reached_there (x ∷ steps) (suc n) s here = by_raise (is_raise x) here (reached_there steps n s)
  where
    by_raise : (b : Bool) → slice_get (cond b (x ∷ []) (x ∷ reached steps)) (suc n) ≡ Some s
        → (slice_get (reached steps) n ≡ Some s → slice_get steps n ≡ Some s) → slice_get steps n ≡ Some s
    by_raise true h ih = absurd cc
    by_raise false h ih = ih h

-- a step that enters a use is its enter step
pub enter_is : (k : ℕ) (o : Option Step) → is_enter k o ≡ true → o ≡ Some (step.Enter k)
enter_is k None h = absurd (false≢true h)
enter_is k (Some (step.Enter n)) h = ap (λ m. Some (step.Enter m)) (eqb-true n k h)
enter_is k (Some (step.Read a)) h = absurd (false≢true h)
enter_is k (Some (step.Put a b)) h = absurd (false≢true h)
enter_is k (Some (step.Add a b)) h = absurd (false≢true h)
enter_is k (Some (step.Work a)) h = absurd (false≢true h)
enter_is k (Some (step.Check a b c)) h = absurd (false≢true h)
enter_is k (Some (step.Raise a)) h = absurd (false≢true h)

-- a step raises one exception
pub raises_one : (fault y z : ℕ) (s : Step) → can_raise fault y s ≡ true → can_raise fault z s ≡ true → y ≡ z
raises_one fault y z (step.Put a b) h k = sym (eqb-true fault y h) ∙ eqb-true fault z k
raises_one fault y z (step.Add a b) h k = sym (eqb-true fault y h) ∙ eqb-true fault z k
raises_one fault y z (step.Check test bound x) h k = sym (eqb-true x y h) ∙ eqb-true x z k
raises_one fault y z (step.Raise x) h k = sym (eqb-true x y h) ∙ eqb-true x z k
raises_one fault y z (step.Read a) h k = absurd (false≢true h)
raises_one fault y z (step.Work a) h k = absurd (false≢true h)
raises_one fault y z (step.Enter a) h k = absurd (false≢true h)
