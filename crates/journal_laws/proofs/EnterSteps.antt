-- The enter steps of programs: those of a body are the uses that its role fills, in order, and a handler has none.
use Rattle.std.proofs.Common.{◌≡◌, ℕ, ◌+◌, ◌<◌, ◌==◌, cond, Bool, true, false, ◌||◌, List, [], ◌∷◌, length, slice_index_or, slice_get, Some, zero, suc, refl, sym, ap, ◌∙◌, subst, inl, inr, arith, add-zero}
use Rattle.std.specs.List.{list_all}
use Rattle.std.proofs.lemmas.Bool.{and_parts, or_cases, or_left, or_right, eqb-true, eq-eqb, false≢true}
use Rattle.place_plan.specs.declared.drafts.draft_rows.Step.{Step}
use Rattle.place_plan.specs.declared.drafts.draft_rows.Step.TheVariants as step
use Rattle.place_plan.specs.declared.drafts.draft_rows.HandlerRow.{HandlerRow}
use Rattle.place_plan.specs.declared.drafts.draft_rows.RoleRow.{RoleRow}
use Rattle.place_plan.specs.declared.drafts.draft_rows.NestRow.{NestRow}
use Rattle.caa_base.specs.Written.Lists.{member, index_of, is_empty}
use Rattle.caa_base.specs.inner.Lists.{Rises}
use Rattle.place_plan.specs.Plans.Places.{no_role, no_nest}
use Rattle.place_plan.specs.Drafts.DraftRules.{entered_by, filled_by, same_numbers, roles_enter, all_differ}
use Rattle.caa_base.proofs.ListLemmas.{Rises-weaker, member_above, empty_is}
use Rattle.place_plan.proofs.OnPlans.Casts.{member_at, one_index}
use Rattle.place_plan.proofs.OnPlans.ClosedPlan.{member_index}

-- ---- steps

-- what all steps pass, the one of a number passes
pub get_all : {A : Type 0} (test : A → Bool) (xs : List A) (n : ℕ) (x : A) → list_all test xs ≡ true
    → slice_get xs n ≡ Some x → test x ≡ true
get_all test [] n x h e = absurd cc
get_all test (y ∷ ys) zero x h e = let same : y ≡ x = cc in subst (λ z. test z ≡ true) same (and_parts (test y) (list_all test ys) h).0
get_all test (y ∷ ys) (suc n) x h e = get_all test ys n x (and_parts (test y) (list_all test ys) h).1 e

-- an enter step is among those that are entered
pub entered_member : (steps : List Step) (n k : ℕ) → slice_get steps n ≡ Some (step.Enter k) → member k (entered_by steps) ≡ true
entered_member [] n k e = absurd cc
entered_member (step.Enter j ∷ steps) zero k e = let same : j ≡ k = cc in or_left _ _ (eq-eqb j k same)
entered_member (step.Read a ∷ steps) zero k e = absurd cc
entered_member (step.Put a b ∷ steps) zero k e = absurd cc
entered_member (step.Add a b ∷ steps) zero k e = absurd cc
entered_member (step.Work a ∷ steps) zero k e = absurd cc
entered_member (step.Check a b c ∷ steps) zero k e = absurd cc
entered_member (step.Raise a ∷ steps) zero k e = absurd cc
entered_member (step.Enter j ∷ steps) (suc n) k e = or_right _ _ (entered_member steps n k e)
entered_member (s ∷ steps) (suc n) k e = entered_member steps n k e

-- and what is entered is that of a step
pub entered_at : (steps : List Step) (k : ℕ) → member k (entered_by steps) ≡ true → (n : ℕ) × (slice_get steps n ≡ Some (step.Enter k))
entered_at [] k m = absurd (false≢true m)
entered_at (step.Enter j ∷ steps) k m = elim (or_cases (j == k) _ m) [
  | inl e ↦ (zero, ap (λ z. Some (step.Enter z)) (eqb-true j k e))
  | inr e ↦ later (entered_at steps k e)
]
  where
    later : (n : ℕ) × (slice_get steps n ≡ Some (step.Enter k)) → (n : ℕ) × (slice_get (step.Enter j ∷ steps) n ≡ Some (step.Enter k))
    later found = (suc found.0, found.1)
entered_at (s ∷ steps) k m = let found = entered_at steps k m in (suc found.0, found.1)

-- where what is entered rises, later steps enter more
pub entered_order : (low : ℕ) (steps : List Step) (n m k l : ℕ) → Rises low (entered_by steps) → n < m
    → slice_get steps n ≡ Some (step.Enter k) → slice_get steps m ≡ Some (step.Enter l) → k < l
entered_order low [] n m k l r lt e f = absurd cc
entered_order low (s ∷ steps) n zero k l r lt e f = absurd (omega arith)
entered_order low (step.Enter j ∷ steps) zero (suc m) k l r lt e f =
    let same : j ≡ k = cc in
    omega (arith, same, member_above (suc j) (entered_by steps) l r.1 (entered_member steps m l f))
entered_order low (step.Read a ∷ steps) zero (suc m) k l r lt e f = absurd cc
entered_order low (step.Put a b ∷ steps) zero (suc m) k l r lt e f = absurd cc
entered_order low (step.Add a b ∷ steps) zero (suc m) k l r lt e f = absurd cc
entered_order low (step.Work a ∷ steps) zero (suc m) k l r lt e f = absurd cc
entered_order low (step.Check a b c ∷ steps) zero (suc m) k l r lt e f = absurd cc
entered_order low (step.Raise a ∷ steps) zero (suc m) k l r lt e f = absurd cc
entered_order low (step.Enter j ∷ steps) (suc n) (suc m) k l r lt e f = entered_order (suc j) steps n m k l r.1 (omega arith) e f
entered_order low (s ∷ steps) (suc n) (suc m) k l r lt e f = entered_order low steps n m k l r (omega arith) e f

-- ---- the uses that a role fills

pub same_is : (xs ys : List ℕ) → same_numbers xs ys ≡ true → xs ≡ ys
same_is [] [] h = refl
same_is [] (y ∷ ys) h = absurd (false≢true h)
same_is (x ∷ xs) [] h = absurd (false≢true h)
same_is (x ∷ xs) (y ∷ ys) h =
    let parts = and_parts (x == y) (same_numbers xs ys) h in
    let first = eqb-true x y parts.0 in
    let rest = same_is xs ys parts.1 in
    cc

pub filled_rises : (role n : ℕ) (nests : List NestRow) → Rises n (filled_by role n nests)
filled_rises role n [] = tt
filled_rises role n (nest ∷ nests) = either (member role nest.roles) (filled_rises role (suc n) nests)
  where
    either : (b : Bool) → Rises (suc n) (filled_by role (suc n) nests)
        → Rises n (cond b (n ∷ filled_by role (suc n) nests) (filled_by role (suc n) nests))
    either true h = (omega arith, h)
    either false h = Rises-weaker n (suc n) _ (omega arith) h

-- the use of the number n + j in a list that begins with the use n
pub record Fills (role n k : ℕ) (nests : List NestRow) : Type 0 where
  pub index : ℕ
  pub number : k ≡ n + index
  pub is_there : index < length nests
  pub plays : member role (slice_index_or nests index no_nest).roles ≡ true

pub filled_is : (role n k : ℕ) (nests : List NestRow) → member k (filled_by role n nests) ≡ true → Fills role n k nests
filled_is role n k [] m = absurd (false≢true m)
filled_is role n k (nest ∷ nests) m = either (member role nest.roles) refl m (filled_is role (suc n) k nests)
  where
    later : Fills role (suc n) k nests → Fills role n k (nest ∷ nests)
    later f = record { index = suc f.index; number = omega (arith, f.number); is_there = omega (arith, f.is_there); plays = f.plays }

    either : (b : Bool) → member role nest.roles ≡ b
        → member k (cond b (n ∷ filled_by role (suc n) nests) (filled_by role (suc n) nests)) ≡ true
        → (member k (filled_by role (suc n) nests) ≡ true → Fills role (suc n) k nests) → Fills role n k (nest ∷ nests)
    either true e m ih = elim (or_cases (n == k) _ m) [
      | inl x ↦ record { index = 0; number = omega (arith, eqb-true n k x); is_there = omega arith; plays = e }
      | inr x ↦ later (ih x)
    ]
    either false e m ih = later (ih m)

pub filled_has : (role n j : ℕ) (nests : List NestRow) → member role (slice_index_or nests j no_nest).roles ≡ true
    → member (n + j) (filled_by role n nests) ≡ true
filled_has role n j [] m = absurd (false≢true m)
filled_has role n zero (nest ∷ nests) m = rw (m, add-zero) (or_left _ _ (eq-eqb n n refl))
filled_has role n (suc j) (nest ∷ nests) m =
    let same : suc n + j ≡ n + suc j = omega arith in
    either (member role nest.roles) (subst (λ z. member z (filled_by role (suc n) nests) ≡ true) same (filled_has role (suc n) j nests m))
  where
    either : (b : Bool) → member (n + suc j) (filled_by role (suc n) nests) ≡ true
        → member (n + suc j) (cond b (n ∷ filled_by role (suc n) nests) (filled_by role (suc n) nests)) ≡ true
    either true h = or_right _ _ h
    either false h = h

-- ---- roles

-- what the rule of enter steps says of the role of a number
pub role_enters : (nests : List NestRow) (n : ℕ) (roles : List RoleRow) (r : ℕ) → roles_enter nests n roles ≡ true
    → r < length roles → (entered_by (slice_index_or roles r no_role).body.steps ≡ filled_by (n + r) 0 nests)
    × (list_all (λ (h : HandlerRow). is_empty (entered_by h.program.steps)) (slice_index_or roles r no_role).handlers
    ≡ true)
role_enters nests n [] r h l = absurd (omega arith)
role_enters nests n (role ∷ roles) zero h l =
    let a = and_parts (same_numbers (entered_by role.body.steps) (filled_by n 0 nests)) _ h in (
      rw add-zero (same_is (entered_by role.body.steps) (filled_by n 0 nests) a.0),
      (and_parts (list_all (λ (h : HandlerRow). is_empty (entered_by h.program.steps)) role.handlers) _ a.1).0,
    )
role_enters nests n (role ∷ roles) (suc r) h l =
    let a = and_parts (same_numbers (entered_by role.body.steps) (filled_by n 0 nests)) _ h in
    let b = and_parts (list_all (λ (h : HandlerRow). is_empty (entered_by h.program.steps)) role.handlers) _ a.1 in
    let same : suc n + r ≡ n + suc r = omega arith in
    subst (λ z. (entered_by (slice_index_or roles r no_role).body.steps ≡ filled_by z 0 nests)
    × (list_all (λ (h : HandlerRow). is_empty (entered_by h.program.steps))
    (slice_index_or roles r no_role).handlers ≡ true)) same (role_enters nests (suc n) roles r b.1 (omega arith))

-- where what is entered is empty, no step enters
pub enters_none : (steps : List Step) (n k : ℕ) → is_empty (entered_by steps) ≡ true → slice_get steps n ≡ Some (step.Enter k) → ⊥
enters_none steps n k h e = false≢true (subst (λ xs. member k xs ≡ true) (empty_is (entered_by steps) h) (entered_member steps n k e))

-- ---- who plays a role

-- who is a member stands at its index
pub player_at : (who : List ℕ) (t : ℕ) → member t who ≡ true → slice_index_or who (index_of t who) 0 ≡ t
player_at [] t m = absurd (false≢true m)
player_at (x ∷ xs) t m = either (x == t) refl m (player_at xs t)
  where
    either : (b : Bool) → (x == t) ≡ b → b || member t xs ≡ true
        → (member t xs ≡ true → slice_index_or xs (index_of t xs) 0 ≡ t)
        → slice_index_or (x ∷ xs) (cond b 0 (suc (index_of t xs))) 0 ≡ t
    either true e m ih = eqb-true x t e
    either false e m ih = ih m

-- who stands at an index of a list in which all differ has that index
pub index_is : (who : List ℕ) (r t : ℕ) → all_differ who ≡ true → r < length who → slice_index_or who r 0 ≡ t → index_of t who ≡ r
index_is who r t h l e =
    let m = subst (λ z. member z who ≡ true) e (member_at who r 0 l) in
    one_index who (index_of t who) r 0 h (member_index t who m) l (player_at who t m ∙ sym e)
