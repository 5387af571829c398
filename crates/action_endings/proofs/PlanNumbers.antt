-- What a closed plan says of the objects and roles of a place: both are few.
use Rattle.std.proofs.Common.{◌≡◌, ◌∙◌, ℕ, suc, zero, ◌==◌, ◌<◌, ◌≤◌, nat_le, Bool, true, false, cond, List, [], ◌∷◌, Option, Some, None, IfSome, length, take, slice_get, refl, sym, arith, inl, inr}
use Rattle.std.specs.List.{list_all}
use Rattle.std.proofs.lemmas.Bool.{and_parts, leb-true, le-leb, eq-eqb, eqb-true, or_left, or_right, or_cases, cases_Bool, false_from_ne_true, false≢true, both_ways}
use Rattle.caa_base.specs.Written.Limits.{most_participants, most_objects, most_roles}
use Rattle.caa_base.specs.Written.Lists.{member, index_of, first_not}
use Rattle.caa_base.specs.inner.Lists.{Rises}
use Rattle.caa_base.proofs.ListLemmas.{all_imply, member_above}
use Rattle.caa_base.specs.declared.written.entry.Verdict.{Verdict}
use Rattle.caa_base.specs.declared.written.entry.Verdict.TheVariants as verdict
use Rattle.place_plan.specs.declared.drafts.draft_rows.ActionRow.{ActionRow}
use Rattle.place_plan.specs.Plans.PlanValue.{Plan}
use Rattle.place_plan.specs.Plans.Places.{objects_of, roles_of}
use Rattle.place_plan.specs.Plans.Closed.{IsClosed}
use Rattle.place_plan.specs.Drafts.DraftRules.{is_rising, objects_in_range}
use Rattle.action_endings.specs.inner.KeptEndings.{SignalsBelow}
use Rattle.place_plan.proofs.OnPlans.ClosedPlan.{of_plan, keeps_of, action_passes, few_roles, member_index}
use Rattle.place_plan.proofs.OnDrafts.DraftKeeps.{few_objects, objects_range}

-- ---- participants and roles

-- the number of a role is small
pub role_low : (plan : Plan) → IsClosed plan → (p t : ℕ) → member t (roles_of plan p) ≡ true → index_of t (roles_of plan p) < most_roles
role_low plan closed p t m =
    let low = member_index t (roles_of plan p) m in
    let few = few_roles plan closed p in
    omega arith

-- two numbers at one index of a list are one
pub indices_apart : (xs : List ℕ) (t s : ℕ) → member t xs ≡ true → (t == s) ≡ false → (index_of s xs ≡ index_of t xs) → ⊥
indices_apart [] t s m other e = false≢true m
indices_apart (x ∷ xs) t s m other e = elim (cases_Bool (x == t)) [
  | inl here ↦ elim (cases_Bool (x == s)) [
    | inl both ↦ both_ways _ other (eq-eqb t s (sym (eqb-true x t here) ∙ eqb-true x s both))
    | inr off ↦
        let zero_at : cond (x == t) 0 (suc (index_of t xs)) ≡ 0 = rw here refl in
        let suc_at : cond (x == s) 0 (suc (index_of s xs)) ≡ suc (index_of s xs) = rw off refl in
        let no : suc (index_of s xs) ≡ 0 = sym suc_at ∙ (e ∙ zero_at) in
        omega arith
  ]
  | inr apart ↦
      let later : member t xs ≡ true = elim (or_cases (x == t) (member t xs) m) [
        | inl w ↦ absurd (both_ways _ apart w)
        | inr w ↦ w
      ] in
      let suc_at : cond (x == t) 0 (suc (index_of t xs)) ≡ suc (index_of t xs) = rw apart refl in
      elim (cases_Bool (x == s)) [
        | inl both ↦
            let zero_at : cond (x == s) 0 (suc (index_of s xs)) ≡ 0 = rw both refl in
            let no : 0 ≡ suc (index_of t xs) = sym zero_at ∙ (e ∙ suc_at) in
            omega arith
        | inr off ↦
            let suc_too : cond (x == s) 0 (suc (index_of s xs)) ≡ suc (index_of s xs) = rw off refl in
            let both : suc (index_of s xs) ≡ suc (index_of t xs) = sym suc_too ∙ (e ∙ suc_at) in
            indices_apart xs t s later other (omega arith)
      ]
]

-- ---- objects

-- the objects of a place are few
pub objects_few : (plan : Plan) → IsClosed plan → (p : ℕ) → length (objects_of plan p) ≤ most_objects
objects_few plan closed p = leb-true _ _ (action_passes test plan all refl p)
  where
    test : ActionRow → Bool
    test action = nat_le (length action.objects) most_objects

    few : length closed.draft.objects ≤ most_objects
    few =
        let sizes = and_parts (nat_le (length closed.draft.participants) most_participants) _ (keeps_of plan closed).sizes in
        leb-true _ _ (and_parts (nat_le (length closed.draft.objects) most_objects) _ sizes.1).0

    in_draft : (a : ActionRow) → objects_in_range closed.draft a ≡ true → test a ≡ true
    in_draft a h =
        let parts = and_parts (is_rising a.objects) _ h in
        let low = few_objects (length closed.draft.objects) a.objects parts.0 parts.1 in
        le-leb _ _ (omega (arith, few))

    all : list_all test plan.actions ≡ true
    all =
        of_plan (λ q. list_all test q.actions ≡ true) plan closed
        (all_imply (objects_in_range closed.draft) test closed.draft.actions in_draft (objects_range closed.draft (keeps_of plan closed)))

-- where just the first k of rising numbers pass, number k is the first that doesn't
pub first_after : (test : ℕ → Bool) (low : ℕ) (xs : List ℕ) (k : ℕ) → Rises low xs
    → ((x : ℕ) → member x xs ≡ true → test x ≡ member x (take k xs)) → first_not test xs ≡ slice_get xs k
first_after test low [] zero rises told = refl
first_after test low [] (suc k) rises told = refl
first_after test low (x ∷ xs) zero rises told =
    let fails : test x ≡ false = told x (or_left (x == x) _ (eq-eqb x x refl)) in
    rw fails refl
first_after test low (x ∷ xs) (suc k) rises told =
    let passes : test x ≡ true = told x (or_left (x == x) _ (eq-eqb x x refl)) ∙ or_left (x == x) _ (eq-eqb x x refl) in
    rw passes (first_after test (suc x) xs k rises.1 (λ y m.
    let l = member_above (suc x) xs y rises.1 m in
    let apart : (x == y) ≡ false = false_from_ne_true _ (λ w. let same = eqb-true x y w in omega arith) in
    told y (or_right (x == y) _ m) ∙ rw apart refl))

-- ---- exceptions

-- an exception below a number is below a greater one
pub signals_lower : (v : Verdict) (n m : ℕ) → SignalsBelow n v → n ≤ m → SignalsBelow m v
signals_lower verdict.Done n m h l = tt
signals_lower (verdict.Signal x) n m h l = omega arith
signals_lower verdict.Undo n m h l = tt

pub name_lower : (o : Option ℕ) (n m : ℕ) → IfSome o (λ x. x < n) → n ≤ m → IfSome o (λ x. x < m)
name_lower None n m h l = tt
name_lower (Some x) n m h l = omega arith
