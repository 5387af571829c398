-- What a closed plan says of depths and objects: no place lies deep, and each object that a place uses is there.
use Rattle.std.proofs.Common.{◌≡◌, ℕ, zero, suc, ◌+◌, ◌<◌, ◌≤◌, nat_lt, ◌==◌, Bool, true, List, [], ◌∷◌, length, slice_index_or, refl, ap, subst, arith, inl, inr}
use Rattle.std.specs.List.{list_all}
use Rattle.std.proofs.lemmas.Bool.{and_parts, ltb-true, or_cases, eqb-true, false≢true}
use Rattle.caa_base.specs.Written.Limits.{most_depth}
use Rattle.caa_base.specs.Written.Lists.{member}
use Rattle.caa_base.proofs.ListLemmas.{all_at, all_imply}
use Rattle.place_plan.specs.declared.drafts.draft.Draft.{Draft}
use Rattle.place_plan.specs.declared.drafts.draft_rows.ActionRow.{ActionRow}
use Rattle.place_plan.specs.declared.drafts.draft_rows.NestRow.{NestRow}
use Rattle.place_plan.specs.Plans.PlanValue.{Plan, PlaceRow}
use Rattle.place_plan.specs.Plans.Places.{around, place_at, alternates_of, objects_of, uses, no_action, no_nest, no_place}
use Rattle.place_plan.specs.Plans.Unfolding.{plan_of}
use Rattle.place_plan.specs.Plans.Closed.{IsClosed}
use Rattle.place_plan.specs.Drafts.DraftRules.{is_rising, all_below, objects_in_range, deepest, deepest_of, depth_within, KeepsParts}
use Rattle.place_plan.proofs.OnPlans.Passing.{past_end, below_or_not}
use Rattle.place_plan.proofs.OnPlans.Casts.{action_is, member_at}
use Rattle.place_plan.proofs.OnPlans.Subtrees.{Fits}
use Rattle.place_plan.proofs.OnPlans.UnfoldedPlan.{all_fit_depth, is_unfolded, in_table, by_parents}
use Rattle.place_plan.proofs.OnPlans.ClosedPlan.{of_plan, keeps_of, action_passes}
use Rattle.place_plan.proofs.OnDrafts.DraftKeeps.{objects_range}

-- ---- depth

in_list : (depth : ℕ → ℕ) (xs : List ℕ) (a d : ℕ) → deepest_of depth xs ≤ d → member a xs ≡ true → depth a ≤ d
in_list depth [] a d h m = absurd (false≢true m)
in_list depth (x ∷ xs) a d h m =
    elim (or_cases (x == a) (member a xs) m) [
      | inl same ↦ let e = ap depth (eqb-true x a same) in omega (arith, e)
      | inr later ↦ in_list depth xs a d (omega arith) later
    ]

in_use : (depth : ℕ → ℕ) (nests : List NestRow) (k a d : ℕ) → deepest depth nests ≤ d
    → member a (slice_index_or nests k no_nest).actions ≡ true → depth a ≤ d
in_use depth [] zero a d h m = absurd (false≢true m)
in_use depth [] (suc k) a d h m = absurd (false≢true m)
in_use depth (nest ∷ nests) zero a d h m = in_list depth nest.actions a d (omega arith) m
in_use depth (nest ∷ nests) (suc k) a d h m = in_use depth nests k a d (omega arith) m

no_bottom : (actions : List ActionRow) (a : ℕ) → Fits 0 actions a → ⊥
unfolding depth_within
no_bottom actions a f = omega arith

-- what is nested in an action is less deep
inner_fits : (actions : List ActionRow) (d a k b : ℕ) → Fits (suc d) actions a
    → member b (slice_index_or (slice_index_or actions a no_action).nests k no_nest).actions ≡ true → Fits d actions b
unfolding depth_within
inner_fits actions d a k b f m =
    let low : deepest (depth_within (suc d) actions) (slice_index_or actions a no_action).nests ≤ d = omega arith in
    in_use (depth_within (suc d) actions) (slice_index_or actions a no_action).nests k b d low m

-- the places round p, and what the action of p may still nest, are as many as the depth allows
abbrev HasRoom : Plan → ℕ → Type 0
HasRoom plan p = (d : ℕ) × (length (around plan p) + d ≡ most_depth) × Fits d plan.actions (place_at plan p).action

module _ (draft : Draft) (keeps : KeepsParts draft) where
  abbrev made : Plan
  made = plan_of draft

  all_room : (p : ℕ) → p < length made.places → HasRoom made p
  all_room = by_parents draft made (is_unfolded draft keeps.depths) (HasRoom made) tops inner
    where
      tops : (p : ℕ) → member p made.plays ≡ true → HasRoom made p
      tops p m =
          let placed = ((is_unfolded draft keeps.depths).plays (λ play. true) (all_pass draft.plays) p m).2 in (
            most_depth,
            ap (λ (qs : List ℕ). length qs + most_depth) placed.round,
            all_fit_depth draft keeps.depths (place_at made p).action,
          )
        where
          all_pass : {A : Type 0} (xs : List A) → list_all (λ x. true) xs ≡ true
          all_pass [] = refl
          all_pass (x ∷ xs) = all_pass xs

      inner : (p k c : ℕ) → HasRoom made p → member c (alternates_of made p k) ≡ true → HasRoom made c
      inner p k c (zero, e, f) m = absurd (no_bottom made.actions (place_at made p).action f)
      inner p k c (suc d, e, f) m =
          let there = in_table made.places p k c m in
          let placed = ((is_unfolded draft keeps.depths).instances p there).child k c m in
          let nested : member (place_at made c).action
          (slice_index_or (slice_index_or made.actions (place_at made p).action no_action).nests k no_nest).actions ≡ true =
          subst (λ (a : ActionRow). member (place_at made c).action (slice_index_or a.nests k no_nest).actions ≡ true)
          (action_is made p there) placed.action in
          let deeper : length (around made c) ≡ suc (length (around made p)) = ap (λ (qs : List ℕ). length qs) placed.round in
          (d, omega (arith, e, deeper), inner_fits made.actions d (place_at made p).action k (place_at made c).action f nested)

  shallow : (p : ℕ) → length (around made p) < most_depth
  shallow p =
      elim (below_or_not p (length made.places)) [
        | inl l ↦ by_room p (all_room p l)
        | inr l ↦ let none = ap (λ (row : PlaceRow). length row.around) (past_end made.places p no_place l) in omega (arith, none)
      ]
    where
      by_room : (p : ℕ) → HasRoom made p → length (around made p) < most_depth
      by_room p (zero, e, f) = absurd (no_bottom made.actions (place_at made p).action f)
      by_room p (suc d, e, f) = omega (arith, e)

-- no place lies deeper than the most
pub none_deep : (plan : Plan) → IsClosed plan → (p : ℕ) → length (around plan p) < most_depth
none_deep plan closed p =
    of_plan (λ q. length (around q p) < most_depth) plan closed (shallow closed.draft (keeps_of plan closed) p)

-- ---- objects

-- each object that a place uses is there
pub used_known : (plan : Plan) → IsClosed plan → (p o : ℕ) → uses plan p o ≡ true → o < length plan.objects
used_known plan closed p o m =
    ltb-true o (length plan.objects)
    (all_at (λ x. nat_lt x (length plan.objects)) (objects_of plan p) o (action_passes test plan all refl p) m)
  where
    test : ActionRow → Bool
    test action = all_below (length plan.objects) action.objects

    all : list_all test plan.actions ≡ true
    all =
        of_plan (λ q. list_all (λ (a : ActionRow). all_below (length q.objects) a.objects) q.actions ≡ true) plan closed
        (all_imply (objects_in_range closed.draft) (λ (a : ActionRow). all_below (length closed.draft.objects) a.objects)
        closed.draft.actions (λ a h. (and_parts (is_rising a.objects) _ h).1) (objects_range closed.draft (keeps_of plan closed)))

-- so is the object at an index of its list
pub object_known : (plan : Plan) → IsClosed plan → (p : ℕ) (objects : List ℕ) (i : ℕ) → objects ≡ objects_of plan p → i < length objects
    → slice_index_or objects i 0 < length plan.objects
object_known plan closed p objects i same low =
    used_known plan closed p (slice_index_or objects i 0)
    (subst (λ xs. member (slice_index_or objects i 0) xs ≡ true) same (member_at objects i 0 low))
