-- How large the parts of a closed plan are at most: its participants, the steps of a program, and how deep a place lies. The objects of a
-- place rise.
use Rattle.std.proofs.Common.{◌≡◌, ℕ, zero, suc, ◌+◌, ◌<◌, ◌≤◌, nat_le, nat_lt, ◌==◌, Bool, true, false, cond, not, Option, Some, None, List, [], ◌∷◌, length, slice_index_or, refl, ap, subst, arith, inl, inr}
use Rattle.std.specs.List.{list_all}
use Rattle.std.proofs.lemmas.Bool.{and_parts, leb-true, ltb-true, or_cases, eqb-true, false≢true}
use Rattle.caa_base.specs.Written.Limits.{most_participants, most_depth, most_steps, most_roles, most_nests}
use Rattle.caa_base.specs.Written.Lists.{member, is_empty, index_of}
use Rattle.caa_base.specs.inner.Lists.{Rises}
use Rattle.place_plan.specs.declared.drafts.draft.Draft.{Draft}
use Rattle.place_plan.specs.declared.drafts.draft_rows.ActionRow.{ActionRow}
use Rattle.place_plan.specs.declared.drafts.draft_rows.NestRow.{NestRow}
use Rattle.place_plan.specs.declared.drafts.draft_rows.HandlerRow.{HandlerRow}
use Rattle.place_plan.specs.declared.drafts.draft_rows.Program.{Program}
use Rattle.place_plan.specs.Plans.PlanValue.{Plan, PlaceRow}
use Rattle.place_plan.specs.Plans.Places.{around, place_at, action_at, alternates_of, role_row, roles_of, objects_of, idle, handler_in, no_action, no_nest, no_place, no_role}
use Rattle.place_plan.specs.Plans.Unfolding.{plan_of}
use Rattle.place_plan.specs.Drafts.DraftRules.{is_rising, is_rising_above, objects_in_range, action_fits, role_fits, program_fits, deepest, deepest_of, depth_within, KeepsParts}
use Rattle.place_plan.specs.Plans.Closed.{IsClosed}
use Rattle.place_plan.proofs.OnPlans.Passing.{past_end, below_or_not}
use Rattle.place_plan.proofs.OnPlans.Casts.{action_is}
use Rattle.place_plan.proofs.OnPlans.Subtrees.{Fits}
use Rattle.place_plan.proofs.OnPlans.UnfoldedPlan.{all_fit_depth, is_unfolded, in_table, by_parents}
use Rattle.place_plan.proofs.OnPlans.ClosedPlan.{of_plan, keeps_of, action_passes}
use Rattle.place_plan.proofs.OnDrafts.DraftKeeps.{all_fit, objects_range}
use Rattle.place_plan.specs.RulesOfJournals.Roles.{or_idle, program_in}
use Rattle.caa_base.proofs.ListLemmas.{get_passes, all_imply}

-- there are few participants
pub few_participants : (plan : Plan) → IsClosed plan → length plan.participants ≤ most_participants
few_participants plan closed =
    of_plan (λ q. length q.participants ≤ most_participants) plan closed
    (leb-true _ _ (and_parts (nat_le (length closed.draft.participants) most_participants) _ (keeps_of plan closed).sizes).0)

-- ---- depth

in_list : (depth : ℕ → ℕ) (xs : List ℕ) (a d : ℕ) → deepest_of depth xs ≤ d → member a xs ≡ true → depth a ≤ d
in_list depth [] a d h m = absurd (false≢true m)
in_list depth (x ∷ xs) a d h m = elim (or_cases (x == a) (member a xs) m) [
  | inl same ↦ let e = ap depth (eqb-true x a same) in omega (arith, e)
  | inr later ↦ in_list depth xs a d (omega arith) later
]

in_use : (depth : ℕ → ℕ) (nests : List NestRow) (k a d : ℕ) → deepest depth nests ≤ d
    → member a (slice_index_or nests k no_nest).actions ≡ true → depth a ≤ d
in_use depth [] zero a d h m = absurd (false≢true m)
in_use depth [] (suc k) a d h m = absurd (false≢true m)
in_use depth (nest ∷ nests) zero a d h m = in_list depth nest.actions a d (omega arith) m
in_use depth (nest ∷ nests) (suc k) a d h m = in_use depth nests k a d (omega arith) m

no_bottom : (actions : List ActionRow) (a : ℕ) → Fits 0 actions a → ⊥
unfolding depth_within
no_bottom actions a f = omega arith

-- what is nested in an action is less deep
inner_fits : (actions : List ActionRow) (d a k b : ℕ) → Fits (suc d) actions a
    → member b (slice_index_or (slice_index_or actions a no_action).nests k no_nest).actions ≡ true → Fits d actions b
unfolding depth_within
inner_fits actions d a k b f m =
    let low : deepest (depth_within (suc d) actions) (slice_index_or actions a no_action).nests ≤ d = omega arith in
    in_use (depth_within (suc d) actions) (slice_index_or actions a no_action).nests k b d low m

-- the places round p, and what the action of p may still nest, are as many as the depth allows
abbrev HasRoom : Plan → ℕ → Type 0
HasRoom plan p = (d : ℕ) × (length (around plan p) + d ≡ most_depth) × Fits d plan.actions (place_at plan p).action

module _ (draft : Draft) (keeps : KeepsParts draft) where
  abbrev made : Plan
  made = plan_of draft

  all_room : (p : ℕ) → p < length made.places → HasRoom made p
  all_room = by_parents draft made (is_unfolded draft keeps.depths) (HasRoom made) tops inner
    where
      tops : (p : ℕ) → member p made.plays ≡ true → HasRoom made p
      tops p m =
          let placed = ((is_unfolded draft keeps.depths).plays (λ play. true) (all_pass draft.plays) p m).2 in
          (most_depth, ap (λ (qs : List ℕ). length qs + most_depth) placed.round, all_fit_depth draft keeps.depths (place_at made p).action)
        where
          all_pass : {A : Type 0} (xs : List A) → list_all (λ x. true) xs ≡ true
          all_pass [] = refl
          all_pass (x ∷ xs) = all_pass xs

      inner : (p k c : ℕ) → HasRoom made p → member c (alternates_of made p k) ≡ true → HasRoom made c
      inner p k c (zero, e, f) m = absurd (no_bottom made.actions (place_at made p).action f)
      inner p k c (suc d, e, f) m =
          let there = in_table made.places p k c m in
          let placed = ((is_unfolded draft keeps.depths).instances p there).child k c m in
          let nested : member (place_at made c).action
          (slice_index_or (slice_index_or made.actions (place_at made p).action no_action).nests k no_nest).actions ≡ true =
          subst (λ (a : ActionRow). member (place_at made c).action (slice_index_or a.nests k no_nest).actions ≡ true)
          (action_is made p there) placed.action in
          let deeper : length (around made c) ≡ suc (length (around made p)) = ap (λ (qs : List ℕ). length qs) placed.round in
          (d, omega (arith, e, deeper), inner_fits made.actions d (place_at made p).action k (place_at made c).action f nested)

  shallow : (p : ℕ) → length (around made p) < most_depth
  shallow p = elim (below_or_not p (length made.places)) [
    | inl l ↦ by_room p (all_room p l)
    | inr l ↦ let none = ap (λ (row : PlaceRow). length row.around) (past_end made.places p no_place l) in omega (arith, none)
  ]
    where
      by_room : (p : ℕ) → HasRoom made p → length (around made p) < most_depth
      by_room p (zero, e, f) = absurd (no_bottom made.actions (place_at made p).action f)
      by_room p (suc d, e, f) = omega (arith, e)

-- no place lies deeper than the most
pub deep : (plan : Plan) → IsClosed plan → (p : ℕ) → length (around plan p) < most_depth
deep plan closed p = of_plan (λ q. length (around q p) < most_depth) plan closed (shallow closed.draft (keeps_of plan closed) p)

-- ---- programs

-- what all handlers pass, and the idle program, the program for an exception passes
pub handler_passes : (test : Program → Bool) (x : ℕ) (handlers : List HandlerRow)
    → list_all (λ (h : HandlerRow). test h.program) handlers ≡ true → test idle ≡ true
    → test (or_idle (handler_in x handlers)) ≡ true
handler_passes test x [] h i = i
handler_passes test x (handler ∷ handlers) h i =
    let parts = and_parts (test handler.program) (list_all (λ (h : HandlerRow). test h.program) handlers) h in
    either (handler.exception == x) parts.0 (handler_passes test x handlers parts.1 i)
  where
    either : (b : Bool) → test handler.program ≡ true → test (or_idle (handler_in x handlers)) ≡ true
        → test (or_idle (cond b (Some handler.program) (handler_in x handlers))) ≡ true
    either true h k = h
    either false h k = k

-- each program of a role has few steps
pub programs_short : (plan : Plan) → IsClosed plan → (p t : ℕ) (x : Option ℕ) → length (program_in plan p t x).steps ≤ most_steps
programs_short plan closed p t x = leb-true _ _ (by_handler x)
  where
    all : list_all (λ (a : ActionRow). list_all role_fits a.roles) plan.actions ≡ true
    all = of_plan (λ q. list_all (λ (a : ActionRow). list_all role_fits a.roles) q.actions ≡ true) plan closed
        (all_imply action_fits (λ (a : ActionRow). list_all role_fits a.roles) closed.draft.actions weaker
        (all_fit closed.draft (keeps_of plan closed).sizes))
      where
        weaker : (a : ActionRow) → action_fits a ≡ true → list_all role_fits a.roles ≡ true
        weaker a h =
            let b = and_parts (not (is_empty a.roles)) _ h in
            let c = and_parts (nat_le (length a.roles) most_roles) _ b.1 in
            let d = and_parts (nat_le (length a.nests) most_nests) _ c.1 in
            (and_parts (list_all role_fits a.roles) _ d.1).0

    role : role_fits (role_row plan p t) ≡ true
    role = get_passes role_fits (action_at plan p).roles (index_of t (roles_of plan p)) no_role
        (action_passes (λ (a : ActionRow). list_all role_fits a.roles) plan all refl p) refl

    by_handler : (o : Option ℕ) → program_fits (program_in plan p t o) ≡ true
    by_handler None = (and_parts (program_fits (role_row plan p t).body) _ role).0
    by_handler (Some y) =
        handler_passes program_fits y (role_row plan p t).handlers (and_parts (program_fits (role_row plan p t).body) _ role).1 refl

-- ---- objects

rises_above : (low : ℕ) (xs : List ℕ) → is_rising_above low xs ≡ true → Rises (suc low) xs
rises_above low [] h = tt
rises_above low (x ∷ xs) h =
    let parts = and_parts (nat_lt low x) (is_rising_above x xs) h in
    (ltb-true low x parts.0, rises_above x xs parts.1)

rises : (xs : List ℕ) → is_rising xs ≡ true → Rises 0 xs
rises [] h = tt
rises (x ∷ xs) h = (omega arith, rises_above x xs h)

-- the objects of a place rise
pub objects_rise : (plan : Plan) → IsClosed plan → (p : ℕ) → Rises 0 (objects_of plan p)
objects_rise plan closed p = rises (objects_of plan p) (action_passes (λ (a : ActionRow). is_rising a.objects) plan all refl p)
  where
    all : list_all (λ (a : ActionRow). is_rising a.objects) plan.actions ≡ true
    all = of_plan (λ q. list_all (λ (a : ActionRow). is_rising a.objects) q.actions ≡ true) plan closed
        (all_imply (objects_in_range closed.draft) (λ (a : ActionRow). is_rising a.objects) closed.draft.actions
        (λ a h. (and_parts (is_rising a.objects) _ h).0) (objects_range closed.draft (keeps_of plan closed)))
