-- A closed plan is one that the laws speak of: its places are a tree, its uses lead on, and its numbers are in range.
use Rattle.std.proofs.Common.{◌≡◌, ℕ, ◌<◌, ◌≤◌, ◌==◌, nat_lt, true, false, not, List, [], ◌∷◌, length, slice_index_or, slice_get, Option, Some, None, zero, suc, refl, sym, ap, ◌∙◌, subst, inl, inr, arith, zero-add}
use Rattle.std.specs.List.{list_all}
use Rattle.std.proofs.lemmas.Bool.{and_parts, or_cases, eqb-true, false≢true, ltb-true, lt-ltb, not-true, cases_Bool}
use Rattle.place_plan.specs.declared.drafts.draft.Draft.{Draft}
use Rattle.place_plan.specs.declared.drafts.draft_rows.ObjectRow.{ObjectRow}
use Rattle.place_plan.specs.declared.drafts.draft_rows.ActionRow.{ActionRow}
use Rattle.place_plan.specs.declared.drafts.draft_rows.NestRow.{NestRow}
use Rattle.place_plan.specs.declared.drafts.draft_rows.RoleRow.{RoleRow}
use Rattle.place_plan.specs.declared.drafts.draft_rows.HandlerRow.{HandlerRow}
use Rattle.place_plan.specs.declared.drafts.draft_rows.Program.{Program}
use Rattle.place_plan.specs.declared.drafts.draft_rows.Step.{Step}
use Rattle.place_plan.specs.declared.drafts.draft_rows.Step.TheVariants as step
use Rattle.place_plan.specs.Plans.PlanValue.{Plan, PlaceRow}
use Rattle.caa_base.specs.Written.Lists.{member, index_of, is_empty, first_of}
use Rattle.caa_base.specs.inner.Lists.{Rises}
use Rattle.place_plan.specs.Plans.Places.{place_at, action_at, around, parent, roles_of, role_row, body_of, handler_in, abort_row, objects_of, uses, alternates_of, nest_number, nest_of, nest_in, internal_of, interface_of, fault_of, map_signal, initial_of, no_action, no_role, no_nest, no_place, no_object}
use Rattle.place_plan.specs.RulesOfJournals.Roles.{program_in, or_idle}
use Rattle.caa_base.specs.Written.Limits.{IsValue, is_value}
use Rattle.place_plan.specs.Plans.Unfolding.{plan_of, cast_of}
use Rattle.place_plan.specs.Drafts.DraftRules.{KeepsParts, all_below, exceptions_of, graphs_in_range, objects_in_range, parts_in_range, nest_in_range, role_in_range, program_in_range, handler_in_range, verdict_in_range, abort_in_range, step_in_range, is_rising, play_in_range, nest_fits, roles_enter, entered_by, filled_by, holds_step, holds_role, holds_nest, holds_action}
use Rattle.place_plan.specs.Plans.Closed.{IsClosed, AreSound}
use Rattle.caa_base.proofs.ListLemmas.{all_at, get_passes, at_row, all_imply, as_filled}
use Rattle.place_plan.proofs.OnPlans.Passing.{past_end, below_or_not}
use Rattle.place_plan.proofs.OnDrafts.DraftKeeps.{initials_range, graphs_range, objects_range, parts_range, plays_range, has_roles, all_nests_fit}
use Rattle.caa_base.proofs.ValueRange.{value_from}
use Rattle.place_plan.proofs.OnPlans.Subtrees.{IsPlaced, IsKnown, use_of}
use Rattle.place_plan.proofs.OnPlans.UnfoldedPlan.{IsUnfolded, is_unfolded, known_in, chain_of, child_of, child_after, in_table, row_rises, rows_apart}
use Rattle.place_plan.proofs.OnPlans.Casts.{all_cast, action_is, use_there, from_picked, in_picked, member_at}
use Rattle.place_plan.proofs.OnPlans.ClosedPlan.{action_passes, keeps_of, of_plan, made_graphs, made_players, member_index, other_index}
use Rattle.journal_laws.proofs.Playable.{IsTree, IsPlayable, LeadsInside}
use Rattle.place_plan.proofs.OnPlans.SmallParts.{handler_passes}
use Rattle.journal_laws.proofs.EnterSteps.{get_all, entered_member, entered_at, entered_order, filled_rises, Fills, filled_is, filled_has, role_enters, enters_none, player_at, index_is}

module _ (draft : Draft) (keeps : KeepsParts draft) where
  abbrev plan : Plan
  plan = plan_of draft

  abbrev whole : IsUnfolded draft plan
  whole = is_unfolded draft keeps.depths

  -- ---- places that are there

  -- past the table a place has nothing
  nothing_past : (p : ℕ) → length plan.places ≤ p → place_at plan p ≡ no_place
  nothing_past p l = past_end plan.places p no_place l

  played_there : (p t : ℕ) → member t (roles_of plan p) ≡ true → p < length plan.places
  played_there p t m =
      elim (below_or_not p (length plan.places)) [
        | inl l ↦ l
        | inr l ↦ absurd (false≢true (subst (λ (row : PlaceRow). member t row.roles ≡ true) (nothing_past p l) m))
      ]

  child : (p k c : ℕ) → member c (alternates_of plan p k) ≡ true
      → IsPlaced plan c (p ∷ around plan p) (cast_of (roles_of plan p) (use_of plan p k)) k (use_of plan p k).actions
  child p k c m = (child_of draft plan whole p k c m).child k c m

  -- what holds of each place and the one right round it, and goes on outwards, holds of all places round it
  outwards : (Q : ℕ → ℕ → Type 0) → ((p q : ℕ) → member q (alternates_of plan p (nest_number plan q)) ≡ true → Q p q)
      → ((p r q : ℕ) → Q p r → member q (alternates_of plan r (nest_number plan q)) ≡ true → Q p q) → (p q : ℕ)
      → member p (around plan q) ≡ true → Q p q
  outwards Q first further p q m = below (suc q) q (omega arith) m
    where
      below : (most q : ℕ) → q < most → member p (around plan q) ≡ true → Q p q
      below zero q l m = absurd (omega arith)
      below (suc most) q l m = by_round (around plan q) refl m (below most)
        where
          by_round : (outer : List ℕ) → around plan q ≡ outer → member p outer ≡ true
              → ((r : ℕ) → r < most → member p (around plan r) ≡ true → Q p r) → Q p q
          by_round [] e m ih = absurd (false≢true m)
          by_round (r ∷ rs) e m ih =
              let known = known_in draft plan whole q r rs e in
              elim (or_cases (r == p) (member p rs) m) [
                | inl x ↦ subst (λ z. Q z q) (eqb-true r p x) (first r q known)
                | inr x ↦
                    let same = (child r (nest_number plan q) q known).round in
                    let rest : rs ≡ around plan r = cc in
                    further p r q (ih r (omega (arith, l, child_after draft plan whole r (nest_number plan q) q known))
                    (subst (λ xs. member p xs ≡ true) rest x)) known
              ]

  -- ---- the use that a place is of

  pub record IsUse (p k c : ℕ) : Type 0 where
    pub outer_there : p < length plan.places
    pub index : k < length (action_at plan p).nests
    pub range : nest_in_range (length draft.actions) (length (action_at plan p).roles)
        (exceptions_of draft (action_at plan p).internal) (use_of plan p k) ≡ true
    pub held : holds_nest draft (objects_of plan p) (use_of plan p k) ≡ true

  nest_range : (p : ℕ) → list_all
      (nest_in_range (length draft.actions) (length (action_at plan p).roles)
      (exceptions_of draft (action_at plan p).internal)) (action_at plan p).nests ≡ true
  nest_range p = (and_parts _ _ (action_passes (parts_in_range draft) plan (parts_range draft keeps) refl p)).1

  action_holds : (p : ℕ) → holds_action draft (action_at plan p) ≡ true
  action_holds p = action_passes (holds_action draft) plan keeps.objects refl p

  use_is : (p k c : ℕ) → member c (alternates_of plan p k) ≡ true → IsUse p k c
  use_is p k c m =
      let l = use_there (action_at plan p).nests k (place_at plan c).action (child p k c m).action in
      record {
        outer_there = in_table plan.places p k c m;
        index = l;
        range =
            at_row (nest_in_range (length draft.actions) (length (action_at plan p).roles)
            (exceptions_of draft (action_at plan p).internal)) (action_at plan p).nests k no_nest (nest_range p) l;
        held =
            at_row (holds_nest draft (objects_of plan p)) (action_at plan p).nests k no_nest
            (and_parts (list_all (holds_role (objects_of plan p)) (action_at plan p).roles) _ (action_holds p)).1 l;
      }

  -- a place is played by as many as its action has roles
  many_played : (p : ℕ) → length (roles_of plan p) ≡ length (action_at plan p).roles
  many_played p = (made_players draft keeps p).0

  -- who does not play has no role
  no_part : (p t : ℕ) → member t (roles_of plan p) ≡ false → role_row plan p t ≡ no_role
  no_part p t m =
      past_end (action_at plan p).roles (index_of t (roles_of plan p)) no_role
      (omega (arith, other_index t (roles_of plan p) m, many_played p))

  -- who plays in a place of a use plays the role of the use in the place round it
  pub record PlaysRole (p k t : ℕ) : Type 0 where
    pub role : ℕ
    pub is_there : role < length (roles_of plan p)
    pub plays : slice_index_or (roles_of plan p) role 0 ≡ t
    pub fills : member role (use_of plan p k).roles ≡ true

  plays_role : (p k c t : ℕ) → member c (alternates_of plan p k) ≡ true → member t (roles_of plan c) ≡ true → PlaysRole p k t
  plays_role p k c t m r =
      let found = from_picked (roles_of plan p) (use_of plan p k).roles t (subst (λ who. member t who ≡ true) (child p k c m).cast r) in
      let of_use = use_is p k c m in
      let range =
      and_parts (all_below (length (action_at plan p).roles) (use_of plan p k).roles) _
      (and_parts (all_below (length draft.actions) (use_of plan p k).actions) _ of_use.range).1 in
      let low = ltb-true _ _ (all_at _ (use_of plan p k).roles found.0 range.0 found.1) in
      record { role = found.0; is_there = omega (arith, low, many_played p); plays = found.2; fills = found.1 }

  -- ---- programs

  role_range : (p t : ℕ) → role_in_range (length draft.objects) (exceptions_of draft (action_at plan p).internal)
      (exceptions_of draft (action_at plan p).interface) (role_row plan p t) ≡ true
  role_range p t =
      get_passes (role_in_range (length draft.objects) (exceptions_of draft (action_at plan p).internal)
      (exceptions_of draft (action_at plan p).interface)) (action_at plan p).roles
      (index_of t (roles_of plan p)) no_role
      (and_parts _ _ (action_passes (parts_in_range draft) plan (parts_range draft keeps) refl p)).0 refl

  -- each program of a role is in range
  programs_range : (p t : ℕ) (x : Option ℕ)
      → program_in_range (length draft.objects) (exceptions_of draft (action_at plan p).internal)
      (exceptions_of draft (action_at plan p).interface) (program_in plan p t x) ≡ true
  programs_range p t None = (and_parts _ _ (role_range p t)).0
  programs_range p t (Some x) =
      let objects = length draft.objects in
      let internal = exceptions_of draft (action_at plan p).internal in
      let interface = exceptions_of draft (action_at plan p).interface in
      let handlers =
      (and_parts (list_all (handler_in_range objects internal interface) (role_row plan p t).handlers) _
      (and_parts (program_in_range objects internal interface (role_row plan p t).body) _ (role_range p t)).1).0 in
      handler_passes (program_in_range objects internal interface) x (role_row plan p t).handlers
      (all_imply (handler_in_range objects internal interface)
      (λ (h : HandlerRow). program_in_range objects internal interface h.program) (role_row plan p t).handlers
      (λ h k. (and_parts (nat_lt h.exception internal) _ k).1) handlers) refl

  -- each step is of the objects of the place
  programs_held : (p t : ℕ) (x : Option ℕ) → list_all (holds_step (objects_of plan p)) (program_in plan p t x).steps ≡ true
  programs_held p t x =
      by_program x (get_passes (holds_role (objects_of plan p)) (action_at plan p).roles
      (index_of t (roles_of plan p)) no_role
      (and_parts (list_all (holds_role (objects_of plan p)) (action_at plan p).roles) _ (action_holds p)).0 refl)
    where
      by_program : (x : Option ℕ) → holds_role (objects_of plan p) (role_row plan p t) ≡ true
          → list_all (holds_step (objects_of plan p)) (program_in plan p t x).steps ≡ true
      by_program None h = (and_parts (list_all (holds_step (objects_of plan p)) (role_row plan p t).body.steps) _ h).0
      by_program (Some x) h =
          handler_passes (λ (program : Program). list_all (holds_step (objects_of plan p)) program.steps) x (role_row plan p t).handlers
          (and_parts (list_all (holds_step (objects_of plan p)) (role_row plan p t).body.steps) _ h).1 refl

  -- what the rule of enter steps says of each role
  actions_enter : (p : ℕ) → roles_enter (action_at plan p).nests 0 (action_at plan p).roles ≡ true
  actions_enter p = action_passes (λ (action : ActionRow). roles_enter action.nests 0 action.roles) plan keeps.enters refl p

  body_enters : (p t : ℕ) → member t (roles_of plan p) ≡ true
      → entered_by (body_of plan p t).steps ≡ filled_by (index_of t (roles_of plan p)) 0 (action_at plan p).nests
  body_enters p t m =
      let r = index_of t (roles_of plan p) in
      let l : r < length (action_at plan p).roles = omega (arith, member_index t (roles_of plan p) m, many_played p) in
      (role_enters (action_at plan p).nests 0 (action_at plan p).roles r (actions_enter p) l).0
      ∙ ap (λ z. filled_by z 0 (action_at plan p).nests) (zero-add r)

  -- so who has a step plays
  maker_plays : (p t : ℕ) (x : Option ℕ) (n : ℕ) (s : Step) → slice_get (program_in plan p t x).steps n ≡ Some s
      → member t (roles_of plan p) ≡ true
  maker_plays p t x n s e = elim (cases_Bool (member t (roles_of plan p))) [
    | inl m ↦ m
    | inr m ↦ absurd (no_step (role_row plan p t) x (no_part p t m) e)
  ]
    where
      program_of_row : RoleRow → Option ℕ → Program
      program_of_row row None = row.body
      program_of_row row (Some y) = or_idle (handler_in y row.handlers)

      idle_has_none : (x : Option ℕ) → slice_get (program_of_row no_role x).steps n ≡ Some s → ⊥
      idle_has_none None e = absurd cc
      idle_has_none (Some y) e = absurd cc

      no_step : (row : RoleRow) (x : Option ℕ) → row ≡ no_role → slice_get (program_of_row row x).steps n ≡ Some s → ⊥
      no_step row x same e = idle_has_none x (subst (λ r. slice_get (program_of_row r x).steps n ≡ Some s) same e)

  -- ---- a tree

  tree_above : (p q : ℕ) → member q (around plan p) ≡ true → q < p
  tree_above p q m =
      outwards (λ q p. q < p) (λ q p k. child_after draft plan whole q (nest_number plan p) p k)
      (λ q r p below k. let next = child_after draft plan whole r (nest_number plan p) p k in omega arith) q p m

  tree_tops : (p : ℕ) → member p plan.plays ≡ true → around plan p ≡ []
  tree_tops p m = (whole.plays (play_in_range draft) (plays_range draft keeps) p m).2.round

  tree_roles : (p q t : ℕ) → member p (around plan q) ≡ true → member t (roles_of plan q) ≡ true → member t (roles_of plan p) ≡ true
  tree_roles p q t m =
      outwards (λ p q. member t (roles_of plan q) ≡ true → member t (roles_of plan p) ≡ true) outer
      (λ p r q wider k r_in. wider (outer r q k r_in)) p q m
    where
      outer : (p q : ℕ) → member q (alternates_of plan p (nest_number plan q)) ≡ true
          → member t (roles_of plan q) ≡ true → member t (roles_of plan p) ≡ true
      outer p q k r =
          let role = plays_role p (nest_number plan q) q t k r in
          subst (λ z. member z (roles_of plan p) ≡ true) role.plays (member_at (roles_of plan p) role.role 0 role.is_there)

  -- an enter step of a body is of a use that the role fills
  enters_use : (p t n k : ℕ) → slice_get (body_of plan p t).steps n ≡ Some (step.Enter k)
      → Fills (index_of t (roles_of plan p)) 0 k (action_at plan p).nests
  enters_use p t n k e =
      filled_is (index_of t (roles_of plan p)) 0 k (action_at plan p).nests
      (subst (λ xs. member k xs ≡ true) (body_enters p t (maker_plays p t None n (step.Enter k) e))
      (entered_member (body_of plan p t).steps n k e))

  handlers_plain : (p t x n k : ℕ) → slice_get (program_in plan p t (Some x)).steps n ≡ Some (step.Enter k) → ⊥
  handlers_plain p t x n k e =
      let m = maker_plays p t (Some x) n (step.Enter k) e in
      let r = index_of t (roles_of plan p) in
      let l : r < length (action_at plan p).roles = omega (arith, member_index t (roles_of plan p) m, many_played p) in
      let none =
      handler_passes (λ (program : Program). is_empty (entered_by program.steps)) x (role_row plan p t).handlers
      (role_enters (action_at plan p).nests 0 (action_at plan p).roles r (actions_enter p) l).1 refl in
      enters_none (program_in plan p t (Some x)).steps n k none e

  tree_enters : (p t : ℕ) (x : Option ℕ) (n k : ℕ) → slice_get (program_in plan p t x).steps n ≡ Some (step.Enter k)
      → (q : ℕ) → member q (alternates_of plan p k) ≡ true → LeadsInside plan p t q
  tree_enters p t (Some x) n k e q m = absurd (handlers_plain p t x n k e)
  tree_enters p t None n k e q m =
      let fills = enters_use p t n k e in
      let placed = child p k q m in
      let plays = maker_plays p t None n (step.Enter k) e in
      let same : fills.index ≡ k = omega (arith, fills.number) in
      let role : member (index_of t (roles_of plan p)) (use_of plan p k).roles ≡ true =
      subst (λ j. member (index_of t (roles_of plan p)) (slice_index_or (action_at plan p).nests j no_nest).roles
      ≡ true) same fills.plays in (
        placed.round,
        subst (λ who. member t who ≡ true) (sym placed.cast)
            (subst (λ z. member z (cast_of (roles_of plan p) (use_of plan p k)) ≡ true)
            (player_at (roles_of plan p) t plays)
            (in_picked (roles_of plan p) (use_of plan p k).roles (index_of t (roles_of plan p)) role)),
      )

  is_tree : IsTree plan
  is_tree = record { above = tree_above; chain = chain_of draft plan whole; tops = tree_tops; roles_in = tree_roles; enters = tree_enters }

  -- ---- plays

  plays_filled : (p : ℕ) → member p plan.plays ≡ true → is_empty (roles_of plan p) ≡ false
  plays_filled p m =
      let cast = all_cast draft keeps p (whole.plays (play_in_range draft) (plays_range draft keeps) p m).2.is_there in
      as_filled (roles_of plan p) (slice_index_or draft.actions (place_at plan p).action no_action).roles cast.many
      (has_roles draft keeps (place_at plan p).action cast.action)

  roles_known : (p t : ℕ) → member t (roles_of plan p) ≡ true → t < length draft.participants
  roles_known p t m =
      ltb-true _ _ (all_at (λ n. nat_lt n (length draft.participants)) (roles_of plan p) t
      (all_cast draft keeps p (played_there p t m)).known m)

  plays_topped : (p t : ℕ) → around plan p ≡ [] → member t (roles_of plan p) ≡ true → member p plan.plays ≡ true
  plays_topped p t e m = subst (λ outer. IsKnown plan p outer (nest_number plan p)) e ((whole.instances p (played_there p t m)).known)

  -- ---- uses

  uses_back : (p c : ℕ) → parent plan c ≡ Some p → member c (alternates_of plan p (nest_number plan c)) ≡ true
  uses_back p c e = by_round (around plan c) refl e
    where
      by_round : (outer : List ℕ) → around plan c ≡ outer → first_of outer ≡ Some p
          → member c (alternates_of plan p (nest_number plan c)) ≡ true
      by_round [] r e = absurd cc
      by_round (q ∷ qs) r e = let same : q ≡ p = cc in
          subst (λ z. member c (alternates_of plan z (nest_number plan c)) ≡ true) same
          (known_in draft plan whole c q qs r)

  uses_in_row : (p k : ℕ) → Rises 0 (alternates_of plan p k)
  uses_in_row p k =
      elim (below_or_not p (length plan.places)) [
        | inl l ↦ row_rises (suc p) (place_at plan p).children k ((whole.instances p l).rise)
        | inr l ↦ subst (λ (row : PlaceRow). Rises 0 (slice_index_or row.children k [])) (sym (nothing_past p l)) tt
      ]

  uses_apart : (p k l c d : ℕ) → k < l → member c (alternates_of plan p k) ≡ true → member d (alternates_of plan p l) ≡ true → c < d
  uses_apart p k l c d lt m n = rows_apart (suc p) (place_at plan p).children k l c d ((child_of draft plan whole p k c m).rise) lt m n

  uses_lead : (p c t : ℕ) → parent plan c ≡ Some p → member t (roles_of plan c) ≡ true
      → (n : ℕ) × (slice_get (body_of plan p t).steps n ≡ Some (step.Enter (nest_number plan c)))
  uses_lead p c t e m =
      let known = uses_back p c e in
      let role = plays_role p (nest_number plan c) c t known m in
      let of_use = use_is p (nest_number plan c) c known in
      let plays : member t (roles_of plan p) ≡ true =
      subst (λ z. member z (roles_of plan p) ≡ true) role.plays
      (member_at (roles_of plan p) role.role 0 role.is_there) in
      let same = index_is (roles_of plan p) role.role t (all_cast draft keeps p of_use.outer_there).differ role.is_there role.plays in
      let filled =
      subst (λ r. member (nest_number plan c) (filled_by r 0 (action_at plan p).nests) ≡ true) (sym same)
      (subst (λ k. member k (filled_by role.role 0 (action_at plan p).nests) ≡ true) (zero-add (nest_number plan c))
      (filled_has role.role 0 (nest_number plan c) (action_at plan p).nests role.fills)) in
      entered_at (body_of plan p t).steps (nest_number plan c)
      (subst (λ xs. member (nest_number plan c) xs ≡ true) (sym (body_enters p t plays)) filled)

  nests_all_fit : (p : ℕ) → list_all nest_fits (action_at plan p).nests ≡ true
  nests_all_fit p = action_passes (λ (action : ActionRow). list_all nest_fits action.nests) plan (all_nests_fit draft keeps) refl p

  uses_offer : (p t n k : ℕ) → slice_get (body_of plan p t).steps n ≡ Some (step.Enter k) → is_empty (alternates_of plan p k) ≡ false
  uses_offer p t n k e =
      let fills = enters_use p t n k e in
      let l = played_there p t (maker_plays p t None n (step.Enter k) e) in
      let same : fills.index ≡ k = omega (arith, fills.number) in
      let fit = at_row nest_fits (action_at plan p).nests k no_nest (nests_all_fit p) (omega (arith, fills.is_there, same)) in
      as_filled (alternates_of plan p k) (use_of plan p k).actions ((whole.instances p l).as_many k)
      (not-true _ (and_parts (not (is_empty (use_of plan p k).actions)) _ fit).0)

  uses_in_order : (p t n m k l : ℕ) → n < m → slice_get (body_of plan p t).steps n ≡ Some (step.Enter k)
      → slice_get (body_of plan p t).steps m ≡ Some (step.Enter l) → k < l
  uses_in_order p t n m k l lt e f =
      let rises =
      subst (Rises 0) (sym (body_enters p t (maker_plays p t None n (step.Enter k) e)))
      (filled_rises (index_of t (roles_of plan p)) 0 (action_at plan p).nests) in
      entered_order 0 (body_of plan p t).steps n m k l rises lt e f

  -- ---- objects

  objects_inherit : (p q o : ℕ) → member p (around plan q) ≡ true → uses plan q o ≡ true → uses plan p o ≡ true
  objects_inherit p q o m =
      outwards (λ p q. uses plan q o ≡ true → uses plan p o ≡ true) outer
      (λ p r q wider k u. wider (outer r q k u)) p q m
    where
      outer : (p q : ℕ) → member q (alternates_of plan p (nest_number plan q)) ≡ true → uses plan q o ≡ true → uses plan p o ≡ true
      outer p q k u =
          let placed = child p (nest_number plan q) q k in
          let held =
          all_at (λ a. list_all (λ z. member z (objects_of plan p))
          (slice_index_or draft.actions a no_action).objects) (use_of plan p (nest_number plan q)).actions
          (place_at plan q).action (use_is p (nest_number plan q) q k).held placed.action in
          let same = ap (λ (a : ActionRow). a.objects) (action_is plan q placed.is_there) in
          all_at (λ z. member z (objects_of plan p)) (objects_of plan q) o
          (subst (λ os. list_all (λ z. member z (objects_of plan p)) os ≡ true) (sym same) held) u

  objects_there : (p o : ℕ) → uses plan p o ≡ true → o < length draft.objects
  objects_there p o u =
      let range =
      and_parts (is_rising (objects_of plan p)) _
      (action_passes (objects_in_range draft) plan (objects_range draft keeps) refl p) in
      ltb-true _ _ (all_at (λ n. nat_lt n (length draft.objects)) (objects_of plan p) o range.1 u)

  -- ---- numbers

  fault_there : (p t : ℕ) → member t (roles_of plan p) ≡ true → fault_of plan p < (internal_of plan p).count
  fault_there p t m =
      let l = played_there p t m in
      let cast = all_cast draft keeps p l in
      let action = slice_index_or draft.actions (place_at plan p).action no_action in
      let range = at_row (graphs_in_range draft) draft.actions (place_at plan p).action no_action (graphs_range draft keeps) cast.action in
      let fault =
      (and_parts (nat_lt action.interface (length draft.graphs)) _
      (and_parts (nat_lt action.internal (length draft.graphs)) _ range).1).1 in
      subst (λ (a : ActionRow). a.fault < exceptions_of draft a.internal) (sym (action_is plan p l)) (ltb-true _ _ fault)

  maps_there : (p q : ℕ) → parent plan q ≡ Some p
      → ((x : ℕ) → map_signal plan q x < (internal_of plan p).count)
      × ((nest_of plan q).undo < (internal_of plan p).count) × ((nest_of plan q).failure < (internal_of plan p).count)
  maps_there p q e =
      let internal = exceptions_of draft (action_at plan p).internal in
      let k = nest_number plan q in
      let nest = use_of plan p k in
      let of_use : nest_of plan q ≡ nest = ap (nest_in plan k) e in
      let a = and_parts (all_below (length draft.actions) nest.actions) _ (use_is p k q (uses_back p q e)).range in
      let b = and_parts (all_below (length (action_at plan p).roles) nest.roles) _ a.1 in
      let c = and_parts (all_below internal nest.maps) _ b.1 in
      let d = and_parts (nat_lt nest.undo internal) _ c.1 in
      let undo = ltb-true nest.undo internal d.0 in
      let failure = ltb-true nest.failure internal d.1 in
      let maps : (x : ℕ) → slice_index_or nest.maps x 0 < internal =
      λ x. ltb-true _ _ (get_passes (λ n. nat_lt n internal) nest.maps x 0 c.0 (lt-ltb 0 internal (omega arith))) in
      subst (λ (n : NestRow). ((x : ℕ) → slice_index_or n.maps x 0 < internal) × (n.undo < internal)
      × (n.failure < internal)) (sym of_use) (maps, undo, failure)

  says_in_range : (p t : ℕ) (x : Option ℕ) → verdict_in_range (interface_of plan p).count (program_in plan p t x).verdict ≡ true
  says_in_range p t x = (and_parts _ _ (programs_range p t x)).1

  steps_there : (p t : ℕ) (x : Option ℕ) (n : ℕ) (s : Step) → slice_get (program_in plan p t x).steps n ≡ Some s
      → step_in_range (length draft.objects) (internal_of plan p).count s ≡ true
  steps_there p t x n s e =
      get_all (step_in_range (length draft.objects) (internal_of plan p).count) (program_in plan p t x).steps n s
      (and_parts _ _ (programs_range p t x)).0 e

  aborts_there : (p t : ℕ) → abort_in_range (interface_of plan p).count (abort_row plan p t) ≡ true
  aborts_there p t =
      (and_parts _ _ (and_parts
      (program_in_range (length draft.objects) (exceptions_of draft (action_at plan p).internal)
      (exceptions_of draft (action_at plan p).interface) (role_row plan p t).body) _ (role_range p t)).1).1

  is_valued : (o : ℕ) → IsValue (initial_of plan o)
  is_valued o =
      value_from (initial_of plan o)
      (get_passes (λ (r : ObjectRow). is_value r.initial) draft.objects o no_object (initials_range draft keeps) refl)

  -- all of it, where the graphs are sound
  pub made_playable : AreSound draft.graphs → IsPlayable plan
  made_playable sound = record {
    tree = is_tree;
    rise = whole.rise;
    topped = plays_topped;
    filled = plays_filled;
    known = roles_known;
    placed = λ p k c m. ((child p k c m).round, (child p k c m).nest);
    back = uses_back;
    in_row = uses_in_row;
    by_use = uses_apart;
    leads = uses_lead;
    offers = uses_offer;
    in_order = uses_in_order;
    plain = handlers_plain;
    inherits = objects_inherit;
    held = λ p t x n s e. get_all (holds_step (objects_of plan p)) (program_in plan p t x).steps n s (programs_held p t x) e;
    steps = steps_there;
    says = says_in_range;
    gives_up = aborts_there;
    faults = fault_there;
    maps = maps_there;
    objects = objects_there;
    valued = is_valued;
    sound = λ p.
        let graphs = made_graphs draft keeps p in
        let internal = sound (action_at plan p).internal graphs.0 in
        let interface = sound (action_at plan p).interface graphs.1 in
        (internal.0, internal.1, interface.0, interface.1);
  }

-- the laws speak of each closed plan
pub is_playable : (plan : Plan) → IsClosed plan → IsPlayable plan
is_playable plan closed = of_plan IsPlayable plan closed (made_playable closed.draft (keeps_of plan closed) closed.sound)
