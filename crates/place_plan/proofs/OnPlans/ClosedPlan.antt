-- What a closed plan says: its numbers are small, each role of a place is played, and a player has the role of its number.
use Rattle.std.proofs.Common.{◌≡◌, ℕ, ◌==◌, ◌<◌, ◌≤◌, nat_lt, nat_le, cond, Bool, true, false, ◌&&◌, ◌||◌, List, [], ◌∷◌, length, slice_index_or, slice_get, Option, Some, None, zero, suc, refl, sym, ap, ◌∙◌, subst, inl, inr, arith}
use Rattle.std.specs.List.{list_all}
use Rattle.std.proofs.lemmas.Bool.{and_parts, and_from, false≢true, ltb-true, leb-true}
use Rattle.caa_base.specs.Written.Limits.{most_roles, most_alternates, most_places}
use Rattle.place_plan.specs.declared.drafts.draft_rows.ActionRow.{ActionRow}
use Rattle.place_plan.specs.declared.drafts.draft_rows.NestRow.{NestRow}
use Rattle.place_plan.specs.declared.drafts.draft.Draft.{Draft}
use Rattle.place_plan.specs.Plans.PlanValue.{Plan, PlaceRow}
use Rattle.caa_base.specs.Written.Lists.{member, index_of}
use Rattle.place_plan.specs.Plans.Places.{around, roles_of, place_at, action_at, action_in, role_row, alternates_of, no_action, no_place, no_role, no_nest}
use Rattle.place_plan.specs.Plans.Unfolding.{plan_of}
use Rattle.place_plan.specs.Drafts.DraftRules.{first_is_plain, graphs_in_range, nest_fits, KeepsParts}
use Rattle.place_plan.specs.Plans.Closed.{IsClosed}
use Rattle.place_plan.proofs.OnPlans.Passing.{past_end, below_or_not}
use Rattle.caa_base.proofs.ListLemmas.{get_passes, all_imply}
use Rattle.place_plan.proofs.OnDrafts.DraftKeeps.{keeps_rules, some_graphs, graphs_range, few_of_action, nests_fit}
use Rattle.place_plan.proofs.OnPlans.UnfoldedPlan.{is_unfolded, chain_of}
use Rattle.place_plan.proofs.OnPlans.Casts.{action_is, all_cast}

-- ---- a fact of the unfolding of the draft is one of the plan

pub of_plan : (Q : Plan → Type 0) (plan : Plan) (closed : IsClosed plan) → Q (plan_of closed.draft) → Q plan
of_plan Q plan closed h = subst Q (sym closed.same) h

pub keeps_of : (plan : Plan) (closed : IsClosed plan) → KeepsParts closed.draft
keeps_of plan closed = (keeps_rules closed.draft closed.whole).0

-- what each action passes, and one that isn't there, the action of each place passes
pub action_passes : (test : ActionRow → Bool) (plan : Plan) → list_all test plan.actions ≡ true → test no_action ≡ true
    → (p : ℕ) → test (action_at plan p) ≡ true
action_passes test plan h k p = by_row (slice_get plan.places p)
  where
    by_row : (o : Option PlaceRow) → test (action_in plan o) ≡ true
    by_row None = k
    by_row (Some row) = get_passes test plan.actions row.action no_action h k

-- past the table there is no action, and nobody has a role
pub no_action_past : (plan : Plan) (p : ℕ) → length plan.places ≤ p → action_at plan p ≡ no_action
no_action_past plan p l = by_rows plan.places p l
  where
    by_rows : (rows : List PlaceRow) (p : ℕ) → length rows ≤ p → action_in plan (slice_get rows p) ≡ no_action
    by_rows [] p l = refl
    by_rows (row ∷ rows) zero l = absurd (omega arith)
    by_rows (row ∷ rows) (suc p) l = by_rows rows p (omega arith)

-- the places round p are the one right round it and those round that one
pub chain : (plan : Plan) → IsClosed plan → (p q : ℕ) (qs : List ℕ) → around plan p ≡ q ∷ qs → around plan q ≡ qs
chain plan closed =
    of_plan (λ made. (p q : ℕ) (qs : List ℕ) → around made p ≡ q ∷ qs → around made q ≡ qs) plan closed
    (chain_of closed.draft (plan_of closed.draft) (is_unfolded closed.draft (keeps_of plan closed).depths))

-- ---- numbers

-- there are few places
pub few_places : (plan : Plan) → IsClosed plan → length plan.places ≤ most_places
few_places plan closed =
    let few =
    leb-true _ _ (and_parts (nat_le (length (plan_of closed.draft).places) most_places) _
    (keeps_rules closed.draft closed.whole).1).0 in
    omega (arith, few, ap (λ (p : Plan). length p.places) closed.same)

-- and at most as many plays
pub few_plays : (plan : Plan) → IsClosed plan → length plan.plays ≤ most_places
few_plays plan closed =
    let few = of_plan (λ q. length q.plays ≤ length q.places) plan closed (is_unfolded closed.draft (keeps_of plan closed).depths).few in
    omega (arith, few, few_places plan closed)

-- each place has its two graphs
abbrev pub HasGraphs : ℕ → Plan → Type 0
HasGraphs p plan = ((action_at plan p).internal < length plan.graphs) × ((action_at plan p).interface < length plan.graphs)

-- ---- roles

-- a place has as many players as its action has roles, and few
abbrev pub HasPlayers : ℕ → Plan → Type 0
HasPlayers p plan = (length (roles_of plan p) ≡ length (action_at plan p).roles) × (length (roles_of plan p) ≤ most_roles)

few_actions : (nests : List NestRow) (k : ℕ) → list_all nest_fits nests ≡ true
    → length (slice_index_or nests k no_nest).actions ≤ most_alternates
few_actions [] k h = omega arith
few_actions (nest ∷ nests) zero h =
    leb-true _ _ (and_parts _ (nat_le (length nest.actions) most_alternates) (and_parts (nest_fits nest) _ h).0).1
few_actions (nest ∷ nests) (suc k) h = few_actions nests k (and_parts (nest_fits nest) _ h).1

module _ (draft : Draft) (keeps : KeepsParts draft) where
  abbrev made : Plan
  made = plan_of draft

  abbrev has_both : ActionRow → Bool
  has_both action = nat_lt action.internal (length draft.graphs) && nat_lt action.interface (length draft.graphs)

  in_range : (a : ActionRow) → graphs_in_range draft a ≡ true → has_both a ≡ true
  in_range a h =
      let b = and_parts (nat_lt a.internal (length draft.graphs)) _ h in
      and_from _ _ b.0 (and_parts (nat_lt a.interface (length draft.graphs)) _ b.1).0

  pub made_graphs : (p : ℕ) → HasGraphs p made
  made_graphs p =
      let some = some_graphs draft.graphs (and_parts (first_is_plain draft.graphs) _ keeps.graphs).0 in
      let both =
      and_parts _ _ (action_passes has_both made
      (all_imply (graphs_in_range draft) has_both draft.actions in_range (graphs_range draft keeps))
      (and_from _ _ some some) p) in
      (ltb-true _ _ both.0, ltb-true _ _ both.1)

  pub made_players : (p : ℕ) → HasPlayers p made
  made_players p =
      elim (below_or_not p (length made.places)) [
        | inl l ↦
            let cast = all_cast draft keeps p l in
            let few = few_of_action draft keeps _ cast.action in
            let same = cast.many ∙ sym (ap (λ (a : ActionRow). length a.roles) (action_is made p l)) in
            (same, omega (arith, few, cast.many))
        | inr l ↦
            let none : roles_of made p ≡ [] = ap (λ (row : PlaceRow). row.roles) (past_end made.places p no_place l) in
            let empty : (action_at made p).roles ≡ [] = ap (λ (a : ActionRow). a.roles) (no_action_past made p l) in
            (ap length none ∙ sym (ap length empty), omega (arith, ap length none))
      ]

  made_alternates : (p k : ℕ) → length (alternates_of made p k) ≤ most_alternates
  made_alternates p k =
      elim (below_or_not p (length made.places)) [
        | inl l ↦
            let cast = all_cast draft keeps p l in
            let many = ((is_unfolded draft keeps.depths).instances p l).as_many k in
            let same = ap (λ (a : ActionRow). length (slice_index_or a.nests k no_nest).actions) (action_is made p l) in
            omega (
              arith,
              many,
              same,
              few_actions (slice_index_or draft.actions (place_at made p).action no_action).nests k
                  (nests_fit draft keeps _ cast.action),
            )
        | inr l ↦ omega (arith, ap (λ (row : PlaceRow). length (slice_index_or row.children k [])) (past_end made.places p no_place l))
      ]

pub has_graphs : (plan : Plan) → IsClosed plan → (p : ℕ) → HasGraphs p plan
has_graphs plan closed p = of_plan (HasGraphs p) plan closed (made_graphs closed.draft (keeps_of plan closed) p)

pub all_played : (plan : Plan) → IsClosed plan → (p : ℕ) → length (roles_of plan p) ≡ length (action_at plan p).roles
all_played plan closed p = (of_plan (HasPlayers p) plan closed (made_players closed.draft (keeps_of plan closed) p)).0

pub few_roles : (plan : Plan) → IsClosed plan → (p : ℕ) → length (roles_of plan p) ≤ most_roles
few_roles plan closed p = (of_plan (HasPlayers p) plan closed (made_players closed.draft (keeps_of plan closed) p)).1

-- a use has few alternates
pub few_alternates : (plan : Plan) → IsClosed plan → (p k : ℕ) → length (alternates_of plan p k) ≤ most_alternates
few_alternates plan closed p k =
    of_plan (λ q. length (alternates_of q p k) ≤ most_alternates) plan closed
    (made_alternates closed.draft (keeps_of plan closed) p k)

-- a member stands before the end of the list
pub member_index : (n : ℕ) (xs : List ℕ) → member n xs ≡ true → index_of n xs < length xs
member_index n [] h = absurd (false≢true h)
member_index n (x ∷ xs) h = either (x == n) h (member_index n xs)
  where
    either : (b : Bool) → b || member n xs ≡ true → (member n xs ≡ true → index_of n xs < length xs)
        → cond b 0 (suc (index_of n xs)) < suc (length xs)
    either true h next = omega arith
    either false h next = let more = next h in omega arith

-- and what is no member at its end
pub other_index : (n : ℕ) (xs : List ℕ) → member n xs ≡ false → index_of n xs ≡ length xs
other_index n [] h = refl
other_index n (x ∷ xs) h = either (x == n) h (other_index n xs)
  where
    either : (b : Bool) → b || member n xs ≡ false → (member n xs ≡ false → index_of n xs ≡ length xs)
        → cond b 0 (suc (index_of n xs)) ≡ suc (length xs)
    either true h next = absurd cc
    either false h next = ap suc (next h)

-- so who is no player has no role
pub no_player : (plan : Plan) → IsClosed plan → (p t : ℕ) → member t (roles_of plan p) ≡ false → role_row plan p t ≡ no_role
no_player plan closed p t h =
    past_end (action_at plan p).roles (index_of t (roles_of plan p)) no_role
    (omega (arith, other_index t (roles_of plan p) h, all_played plan closed p))
