-- What the laws of what can come need of a plan: each place is played by its roles in order, and the alternates of a use stand in the
-- order of its actions.
use Rattle.std.proofs.Common.{◌≡◌, ℕ, ◌+◌, ◌<◌, ◌≤◌, ◌==◌, nat_lt, true, List, [], ◌∷◌, length, slice_index_or, slice_get, Some, zero, suc, refl, sym, ap, ◌∙◌, subst, inl, inr, arith}
use Rattle.std.proofs.lemmas.Bool.{and_parts, or_cases, eqb-true, false≢true, ltb-true}
use Rattle.place_plan.specs.declared.drafts.draft.Draft.{Draft}
use Rattle.place_plan.specs.declared.drafts.draft_rows.PlayRow.{PlayRow}
use Rattle.place_plan.specs.declared.drafts.draft_rows.ActionRow.{ActionRow}
use Rattle.place_plan.specs.declared.drafts.draft_rows.NestRow.{NestRow}
use Rattle.place_plan.specs.Plans.PlanValue.{Plan, PlaceRow}
use Rattle.caa_base.specs.Written.Lists.{member}
use Rattle.caa_base.specs.Written.Limits.{most_depth}
use Rattle.place_plan.specs.Plans.Places.{place_at, action_at, action_in, roles_of, alternates_of, no_action, no_place, no_nest}
use Rattle.place_plan.specs.Plans.Unfolding.{Unfolding, cast_of, alternates_from, numbers_from, use_from, uses_from, children_from, unfold_at, plays_from, tops_from, plan_of}
use Rattle.place_plan.specs.Drafts.DraftRules.{deepest_of, deepest, depth_within, all_differ, all_below, nest_in_range, exceptions_of, KeepsParts}
use Rattle.place_plan.specs.Plans.Closed.{IsClosed}
use Rattle.caa_base.proofs.ListLemmas.{all_at, at_row}
use Rattle.place_plan.proofs.OnPlans.Passing.{past_end, below_or_not}
use Rattle.place_plan.proofs.OnDrafts.DraftKeeps.{nests_range}
use Rattle.place_plan.proofs.OnPlans.Subtrees.{Sits, sits_first, sits_second, sits_all, get_is, Fits, placed_at, use_of}
use Rattle.place_plan.proofs.OnPlans.UnfoldedPlan.{IsUnfolded, is_unfolded, all_fit_depth, by_parents, child_of, in_table}
use Rattle.place_plan.proofs.OnPlans.Casts.{action_is, all_cast, use_there, only_one}
use Rattle.place_plan.proofs.OnPlans.ClosedPlan.{keeps_of, of_plan, made_players}
use Rattle.journal_laws.proofs.Options.{some_apart, some_same}
use Rattle.journal_laws.proofs.Ranges.{place_known}
use Rattle.reach_laws.specs.CanCome.{action_of}
use Rattle.reach_laws.specs.Reach.{action_number}
use Rattle.reach_laws.proofs.ListsAlone.{stands_at, at_member}

pub record IsPlanned (plan : Plan) : Type 0 where
  -- a place with a role is an instance of the action of its number, which has as many roles as it has players, all different
  pub actions : (p t : ℕ) → member t (roles_of plan p) ≡ true → action_at plan p ≡ action_of plan (action_number plan p)
  pub many : (p : ℕ) → length (roles_of plan p) ≡ length (action_at plan p).roles
  pub differ : (p : ℕ) → all_differ (roles_of plan p) ≡ true
  -- the alternates of a use are instances of its actions, in their order, each played by the roles of the use
  pub turns : (p k j c : ℕ) → slice_get (alternates_of plan p k) j ≡ Some c
      → slice_get (use_of plan p k).actions j ≡ Some (action_number plan c)
  pub as_many : (p k c : ℕ) → member c (alternates_of plan p k) ≡ true
      → length (alternates_of plan p k) ≡ length (use_of plan p k).actions
  pub casts : (p k c : ℕ) → member c (alternates_of plan p k) ≡ true → roles_of plan c ≡ cast_of (roles_of plan p) (use_of plan p k)
  pub filled : (p k c r : ℕ) → member c (alternates_of plan p k) ≡ true → member r (use_of plan p k).roles ≡ true
      → r < length (roles_of plan p)

-- ---- how a subtree stands in the table

-- an instance of the action, with all that is nested in it, stands from p on
pub record StandsAs (plan : Plan) (p : ℕ) : Type 0 where
  pub depth : ℕ
  pub action : ℕ
  pub who : List ℕ
  pub outer : List ℕ
  pub nest : ℕ
  pub fits : Fits depth plan.actions action
  pub sits : Sits plan.places p (unfold_at depth plan.actions action who outer nest p)

no_bottom : (actions : List ActionRow) (a : ℕ) → Fits 0 actions a → ⊥
unfolding depth_within
no_bottom actions a f = omega arith

one_less : (d : ℕ) (actions : List ActionRow) (a : ℕ) → Fits (suc d) actions a
    → deepest (depth_within (suc d) actions) (slice_index_or actions a no_action).nests ≤ d
unfolding depth_within
one_less d actions a f = omega arith

module _ (plan : Plan) (d : ℕ) (who outer : List ℕ) where
  abbrev one : Unfolding
  one = unfold_at d plan.actions

  abbrev depth : ℕ → ℕ
  depth = depth_within (suc d) plan.actions

  -- c is the alternate of an action at this place in the list
  abbrev pub StandsFor : List ℕ → List ℕ → ℕ → ℕ → Type 0
  StandsFor cast acts j c =
      (a : ℕ) × (slice_get acts j ≡ Some a) × Fits d plan.actions a × ((i : ℕ) × Sits plan.places c (one a cast outer i c))

  alternates_stand : (cast : List ℕ) (i n : ℕ) (acts : List ℕ) → deepest_of depth acts ≤ d
      → Sits plan.places n (alternates_from one cast outer i n acts) → (j c : ℕ)
      → slice_get (numbers_from one cast outer i n acts) j ≡ Some c → StandsFor cast acts j c
  alternates_stand cast i n [] f s j c h = absurd (some_apart h)
  alternates_stand cast i n (a ∷ acts) f s zero c h =
      let tree = one a cast outer i n in
      let rest = alternates_from one cast outer i (n + length tree) acts in (
        a,
        refl,
        omega arith,
        (i, subst (λ z. Sits plan.places z (one a cast outer i z)) (some_same h) (sits_first plan.places n tree rest s)),
      )
  alternates_stand cast i n (a ∷ acts) f s (suc j) c h =
      let tree = one a cast outer i n in
      let rest = alternates_from one cast outer i (n + length tree) acts in
      alternates_stand cast i (n + length tree) acts (omega arith) (sits_second plan.places n tree rest s) j c h

  uses_stand : (i n : ℕ) (nests : List NestRow) → deepest depth nests ≤ d → Sits plan.places n (uses_from one who outer i n nests)
      → (k j c : ℕ) → slice_get (slice_index_or (children_from one who outer i n nests) k []) j ≡ Some c
      → StandsFor (cast_of who (slice_index_or nests k no_nest)) (slice_index_or nests k no_nest).actions j c
  uses_stand i n [] f s k j c h = absurd (some_apart h)
  uses_stand i n (nest ∷ nests) f s zero j c h =
      alternates_stand (cast_of who nest) i n nest.actions (omega arith)
      (sits_first plan.places n (use_from one who outer i n nest) _ s) j c h
  uses_stand i n (nest ∷ nests) f s (suc k) j c h =
      let trees = use_from one who outer i n nest in
      uses_stand (suc i) (n + length trees) nests (omega arith) (sits_second plan.places n trees _ s) k j c h

-- the alternates of a place that stands so are in order, and stand so
children_stand : (plan : Plan) (d a : ℕ) (who outer : List ℕ) (i p : ℕ) → Fits d plan.actions a
    → Sits plan.places p (unfold_at d plan.actions a who outer i p) → (k j c : ℕ)
    → slice_get (alternates_of plan p k) j ≡ Some c
    → (slice_get (use_of plan p k).actions j ≡ Some (action_number plan c)) × StandsAs plan c
unfolding unfold_at
children_stand plan zero a who outer i p f s k j c h = absurd (no_bottom plan.actions a f)
children_stand plan (suc d) a who outer i p f s k j c h =
    let nests = (slice_index_or plan.actions a no_action).nests in
    let here = get_is plan.places p _ no_place s.0 in
    let next : suc p ≡ p + 1 = omega arith in
    let inner = subst (λ m. Sits plan.places m (uses_from (unfold_at d plan.actions) who (p ∷ outer) 0 (p + 1) nests)) next s.1 in
    let children : (place_at plan p).children ≡ children_from (unfold_at d plan.actions) who (p ∷ outer) 0 (p + 1) nests =
    ap (λ (r : PlaceRow). r.children) here.0 in
    let same_uses : (action_at plan p).nests ≡ nests = ap (λ o. (action_in plan o).nests) s.0 in
    let found =
    uses_stand plan d who (p ∷ outer) 0 (p + 1) nests (one_less d plan.actions a f) inner k j c
    (subst (λ rows. slice_get (slice_index_or rows k []) j ≡ Some c) children h) in
    let cast = cast_of who (slice_index_or nests k no_nest) in
    let placed = placed_at plan d found.0 cast (p ∷ outer) found.3.0 c found.2 found.3.1 in
    let number : found.0 ≡ action_number plan c = only_one (place_at plan c).action found.0 placed.action in (
      subst (λ ns. slice_get (slice_index_or ns k no_nest).actions j ≡ Some (action_number plan c)) (sym same_uses)
          (found.1 ∙ ap Some number),
      record {
        depth = d;
        action = found.0;
        who = cast;
        outer = p ∷ outer;
        nest = found.3.0;
        fits = found.2;
        sits = found.3.1;
      },
    )

tops_stand : (plan : Plan) (d : ℕ) → ((a : ℕ) → Fits d plan.actions a) → (n : ℕ) (plays : List PlayRow)
    → Sits plan.places n (plays_from (unfold_at d plan.actions) n plays) → (c : ℕ)
    → member c (tops_from (unfold_at d plan.actions) n plays) ≡ true → StandsAs plan c
tops_stand plan d fits n [] s c m = absurd (false≢true m)
tops_stand plan d fits n (play ∷ plays) s c m =
    let tree = unfold_at d plan.actions play.action play.who [] 0 n in
    elim (or_cases (n == c) (member c (tops_from (unfold_at d plan.actions) (n + length tree) plays)) m) [
      | inl x ↦ first (eqb-true n c x)
      | inr x ↦ tops_stand plan d fits (n + length tree) plays (sits_second plan.places n tree _ s) c x
    ]
  where
    first : n ≡ c → StandsAs plan c
    first same = record {
      depth = d;
      action = play.action;
      who = play.who;
      outer = [];
      nest = 0;
      fits = fits play.action;
      sits =
          subst (λ z. Sits plan.places z (unfold_at d plan.actions play.action play.who [] 0 z)) same
          (sits_first plan.places n (unfold_at d plan.actions play.action play.who [] 0 n) _ s);
    }

-- ---- all of it

module _ (draft : Draft) (keeps : KeepsParts draft) where
  abbrev made : Plan
  made = plan_of draft

  abbrev whole : IsUnfolded draft made
  whole = is_unfolded draft keeps.depths

  all_stand : (p : ℕ) → p < length made.places → StandsAs made p
  all_stand =
      by_parents draft made whole (StandsAs made)
      (tops_stand made most_depth (all_fit_depth draft keeps.depths) 0 draft.plays (sits_all made.places))
      (λ p k c stands m.
      let index = stands_at (alternates_of made p k) c m in
      (children_stand made stands.depth stands.action stands.who stands.outer stands.nest p stands.fits stands.sits k
      index.0 c index.1).1)

  in_turn : (p k j c : ℕ) → slice_get (alternates_of made p k) j ≡ Some c
      → slice_get (use_of made p k).actions j ≡ Some (action_number made c)
  in_turn p k j c h =
      let stands = all_stand p (in_table made.places p k c (at_member (alternates_of made p k) j c h)) in
      (children_stand made stands.depth stands.action stands.who stands.outer stands.nest p stands.fits stands.sits k j c h).0

  differing : (p : ℕ) → all_differ (roles_of made p) ≡ true
  differing p =
      elim (below_or_not p (length made.places)) [
        | inl l ↦ (all_cast draft keeps p l).differ
        | inr l ↦ ap (λ (row : PlaceRow). all_differ row.roles) (past_end made.places p no_place l)
      ]

  fills : (p k c r : ℕ) → member c (alternates_of made p k) ≡ true → member r (use_of made p k).roles ≡ true
      → r < length (roles_of made p)
  fills p k c r m n =
      let l = in_table made.places p k c m in
      let cast = all_cast draft keeps p l in
      let action = slice_index_or draft.actions (place_at made p).action no_action in
      let same : action_at made p ≡ action = action_is made p l in
      let nest = slice_index_or action.nests k no_nest in
      let placed : member (place_at made c).action nest.actions ≡ true =
      subst (λ (a : ActionRow). member (place_at made c).action (slice_index_or a.nests k no_nest).actions ≡ true) same
      ((child_of draft made whole p k c m).child k c m).action in
      let range =
      at_row (nest_in_range (length draft.actions) (length action.roles) (exceptions_of draft action.internal))
      action.nests k no_nest (nests_range draft keeps (place_at made p).action cast.action)
      (use_there action.nests k (place_at made c).action placed) in
      let x = and_parts (all_below (length draft.actions) nest.actions) _ range in
      let y = and_parts (all_below (length action.roles) nest.roles) _ x.1 in
      let own : member r nest.roles ≡ true =
      subst (λ (a : ActionRow). member r (slice_index_or a.nests k no_nest).roles ≡ true) same n in
      let low = ltb-true r (length action.roles) (all_at (λ q. nat_lt q (length action.roles)) nest.roles r y.0 own) in
      omega (arith, low, cast.many)

  made_planned : IsPlanned made
  made_planned = record {
    actions = λ p t m. action_is made p (place_known made p t m);
    many = λ p. (made_players draft keeps p).0;
    differ = differing;
    turns = in_turn;
    as_many = λ p k c m. (child_of draft made whole p k c m).as_many k;
    casts = λ p k c m. ((child_of draft made whole p k c m).child k c m).cast;
    filled = fills;
  }

-- each closed plan is so
pub is_planned : (plan : Plan) → IsClosed plan → IsPlanned plan
is_planned plan closed = of_plan IsPlanned plan closed (made_planned closed.draft (keeps_of plan closed))
