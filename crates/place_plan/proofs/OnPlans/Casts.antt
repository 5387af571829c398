-- Who plays a place: each role of its action is played by a participant, and by another one.
use Rattle.std.proofs.Common.{◌≡◌, ℕ, ◌==◌, ◌<◌, nat_lt, ◌&&◌, true, false, not, List, [], ◌∷◌, map, length, slice_index_or, slice_get, zero, suc, refl, sym, ap, ◌∙◌, subst, inl, inr, arith}
use Rattle.std.proofs.lemmas.Bool.{and_parts, and_from, or_cases, or_left, or_right, eqb-true, eq-eqb, false≢true, ltb-true, not-true, false_from_ne_true, both_ways}
use Rattle.place_plan.specs.declared.drafts.draft.Draft.{Draft}
use Rattle.place_plan.specs.declared.drafts.draft_rows.PlayRow.{PlayRow}
use Rattle.place_plan.specs.declared.drafts.draft_rows.NestRow.{NestRow}
use Rattle.place_plan.specs.declared.drafts.draft_rows.ActionRow.{ActionRow}
use Rattle.place_plan.specs.Plans.PlanValue.{Plan, PlaceRow}
use Rattle.caa_base.specs.Written.Lists.{member}
use Rattle.place_plan.specs.Plans.Places.{place_at, action_at, action_in, around, roles_of, no_action, no_nest, no_place}
use Rattle.place_plan.specs.Plans.Unfolding.{plan_of, cast_of}
use Rattle.place_plan.specs.Drafts.DraftRules.{all_differ, all_below, fills, play_in_range, KeepsParts}
use Rattle.caa_base.proofs.ListLemmas.{all_at, at_row, all_both}
use Rattle.place_plan.proofs.OnDrafts.DraftKeeps.{plays_range, plays_fill, nests_range, nests_filled}
use Rattle.place_plan.proofs.OnPlans.Subtrees.{IsPlaced}
use Rattle.place_plan.proofs.OnPlans.UnfoldedPlan.{IsUnfolded, is_unfolded, by_parents, child_of, in_table}

-- ---- lists

pub member_at : (xs : List ℕ) (i d : ℕ) → i < length xs → member (slice_index_or xs i d) xs ≡ true
member_at [] i d l = absurd (omega arith)
member_at (x ∷ xs) zero d l = or_left _ _ (eq-eqb x x refl)
member_at (x ∷ xs) (suc i) d l = or_right _ _ (member_at xs i d (omega arith))

-- where all differ, equal numbers stand at one index
pub one_index : (xs : List ℕ) (i j d : ℕ) → all_differ xs ≡ true → i < length xs → j < length xs
    → slice_index_or xs i d ≡ slice_index_or xs j d → i ≡ j
one_index [] i j d h l k e = absurd (omega arith)
one_index (x ∷ xs) zero zero d h l k e = refl
one_index (x ∷ xs) zero (suc j) d h l k e =
    absurd (both_ways _ (not-true _ (and_parts (not (member x xs)) _ h).0)
    (subst (λ y. member y xs ≡ true) (sym e) (member_at xs j d (omega arith))))
one_index (x ∷ xs) (suc i) zero d h l k e =
    absurd (both_ways _ (not-true _ (and_parts (not (member x xs)) _ h).0)
    (subst (λ y. member y xs ≡ true) e (member_at xs i d (omega arith))))
one_index (x ∷ xs) (suc i) (suc j) d h l k e =
    ap suc (one_index xs i j d (and_parts (not (member x xs)) _ h).1 (omega arith) (omega arith) e)

-- the participants at these indices
abbrev pub picked : List ℕ → List ℕ → List ℕ
picked who roles = map (λ role. slice_index_or who role 0) roles

pub length_picked : (who roles : List ℕ) → length (picked who roles) ≡ length roles
length_picked who [] = refl
length_picked who (r ∷ roles) = ap suc (length_picked who roles)

-- who is picked stands at one of the indices
pub from_picked : (who roles : List ℕ) (t : ℕ) → member t (picked who roles) ≡ true
    → (r : ℕ) × (member r roles ≡ true) × (slice_index_or who r 0 ≡ t)
from_picked who [] t m = absurd (false≢true m)
from_picked who (r ∷ roles) t m =
    elim (or_cases (slice_index_or who r 0 == t) _ m) [
      | inl e ↦ (r, or_left _ _ (eq-eqb r r refl), eqb-true _ _ e)
      | inr e ↦ let rest = from_picked who roles t e in (rest.0, or_right _ _ rest.1, rest.2)
    ]

-- and who stands at one of them is picked
pub in_picked : (who roles : List ℕ) (r : ℕ) → member r roles ≡ true → member (slice_index_or who r 0) (picked who roles) ≡ true
in_picked who [] r m = absurd (false≢true m)
in_picked who (x ∷ roles) r m =
    elim (or_cases (x == r) _ m) [
      | inl e ↦ or_left _ _ (eq-eqb _ _ (ap (λ z. slice_index_or who z 0) (eqb-true x r e)))
      | inr e ↦ or_right _ _ (in_picked who roles r e)
    ]

picked_differ : (who roles : List ℕ) → all_differ who ≡ true → all_below (length who) roles ≡ true
    → all_differ roles ≡ true → all_differ (picked who roles) ≡ true
picked_differ who [] h k d = refl
picked_differ who (r ∷ roles) h k d =
    let here = and_parts (not (member r roles)) _ d in
    let low = and_parts _ (all_below (length who) roles) k in
    and_from _ _
    (ap not (false_from_ne_true _ (λ m.
    let found = from_picked who roles (slice_index_or who r 0) m in
    let same = one_index who found.0 r 0 h (ltb-true _ _ (all_at _ roles found.0 low.1 found.1)) (ltb-true _ _ low.0) found.2 in
    both_ways _ (not-true _ here.0) (subst (λ z. member z roles ≡ true) same found.1))))
    (picked_differ who roles h low.1 here.1)

picked_known : (most : ℕ) (who roles : List ℕ) → all_below most who ≡ true → all_below (length who) roles ≡ true
    → all_below most (picked who roles) ≡ true
picked_known most who [] h k = refl
picked_known most who (r ∷ roles) h k =
    let low = and_parts _ (all_below (length who) roles) k in
    and_from _ _ (at_row _ who r 0 h (ltb-true _ _ low.0)) (picked_known most who roles h low.1)

-- a use with an action stands in the list
pub use_there : (nests : List NestRow) (k b : ℕ) → member b (slice_index_or nests k no_nest).actions ≡ true → k < length nests
use_there [] k b m = absurd (false≢true m)
use_there (nest ∷ nests) zero b m = omega arith
use_there (nest ∷ nests) (suc k) b m = omega (arith, use_there nests k b m)

pub only_one : (a b : ℕ) → member a (b ∷ []) ≡ true → b ≡ a
only_one a b m = elim (or_cases (b == a) false m) [ inl e ↦ eqb-true b a e | inr e ↦ absurd (false≢true e) ]

-- ---- casts

-- these play all roles of the action
pub record IsCast (draft : Draft) (a : ℕ) (who : List ℕ) : Type 0 where
  pub action : a < length draft.actions
  pub many : length who ≡ length (slice_index_or draft.actions a no_action).roles
  pub differ : all_differ who ≡ true
  pub known : all_below (length draft.participants) who ≡ true

cast_from : (draft : Draft) (a : ℕ) (who : List ℕ) → a < length draft.actions → fills draft a who ≡ true
    → all_below (length draft.participants) who ≡ true → IsCast draft a who
cast_from draft a who l f k =
    let parts = and_parts (length who == length (slice_index_or draft.actions a no_action).roles) _ f in
    record { action = l; many = eqb-true _ _ parts.0; differ = parts.1; known = k }

-- the action of a place that is there
pub action_is : (plan : Plan) (p : ℕ) → p < length plan.places
    → action_at plan p ≡ slice_index_or plan.actions (place_at plan p).action no_action
action_is plan p l = row_action plan.places p l
  where
    row_action : (rows : List PlaceRow) (p : ℕ) → p < length rows
        → action_in plan (slice_get rows p)
        ≡ slice_index_or plan.actions (slice_index_or rows p no_place).action no_action
    row_action [] p l = absurd (omega arith)
    row_action (row ∷ rows) zero l = refl
    row_action (row ∷ rows) (suc p) l = row_action rows p (omega arith)

-- those of a play do
pub play_is_cast : (draft : Draft) (play : PlayRow)
    → play_in_range draft play && fills draft play.action play.who ≡ true → IsCast draft play.action play.who
play_is_cast draft play h =
    let a = and_parts (play_in_range draft play) _ h in
    let b = and_parts (nat_lt play.action (length draft.actions)) _ a.0 in
    cast_from draft play.action play.who (ltb-true _ _ b.0) a.1 b.1

module _ (draft : Draft) (keeps : KeepsParts draft) where
  abbrev plan : Plan
  plan = plan_of draft

  abbrev whole : IsUnfolded draft plan
  whole = is_unfolded draft keeps.depths

  play_cast : (p : ℕ) → member p plan.plays ≡ true → IsCast draft (place_at plan p).action (roles_of plan p)
  play_cast p m =
      let found =
      whole.plays (λ (play : PlayRow). play_in_range draft play && fills draft play.action play.who)
      (all_both (play_in_range draft) (λ (play : PlayRow). fills draft play.action play.who) draft.plays
      (plays_range draft keeps) (plays_fill draft keeps)) p m in
      let play = found.0 in
      let placed = found.2 in
      let cast = play_is_cast draft play found.1 in
      subst (λ who. IsCast draft (place_at plan p).action who) (sym placed.cast)
      (subst (λ z. IsCast draft z play.who) (only_one _ _ placed.action) cast)

  pub use_cast : (a : ℕ) (who : List ℕ) → IsCast draft a who → (k b : ℕ)
      → member b (slice_index_or (slice_index_or draft.actions a no_action).nests k no_nest).actions ≡ true
      → IsCast draft b (cast_of who (slice_index_or (slice_index_or draft.actions a no_action).nests k no_nest))
  use_cast a who cast k b m =
      let action = slice_index_or draft.actions a no_action in
      let nest = slice_index_or action.nests k no_nest in
      let l = use_there action.nests k b m in
      let range = at_row _ action.nests k no_nest (nests_range draft keeps a cast.action) l in
      let filled = at_row _ action.nests k no_nest (nests_filled draft keeps a cast.action) l in
      let x = and_parts (all_below (length draft.actions) nest.actions) _ range in
      let y = and_parts (all_below (length action.roles) nest.roles) _ x.1 in
      let z =
      and_parts (length nest.roles == length (slice_index_or draft.actions b no_action).roles) _
      (all_at _ nest.actions b filled m) in
      let within : all_below (length who) nest.roles ≡ true = subst (λ n. all_below n nest.roles ≡ true) (sym cast.many) y.0 in
      record {
        action = ltb-true _ _ (all_at _ nest.actions b x.0 m);
        many = length_picked who nest.roles ∙ eqb-true _ _ z.0;
        differ = picked_differ who nest.roles cast.differ within z.1;
        known = picked_known (length draft.participants) who nest.roles cast.known within;
      }

  -- each place that is there has a cast
  pub all_cast : (p : ℕ) → p < length plan.places → IsCast draft (place_at plan p).action (roles_of plan p)
  all_cast =
      by_parents draft plan whole (λ p. IsCast draft (place_at plan p).action (roles_of plan p)) play_cast
      (λ p k c cast m.
      let instance = child_of draft plan whole p k c m in
      let same = action_is plan p (in_table plan.places p k c m) in
      let placed =
      subst (λ (a : ActionRow). IsPlaced plan c (p ∷ around plan p)
      (cast_of (roles_of plan p) (slice_index_or a.nests k no_nest)) k (slice_index_or a.nests k no_nest).actions)
      same (instance.child k c m) in
      subst (IsCast draft (place_at plan c).action) (sym placed.cast)
      (use_cast (place_at plan p).action (roles_of plan p) cast k (place_at plan c).action placed.action))
