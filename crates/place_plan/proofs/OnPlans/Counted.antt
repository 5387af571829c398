-- Tables that tell of each action how deep it is and how much it unfolds into, level by level.
use Rattle.std.proofs.Common.{◌≡◌, ◌≢◌, ℕ, ◌+◌, ◌<◌, ◌≤◌, nat_lt, nat_le, true, false, ◌&&◌, List, [], ◌∷◌, drop, length, slice_index_or, slice_set, get_or, suc, refl, arith, add-one, sum_by, below_more, get_or-set_other, get_or-set_same, replicate}
use Rattle.std.specs.List.{list_all}
use Rattle.std.proofs.lemmas.Bool.{and_parts, ltb-true, lt-leb, le-leb}
use Rattle.std.proofs.Math.Seq.{drop-cons}
use Rattle.std.proofs.lemmas.List.{get_or-replicate}
use Rattle.std.proofs.lemmas.List.Sums.{sum_by-cons}
use Rattle.place_plan.specs.declared.drafts.draft_rows.ActionRow.{ActionRow}
use Rattle.place_plan.specs.declared.drafts.draft_rows.NestRow.{NestRow}
use Rattle.place_plan.specs.declared.drafts.draft_rows.PlayRow.{PlayRow}
use Rattle.place_plan.specs.Plans.Places.{no_action}
use Rattle.place_plan.specs.Drafts.DraftRules.{all_below, deepest_of, deepest, depth_within, depths_fit}
use Rattle.caa_base.specs.Written.Limits.{most_depth}
use Rattle.place_plan.specs.Plans.Weights.{counted, at, nested_weight, weight, played_weight}
use Rattle.place_plan.specs.inner.Tables.{Tells, are_nests_known}
use Rattle.caa_base.proofs.ListLemmas.{get_passes}

-- a table that tells the first n values tells one more, once it is written
pub one_more : (table : List ℕ) (n v : ℕ) (f : ℕ → ℕ) → n < length table → ((a : ℕ) → a < n → at table a ≡ f a)
    → v ≡ f n → (a : ℕ) → a < n + 1 → at (slice_set table n v) a ≡ f a
one_more table n v f l below here =
    below_more _ _
    (λ k h. let ne : k ≢ n = omega arith in rw get_or-set_other (below k h))
    (rw get_or-set_same here)

-- the uses of an action are of actions that are there
pub uses_known : (actions : List ActionRow) → are_nests_known actions ≡ true → (a : ℕ)
    → list_all (λ (nest : NestRow). all_below (length actions) nest.actions) (slice_index_or actions a no_action).nests
    ≡ true
uses_known actions h a =
    get_passes (λ (action : ActionRow). list_all
    (λ (nest : NestRow). all_below (length actions) nest.actions) action.nests) actions a no_action h refl

module _ (actions : List ActionRow) (table : List ℕ) (f : ℕ → ℕ) (tells : Tells actions table f) where
  deepest_of_counted : (acts : List ℕ) → all_below (length actions) acts ≡ true → deepest_of (at table) acts ≡ counted (deepest_of f acts)
  deepest_of_counted [] h = refl
  deepest_of_counted (a ∷ acts) h =
      let parts = and_parts (nat_lt a (length actions)) _ h in
      omega (arith, tells a (ltb-true _ _ parts.0), deepest_of_counted acts parts.1)

  pub deepest_counted : (nests : List NestRow)
      → list_all (λ (nest : NestRow). all_below (length actions) nest.actions) nests ≡ true
      → deepest (at table) nests ≡ counted (deepest f nests)
  deepest_counted [] h = refl
  deepest_counted (nest ∷ nests) h =
      let parts = and_parts (all_below (length actions) nest.actions) _ h in
      omega (arith, deepest_of_counted nest.actions parts.0, deepest_counted nests parts.1)

  sum_counted : (acts : List ℕ) → all_below (length actions) acts ≡ true → counted (sum_by (at table) acts) ≡ counted (sum_by f acts)
  sum_counted [] h = refl
  sum_counted (a ∷ acts) h =
      let parts = and_parts (nat_lt a (length actions)) _ h in
      omega (arith, sum_by-cons (at table) a acts, sum_by-cons f a acts, tells a (ltb-true _ _ parts.0), sum_counted acts parts.1)

  pub nested_counted : (nests : List NestRow)
      → list_all (λ (nest : NestRow). all_below (length actions) nest.actions) nests ≡ true
      → counted (nested_weight (at table) nests) ≡ counted (nested_weight f nests)
  nested_counted [] h = refl
  nested_counted (nest ∷ nests) h =
      let parts = and_parts (all_below (length actions) nest.actions) _ h in
      omega (
        arith,
        sum_by-cons (λ (other : NestRow). sum_by (at table) other.actions) nest nests,
        sum_by-cons (λ (other : NestRow). sum_by f other.actions) nest nests,
        sum_counted nest.actions parts.0,
        nested_counted nests parts.1,
      )

  pub played_counted : (plays : List PlayRow)
      → list_all (λ (play : PlayRow). nat_lt play.action (length actions)) plays ≡ true
      → counted (played_weight (at table) plays) ≡ counted (played_weight f plays)
  played_counted [] h = refl
  played_counted (play ∷ plays) h =
      let parts = and_parts (nat_lt play.action (length actions)) _ h in
      omega (
        arith,
        sum_by-cons (λ (other : PlayRow). at table other.action) play plays,
        sum_by-cons (λ (other : PlayRow). f other.action) play plays,
        tells play.action (ltb-true _ _ parts.0),
        played_counted plays parts.1,
      )

-- one level more tells one level more
pub depth_more : (actions : List ActionRow) (table : List ℕ) (level : ℕ) → are_nests_known actions ≡ true
    → Tells actions table (depth_within level actions) → (a : ℕ)
    → counted (1 + deepest (at table) (slice_index_or actions a no_action).nests)
    ≡ counted (depth_within (suc level) actions a)
unfolding depth_within
depth_more actions table level known tells a =
    omega (
      arith,
      deepest_counted actions table (depth_within level actions) tells
          (slice_index_or actions a no_action).nests (uses_known actions known a),
    )

pub weight_more : (actions : List ActionRow) (table own : List ℕ) (level : ℕ) → are_nests_known actions ≡ true
    → Tells actions table (weight own level actions) → (a : ℕ)
    → counted (at own a + nested_weight (at table) (slice_index_or actions a no_action).nests)
    ≡ counted (weight own (suc level) actions a)
unfolding weight
weight_more actions table own level known tells a =
    omega (
      arith,
      nested_counted actions table (weight own level actions) tells
          (slice_index_or actions a no_action).nests (uses_known actions known a),
    )

pub depth_none : (actions : List ActionRow) (a : ℕ) → depth_within 0 actions a ≡ 0
unfolding depth_within
depth_none actions a = refl

pub weight_none : (own : List ℕ) (actions : List ActionRow) (a : ℕ) → weight own 0 actions a ≡ 0
unfolding weight
weight_none own actions a = refl

-- a table of zeros tells of no level
pub zeros_tell : (a n : ℕ) → a < n → at (replicate n 0) a ≡ 0
zeros_tell a n l = get_or-replicate n a 0 0 l

-- ---- walks over rows

pub depths_step : (actions : List ActionRow) (n : ℕ) → n < length actions
    → depths_fit n actions (drop n actions)
    ≡ (nat_le (depth_within (suc most_depth) actions n) most_depth && depths_fit (n + 1) actions (drop (n + 1) actions))
depths_step actions n l = rw (drop-cons actions n no_action l, add-one) refl

-- an action that is too deep, and one that isn't
pub depths_deep : (actions : List ActionRow) (n : ℕ) → n < length actions
    → most_depth < depth_within (suc most_depth) actions n → depths_fit n actions (drop n actions) ≡ false
depths_deep actions n l h = rw (depths_step actions n l, lt-leb _ _ h) refl

pub depths_next : (actions : List ActionRow) (n : ℕ) → n < length actions
    → depth_within (suc most_depth) actions n ≤ most_depth
    → depths_fit n actions (drop n actions) ≡ depths_fit (n + 1) actions (drop (n + 1) actions)
depths_next actions n l h = rw (depths_step actions n l, le-leb _ _ h) refl

pub nested_step : (f : ℕ → ℕ) (nests : List NestRow) (i : ℕ) (d : NestRow) → i < length nests
    → nested_weight f (drop i nests) ≡ sum_by f (get_or nests i d).actions + nested_weight f (drop (i + 1) nests)
nested_step f nests i d l =
    rw (drop-cons nests i d l, add-one)
    (sum_by-cons (λ (other : NestRow). sum_by f other.actions) (get_or nests i d) (drop (suc i) nests))
