-- The plan of a draft that is not too deep: its plays rise, and each of its places is an instance that the place round it knows.
use Rattle.std.proofs.Common.{◌≡◌, ℕ, ◌+◌, ◌<◌, ◌≤◌, ◌==◌, nat_le, Bool, true, List, [], ◌∷◌, length, slice_index_or, zero, suc, refl, ap, subst, inl, inr, arith, length-append, add-zero, zero-add}
use Rattle.std.specs.List.{list_all}
use Rattle.std.proofs.lemmas.Bool.{and_parts, or_cases, or_left, or_right, eqb-true, eq-eqb, false≢true, leb-true}
use Rattle.place_plan.specs.declared.drafts.draft.Draft.{Draft}
use Rattle.place_plan.specs.declared.drafts.draft_rows.PlayRow.{PlayRow}
use Rattle.place_plan.specs.declared.drafts.draft_rows.ActionRow.{ActionRow}
use Rattle.place_plan.specs.Plans.PlanValue.{Plan, PlaceRow}
use Rattle.caa_base.specs.Written.Lists.{member}
use Rattle.caa_base.specs.inner.Lists.{Rises}
use Rattle.place_plan.specs.Plans.Places.{place_at, around, nest_number, alternates_of, no_action, no_place}
use Rattle.place_plan.specs.Plans.Unfolding.{Unfolding, unfold_at, plays_from, tops_from, plan_of}
use Rattle.caa_base.specs.Written.Limits.{most_depth}
use Rattle.place_plan.specs.Drafts.DraftRules.{depth_within, depths_fit, depth_rule}
use Rattle.caa_base.proofs.ListLemmas.{Rises-weaker, member_above}
use Rattle.place_plan.proofs.OnPlans.Passing.{past_end, below_or_not}
use Rattle.place_plan.proofs.OnPlans.Subtrees.{Sits, sits_first, sits_second, sits_all, IsPlaced, IsKnown, RowsRise, IsInstance, AllInstances, both_instances, Fits, has_place, placed_at, all_grow}

-- ---- the plays

module _ (plan : Plan) (d : ℕ) (fits : (a : ℕ) → Fits d plan.actions a) where
  abbrev one : Unfolding
  one = unfold_at d plan.actions

  -- each place of a play is that of a play of the draft: what all of these pass, it passes
  pub tops_placed : (test : PlayRow → Bool) (n : ℕ) (plays : List PlayRow) → list_all test plays ≡ true
      → Sits plan.places n (plays_from one n plays) → (c : ℕ) → member c (tops_from one n plays) ≡ true
      → (play : PlayRow) × (test play ≡ true) × IsPlaced plan c [] play.who 0 (play.action ∷ [])
  tops_placed test n [] h s c m = absurd (false≢true m)
  tops_placed test n (play ∷ plays) h s c m =
      let tree = one play.action play.who [] 0 n in
      let parts = and_parts (test play) (list_all test plays) h in
      elim (or_cases (n == c) _ m) [
        | inl x ↦ (
          play,
          parts.0,
          subst (λ z. IsPlaced plan z [] play.who 0 (play.action ∷ [])) (eqb-true n c x)
              (placed_at plan d play.action play.who [] 0 n (fits play.action) (sits_first plan.places n tree _ s)),
        )
        | inr x ↦ tops_placed test (n + length tree) plays parts.1 (sits_second plan.places n tree _ s) c x
      ]

  pub tops_rise : (n : ℕ) (plays : List PlayRow) → Rises n (tops_from one n plays)
  tops_rise n [] = tt
  tops_rise n (play ∷ plays) =
      let some = has_place d plan.actions play.action play.who [] 0 n (fits play.action) in
      (omega arith, Rises-weaker (suc n) _ _ (omega (arith, some)) (tops_rise (n + length (one play.action play.who [] 0 n)) plays))

  pub tops_few : (n : ℕ) (plays : List PlayRow) → length (tops_from one n plays) ≤ length (plays_from one n plays)
  tops_few n [] = omega arith
  tops_few n (play ∷ plays) =
      let tree = one play.action play.who [] 0 n in
      let some = has_place d plan.actions play.action play.who [] 0 n (fits play.action) in
      omega (arith, some, tops_few (n + length tree) plays, length-append tree (plays_from one (n + length tree) plays))

  pub plays_grow : (n : ℕ) (plays : List PlayRow) → Sits plan.places n (plays_from one n plays)
      → ((c : ℕ) → member c (tops_from one n plays) ≡ true → member c plan.plays ≡ true)
      → AllInstances plan n (length (plays_from one n plays))
  plays_grow n [] s known = λ p l h. absurd (omega arith)
  plays_grow n (play ∷ plays) s known =
      let tree = one play.action play.who [] 0 n in
      let rest = plays_from one (n + length tree) plays in
      both_instances plan n tree rest
      (all_grow plan d play.action play.who [] 0 n (fits play.action) (sits_first plan.places n tree rest s)
      (known n (or_left _ _ (eq-eqb n n refl))))
      (plays_grow (n + length tree) plays (sits_second plan.places n tree rest s) (λ c m. known c (or_right _ _ m)))

-- ---- the depth of all actions

depth_below : (n : ℕ) (actions rest : List ActionRow) → depths_fit n actions rest ≡ true → (i : ℕ) → i < length rest
    → depth_within (suc most_depth) actions (n + i) ≤ most_depth
depth_below n actions [] h i l = absurd (omega arith)
depth_below n actions (a ∷ rest) h zero l =
    rw add-zero (leb-true _ _
    (and_parts (nat_le (depth_within (suc most_depth) actions n) most_depth) (depths_fit (suc n) actions rest) h).0)
depth_below n actions (a ∷ rest) h (suc i) l =
    let same : suc n + i ≡ n + suc i = omega arith in
    subst (λ k. depth_within (suc most_depth) actions k ≤ most_depth) same
    (depth_below (suc n) actions rest
    (and_parts (nat_le (depth_within (suc most_depth) actions n) most_depth) (depths_fit (suc n) actions rest) h).1
    i (omega arith))

no_depth : (actions : List ActionRow) (a : ℕ) → length actions ≤ a → depth_within (suc most_depth) actions a ≤ most_depth
unfolding depth_within
no_depth actions a l = rw (past_end actions a no_action l) (omega arith)

pub all_fit_depth : (draft : Draft) → depth_rule draft ≡ true → (a : ℕ) → Fits most_depth draft.actions a
all_fit_depth draft h a = elim (below_or_not a (length draft.actions)) [
  | inl l ↦
      subst (λ k. depth_within (suc most_depth) draft.actions k ≤ most_depth) (zero-add a)
      (depth_below 0 draft.actions draft.actions h a l)
  | inr l ↦ no_depth draft.actions a l
]

-- ---- the plan

pub record IsUnfolded (draft : Draft) (plan : Plan) : Type 0 where
  -- each place is an instance
  pub instances : (p : ℕ) → p < length plan.places → IsInstance plan p
  -- the plays rise, and there are no more of them than places
  pub rise : Rises 0 plan.plays
  pub few : length plan.plays ≤ length plan.places
  -- each is a play of the draft, and what all of these pass, it passes
  pub plays : (test : PlayRow → Bool) → list_all test draft.plays ≡ true → (p : ℕ) → member p plan.plays ≡ true
      → (play : PlayRow) × (test play ≡ true) × IsPlaced plan p [] play.who 0 (play.action ∷ [])

pub is_unfolded : (draft : Draft) → depth_rule draft ≡ true → IsUnfolded draft (plan_of draft)
is_unfolded draft h =
    let plan = plan_of draft in
    let fits = all_fit_depth draft h in
    let all = sits_all plan.places in
    record {
      instances = λ p l. plays_grow plan most_depth fits 0 draft.plays all (λ c m. m) p (omega arith) (omega arith);
      rise = tops_rise plan most_depth fits 0 draft.plays;
      few = tops_few plan most_depth fits 0 draft.plays;
      plays = λ test k p m. tops_placed plan most_depth fits test 0 draft.plays k all p m;
    }

-- ---- from place to place

-- rows that rise are above the low end, and those of later uses above those of earlier ones
pub rows_above : (low : ℕ) (rows : List (List ℕ)) (k c : ℕ) → RowsRise low rows → member c (slice_index_or rows k []) ≡ true → low ≤ c
rows_above low [] k c h m = absurd (false≢true m)
rows_above low (row ∷ rows) zero c h m = member_above low row c h.2 m
rows_above low (row ∷ rows) (suc k) c h m = omega (arith, h.1, rows_above h.0 rows k c h.4 m)

pub row_rises : (low : ℕ) (rows : List (List ℕ)) (k : ℕ) → RowsRise low rows → Rises 0 (slice_index_or rows k [])
row_rises low [] k h = tt
row_rises low (row ∷ rows) zero h = Rises-weaker 0 low row (omega arith) h.2
row_rises low (row ∷ rows) (suc k) h = row_rises h.0 rows k h.4

pub rows_apart : (low : ℕ) (rows : List (List ℕ)) (k l c d : ℕ) → RowsRise low rows → k < l
    → member c (slice_index_or rows k []) ≡ true → member d (slice_index_or rows l []) ≡ true → c < d
rows_apart low [] k l c d h lt m n = absurd (false≢true m)
rows_apart low (row ∷ rows) k zero c d h lt m n = absurd (omega arith)
rows_apart low (row ∷ rows) zero (suc l) c d h lt m n = omega (arith, h.3 c m, rows_above h.0 rows l d h.4 n)
rows_apart low (row ∷ rows) (suc k) (suc l) c d h lt m n = rows_apart h.0 rows k l c d h.4 (omega arith) m n

-- a place that has others in a use is in the table
pub in_table : (table : List PlaceRow) (p k c : ℕ)
    → member c (slice_index_or (slice_index_or table p no_place).children k []) ≡ true → p < length table
in_table [] p k c m = absurd (false≢true m)
in_table (row ∷ rows) zero k c m = omega arith
in_table (row ∷ rows) (suc p) k c m = omega (arith, in_table rows p k c m)

module _ (draft : Draft) (plan : Plan) (whole : IsUnfolded draft plan) where
  -- a place with one round it is there
  inside_there : (p q : ℕ) (qs : List ℕ) → around plan p ≡ q ∷ qs → p < length plan.places
  inside_there p q qs e =
      elim (below_or_not p (length plan.places)) [
        | inl l ↦ l
        | inr l ↦ let none = ap (λ (row : PlaceRow). row.around) (past_end plan.places p no_place l) in absurd cc
      ]

  -- the place right round p has p among those of its use
  pub known_in : (p q : ℕ) (qs : List ℕ) → around plan p ≡ q ∷ qs → member p (alternates_of plan q (nest_number plan p)) ≡ true
  known_in p q qs e = subst (λ outer. IsKnown plan p outer (nest_number plan p)) e ((whole.instances p (inside_there p q qs e)).known)

  -- the place of a use is right inside, and after it
  pub child_of : (p k c : ℕ) → member c (alternates_of plan p k) ≡ true → IsInstance plan p
  child_of p k c m = whole.instances p (in_table plan.places p k c m)

  pub child_after : (p k c : ℕ) → member c (alternates_of plan p k) ≡ true → p < c
  child_after p k c m = omega (arith, rows_above (suc p) (place_at plan p).children k c (child_of p k c m).rise m)

  -- the places round p are the one right round it and those round that one
  pub chain_of : (p q : ℕ) (qs : List ℕ) → around plan p ≡ q ∷ qs → around plan q ≡ qs
  chain_of p q qs e =
      let known = known_in p q qs e in
      let same = ((child_of q (nest_number plan p) p known).child (nest_number plan p) p known).round in
      cc

  -- what holds of the plays, and of each place of a use where it holds of the place round it, holds of all places
  pub by_parents : (Q : ℕ → Type 0) → ((p : ℕ) → member p plan.plays ≡ true → Q p)
      → ((p k c : ℕ) → Q p → member c (alternates_of plan p k) ≡ true → Q c) → (p : ℕ) → p < length plan.places → Q p
  by_parents Q tops inner p l = below (suc p) p (omega arith) l
    where
      below : (m p : ℕ) → p < m → p < length plan.places → Q p
      below zero p h l = absurd (omega arith)
      below (suc m) p h l = by_round (around plan p) (whole.instances p l).known (below m)
        where
          by_round : (outer : List ℕ) → IsKnown plan p outer (nest_number plan p) → ((q : ℕ) → q < m → q < length plan.places → Q q) → Q p
          by_round [] known ih = tops p known
          by_round (q ∷ qs) known ih =
              inner q (nest_number plan p) p
              (ih q (omega (arith, h, child_after q (nest_number plan p) p known))
              (in_table plan.places q (nest_number plan p) p known)) known
