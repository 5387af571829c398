-- What the unfolding of a draft says of its places, as far as the draft is no deeper than the unfolding goes.
use Rattle.std.proofs.Common.{◌≡◌, ℕ, ◌+◌, ◌<◌, ◌≤◌, ◌==◌, true, false, List, [], ◌∷◌, ◌++◌, length, slice_index_or, slice_get, Some, zero, suc, refl, sym, ap, subst, inl, inr, ◌⊎◌, arith, length-append, add-zero, zero-add}
use Rattle.std.proofs.lemmas.Bool.{or_cases, or_left, or_right, eqb-true, eq-eqb, false≢true}
use Rattle.place_plan.specs.declared.drafts.draft_rows.ActionRow.{ActionRow}
use Rattle.place_plan.specs.declared.drafts.draft_rows.NestRow.{NestRow}
use Rattle.place_plan.specs.Plans.PlanValue.{Plan, PlaceRow}
use Rattle.caa_base.specs.Written.Lists.{member}
use Rattle.caa_base.specs.inner.Lists.{Rises}
use Rattle.place_plan.specs.Plans.Places.{place_at, action_at, action_in, around, roles_of, nest_number, alternates_of, no_action, no_place, no_nest}
use Rattle.place_plan.specs.Plans.Unfolding.{Unfolding, cast_of, alternates_from, numbers_from, use_from, uses_from, children_from, unfold_at}
use Rattle.place_plan.specs.Drafts.DraftRules.{deepest_of, deepest, depth_within}
use Rattle.caa_base.proofs.ListLemmas.{Rises-weaker}
use Rattle.place_plan.proofs.OnPlans.Passing.{below_or_not}

-- ---- rows one after another

-- these rows stand in a table from the number n on
abbrev pub Sits : List PlaceRow → ℕ → List PlaceRow → Type 0
Sits table n [] = Unit {0}
Sits table n (row ∷ rows) = (slice_get table n ≡ Some row) × Sits table (suc n) rows

pub sits_first : (table : List PlaceRow) (n : ℕ) (xs ys : List PlaceRow) → Sits table n (xs ++ ys) → Sits table n xs
sits_first table n [] ys s = tt
sits_first table n (x ∷ xs) ys s = (s.0, sits_first table (suc n) xs ys s.1)

pub sits_second : (table : List PlaceRow) (n : ℕ) (xs ys : List PlaceRow) → Sits table n (xs ++ ys) → Sits table (n + length xs) ys
sits_second table n [] ys s = rw add-zero s
sits_second table n (x ∷ xs) ys s =
    let same : suc n + length xs ≡ n + length (x ∷ xs) = omega arith in
    subst (λ m. Sits table m ys) same (sits_second table (suc n) xs ys s.1)

sits_after : (y : PlaceRow) (table : List PlaceRow) (n : ℕ) (rows : List PlaceRow) → Sits table n rows → Sits (y ∷ table) (suc n) rows
sits_after y table n [] s = tt
sits_after y table n (row ∷ rows) s = (s.0, sits_after y table (suc n) rows s.1)

-- all rows of a table stand in it from 0 on
pub sits_all : (table : List PlaceRow) → Sits table 0 table
sits_all [] = tt
sits_all (row ∷ rows) = (refl, sits_after row rows 0 rows (sits_all rows))

-- a row that is found is that of its number, which is below the end
pub get_is : {A : Type 0} (xs : List A) (n : ℕ) (x d : A) → slice_get xs n ≡ Some x → (slice_index_or xs n d ≡ x) × (n < length xs)
get_is [] n x d h = absurd cc
get_is (y ∷ ys) zero x d h = (cc, omega arith)
get_is (y ∷ ys) (suc n) x d h = let rest = get_is ys n x d h in (rest.0, omega (arith, rest.1))

-- ---- what is said of places

-- the place c has these places round it, is of the use i, is played by these, and is an instance of one of these actions
pub record IsPlaced (plan : Plan) (c : ℕ) (outer who : List ℕ) (i : ℕ) (actions : List ℕ) : Type 0 where
  pub is_there : c < length plan.places
  pub round : around plan c ≡ outer
  pub nest : nest_number plan c ≡ i
  pub cast : roles_of plan c ≡ who
  pub action : member (place_at plan c).action actions ≡ true

-- what stands round the place knows of it: it is of this use of the place right round it, or a play
abbrev pub IsKnown : Plan → ℕ → List ℕ → ℕ → Type 0
IsKnown plan c [] i = member c plan.plays ≡ true
IsKnown plan c (q ∷ qs) i = member c (alternates_of plan q i) ≡ true

-- the rows rise, from low on, and each is above the one before it
abbrev pub RowsRise : ℕ → List (List ℕ) → Type 0
RowsRise low [] = Unit {0}
RowsRise low (row ∷ rows) = (high : ℕ) × (low ≤ high) × Rises low row × ((c : ℕ) → member c row ≡ true → c < high) × RowsRise high rows

-- the use of this number of the action of p
abbrev pub use_of : Plan → ℕ → ℕ → NestRow
use_of plan p k = slice_index_or (action_at plan p).nests k no_nest

pub record IsInstance (plan : Plan) (p : ℕ) : Type 0 where
  -- the place right round p has p among those of its use; where there is none, p is a play
  pub known : IsKnown plan p (around plan p) (nest_number plan p)
  -- the places of its uses rise, and stand after it
  pub rise : RowsRise (suc p) (place_at plan p).children
  -- each place of a use is right inside p, knows its use, is an instance of one of its actions, and is played by its cast
  pub child : (k c : ℕ) → member c (alternates_of plan p k) ≡ true
      → IsPlaced plan c (p ∷ around plan p) (cast_of (roles_of plan p) (use_of plan p k)) k (use_of plan p k).actions
  -- each use has as many places as actions
  pub as_many : (k : ℕ) → length (alternates_of plan p k) ≡ length (use_of plan p k).actions

-- all places from n on, so many, are instances
abbrev pub AllInstances : Plan → ℕ → ℕ → Type 0
AllInstances plan n count = (p : ℕ) → n ≤ p → p < n + count → IsInstance plan p

pub both_instances : (plan : Plan) (n : ℕ) (xs ys : List PlaceRow) → AllInstances plan n (length xs)
    → AllInstances plan (n + length xs) (length ys) → AllInstances plan n (length (xs ++ ys))
both_instances plan n xs ys a b p l h = either (below_or_not p (n + length xs))
  where
    either : (p < n + length xs) ⊎ (n + length xs ≤ p) → IsInstance plan p
    either (inl x) = a p l x
    either (inr x) = b p x (omega (arith, h, length-append xs ys))

-- n, or after it
first_or_later : (n p : ℕ) → n ≤ p → (n ≡ p) ⊎ (suc n ≤ p)
first_or_later zero zero l = inl refl
first_or_later zero (suc p) l = inr (omega arith)
first_or_later (suc n) zero l = absurd (omega arith)
first_or_later (suc n) (suc p) l = elim (first_or_later n p (omega arith)) [ inl e ↦ inl (ap suc e) | inr e ↦ inr (omega arith) ]

-- ---- one place

-- an action that is no deeper than the unfolding goes has a place
abbrev pub Fits : ℕ → List ActionRow → ℕ → Type 0
Fits d actions a = depth_within (suc d) actions a ≤ d

not_bottom : (actions : List ActionRow) (a : ℕ) → Fits 0 actions a → ⊥
unfolding depth_within
not_bottom actions a f = omega arith

pub has_place : (d : ℕ) (actions : List ActionRow) (a : ℕ) (who outer : List ℕ) (i n : ℕ) → Fits d actions a
    → 0 < length (unfold_at d actions a who outer i n)
unfolding unfold_at
has_place zero actions a who outer i n f = absurd (not_bottom actions a f)
has_place (suc d) actions a who outer i n f = omega arith

-- what is nested in it is less deep
less_deep : (d : ℕ) (actions : List ActionRow) (a : ℕ) → Fits (suc d) actions a
    → deepest (depth_within (suc d) actions) (slice_index_or actions a no_action).nests ≤ d
unfolding depth_within
less_deep d actions a f = omega arith

pub placed_at : (plan : Plan) (d : ℕ) (a : ℕ) (who outer : List ℕ) (i n : ℕ) → Fits d plan.actions a
    → Sits plan.places n (unfold_at d plan.actions a who outer i n) → IsPlaced plan n outer who i (a ∷ [])
unfolding unfold_at
placed_at plan zero a who outer i n f s = absurd (not_bottom plan.actions a f)
placed_at plan (suc d) a who outer i n f s =
    let here = get_is plan.places n _ no_place s.0 in
    record {
      is_there = here.1;
      round = ap (λ (row : PlaceRow). row.around) here.0;
      nest = ap (λ (row : PlaceRow). row.nest) here.0;
      cast = ap (λ (row : PlaceRow). row.roles) here.0;
      action = or_left _ _ (eq-eqb _ _ (sym (ap (λ (row : PlaceRow). row.action) here.0)));
    }

wider : (plan : Plan) (c : ℕ) (outer who : List ℕ) (i : ℕ) (acts bs : List ℕ)
    → ((a : ℕ) → member a acts ≡ true → member a bs ≡ true) → IsPlaced plan c outer who i acts
    → IsPlaced plan c outer who i bs
wider plan c outer who i acts bs w p =
    record { is_there = p.is_there; round = p.round; nest = p.nest; cast = p.cast; action = w _ p.action }

-- ---- the alternates of one use, and the uses of one place

module _ (plan : Plan) (d : ℕ) (who outer : List ℕ) where
  abbrev one : Unfolding
  one = unfold_at d plan.actions

  abbrev depth : ℕ → ℕ
  depth = depth_within (suc d) plan.actions

  -- the numbers of the alternates rise, and are below the end
  numbers_rise : (cast : List ℕ) (i n : ℕ) (acts : List ℕ) → deepest_of depth acts ≤ d → Rises n (numbers_from one cast outer i n acts)
  numbers_rise cast i n [] f = tt
  numbers_rise cast i n (a ∷ acts) f =
      let some = has_place d plan.actions a cast outer i n (omega arith) in (
        omega arith,
        Rises-weaker (suc n) _ _ (omega (arith, some))
            (numbers_rise cast i (n + length (one a cast outer i n)) acts (omega arith)),
      )

  numbers_below : (cast : List ℕ) (i n : ℕ) (acts : List ℕ) → deepest_of depth acts ≤ d → (c : ℕ)
      → member c (numbers_from one cast outer i n acts) ≡ true
      → c < n + length (alternates_from one cast outer i n acts)
  numbers_below cast i n [] f c m = absurd (false≢true m)
  numbers_below cast i n (a ∷ acts) f c m =
      let tree = one a cast outer i n in
      let some = has_place d plan.actions a cast outer i n (omega arith) in
      let both = length-append tree (alternates_from one cast outer i (n + length tree) acts) in
      elim (or_cases (n == c) _ m) [
        | inl x ↦ omega (arith, some, both, eqb-true n c x)
        | inr x ↦ omega (arith, both, numbers_below cast i (n + length tree) acts (omega arith) c x)
      ]

  rows_rise : (i n : ℕ) (nests : List NestRow) → deepest depth nests ≤ d → RowsRise n (children_from one who outer i n nests)
  rows_rise i n [] f = tt
  rows_rise i n (nest ∷ nests) f =
      let trees = use_from one who outer i n nest in (
        n + length trees,
        omega arith,
        numbers_rise (cast_of who nest) i n nest.actions (omega arith),
        numbers_below (cast_of who nest) i n nest.actions (omega arith),
        rows_rise (suc i) (n + length trees) nests (omega arith),
      )

  alternates_placed : (cast : List ℕ) (i n : ℕ) (acts : List ℕ) → deepest_of depth acts ≤ d
      → Sits plan.places n (alternates_from one cast outer i n acts) → (c : ℕ)
      → member c (numbers_from one cast outer i n acts) ≡ true → IsPlaced plan c outer cast i acts
  alternates_placed cast i n [] f s c m = absurd (false≢true m)
  alternates_placed cast i n (a ∷ acts) f s c m =
      let tree = one a cast outer i n in
      let rest = alternates_from one cast outer i (n + length tree) acts in
      elim (or_cases (n == c) _ m) [
        | inl x ↦
            subst (λ z. IsPlaced plan z outer cast i (a ∷ acts)) (eqb-true n c x)
            (wider plan n outer cast i (a ∷ []) (a ∷ acts) (first a acts)
            (placed_at plan d a cast outer i n (omega arith) (sits_first plan.places n tree rest s)))
        | inr x ↦
            wider plan c outer cast i acts (a ∷ acts) (λ b h. or_right _ _ h)
            (alternates_placed cast i (n + length tree) acts (omega arith) (sits_second plan.places n tree rest s) c x)
      ]
    where
      first : (a : ℕ) (acts : List ℕ) (b : ℕ) → member b (a ∷ []) ≡ true → member b (a ∷ acts) ≡ true
      first a acts b h = elim (or_cases (a == b) false h) [ inl x ↦ or_left _ _ x | inr x ↦ absurd (false≢true x) ]

  children_placed : (i n : ℕ) (nests : List NestRow) → deepest depth nests ≤ d
      → Sits plan.places n (uses_from one who outer i n nests) → (k c : ℕ)
      → member c (slice_index_or (children_from one who outer i n nests) k []) ≡ true
      → IsPlaced plan c outer (cast_of who (slice_index_or nests k no_nest)) (i + k)
      (slice_index_or nests k no_nest).actions
  children_placed i n [] f s k c m = absurd (false≢true m)
  children_placed i n (nest ∷ nests) f s zero c m =
      rw add-zero (alternates_placed (cast_of who nest) i n nest.actions (omega arith)
      (sits_first plan.places n (use_from one who outer i n nest) _ s) c m)
  children_placed i n (nest ∷ nests) f s (suc k) c m =
      let trees = use_from one who outer i n nest in
      let same : suc i + k ≡ i + suc k = omega arith in
      subst (λ z. IsPlaced plan c outer (cast_of who (slice_index_or nests k no_nest)) z (slice_index_or nests k no_nest).actions) same
      (children_placed (suc i) (n + length trees) nests (omega arith) (sits_second plan.places n trees _ s) k c m)

  numbers_many : (cast : List ℕ) (i n : ℕ) (acts : List ℕ) → length (numbers_from one cast outer i n acts) ≡ length acts
  numbers_many cast i n [] = refl
  numbers_many cast i n (a ∷ acts) = ap suc (numbers_many cast i (n + length (one a cast outer i n)) acts)

  children_many : (i n : ℕ) (nests : List NestRow) (k : ℕ)
      → length (slice_index_or (children_from one who outer i n nests) k [])
      ≡ length (slice_index_or nests k no_nest).actions
  children_many i n [] k = refl
  children_many i n (nest ∷ nests) zero = numbers_many (cast_of who nest) i n nest.actions
  children_many i n (nest ∷ nests) (suc k) = children_many (suc i) (n + length (use_from one who outer i n nest)) nests k

  -- where each subtree consists of instances, the alternates of a use do, and so all that is nested in a place
  abbrev Grows : Type 0
  Grows =
      (a : ℕ) (who outer : List ℕ) (i n : ℕ) → Fits d plan.actions a → Sits plan.places n (one a who outer i n)
      → IsKnown plan n outer i → AllInstances plan n (length (one a who outer i n))

  alternates_grow : Grows → (cast : List ℕ) (i n : ℕ) (acts : List ℕ) → deepest_of depth acts ≤ d
      → Sits plan.places n (alternates_from one cast outer i n acts)
      → ((c : ℕ) → member c (numbers_from one cast outer i n acts) ≡ true → IsKnown plan c outer i)
      → AllInstances plan n (length (alternates_from one cast outer i n acts))
  alternates_grow grows cast i n [] f s known = λ p l h. absurd (omega arith)
  alternates_grow grows cast i n (a ∷ acts) f s known =
      let tree = one a cast outer i n in
      let rest = alternates_from one cast outer i (n + length tree) acts in
      both_instances plan n tree rest
      (grows a cast outer i n (omega arith) (sits_first plan.places n tree rest s) (known n (or_left _ _ (eq-eqb n n refl))))
      (alternates_grow grows cast i (n + length tree) acts (omega arith) (sits_second plan.places n tree rest s)
      (λ c m. known c (or_right _ _ m)))

  uses_grow : Grows → (i n : ℕ) (nests : List NestRow) → deepest depth nests ≤ d
      → Sits plan.places n (uses_from one who outer i n nests)
      → ((k c : ℕ) → member c (slice_index_or (children_from one who outer i n nests) k []) ≡ true
      → IsKnown plan c outer (i + k)) → AllInstances plan n (length (uses_from one who outer i n nests))
  uses_grow grows i n [] f s known = λ p l h. absurd (omega arith)
  uses_grow grows i n (nest ∷ nests) f s known =
      let trees = use_from one who outer i n nest in
      let rest = uses_from one who outer (suc i) (n + length trees) nests in
      both_instances plan n trees rest
      (alternates_grow grows (cast_of who nest) i n nest.actions (omega arith) (sits_first plan.places n trees rest s)
      (λ c m. subst (IsKnown plan c outer) (zero_more i) (known 0 c m)))
      (uses_grow grows (suc i) (n + length trees) nests (omega arith) (sits_second plan.places n trees rest s)
      (λ k c m. subst (IsKnown plan c outer) (one_more i k) (known (suc k) c m)))
    where
      zero_more : (i : ℕ) → i + 0 ≡ i
      zero_more i = omega arith

      one_more : (i k : ℕ) → i + suc k ≡ suc i + k
      one_more i k = omega arith

-- ---- a whole subtree

-- the place of a subtree is an instance, where what stands round it knows of it
instance_at : (plan : Plan) (d : ℕ) (a : ℕ) (who outer : List ℕ) (i n : ℕ) → Fits (suc d) plan.actions a
    → Sits plan.places n (unfold_at (suc d) plan.actions a who outer i n) → IsKnown plan n outer i → IsInstance plan n
unfolding unfold_at
instance_at plan d a who outer i n f s known =
    let row = place_at plan n in
    let nests = (slice_index_or plan.actions a no_action).nests in
    let here = get_is plan.places n _ no_place s.0 in
    let fit = less_deep d plan.actions a f in
    let next : suc n ≡ n + 1 = omega arith in
    let inner = subst (λ m. Sits plan.places m (uses_from (unfold_at d plan.actions) who (n ∷ outer) 0 (n + 1) nests)) next s.1 in
    let children : row.children ≡ children_from (unfold_at d plan.actions) who (n ∷ outer) 0 (n + 1) nests =
    ap (λ (r : PlaceRow). r.children) here.0 in
    let round : around plan n ≡ outer = ap (λ (r : PlaceRow). r.around) here.0 in
    let cast : roles_of plan n ≡ who = ap (λ (r : PlaceRow). r.roles) here.0 in
    let same_uses : (action_at plan n).nests ≡ nests = ap (λ o. (action_in plan o).nests) s.0 in
    record {
      known =
          subst (λ o. IsKnown plan n o (nest_number plan n)) (sym round)
          (subst (IsKnown plan n outer) (sym (ap (λ (r : PlaceRow). r.nest) here.0)) known);
      rise =
          subst (RowsRise (suc n)) (sym children)
          (subst (λ m. RowsRise m (children_from (unfold_at d plan.actions) who (n ∷ outer) 0 (n + 1) nests)) (sym next)
          (rows_rise plan d who (n ∷ outer) 0 (n + 1) nests fit));
      child = λ k c m.
          let placed =
          children_placed plan d who (n ∷ outer) 0 (n + 1) nests fit inner k c
          (subst (λ rows. member c (slice_index_or rows k []) ≡ true) children m) in
          rw (round, cast, same_uses)
          (subst (λ z. IsPlaced plan c (n ∷ outer) (cast_of who (slice_index_or nests k no_nest)) z
          (slice_index_or nests k no_nest).actions) (zero-add k) placed);
      as_many = λ k. rw (children, same_uses) (children_many plan d who (n ∷ outer) 0 (n + 1) nests k);
    }

pub all_grow : (plan : Plan) (d : ℕ) (a : ℕ) (who outer : List ℕ) (i n : ℕ) → Fits d plan.actions a
    → Sits plan.places n (unfold_at d plan.actions a who outer i n) → IsKnown plan n outer i
    → AllInstances plan n (length (unfold_at d plan.actions a who outer i n))
unfolding unfold_at
all_grow plan zero a who outer i n f s known = absurd (not_bottom plan.actions a f)
all_grow plan (suc d) a who outer i n f s known =
    let nests = (slice_index_or plan.actions a no_action).nests in
    let here = get_is plan.places n _ no_place s.0 in
    let fit = less_deep d plan.actions a f in
    let next : suc n ≡ n + 1 = omega arith in
    let inner = subst (λ m. Sits plan.places m (uses_from (unfold_at d plan.actions) who (n ∷ outer) 0 (n + 1) nests)) next s.1 in
    let children : (place_at plan n).children
    ≡ children_from (unfold_at d plan.actions) who (n ∷ outer) 0 (n + 1) nests =
    ap (λ (r : PlaceRow). r.children) here.0 in
    let nested =
    uses_grow plan d who (n ∷ outer) (all_grow plan d) 0 (n + 1) nests fit inner
    (λ k c m. subst (λ z. member c (alternates_of plan n z) ≡ true) (sym (zero-add k))
    (subst (λ rows. member c (slice_index_or rows k []) ≡ true) (sym children) m)) in
    λ p l h. elim (first_or_later n p l) [
      | inl e ↦ subst (IsInstance plan) e (instance_at plan d a who outer i n f s known)
      | inr e ↦ nested p (omega arith) (omega (arith, h))
    ]
