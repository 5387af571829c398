-- One step of the unfolding, and how the places that a walk has made grow into those of the whole.
use Rattle.std.proofs.Common.{◌≡◌, ℕ, not, true, ◌+◌, ◌-◌, ◌<◌, ◌≤◌, List, [], ◌∷◌, ◌++◌, length, drop, get_or, slice_index_or, slice_set, zero, suc, refl, sym, ap, ap₂, ◌∙◌, arith, add-one, append-nil, length-append}
use Rattle.std.proofs.lemmas.Bool.{and_parts, leb-true}
use Rattle.std.proofs.lemmas.List.{append_assoc, drop_more}
use Rattle.std.proofs.Math.Seq.{drop-cons, set-append_seam}
use Rattle.caa_base.specs.Written.Limits.{most_alternates, most_places}
use Rattle.caa_base.specs.Written.Lists.{is_empty}
use Rattle.place_plan.specs.declared.drafts.draft_rows.ActionRow.{ActionRow}
use Rattle.place_plan.specs.declared.drafts.draft_rows.NestRow.{NestRow}
use Rattle.place_plan.specs.declared.drafts.draft_rows.PlayRow.{PlayRow}
use Rattle.place_plan.specs.Plans.PlanValue.{PlaceRow}
use Rattle.place_plan.specs.Plans.Places.{no_action, no_place}
use Rattle.place_plan.specs.Plans.Unfolding.{Unfolding, cast_of, alternates_from, numbers_from, use_from, uses_from, children_from, unfold_at, plays_from}
use Rattle.place_plan.specs.Drafts.DraftRules.{nest_fits}
use Rattle.place_plan.specs.inner.Unfolded.{bare_place, with_children}

pub at_bottom : (actions : List ActionRow) (a : ℕ) (who outer : List ℕ) (i n : ℕ) → unfold_at 0 actions a who outer i n ≡ []
unfolding unfold_at
at_bottom actions a who outer i n = refl

-- the place of an instance with the numbers of its uses
abbrev pub full_place : ℕ → List ℕ → List ℕ → ℕ → List (List ℕ) → PlaceRow
full_place a who outer i children = record { around = outer; nest = i; action = a; roles = who; children = children }

opened : (d : ℕ) (actions : List ActionRow) (a : ℕ) (who outer : List ℕ) (i n : ℕ)
    → unfold_at (suc d) actions a who outer i n
    ≡ full_place a who outer i
    (children_from (unfold_at d actions) who (n ∷ outer) 0 (n + 1)
    (slice_index_or actions a no_action).nests) ∷ uses_from (unfold_at d actions) who (n ∷ outer) 0 (n + 1)
    (slice_index_or actions a no_action).nests
unfolding unfold_at
opened d actions a who outer i n = refl

pub one_level : (d : ℕ) (actions : List ActionRow) (a : ℕ) (who outer : List ℕ) (i n : ℕ) → 0 < d
    → unfold_at d actions a who outer i n
    ≡ full_place a who outer i
    (children_from (unfold_at (d - 1) actions) who (n ∷ outer) 0 (n + 1)
    (slice_index_or actions a no_action).nests) ∷ uses_from (unfold_at (d - 1) actions) who (n ∷ outer) 0 (n + 1)
    (slice_index_or actions a no_action).nests
one_level zero actions a who outer i n l = absurd (omega arith)
one_level (suc d) actions a who outer i n l =
    let same : suc d - 1 ≡ d = omega arith in
    rw same (opened d actions a who outer i n)

drop_past : {A : Type 0} (xs : List A) (k : ℕ) → length xs ≤ k → drop k xs ≡ []
drop_past [] zero l = refl
drop_past [] (suc k) l = refl
drop_past (x ∷ xs) zero l = absurd (omega arith)
drop_past (x ∷ xs) (suc k) l = drop_past xs k (omega arith)

get_seam : (xs : List PlaceRow) (y : PlaceRow) (ys : List PlaceRow) (d : PlaceRow) → get_or (xs ++ y ∷ ys) (length xs) d ≡ y
get_seam [] y ys d = refl
get_seam (x ∷ xs) y ys d = get_seam xs y ys d

-- a use has few alternates
pub few_in_use : (nest : NestRow) → nest_fits nest ≡ true → length nest.actions ≤ most_alternates
few_in_use nest h = leb-true _ _ (and_parts (not (is_empty nest.actions)) _ h).1

-- ---- the walk over the uses of a place

module _ (d : ℕ) (actions : List ActionRow) (a : ℕ) (who around outer : List ℕ) (i : ℕ) (old places : List PlaceRow)
    (nests : List NestRow) (k : ℕ) where
  abbrev one : Unfolding
  one = unfold_at (d - 1) actions

  abbrev uses_of_place : List PlaceRow
  uses_of_place = uses_from one who outer 0 (length old + 1) nests

  -- what the walk keeps of the places
  abbrev pub Rows : Type 0
  Rows = places ++ uses_from one who outer k (length places) (drop k nests) ≡ old ++ bare_place a who around i ∷ uses_of_place

  whole : 0 < d → outer ≡ length old ∷ around → nests ≡ (slice_index_or actions a no_action).nests
      → unfold_at d actions a who around i (length old)
      ≡ full_place a who around i (children_from one who outer 0 (length old + 1) nests) ∷ uses_of_place
  whole l o ns =
      one_level d actions a who around i (length old) l
      ∙ ap₂ (λ o ns. full_place a who around i (children_from one who o 0 (length old + 1) ns) ∷ uses_from one who o 0
      (length old + 1) ns) (sym o) (sym ns)

  -- there is room for the places of the next use
  pub use_fits : 0 < d → outer ≡ length old ∷ around → nests ≡ (slice_index_or actions a no_action).nests
      → k < length nests → Rows → length old + length (unfold_at d actions a who around i (length old)) ≤ most_places
      → (used : NestRow) → used ≡ get_or nests k used
      → length places + length (use_from one who outer k (length places) used) ≤ most_places
  use_fits l o ns lt rows few used e =
      let step : uses_from one who outer k (length places) (drop k nests)
      ≡ use_from one who outer k (length places) used
      ++ uses_from one who outer (suc k) (length places + length (use_from one who outer k (length places) used))
      (drop (suc k) nests) =
      ap (uses_from one who outer k (length places)) (drop-cons nests k used lt ∙ ap (λ n. n ∷ drop (suc k) nests) (sym e)) in
      omega (
        arith,
        ap length rows,
        length-append places (uses_from one who outer k (length places) (drop k nests)),
        length-append old (bare_place a who around i ∷ uses_of_place),
        ap length step,
        length-append (use_from one who outer k (length places) used)
            (uses_from one who outer (suc k) (length places + length (use_from one who outer k (length places) used))
            (drop (suc k) nests)),
        few,
        ap length (whole l o ns),
      )

  -- at its end, with the numbers written into the row of the place, all places of the instance stand there
  pub all_stand : 0 < d → outer ≡ length old ∷ around → nests ≡ (slice_index_or actions a no_action).nests
      → length nests ≤ k → Rows → (children : List (List ℕ))
      → children ++ children_from one who outer k (length places) (drop k nests)
      ≡ children_from one who outer 0 (length old + 1) nests
      → slice_set places (length old) (with_children children (slice_index_or places (length old) no_place)) ≡ old
      ++ unfold_at d actions a who around i (length old)
  all_stand l o ns lt rows children numbers =
      let none = drop_past nests k lt in
      let stand : places ≡ old ++ bare_place a who around i ∷ uses_of_place =
      sym (append-nil places) ∙ ap (λ rest. places ++ uses_from one who outer k (length places) rest) (sym none) ∙ rows in
      let named : children ≡ children_from one who outer 0 (length old + 1) nests =
      sym (append-nil children) ∙ ap (λ rest. children ++ children_from one who outer k (length places) rest) (sym none) ∙ numbers in
      let here : slice_index_or places (length old) no_place ≡ bare_place a who around i =
      ap (λ rows. slice_index_or rows (length old) no_place) stand
      ∙ get_seam old (bare_place a who around i) uses_of_place no_place in
      ap (λ row. slice_set places (length old) (with_children children row)) here
      ∙ ap₂ (λ rows numbers. slice_set rows (length old) (full_place a who around i numbers)) stand named
      ∙ set-append_seam old (bare_place a who around i) uses_of_place
      (full_place a who around i (children_from one who outer 0 (length old + 1) nests))
      ∙ ap (λ rows. old ++ rows) (sym (whole l o ns))

-- one use more: its places came behind the others, and the numbers of its alternates behind those of the uses before it
module _ (one : Unfolding) (who outer : List ℕ) (places now : List PlaceRow) (nests : List NestRow) (k : ℕ) (used : NestRow)
    (lt : k < length nests) (e : used ≡ get_or nests k used)
    (is : now ≡ places ++ use_from one who outer k (length places) used) where
  abbrev trees : List PlaceRow
  trees = use_from one who outer k (length places) used

  abbrev rest : List NestRow
  rest = drop (k + 1) nests

  left : drop k nests ≡ used ∷ rest
  left = drop_more nests k used lt ∙ ap (λ n. n ∷ rest) (sym e)

  further : length now ≡ length places + length trees
  further = ap length is ∙ length-append places trees

  pub next_rows : now ++ uses_from one who outer (k + 1) (length now) rest
      ≡ places ++ uses_from one who outer k (length places) (drop k nests)
  next_rows =
      ap₂ (λ rows n. rows ++ uses_from one who outer (k + 1) n rest) is further
      ∙ append_assoc places trees (uses_from one who outer (k + 1) (length places + length trees) rest)
      ∙ ap (λ j. places ++ (trees ++ uses_from one who outer j (length places + length trees) rest)) (add-one k)
      ∙ sym (ap (λ ns. places ++ uses_from one who outer k (length places) ns) left)

  pub next_numbers : (children : List (List ℕ)) (row : List ℕ)
      → row ≡ numbers_from one (cast_of who used) outer k (length places) used.actions
      → (children ++ row ∷ []) ++ children_from one who outer (k + 1) (length now) rest
      ≡ children ++ children_from one who outer k (length places) (drop k nests)
  next_numbers children row r =
      append_assoc children (row ∷ []) (children_from one who outer (k + 1) (length now) rest)
      ∙ ap₂ (λ numbers n. children ++ (numbers ∷ children_from one who outer (k + 1) n rest)) r further
      ∙ ap (λ j. children ++ (numbers_from one (cast_of who used) outer k (length places) used.actions
      ∷ children_from one who outer j (length places + length trees) rest)) (add-one k)
      ∙ sym (ap (λ ns. children ++ children_from one who outer k (length places) ns) left)

-- an instance without nested uses is its place alone
pub stands_alone : (d : ℕ) (actions : List ActionRow) (a : ℕ) (who around : List ℕ) (i : ℕ) (old : List PlaceRow)
    → 0 < d → (slice_index_or actions a no_action).nests ≡ []
    → old ++ bare_place a who around i ∷ [] ≡ old ++ unfold_at d actions a who around i (length old)
stands_alone d actions a who around i old deep none =
    ap (λ rows. old ++ rows) (sym (rw none at (one_level d actions a who around i (length old) deep)))

-- ---- the walk over the actions of a use

module _ (one : Unfolding) (cast around : List ℕ) (i : ℕ) (old places : List PlaceRow) (acts : List ℕ) (k : ℕ)
    (rows : places ++ alternates_from one cast around i (length places) (drop k acts) ≡ old
    ++ alternates_from one cast around i (length old) acts)
    (few : length old + length (alternates_from one cast around i (length old) acts) ≤ most_places) where
  pub number_fits : length places ≤ most_places
  number_fits =
      omega (
        arith,
        ap length rows,
        length-append places (alternates_from one cast around i (length places) (drop k acts)),
        length-append old (alternates_from one cast around i (length old) acts),
        few,
      )

  pub alternate_fits : k < length acts → length places + length (one (get_or acts k 0) cast around i (length places)) ≤ most_places
  alternate_fits lt =
      let tree = one (get_or acts k 0) cast around i (length places) in
      let step : alternates_from one cast around i (length places) (drop k acts) ≡ tree
      ++ alternates_from one cast around i (length places + length tree) (drop (suc k) acts) =
      ap (alternates_from one cast around i (length places)) (drop-cons acts k 0 lt) in
      omega (
        arith,
        ap length rows,
        length-append places (alternates_from one cast around i (length places) (drop k acts)),
        length-append old (alternates_from one cast around i (length old) acts),
        few,
        ap length step,
        length-append tree (alternates_from one cast around i (length places + length tree) (drop (suc k) acts)),
      )

-- ---- the walk over the plays

module _ (one : Unfolding) (places : List PlaceRow) (plays : List PlayRow) (k : ℕ)
    (rows : places ++ plays_from one (length places) (drop k plays) ≡ plays_from one 0 plays)
    (few : length (plays_from one 0 plays) ≤ most_places) where
  pub top_fits : length places ≤ most_places
  top_fits = omega (arith, ap length rows, length-append places (plays_from one (length places) (drop k plays)), few)

  pub play_fits : k < length plays → (play : PlayRow) → play ≡ get_or plays k play
      → length places + length (one play.action play.who [] 0 (length places)) ≤ most_places
  play_fits lt play e =
      let tree = one play.action play.who [] 0 (length places) in
      let step : plays_from one (length places) (drop k plays) ≡ tree
      ++ plays_from one (length places + length tree) (drop (suc k) plays) =
      ap (plays_from one (length places)) (drop-cons plays k play lt ∙ ap (λ p. p ∷ drop (suc k) plays) (sym e)) in
      omega (
        arith,
        ap length rows,
        length-append places (plays_from one (length places) (drop k plays)),
        few,
        ap length step,
        length-append tree (plays_from one (length places + length tree) (drop (suc k) plays)),
      )
