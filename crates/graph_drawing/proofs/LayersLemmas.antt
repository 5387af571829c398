-- Lemmas on the layers of a graph.
use Rattle.std.proofs.Common.{◌≡◌, ℕ, ◌+◌, ◌<◌, ◌≤◌, ◌==◌, nat_lt, Bool, true, false, not, cond, List, length, get_or, refl, ap, ◌∙◌, inl, inr, arith}
use Rattle.std.specs.Prelude.{slice_index, ◌&&◌, if◌then◌else◌}
use Rattle.std.specs.List.{All, Contains, list_any, count_by}
use Rattle.std.proofs.lemmas.Bool.{ltb-true}
use Rattle.std.proofs.lemmas.List.Elements.{All-contains}
use Rattle.std.proofs.lemmas.List.Sums.{get_or-le-sum_by}
use Rattle.std.proofs.lemmas.Grind.{common_steps}
use Rattle.std.proofs.lemmas.List.Folds.{Any-from_list_any, list_any_at}
use Rattle.graph_drawing.specs.declared.edges.Edge.{Edge}
use Rattle.graph_drawing.specs.Layers.{IsWithin, MayGoDown, HasRing, unset, holds_back, is_free, next_layer}

-- a test of two parts that holds has both
pub both : (a b : Bool) → (a && not b) ≡ true → (a ≡ true) × (b ≡ false)
both true true h = absurd (cc)
both true false h = (refl, refl)
both false b h = absurd (cc)

-- the same with no negation
pub two : (a b : Bool) → (a && b) ≡ true → (a ≡ true) × (b ≡ true)
two true b h = (refl, h)
two false b h = absurd (cc)

-- where such a test fails though its first part holds
pub other : (a b : Bool) → (a && not b) ≡ false → a ≡ true → b ≡ true
other true true h k = refl
other true false h k = absurd (cc)
other false b h k = absurd (cc)

-- what a test that holds counts
taken : (b : Bool) → b ≡ true → 1 ≤ cond {A = ℕ} b 1 0
taken true h = omega arith
taken false h = absurd (cc)

-- one node more has a layer
pub fewer_unset : (b : Bool) (now was old settled count : ℕ) → b ≡ true → now + (if b then 1 else 0) ≤ was → was ≡ old
    → old + settled ≤ count → now + (settled + 1) ≤ count
fewer_unset true now was old settled count h less same few = omega arith
fewer_unset false now was old settled count h less same few = absurd (cc)

-- one that passes a test is counted
pub some_counted : (p : ℕ → Bool) (xs : List ℕ) (i d : ℕ) → i < length xs → p (get_or xs i d) ≡ true → 1 ≤ count_by p xs
some_counted p xs i d h t =
    let least = get_or-le-sum_by (λ x. cond (p x) 1 0) xs i d h in
    let one = taken (p (get_or xs i d)) t in
    omega (arith, least, one)

-- what is equal by the test is equal
pub same_by_test : (a b : ℕ) → (a == b) ≡ true → a ≡ b
same_by_test a b h = grind (arith, common_steps)

-- a free node has no layer yet
free_is_unset : (layers : List ℕ) (edges : List Edge) (n : ℕ) → is_free layers edges n ≡ true → slice_index layers n ≡ 0
free_is_unset layers edges n f =
    same_by_test _ _ (both (slice_index layers n == 0) (list_any (holds_back layers n) edges) f).0

-- each node above a free one has a layer
above_is_set : (layers : List ℕ) (edges : List Edge) (k : ℕ) (d : Edge) → k < length edges
    → is_free layers edges (get_or edges k d).lower ≡ true → 0 < slice_index layers (get_or edges k d).upper
above_is_set layers edges k d h f =
    let e = get_or edges k d in
    let none = (both (slice_index layers e.lower == 0) (list_any (holds_back layers e.lower) edges) f).1 in
    let here = list_any_at (holds_back layers e.lower) edges k d h in
    grind (arith, common_steps, none, here)

-- what a round makes of a node with a layer
set_stays : (layers : List ℕ) (edges : List Edge) (layer n : ℕ) → 0 < slice_index layers n
    → next_layer layers edges layer n ≡ slice_index layers n
set_stays layers edges layer n pos =
    elim (is_free layers edges n) as (λ b. is_free layers edges n ≡ b → (if b then layer else slice_index layers n) ≡ slice_index layers n)
    [ true ↦ λ f. absurd (omega (arith, free_is_unset layers edges n f)) | false ↦ λ f. refl ] refl

-- a round keeps each edge from leading up
pub keeps_down : (layers next : List ℕ) (edges : List Edge) (layer count : ℕ) → 0 < layer → length layers ≡ count
    → ((n : ℕ) → n < count → slice_index layers n < layer)
    → ((n : ℕ) → n < count → slice_index next n ≡ next_layer layers edges layer n)
    → All (IsWithin count) edges → All (MayGoDown layers) edges → All (MayGoDown next) edges
keeps_down layers next edges layer count pos size below each within kept k d h =
    let e = get_or edges k d in
    let upper = each e.upper (within k d h).0 in
    let lower = each e.lower (within k d h).1 in
    let bound = below e.upper (within k d h).0 in
    elim (is_free layers edges e.lower) as (λ b. is_free layers edges e.lower ≡ b → MayGoDown next e) [
      | true ↦ λ f.
          let set = above_is_set layers edges k d h f in
          let up = set_stays layers edges layer e.upper set in
          let low : slice_index next e.lower ≡ layer = lower ∙ ap (λ b. if b then layer else slice_index layers e.lower) f in
          inr (omega arith, omega arith)
      | false ↦ λ f.
          let low : slice_index next e.lower ≡ slice_index layers e.lower = lower ∙ ap (λ b. if b then layer else slice_index layers e.lower) f in
          elim (kept k d h) as (λ _. MayGoDown next e) [
            | inl z ↦ inl (low ∙ z)
            | inr g ↦ let up = set_stays layers edges layer e.upper g.0 in inr (omega arith, omega arith)
          ]
    ] refl

-- no node is without a layer
pub all_set : (layers : List ℕ) (n : ℕ) → unset layers ≡ 0 → n < length layers → slice_index layers n ≡ 0 → ⊥
all_set layers n none h z =
    let one = some_counted (λ l. l == 0) layers n 0 h (ap (λ l. l == 0) z) in omega arith

-- some edge to a node that isn't free and has no layer leads from a node without one
held_by : (layers : List ℕ) (edges : List Edge) (n : ℕ) → is_free layers edges n ≡ false → slice_index layers n ≡ 0
    → (e : Edge) × (Contains edges e × (e.lower ≡ n) × (slice_index layers e.upper ≡ 0))
held_by layers edges n f z =
    let holds : list_any (holds_back layers n) edges ≡ true = other (slice_index layers n == 0) (list_any (holds_back layers n) edges) f (ap (λ l. l == 0) z) in
    let found = Any-from_list_any (holds_back layers n) edges holds in
    let parts = two (found.1.lower == n) (slice_index layers found.1.upper == 0) found.4 in
    (found.1, ((found.0, found.2, found.3), same_by_test _ _ parts.0, same_by_test _ _ parts.1))

-- the nodes without a layer, once none is free
pub ring_of : (layers : List ℕ) (edges : List Edge) (some : ℕ) → All (IsWithin (length layers)) edges
    → ((n : ℕ) → n < length layers → is_free layers edges n ≡ false)
    → some < length layers → slice_index layers some ≡ 0 → HasRing edges
ring_of layers edges some within stuck h z = record {
  among = λ n. nat_lt n (length layers) && (slice_index layers n == 0);
  some = some;
  is_one = grind (arith, common_steps);
  below = λ n is.
      let parts = two (nat_lt n (length layers)) (slice_index layers n == 0) is in
      let found = held_by layers edges n (stuck n (ltb-true _ _ parts.0)) (same_by_test _ _ parts.1) in
      let inside = (All-contains (IsWithin (length layers)) edges found.0 within found.1.0).0 in
      let unset' = found.1.2 in
      let is_among : (nat_lt found.0.upper (length layers) && (slice_index layers found.0.upper == 0)) ≡ true = grind (arith, common_steps) in
      (found.0, (found.1.0, found.1.1, is_among));
}

-- no layer is lower than the last that was given
pub next_below : (layers next : List ℕ) (edges : List Edge) (layer count : ℕ)
    → ((n : ℕ) → n < count → slice_index layers n < layer)
    → ((n : ℕ) → n < count → slice_index next n ≡ next_layer layers edges layer n)
    → (n : ℕ) → n < count → slice_index next n < layer + 1
next_below layers next edges layer count below each n h =
    let was = below n h in
    let is = each n h in
    elim (is_free layers edges n) as (λ b. is_free layers edges n ≡ b → slice_index next n < layer + 1) [
      | true ↦ λ f.
          let now : slice_index next n ≡ layer = is ∙ ap (λ b. if b then layer else slice_index layers n) f in omega arith
      | false ↦ λ f.
          let now : slice_index next n ≡ slice_index layers n = is ∙ ap (λ b. if b then layer else slice_index layers n) f in omega arith
    ] refl

-- where each node has a layer, none is free
pub none_free : (layers : List ℕ) (edges : List Edge) → unset layers ≡ 0 → (n : ℕ) → n < length layers → is_free layers edges n ≡ false
none_free layers edges none n h =
    elim (is_free layers edges n) as (λ b. is_free layers edges n ≡ b → b ≡ false)
    [ true ↦ λ f. absurd (all_set layers n none h (free_is_unset layers edges n f)) | false ↦ λ f. refl ] refl
