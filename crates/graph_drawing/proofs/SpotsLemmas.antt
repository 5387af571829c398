-- Lemmas on the spots of the nodes of a graph.
use Rattle.std.proofs.Common.{◌≡◌, ℕ, suc, ◌+◌, ◌*◌, ◌^◌, ◌<◌, ◌≤◌, nat_lt, Bool, true, false, List, [], ◌∷◌, ◌++◌, length, get_or, take, map, refl, ap, sym, ◌∙◌, subst, arith, length-append}
use Rattle.std.specs.Prelude.{slice_index_or, slice_index}
use Rattle.std.proofs.lemmas.Bool.{ltb-true, ltb-false}
use Rattle.std.proofs.lemmas.List.{get_or_append_left, map-append, take_more}
use Rattle.std.proofs.Math.Seq.{get_or-append_seam}
use Rattle.graph_drawing.specs.declared.spots.Spot.{Spot}
use Rattle.graph_drawing.specs.Spots.{end_at, EndsBy, AreApart}

-- what holds of each spot before and of one more holds of each
each_more : (P : ℕ → Spot → Type 0) (spots : List Spot) (s d : Spot)
    → ((k : ℕ) → k < length spots → P k (get_or spots k d)) → P (length spots) s
    → (k : ℕ) → k < length (spots ++ s ∷ []) → P k (get_or (spots ++ s ∷ []) k d)
each_more P spots s d before last k inside =
    elim (nat_lt k (length spots)) as (λ t. nat_lt k (length spots) ≡ t → P k (get_or (spots ++ s ∷ []) k d)) [
      | true ↦ λ t.
          let lt = ltb-true k (length spots) t in
          subst (P k) (sym (get_or_append_left spots (s ∷ []) d k lt)) (before k lt)
      | false ↦ λ t.
          let at : length spots ≡ k = omega (arith, ltb-false k (length spots) t, length-append spots (s ∷ [])) in
          subst (λ n. P n (get_or (spots ++ s ∷ []) n d)) at (subst (P (length spots)) (sym (get_or-append_seam spots s [] d)) last)
    ] refl

-- how far to the right all reach, with one more
pub ends_more : (spots : List Spot) (s : Spot) (bound more : ℕ) → EndsBy spots bound → bound ≤ more → s.left + s.width ≤ more
    → EndsBy (spots ++ s ∷ []) more
ends_more spots s bound more h le last k d inside =
    each_more (λ n t. t.left + t.width ≤ more) spots s d (λ n lt. let one = h n d lt in omega arith) last k inside

-- one more is apart from all before it
pub apart_more : (spots : List Spot) (s : Spot) → AreApart spots
    → ((k : ℕ) (d : Spot) → k < length spots → (slice_index_or spots k d).layer ≡ s.layer → end_at spots k d ≤ s.left)
    → AreApart (spots ++ s ∷ [])
apart_more spots s h new a b d lt inside =
    each_more (λ n t. a < n → (slice_index_or (spots ++ s ∷ []) a d).layer ≡ t.layer → end_at (spots ++ s ∷ []) a d ≤ t.left) spots s d
    (λ n below before. let first : a < length spots = omega arith in
    subst (λ u. u.layer ≡ (get_or spots n d).layer → u.left + u.width ≤ (get_or spots n d).left) (sym (get_or_append_left spots (s ∷ []) d a first))
    (h a n d before below))
    (λ before. subst (λ u. u.layer ≡ s.layer → u.left + u.width ≤ s.left) (sym (get_or_append_left spots (s ∷ []) d a before)) (new a d before))
    b inside lt

-- a field of the spots is a list, and so of one more
pub field_more : (f : Spot → ℕ) (spots : List Spot) (s : Spot) (xs : List ℕ) (i : ℕ) → i < length xs
    → map f spots ≡ take i xs → f s ≡ get_or xs i 0 → map f (spots ++ s ∷ []) ≡ take (i + 1) xs
field_more f spots s xs i inside h same =
    map-append f spots (s ∷ []) ∙ ap (λ t. t ++ f s ∷ []) h ∙ ap (λ x. take i xs ++ x ∷ []) same ∙ sym (take_more xs i 0 inside)
