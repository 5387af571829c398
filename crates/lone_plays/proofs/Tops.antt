-- Chosen plays that share nothing with the others, with the places inside them, share nothing with any other place.
use Rattle.std.proofs.Common.{◌≡◌, ℕ, ◌==◌, Bool, true, false, cond, List, [], ◌∷◌, filter, refl, sym, ap, ◌∙◌, subst, inl, inr}
use Rattle.std.specs.List.{list_any}
use Rattle.std.proofs.lemmas.Bool.{or_cases, or_left, or_right, or_parts, eqb-true, eq-eqb, false≢true, false_from_ne_true, both_ways}
use Rattle.caa_base.specs.Written.Lists.{member, last_or}
use Rattle.caa_base.proofs.ListLemmas.{last_member}
use Rattle.place_plan.specs.Plans.PlanValue.{Plan}
use Rattle.place_plan.specs.Plans.Places.{around, roles_of, objects_of, uses, is_within, top_of, plays_with, plays_of}
use Rattle.place_plan.proofs.OnPlans.PlaysRise.{plays_in}
use Rattle.journal_laws.proofs.Playable.{IsTree, IsPlayable}
use Rattle.lone_plays.specs.Lone.{StandApart, lone_plan}
use Rattle.lone_plays.proofs.Left.{IsGroup, IsOurs, ours_mine}

-- some member passes
pub any_from : (test : ℕ → Bool) (xs : List ℕ) (x : ℕ) → member x xs ≡ true → test x ≡ true → list_any test xs ≡ true
any_from test [] x m h = absurd (false≢true m)
any_from test (y ∷ ys) x m h =
    elim (or_cases (y == x) (member x ys) m) [
      | inl e ↦ or_left _ _ (subst (λ a. test a ≡ true) (sym (eqb-true y x e)) h)
      | inr e ↦ or_right _ _ (any_from test ys x e h)
    ]

-- what a filter leaves passes
pub filtered : (test : ℕ → Bool) (xs : List ℕ) (x : ℕ) → member x (filter test xs) ≡ true → (member x xs ≡ true) × (test x ≡ true)
filtered test [] x m = absurd (false≢true m)
filtered test (y ∷ ys) x m = by_test (test y) refl m (filtered test ys x)
  where
    by_test : (b : Bool) → test y ≡ b → member x (cond b (y ∷ filter test ys) (filter test ys)) ≡ true
        → (member x (filter test ys) ≡ true → (member x ys ≡ true) × (test x ≡ true))
        → (member x (y ∷ ys) ≡ true) × (test x ≡ true)
    by_test false e m ih = let further = ih m in (or_right _ _ further.0, further.1)
    by_test true e m ih =
        elim (or_cases (y == x) (member x (filter test ys)) m) [
          | inl s ↦ (or_left _ _ s, subst (λ a. test a ≡ true) (eqb-true y x s) e)
          | inr s ↦ let further = ih s in (or_right _ _ further.0, further.1)
        ]

module _ (plan : Plan) (playable : IsPlayable plan) where
  abbrev tree : IsTree plan
  tree = playable.tree

  -- ---- the play of a place

  within_top : (p : ℕ) → is_within plan p (top_of plan p) ≡ true
  within_top p = last_member (p ∷ around plan p) (top_of plan p) refl

  alone_at : (p : ℕ) (qs : List ℕ) → around plan p ≡ qs → around plan (last_or p qs) ≡ []
  alone_at p [] a = a
  alone_at p (q ∷ qs) a = alone_at q qs (tree.chain p q qs a)

  -- a place round another one is of the same play
  same_top : (p q : ℕ) (qs : List ℕ) → around plan p ≡ qs → member q qs ≡ true → top_of plan q ≡ last_or p qs
  same_top p q [] a m = absurd (false≢true m)
  same_top p q (r ∷ rs) a m =
      let next = tree.chain p r rs a in
      elim (or_cases (r == q) (member q rs) m) [
        | inl x ↦ subst (λ b. top_of plan b ≡ last_or r rs) (eqb-true r q x) (ap (last_or r) next)
        | inr x ↦ same_top r q rs next x
      ]

  pub top_of_play : (p : ℕ) → member p plan.plays ≡ true → top_of plan p ≡ p
  top_of_play p m = ap (last_or p) (tree.tops p m)

  -- who has a role in a place has one in its play
  top_role : (p t : ℕ) → member t (roles_of plan p) ≡ true → member t (roles_of plan (top_of plan p)) ≡ true
  top_role p t r =
      elim (or_cases (p == top_of plan p) (member (top_of plan p) (around plan p)) (within_top p)) [
        | inl x ↦ subst (λ a. member t (roles_of plan a) ≡ true) (eqb-true p (top_of plan p) x) r
        | inr x ↦ tree.roles_in (top_of plan p) p t x r
      ]

  top_play : (p t : ℕ) → member t (roles_of plan p) ≡ true → member (top_of plan p) plan.plays ≡ true
  top_play p t r = playable.topped (top_of plan p) t (alone_at p (around plan p) refl) (top_role p t r)

  -- and what a place uses, its play does
  top_uses : (p o : ℕ) → uses plan p o ≡ true → uses plan (top_of plan p) o ≡ true
  top_uses p o u =
      elim (or_cases (p == top_of plan p) (member (top_of plan p) (around plan p)) (within_top p)) [
        | inl x ↦ subst (λ a. uses plan a o ≡ true) (eqb-true p (top_of plan p) x) u
        | inr x ↦ playable.inherits (top_of plan p) p o x u
      ]

  -- ---- the chosen plays

  module _ (chosen : ℕ → Bool) (apart : StandApart plan chosen) where
    -- p lies in a chosen play
    abbrev pub mine : ℕ → Bool
    mine p = chosen (top_of plan p)

    -- places of a chosen play and of another one, in which somebody has a role, share nothing
    nothing : (p q s t : ℕ) → mine p ≡ true → mine q ≡ false → member s (roles_of plan p) ≡ true
        → member t (roles_of plan q) ≡ true
        → (list_any (λ a. member a (roles_of plan (top_of plan q))) (roles_of plan (top_of plan p)) ≡ false)
        × (list_any (λ o. uses plan (top_of plan q) o) (objects_of plan (top_of plan p)) ≡ false)
    nothing p q s t m n r w =
        or_parts (list_any (λ a. member a (roles_of plan (top_of plan q))) (roles_of plan (top_of plan p)))
        (list_any (λ o. uses plan (top_of plan q) o) (objects_of plan (top_of plan p)))
        (apart (top_of plan p) (top_of plan q) (top_play p s r) (top_play q t w) m n)

    pub group : IsGroup plan mine
    group = record {
      up = λ p q m. ap chosen (same_top p q (around plan p) refl m);
      below = λ p k c m.
          let round : member p (around plan c) ≡ true = rw (playable.placed p k c m).0 (or_left _ _ (eq-eqb p p refl)) in
          sym (ap chosen (same_top c p (around plan c) refl round));
      people = λ p q t m n r.
          false_from_ne_true _ (λ w. both_ways _ (nothing p q t t m n r w).0
          (any_from (λ a. member a (roles_of plan (top_of plan q))) (roles_of plan (top_of plan p)) t (top_role p t r) (top_role q t w)));
      things = λ p q s t o m n r w u.
          false_from_ne_true _ (λ v. both_ways _ (nothing p q s t m n r w).1
          (any_from (λ a. uses plan (top_of plan q) a) (objects_of plan (top_of plan p)) o (top_uses p o u) (top_uses q o v)));
    }

    -- ---- who plays where

    -- a participant of ours plays in chosen plays alone
    play_chosen : (t p : ℕ) → IsOurs plan mine t → member p plan.plays ≡ true → member t (roles_of plan p) ≡ true → chosen p ≡ true
    play_chosen t p ours m r = ap chosen (sym (top_of_play p m)) ∙ ours_mine plan mine group p t ours r

    same_with : (t : ℕ) → IsOurs plan mine t → (ps : List ℕ)
        → ((p : ℕ) → member p ps ≡ true → member t (roles_of plan p) ≡ true → chosen p ≡ true)
        → plays_with (lone_plan plan chosen) t (filter chosen ps) ≡ plays_with plan t ps
    same_with t ours [] h = refl
    same_with t ours (p ∷ ps) h =
        by_tests (chosen p) (member t (roles_of plan p)) refl (h p (or_left _ _ (eq-eqb p p refl)))
        (same_with t ours ps (λ q m. h q (or_right _ _ m)))
      where
        by_tests : (b c : Bool) → member t (roles_of plan p) ≡ c → (c ≡ true → b ≡ true)
            → plays_with (lone_plan plan chosen) t (filter chosen ps) ≡ plays_with plan t ps
            → plays_with (lone_plan plan chosen) t (cond b (p ∷ filter chosen ps) (filter chosen ps))
            ≡ cond c (p ∷ plays_with plan t ps) (plays_with plan t ps)
        by_tests true true e h ih = rw e (ap (λ qs. p ∷ qs) ih)
        by_tests true false e h ih = rw e ih
        by_tests false true e h ih = absurd (false≢true (h refl))
        by_tests false false e h ih = ih

    pub same_plays : (t : ℕ) → IsOurs plan mine t → plays_of (lone_plan plan chosen) t ≡ plays_of plan t
    same_plays t ours = same_with t ours plan.plays (λ p m r. play_chosen t p ours m r)

    pub plays_mine : (t p : ℕ) → IsOurs plan mine t → member p (plays_of plan t) ≡ true → mine p ≡ true
    plays_mine t p ours m = ours_mine plan mine group p t ours (plays_in plan t plan.plays p m).1

    -- what the plan with the chosen plays alone has for t are plays that were chosen
    pub lone_play : (t p : ℕ) → member p (plays_of (lone_plan plan chosen) t) ≡ true
        → (mine p ≡ true) × (member t (roles_of plan p) ≡ true)
    lone_play t p m =
        let found = plays_in (lone_plan plan chosen) t (filter chosen plan.plays) p m in
        let kept = filtered chosen plan.plays p found.0 in
        (ap chosen (top_of_play p kept.0) ∙ kept.1, found.1)
