-- What is left of a past where the entries of all places but some are left out.
use Rattle.std.proofs.Common.{◌≡◌, ℕ, ◌==◌, Bool, true, false, cond, ◌||◌, List, [], ◌∷◌, filter, Some, refl, sym, ap, ◌∙◌, subst}
use Rattle.std.specs.List.{list_any, list_all}
use Rattle.std.proofs.lemmas.Bool.{and_parts, or_left, or_right, eqb-true, eq-eqb, false_from_ne_true, true_from_ne_false, both_ways}
use Rattle.caa_base.specs.declared.written.entry.Entry.{Entry}
use Rattle.caa_base.specs.declared.written.entry.Kind.{Kind}
use Rattle.caa_base.specs.Written.Lists.{member, is_at, first_of, first_not}
use Rattle.caa_base.proofs.ListLemmas.{at_same}
use Rattle.place_plan.specs.Plans.PlanValue.{Plan}
use Rattle.place_plan.specs.Plans.Places.{around, parent, roles_of, uses, alternates_of}
use Rattle.place_plan.specs.RulesOfJournals.Entries.{is_of, is_in, is_by, has, has_by, newest}
use Rattle.place_plan.specs.RulesOfJournals.Raising.{newest_arg}
use Rattle.place_plan.specs.RulesOfJournals.Attempts.{is_attempt_on}

-- ---- what members alone decide

pub all_same : (f g : ℕ → Bool) (xs : List ℕ) → ((x : ℕ) → member x xs ≡ true → f x ≡ g x) → list_all f xs ≡ list_all g xs
all_same f g [] h = refl
all_same f g (x ∷ xs) h =
    rw (h x (or_left _ _ (eq-eqb x x refl)), all_same f g xs (λ y m. h y (or_right _ _ m))) refl

pub any_same : (f g : ℕ → Bool) (xs : List ℕ) → ((x : ℕ) → member x xs ≡ true → f x ≡ g x) → list_any f xs ≡ list_any g xs
any_same f g [] h = refl
any_same f g (x ∷ xs) h =
    rw (h x (or_left _ _ (eq-eqb x x refl)), any_same f g xs (λ y m. h y (or_right _ _ m))) refl

pub first_same : (f g : ℕ → Bool) (xs : List ℕ) → ((x : ℕ) → member x xs ≡ true → f x ≡ g x) → first_not f xs ≡ first_not g xs
first_same f g [] h = refl
first_same f g (x ∷ xs) h =
    rw (h x (or_left _ _ (eq-eqb x x refl)), first_same f g xs (λ y m. h y (or_right _ _ m))) refl

-- ---- places that share nothing with the others

-- the places for which `mine` holds are whole plays, and share no participant and no object with any other place
pub record IsGroup (plan : Plan) (mine : ℕ → Bool) : Type 0 where
  pub up : (p q : ℕ) → member q (around plan p) ≡ true → mine q ≡ mine p
  pub below : (p k c : ℕ) → member c (alternates_of plan p k) ≡ true → mine c ≡ mine p
  pub people : (p q t : ℕ) → mine p ≡ true → mine q ≡ false → member t (roles_of plan p) ≡ true → member t (roles_of plan q) ≡ false
  pub things : (p q s t o : ℕ) → mine p ≡ true → mine q ≡ false → member s (roles_of plan p) ≡ true
      → member t (roles_of plan q) ≡ true → uses plan p o ≡ true → uses plan q o ≡ false

-- t has no role in any other place
abbrev pub IsOurs : Plan → (ℕ → Bool) → ℕ → Type 0
IsOurs plan mine t = (q : ℕ) → mine q ≡ false → member t (roles_of plan q) ≡ false

-- o is used in no other place in which somebody has a role
abbrev pub IsOurObject : Plan → (ℕ → Bool) → ℕ → Type 0
IsOurObject plan mine o = (q t : ℕ) → mine q ≡ false → member t (roles_of plan q) ≡ true → uses plan q o ≡ false

-- the maker of an entry has a role in its place, and what it asks the device to change is an object of the place
pub record IsOwn (plan : Plan) (e : Entry) : Type 0 where
  pub role : member e.by (roles_of plan e.place) ≡ true
  pub object : (o : ℕ) → is_attempt_on o e ≡ true → uses plan e.place o ≡ true

-- all entries are so
abbrev pub AllOwn : Plan → List Entry → Type 0
AllOwn plan [] = Unit {0}
AllOwn plan (e ∷ past) = AllOwn plan past × IsOwn plan e

-- ---- leaving out

-- the entries in these places
abbrev pub left : (ℕ → Bool) → List Entry → List Entry
left mine past = filter (λ e. mine e.place) past

module _ (plan : Plan) (mine : ℕ → Bool) (group : IsGroup plan mine) where
  -- what is asked of the whole past is what is asked of the rest, where an entry that is left out changes nothing
  pub along : {A : Type 0} (f g : List Entry → A) → f [] ≡ g []
      → ((e : Entry) (past : List Entry) → AllOwn plan (e ∷ past) → mine e.place ≡ true → f (left mine past) ≡ g past
      → f (e ∷ left mine past) ≡ g (e ∷ past))
      → ((e : Entry) (past : List Entry) → IsOwn plan e → mine e.place ≡ false → g (e ∷ past) ≡ g past)
      → (past : List Entry) → AllOwn plan past → f (left mine past) ≡ g past
  along f g start kept dropped [] own = start
  along f g start kept dropped (e ∷ past) own = by_mine (mine e.place) refl (along f g start kept dropped past own.0)
    where
      by_mine : (b : Bool) → mine e.place ≡ b → f (left mine past) ≡ g past → f (cond b (e ∷ left mine past) (left mine past)) ≡ g (e ∷ past)
      by_mine true m ih = kept e past own m ih
      by_mine false m ih = ih ∙ sym (dropped e past own.1 m)

  -- ---- an entry that is left out

  -- it stands in another place
  pub elsewhere : (e : Entry) (p : ℕ) → mine p ≡ true → mine e.place ≡ false → (e.place == p) ≡ false
  elsewhere e p m n = false_from_ne_true _ (λ x. both_ways _ n (subst (λ a. mine a ≡ true) (sym (eqb-true e.place p x)) m))

  parent_in : (p q : ℕ) (xs : List ℕ) → around plan q ≡ xs → first_of xs ≡ Some p → member p (around plan q) ≡ true
  parent_in p q [] a h = absurd cc
  parent_in p q (x ∷ xs) a h = let same : x ≡ p = cc in rw a (or_left _ _ (eq-eqb x p same))

  -- a place right inside one of these is one of these
  pub inner_mine : (c p : ℕ) → parent plan c ≡ Some p → mine c ≡ mine p
  inner_mine c p h = sym (group.up c p (parent_in p c (around plan c) refl h))

  -- its place is right inside another one, if in any
  pub beside : (e : Entry) (p : ℕ) → mine p ≡ true → mine e.place ≡ false → is_at (parent plan e.place) p ≡ false
  beside e p m n =
      false_from_ne_true _ (λ x. both_ways _ n (inner_mine e.place p (at_same (parent plan e.place) p x) ∙ m))

  -- somebody else made it
  pub stranger : (e : Entry) (t : ℕ) → IsOurs plan mine t → IsOwn plan e → mine e.place ≡ false → (e.by == t) ≡ false
  stranger e t ours own n =
      false_from_ne_true _ (λ x. both_ways _ (ours e.place n)
      (subst (λ a. member a (roles_of plan e.place) ≡ true) (eqb-true e.by t x) own.role))

  -- who has a role in one of these places is ours, and so is what is used there
  pub our_role : (p t : ℕ) → mine p ≡ true → member t (roles_of plan p) ≡ true → IsOurs plan mine t
  our_role p t m r q n = group.people p q t m n r

  pub our_object : (p s o : ℕ) → mine p ≡ true → member s (roles_of plan p) ≡ true → uses plan p o ≡ true → IsOurObject plan mine o
  our_object p s o m w u q t n r = group.things p q s t o m n w r u

  -- who has a role in one place plays in all of its places among these
  pub ours_mine : (p t : ℕ) → IsOurs plan mine t → member t (roles_of plan p) ≡ true → mine p ≡ true
  ours_mine p t ours r = true_from_ne_false _ (λ n. both_ways _ (ours p n) r)

  -- it is no entry of t in p
  pub in_mine : (k : Kind) (p : ℕ) (e : Entry) → mine p ≡ true → is_in k p e ≡ true → mine e.place ≡ true
  in_mine k p e m h = subst (λ a. mine a ≡ true) (sym (eqb-true e.place p (and_parts (is_of k e) (e.place == p) h).1)) m

  pub by_mine : (k : Kind) (p t : ℕ) (e : Entry) → mine p ≡ true → is_by k p t e ≡ true → mine e.place ≡ true
  by_mine k p t e m h = in_mine k p e m (and_parts (is_in k p e) (e.by == t) h).0

  pub not_in : (k : Kind) (p : ℕ) (e : Entry) → mine p ≡ true → mine e.place ≡ false → is_in k p e ≡ false
  not_in k p e m n = false_from_ne_true _ (λ x. both_ways _ n (in_mine k p e m x))

  pub not_by : (k : Kind) (p t : ℕ) (e : Entry) → mine p ≡ true → mine e.place ≡ false → is_by k p t e ≡ false
  not_by k p t e m n = false_from_ne_true _ (λ x. both_ways _ n (by_mine k p t e m x))

  -- ---- what stands of a kind

  pub any_left : (test : Entry → Bool) → ((e : Entry) → test e ≡ true → mine e.place ≡ true) → (past : List Entry)
      → AllOwn plan past → list_any test (left mine past) ≡ list_any test past
  any_left test there past own =
      along (list_any test) (list_any test) refl (λ e past o m ih. ap (λ b. test e || b) ih)
      (λ e past o n. rw (false_from_ne_true (test e) (λ w. both_ways _ n (there e w))) refl) past own

  pub newest_left : (test : Entry → Bool) → ((e : Entry) → test e ≡ true → mine e.place ≡ true) → (past : List Entry)
      → AllOwn plan past → newest test (left mine past) ≡ newest test past
  newest_left test there past own =
      along (newest test) (newest test) refl (λ e past o m ih. ap (cond (test e) (Some e)) ih)
      (λ e past o n. rw (false_from_ne_true (test e) (λ w. both_ways _ n (there e w))) refl) past own

  pub arg_left : (test : Entry → Bool) → ((e : Entry) → test e ≡ true → mine e.place ≡ true) → (past : List Entry)
      → AllOwn plan past → newest_arg test (left mine past) ≡ newest_arg test past
  arg_left test there past own =
      along (newest_arg test) (newest_arg test) refl (λ e past o m ih. ap (cond (test e) (Some e.arg)) ih)
      (λ e past o n. rw (false_from_ne_true (test e) (λ w. both_ways _ n (there e w))) refl) past own

  pub has_left : (k : Kind) (p : ℕ) → mine p ≡ true → (past : List Entry) → AllOwn plan past
      → has k (left mine past) p ≡ has k past p
  has_left k p m past own = any_left (is_in k p) (λ e w. in_mine k p e m w) past own

  pub has_by_left : (k : Kind) (p t : ℕ) → mine p ≡ true → (past : List Entry) → AllOwn plan past
      → has_by k (left mine past) p t ≡ has_by k past p t
  has_by_left k p t m past own = any_left (is_by k p t) (λ e w. by_mine k p t e m w) past own
