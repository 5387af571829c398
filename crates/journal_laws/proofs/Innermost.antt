-- In a tree of places, what is computed along the entries is what its plain words say: no place in which a participant stays is
-- further in than where it is, and no live place that uses an object is further in than its holder.
use Rattle.std.proofs.Common.{◌≡◌, ℕ, ◌==◌, Bool, true, false, cond, ◌&&◌, ◌||◌, List, [], ◌∷◌, Some, None, Option, refl, sym, ap, ◌∙◌, subst, arith, inl, inr}
use Rattle.std.proofs.lemmas.Bool.{or_cases, or_left, eqb-true, eq-eqb, cases_Bool, false_from_ne_true, both_ways}
use Rattle.caa_base.specs.declared.written.entry.Entry.{Entry}
use Rattle.caa_base.specs.declared.written.entry.Kind.{Kind}
use Rattle.caa_base.specs.declared.written.entry.Kind.TheVariants as kind
use Rattle.place_plan.specs.Plans.PlanValue.{Plan}
use Rattle.caa_base.specs.Written.Lists.{member, first_of}
use Rattle.place_plan.specs.Plans.Places.{around, parent, is_within, plays_of}
use Rattle.place_plan.specs.RulesOfJournals.Entries.{has_by}
use Rattle.place_plan.specs.RulesOfJournals.Whereabouts.{inside, stays}
use Rattle.place_plan.specs.RulesOfJournals.Roles.{next_play}
use Rattle.place_plan.specs.RulesOfJournals.Rules.{Row, MayArrive, arrival}
use Rattle.place_plan.specs.RulesOfJournals.Journals.{LegalPast}
use Rattle.journal_laws.specs.Laws.{Holds, InsideIsInnermost}
use Rattle.journal_laws.proofs.Playable.{IsTree}
use Rattle.caa_base.proofs.ListLemmas.{first_not_fails}
use Rattle.place_plan.proofs.OnPlans.PlaysRise.{plays_in}
use Rattle.place_plan.proofs.OnJournals.EntryKinds.{of_kind}
use Rattle.journal_laws.proofs.Tree.{in_within, arrives_in}

-- ---- tests

cond_same : (b x : Bool) → cond b x x ≡ x
cond_same true x = refl
cond_same false x = refl

cond_or : (b x : Bool) → cond b true x ≡ (b || x)
cond_or true x = refl
cond_or false x = refl

cond_other : (b x y : Bool) → cond (b && false) x y ≡ y
cond_other true x y = refl
cond_other false x y = refl

cond_own : (b x y : Bool) → cond (b && true) x y ≡ cond b x y
cond_own true x y = refl
cond_own false x y = refl

module _ (plan : Plan) (tree : IsTree plan) where
  pub not_round_itself : (p : ℕ) → member p (around plan p) ≡ false
  not_round_itself p = false_from_ne_true _ (λ m. let l = tree.above p p m in omega arith)

  -- being within the place round p is being round p
  pub parent_within : (p q : ℕ) → in_within plan (parent plan p) q ≡ member q (around plan p)
  parent_within p q = by_around (around plan p) refl
    where
      by_around : (qs : List ℕ) → around plan p ≡ qs → in_within plan (first_of qs) q ≡ member q qs
      by_around [] a = refl
      by_around (r ∷ rs) a = rw (tree.chain p r rs a) refl

  -- two places within one another are one
  pub within_both : (p q : ℕ) → is_within plan p q ≡ true → is_within plan q p ≡ true → p ≡ q
  within_both p q h k =
      elim (or_cases (p == q) (member q (around plan p)) h) [
        | inl x ↦ eqb-true p q x
        | inr x ↦ elim (or_cases (q == p) (member p (around plan q)) k) [
          | inl y ↦ sym (eqb-true q p y)
          | inr y ↦ absurd (let l = tree.above p q x in let m = tree.above q p y in omega arith)
        ]
      ]

  pub within_itself : (p : ℕ) → is_within plan p p ≡ true
  within_itself p = or_left _ _ (eq-eqb p p refl)

  -- all that is within p but p is round p
  pub out_of : (p q : ℕ) → cond (p == q) false (is_within plan p q) ≡ member q (around plan p)
  out_of p q = elim (cases_Bool (p == q)) [
    | inl x ↦ rw x (sym (subst (λ a. member a (around plan p) ≡ false) (eqb-true p q x) (not_round_itself p)))
    | inr x ↦ rw x refl
  ]

  -- ---- where one stays

  -- who arrives comes from the place right round, or to a play from none
  came_from : (past : List Entry) (e : Entry) (q : ℕ) → MayArrive plan past e
      → in_within plan (inside plan past e.by) q ≡ member q (around plan e.place)
  came_from past e q h = by_place (inside plan past e.by) refl
    where
      by_place : (o : Option ℕ) → inside plan past e.by ≡ o → in_within plan o q ≡ member q (around plan e.place)
      by_place None w =
          let next : next_play plan past e.by ≡ Some e.place = subst (λ o. arrival plan past e.by o ≡ Some e.place) w h.leads in
          let found =
          plays_in plan e.by plan.plays e.place
          (first_not_fails (λ q. has_by kind.Arrive past q e.by) (plays_of plan e.by) e.place next).1 in
          rw (tree.tops e.place found.0) refl
      by_place (Some r) w = rw (arrives_in plan tree past e r h w).0 refl

  went_out : (past : List Entry) (e : Entry) (t q : ℕ) → stays past q t ≡ in_within plan (inside plan past t) q
      → inside plan past e.by ≡ Some e.place
      → cond ((e.place == q) && (e.by == t)) false (stays past q t)
      ≡ in_within plan (cond (e.by == t) (parent plan e.place) (inside plan past t)) q
  went_out past e t q ih here =
      elim (cases_Bool (e.by == t)) [
        | inl y ↦
            let there : inside plan past t ≡ Some e.place = subst (λ a. inside plan past a ≡ Some e.place) (eqb-true e.by t y) here in
            let stay : stays past q t ≡ is_within plan e.place q = ih ∙ ap (λ o. in_within plan o q) there in
            rw y (cond_own (e.place == q) false (stays past q t) ∙ ap (cond (e.place == q) false) stay
            ∙ out_of e.place q ∙ sym (parent_within e.place q))
        | inr y ↦ rw y (cond_other (e.place == q) false (stays past q t) ∙ ih)
      ]

  stays_within_by : (past : List Entry) (k : Kind) (e : Entry) (t q : ℕ)
      → stays past q t ≡ in_within plan (inside plan past t) q → Row k plan past (of_kind k e)
      → stays (of_kind k e ∷ past) q t ≡ in_within plan (inside plan (of_kind k e ∷ past) t) q
  stays_within_by past kind.Arrive e t q ih h =
      elim (cases_Bool (e.by == t)) [
        | inl y ↦
            let round : in_within plan (inside plan past t) q ≡ member q (around plan e.place) =
            subst (λ a. in_within plan (inside plan past a) q ≡ member q (around plan e.place)) (eqb-true e.by t y)
            (came_from past (of_kind kind.Arrive e) q h) in
            rw y (cond_own (e.place == q) true (stays past q t) ∙ cond_or (e.place == q) (stays past q t)
            ∙ ap (λ b. (e.place == q) || b) (ih ∙ round))
        | inr y ↦ rw y (cond_other (e.place == q) true (stays past q t) ∙ ih)
      ]
  stays_within_by past kind.Withdraw e t q ih h = went_out past e t q ih h.here
  stays_within_by past kind.Leave e t q ih h = went_out past e t q ih h.here
  stays_within_by past _ e t q ih h = cond_same _ _ ∙ ih

  -- one stays in the place that one is in and in those round it, and in no other
  pub stays_within : (past : List Entry) → LegalPast plan past → (t q : ℕ) → stays past q t ≡ in_within plan (inside plan past t) q
  stays_within [] h t q = refl
  stays_within (e ∷ past) h t q = stays_within_by past e.kind e t q (stays_within past h.0 t q) h.1

  innermost_stay : (past : List Entry) → LegalPast plan past → (t p : ℕ) (o : Option ℕ) → inside plan past t ≡ o
      → stays past p t ≡ true → ((q : ℕ) → stays past q t ≡ true → is_within plan p q ≡ true) → o ≡ Some p
  innermost_stay past legal t p None w s inner = absurd (both_ways _ (stays_within past legal t p ∙ ap (λ o. in_within plan o p) w) s)
  innermost_stay past legal t p (Some r) w s inner =
      let at : (q : ℕ) → stays past q t ≡ is_within plan r q = λ q. stays_within past legal t q ∙ ap (λ o. in_within plan o q) w in
      ap Some (within_both r p (sym (at p) ∙ s) (inner r (at r ∙ within_itself r)))

  inside_innermost : (past : List Entry) → LegalPast plan past → InsideIsInnermost plan past
  inside_innermost past legal t p = (
    λ w.
        let at : (q : ℕ) → stays past q t ≡ is_within plan p q = λ q. stays_within past legal t q ∙ ap (λ o. in_within plan o q) w in
        (at p ∙ within_itself p, λ q s. sym (at q) ∙ s),
    λ h. innermost_stay past legal t p (inside plan past t) refl h.0 h.1,
  )

-- inside is the innermost of the places in which a participant stays
pub inside_is_innermost : (plan : Plan) → IsTree plan → Holds InsideIsInnermost plan
inside_is_innermost plan tree past legal = inside_innermost plan tree past legal
