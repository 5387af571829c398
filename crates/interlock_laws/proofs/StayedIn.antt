-- Who stays in a place right inside another, or further in.
use Rattle.std.proofs.Common.{◌≡◌, ℕ, ◌==◌, true, false, List, [], ◌∷◌, Some, None, Option, refl, sym, ap, ◌∙◌, subst, inl, inr, arith}
use Rattle.std.proofs.lemmas.Bool.{or_cases, eqb-true, false≢true, false_from_ne_true}
use Rattle.caa_base.specs.declared.written.entry.Entry.{Entry}
use Rattle.caa_base.specs.Written.Lists.{member}
use Rattle.place_plan.specs.Plans.PlanValue.{Plan}
use Rattle.place_plan.specs.Plans.Places.{around, parent, is_within, roles_of}
use Rattle.place_plan.specs.RulesOfJournals.Whereabouts.{inside, stays, has_started, has_ended}
use Rattle.place_plan.specs.RulesOfJournals.Raising.{has_handled, is_halted}
use Rattle.place_plan.specs.RulesOfJournals.Journals.{LegalPast}
use Rattle.journal_laws.proofs.Playable.{IsTree}
use Rattle.journal_laws.proofs.Core.{Core}
use Rattle.journal_laws.proofs.Arrivals.{around_parent, parent_below}
use Rattle.journal_laws.proofs.InnerFirst.{round_round}
use Rattle.journal_laws.proofs.Innermost.{stays_within}
use Rattle.journal_laws.proofs.Raised.{parent_round, role_inside}
use Rattle.journal_laws.proofs.Tree.{in_within, live_within}

-- where t is that stays in c
pub record IsStaying (plan : Plan) (past : List Entry) (c t : ℕ) : Type 0 where
  pub place : ℕ
  pub here : inside plan past t ≡ Some place
  pub within : is_within plan place c ≡ true

module _ (plan : Plan) (tree : IsTree plan) where
  -- ---- places right inside another

  not_round : (p c d : ℕ) → parent plan c ≡ Some p → parent plan d ≡ Some p → member d (around plan c) ≡ true → ⊥
  not_round p c d up_c up_d m =
      let below = parent_below plan tree p d up_d in
      elim (or_cases (p == d) (member d (around plan p)) (rw (around_parent plan tree p c up_c) at m)) [
        | inl x ↦ (let same = eqb-true p d x in omega arith)
        | inr x ↦ (let above = tree.above p d x in omega arith)
      ]

  one_first : (p c d a : ℕ) (xs : List ℕ) → around plan a ≡ xs → parent plan c ≡ Some p → parent plan d ≡ Some p
      → member c (a ∷ xs) ≡ true → member d (a ∷ xs) ≡ true → (member c xs ≡ true → member d xs ≡ true → c ≡ d) → c ≡ d
  one_first p c d a xs e up_c up_d m n further =
      elim (or_cases (a == c) (member c xs) m) [
        | inl x ↦ elim (or_cases (a == d) (member d xs) n) [
          | inl y ↦ sym (eqb-true a c x) ∙ eqb-true a d y
          | inr y ↦
              absurd (not_round p c d up_c up_d (subst (λ b. member d (around plan b) ≡ true) (eqb-true a c x) (rw e y)))
        ]
        | inr x ↦ elim (or_cases (a == d) (member d xs) n) [
          | inl y ↦
              absurd (not_round p d c up_d up_c (subst (λ b. member c (around plan b) ≡ true) (eqb-true a d y) (rw e x)))
          | inr y ↦ further x y
        ]
      ]

  -- of the places right inside one, another place is one or is within one, not two
  one_child : (p c d a : ℕ) (xs : List ℕ) → around plan a ≡ xs → parent plan c ≡ Some p → parent plan d ≡ Some p
      → member c (a ∷ xs) ≡ true → member d (a ∷ xs) ≡ true → c ≡ d
  one_child p c d a [] e up_c up_d m n = one_first p c d a [] e up_c up_d m n (λ x y. absurd (false≢true x))
  one_child p c d a (b ∷ bs) e up_c up_d m n =
      one_first p c d a (b ∷ bs) e up_c up_d m n (λ x y. one_child p c d b bs (tree.chain a b bs e) up_c up_d x y)

  -- ---- who stays in one

  module _ (past : List Entry) (legal : LegalPast plan past) where
    pub staying : (c t : ℕ) → stays past c t ≡ true → IsStaying plan past c t
    staying c t h = by_place (inside plan past t) refl (sym (stays_within plan tree past legal t c) ∙ h)
      where
        by_place : (o : Option ℕ) → inside plan past t ≡ o → in_within plan o c ≡ true → IsStaying plan past c t
        by_place None e w = absurd (false≢true w)
        by_place (Some q) e w = record { place = q; here = e; within = w }

    pub staying_role : (c t : ℕ) → stays past c t ≡ true → member t (roles_of plan c) ≡ true
    staying_role c t h =
        let at = staying c t h in
        let role = role_inside plan tree past legal t at.place at.here in
        elim (or_cases (at.place == c) (member c (around plan at.place)) at.within) [
          | inl x ↦ subst (λ a. member t (roles_of plan a) ≡ true) (eqb-true at.place c x) role
          | inr x ↦ tree.roles_in c at.place t x role
        ]

    -- it is further in than the place round
    staying_round : (p c t : ℕ) → parent plan c ≡ Some p → (at : IsStaying plan past c t) → member p (around plan at.place) ≡ true
    staying_round p c t up at =
        elim (or_cases (at.place == c) (member c (around plan at.place)) at.within) [
          | inl x ↦ subst (λ a. member p (around plan a) ≡ true) (sym (eqb-true at.place c x)) (parent_round plan tree c p up)
          | inr x ↦ round_round plan tree c p at.place (around plan at.place) refl x (parent_round plan tree c p up)
        ]

    pub staying_one : (p c d t : ℕ) → parent plan c ≡ Some p → parent plan d ≡ Some p → stays past c t ≡ true → stays past d t ≡ true
        → c ≡ d
    staying_one p c d t up_c up_d h k =
        let at = staying c t h in
        let within : is_within plan at.place d ≡ true =
        ap (λ o. in_within plan o d) (sym at.here) ∙ sym (stays_within plan tree past legal t d) ∙ k in
        one_child p c d at.place (around plan at.place) refl up_c up_d at.within within

    -- who is inside a place stays in none right inside it
    pub not_further : (p c t : ℕ) → inside plan past t ≡ Some p → parent plan c ≡ Some p → stays past c t ≡ false
    not_further p c t here up = false_from_ne_true _ (λ h.
        let at = staying c t h in
        let same : at.place ≡ p = cc in
        let round = tree.above at.place p (staying_round p c t up at) in
        omega arith)

    -- the roles of a live place stay in it
    pub live_staying : (c t : ℕ) → member t (roles_of plan c) ≡ true → has_started past c ≡ true → has_ended past c ≡ false
        → stays past c t ≡ true
    live_staying c t m s f = stays_within plan tree past legal t c ∙ live_within plan tree past legal t c m s f

    -- and who stays in a place is neither halted nor in a handler in the one round it
    pub staying_away : (p c t : ℕ) → Core plan past → parent plan c ≡ Some p → stays past c t ≡ true
        → (is_halted plan past p t ≡ false) × (has_handled past p t ≡ false)
    staying_away p c t core up h =
        let at = staying c t h in core.raises.away p t at.place at.here (staying_round p c t up at)
