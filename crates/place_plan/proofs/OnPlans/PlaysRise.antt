-- The plays of a participant.
use Rattle.std.proofs.Common.{◌≡◌, ℕ, Bool, true, false, cond, List, [], ◌∷◌, refl, subst, arith, suc, inl, inr}
use Rattle.std.proofs.lemmas.Bool.{or_cases, or_left, or_right, eqb-true, eq-eqb, false≢true}
use Rattle.caa_base.specs.Written.Lists.{member}
use Rattle.caa_base.specs.inner.Lists.{Rises}
use Rattle.caa_base.proofs.ListLemmas.{Rises-weaker}
use Rattle.place_plan.specs.Plans.PlanValue.{Plan}
use Rattle.place_plan.specs.Plans.Places.{roles_of, plays_with}

-- the plays with a role for t
pub plays_rise : (plan : Plan) (t low : ℕ) (ps : List ℕ) → Rises low ps → Rises low (plays_with plan t ps)
plays_rise plan t low [] h = tt
plays_rise plan t low (p ∷ ps) h =
    elim (member t (roles_of plan p)) as (λ b. Rises low (cond b (p ∷ plays_with plan t ps) (plays_with plan t ps))) [
      | true ↦ (h.0, plays_rise plan t (suc p) ps h.1)
      | false ↦ Rises-weaker low (suc p) _ (omega arith) (plays_rise plan t (suc p) ps h.1)
    ]

pub plays_in : (plan : Plan) (t : ℕ) (ps : List ℕ) (p : ℕ) → member p (plays_with plan t ps) ≡ true
    → (member p ps ≡ true) × (member t (roles_of plan p) ≡ true)
plays_in plan t [] p m = absurd (false≢true m)
plays_in plan t (q ∷ ps) p m = by_role (member t (roles_of plan q)) refl m (plays_in plan t ps p)
  where
    by_role : (b : Bool) → member t (roles_of plan q) ≡ b
        → member p (cond b (q ∷ plays_with plan t ps) (plays_with plan t ps)) ≡ true
        → (member p (plays_with plan t ps) ≡ true → (member p ps ≡ true) × (member t (roles_of plan p) ≡ true))
        → (member p (q ∷ ps) ≡ true) × (member t (roles_of plan p) ≡ true)
    by_role true e m ih = elim (or_cases _ _ m) [
      | inl s ↦ (or_left _ _ s, subst (λ z. member t (roles_of plan z) ≡ true) (eqb-true q p s) e)
      | inr s ↦ (or_right _ _ (ih s).0, (ih s).1)
    ]
    by_role false e m ih = (or_right _ _ (ih m).0, (ih m).1)

pub in_plays : (plan : Plan) (t : ℕ) (ps : List ℕ) (p : ℕ) → member p ps ≡ true → member t (roles_of plan p) ≡ true
    → member p (plays_with plan t ps) ≡ true
in_plays plan t [] p m r = absurd (false≢true m)
in_plays plan t (q ∷ ps) p m r =
    elim (or_cases _ _ m) [
      | inl e ↦ let same : q ≡ p = eqb-true q p e in rw (same, r) (or_left _ _ (eq-eqb p p refl))
      | inr e ↦ weaker (member t (roles_of plan q)) (in_plays plan t ps p e r)
    ]
  where
    weaker : (b : Bool) → member p (plays_with plan t ps) ≡ true
        → member p (cond b (q ∷ plays_with plan t ps) (plays_with plan t ps)) ≡ true
    weaker true h = or_right _ _ h
    weaker false h = h
