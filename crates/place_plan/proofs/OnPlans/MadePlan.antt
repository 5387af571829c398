-- The plan that is made of the places into which a draft unfolds that breaks no rule.
use Rattle.std.proofs.Common.{◌≡◌, ℕ, ◌≤◌, nat_le, List, length, None, sym, ap, ◌∙◌, arith}
use Rattle.std.proofs.lemmas.Bool.{and_parts, leb-true}
use Rattle.caa_base.specs.Written.Limits.{most_places}
use Rattle.place_plan.specs.declared.drafts.draft.Draft.{Draft}
use Rattle.place_plan.specs.declared.plans.plan.Plan.TheInside.{Inside}
use Rattle.place_plan.specs.Plans.PlanValue.{PlaceRow}
use Rattle.place_plan.specs.inner.PlanView.{plan_view, IsKept}
use Rattle.place_plan.specs.Plans.Bound.{bound}
use Rattle.place_plan.specs.Plans.Unfolding.{plan_of}
use Rattle.place_plan.specs.inner.Unfolded.{IsMade}
use Rattle.place_plan.specs.Drafts.DraftRules.{broken_rule}
use Rattle.place_plan.specs.Plans.Closed.{AreSound}
use Rattle.place_plan.specs.Plans.Weights.{counted}
use Rattle.place_plan.proofs.OnDrafts.DraftKeeps.{keeps_rules}

module _ (draft : Draft) where
  -- the fields of a plan, made of the draft
  abbrev made : List PlaceRow → List ℕ → ℕ → Inside
  made places plays most = record {
    participants = draft.participants;
    objects = draft.objects;
    graphs = draft.graphs;
    actions = draft.actions;
    places = places;
    plays = plays;
    drills = draft.drills;
    watches = draft.watches;
    bound = most;
  }

  pub made_view : (places : List PlaceRow) (plays : List ℕ) (most : ℕ) → IsMade draft.actions draft.plays places plays
      → plan_view (made places plays most) ≡ plan_of draft
  made_view places plays most h = λ i. record {
    participants = draft.participants;
    objects = draft.objects;
    graphs = draft.graphs;
    actions = draft.actions;
    places = h.places_are i;
    plays = h.tops_are i;
    drills = draft.drills;
    watches = draft.watches;
  }

  -- there are few places, and a bound that keeps the rule is counted in full
  pub few_made : broken_rule draft ≡ None → length (plan_of draft).places ≤ most_places
  few_made whole = leb-true _ _ (and_parts (nat_le (length (plan_of draft).places) most_places) _ (keeps_rules draft whole).1).0

  pub bound_counted : broken_rule draft ≡ None → counted (bound (plan_of draft)) ≡ bound (plan_of draft)
  bound_counted whole =
      omega (
        arith,
        leb-true _ _
            (and_parts (nat_le (length (plan_of draft).places) most_places) _ (keeps_rules draft whole).1).1,
      )

  pub kept : broken_rule draft ≡ None → AreSound draft.graphs → (places : List PlaceRow) (plays : List ℕ) (most : ℕ)
      → IsMade draft.actions draft.plays places plays → most ≡ counted (bound (plan_of draft))
      → IsKept (made places plays most)
  kept whole sound places plays most h b =
      let same = made_view places plays most h in
      record {
        closed = record { draft = draft; whole = whole; sound = sound; same = same };
        bound = b ∙ bound_counted whole ∙ sym (ap bound same);
      }
