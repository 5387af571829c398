use Rattle.std.proofs.Common.{◌≤◌, length, sym, subst, subst₂}
use Rattle.caa_base.specs.Written.Limits.{most_depth, most_places}
use Rattle.place_plan.specs.Plans.Closed.{AreSound}
use Rattle.place_plan.specs.Plans.Unfolding.{plays_from, unfold_at}
use Rattle.place_plan.specs.inner.Unfolded.{IsMade}
use Rattle.place_plan.proofs.OnDrafts.DraftKeeps.{keeps_rules}
use Rattle.place_plan.proofs.OnPlans.MadePlan.{few_made, kept}
use Rattle.place_plan.proofs.plans.plan.Plan.of_sound.Goals as goal

pub unfolded-size-requires : goal.unfolded-size-requires
unfolded-size-requires c = (keeps_rules c.args.draft c.requires).0

pub unfold_plays-requires-clause-few : goal.unfold_plays-requires-clause-few
unfold_plays-requires-clause-few c =
    let draft = c.args.draft in
    subst₂ (λ actions plays. length (plays_from (unfold_at most_depth actions) 0 plays) ≤ most_places)
    (sym c.as_slice-2.ensures) (sym c.as_slice-3.ensures) (few_made draft c.requires)

pub invariant_of-result : goal.invariant_of-result
invariant_of-result c =
    kept c.args.draft c.requires (subst AreSound c.as_slice.ensures c.are_sound.ensures) c.in_ok-places.places c.from_vec.result _
    (subst (IsMade c.args.draft.actions c.args.draft.plays c.in_ok-places.places) (sym c.from_vec.ensures)
    (subst₂ (λ actions plays. IsMade actions plays c.in_ok-places.places c.in_ok-places.tops.items)
    c.as_slice-2.ensures c.as_slice-3.ensures c.in_ok-places.ensures))
    c.unfolded-size.ensures.bound
