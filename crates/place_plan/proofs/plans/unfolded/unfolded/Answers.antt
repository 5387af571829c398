use Rattle.std.proofs.Common.{◌≡◌, true, List, slice_index_or, replicate, arith, subst, sym, ap, ◌∙◌}
use Rattle.std.proofs.lemmas.List.{get_or-replicate}
use Rattle.caa_base.specs.Written.Limits.{most_actions, most_depth}
use Rattle.place_plan.specs.declared.drafts.draft_rows.ActionRow.{ActionRow}
use Rattle.place_plan.specs.Plans.Places.{no_action}
use Rattle.place_plan.specs.Plans.Weights.{counted, at, own_entries, weight, played_weight}
use Rattle.place_plan.specs.inner.Tables.{Tells, are_nests_known}
use Rattle.place_plan.proofs.OnDrafts.DraftKeeps.{range_known, few_actions}
use Rattle.place_plan.proofs.OnPlans.Weighing.{counted_places, counted_bound}
use Rattle.place_plan.proofs.plans.unfolded.unfolded.Goals as goal

pub weights_of-places-requires-clause-known : goal.weights_of-places-requires-clause-known
weights_of-places-requires-clause-known c =
    subst (λ actions. are_nests_known actions ≡ true) (sym c.as_slice-actions.ensures)
    (range_known c.args.draft.now c.requires.ranges)

pub weights_of-bounds-requires-clause-known : goal.weights_of-bounds-requires-clause-known
weights_of-bounds-requires-clause-known c =
    subst (λ actions. are_nests_known actions ≡ true) (sym c.as_slice-actions.ensures)
    (range_known c.args.draft.now c.requires.ranges)

pub returns-clause-places : goal.returns-clause-places
returns-clause-places c =
    let tells =
    subst (λ actions. Tells actions c.weights_of-places.result
    (weight (replicate most_actions 1) most_depth actions)) c.as_slice-actions.ensures
    c.weights_of-places.ensures in
    c.played_weight.ensures
    ∙ ap (λ plays. counted (played_weight (at c.weights_of-places.result) plays)) c.as_slice-plays.ensures
    ∙ counted_places c.args.draft.now c.requires c.weights_of-places.result (replicate most_actions 1)
    (λ a l. get_or-replicate most_actions a 1 0 (omega (arith, l, few_actions c.args.draft.now c.requires))) tells

pub returns-clause-bound : goal.returns-clause-bound
returns-clause-bound c =
    let tells =
    subst (λ actions. Tells actions c.weights_of-bounds.result (weight c.own_bounds-own.result most_depth actions))
    c.as_slice-actions.ensures c.weights_of-bounds.ensures in
    let own =
    subst (λ (actions : List ActionRow). Tells actions c.own_bounds-own.result
    (λ a. own_entries (slice_index_or actions a no_action))) c.as_slice-actions.ensures c.own_bounds-own.ensures in
    c.played_weight-2.ensures
    ∙ ap (λ plays. counted (played_weight (at c.weights_of-bounds.result) plays)) c.as_slice-plays.ensures
    ∙ counted_bound c.args.draft.now c.requires c.weights_of-bounds.result c.own_bounds-own.result own tells
