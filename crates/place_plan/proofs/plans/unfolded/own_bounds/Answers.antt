use Rattle.std.proofs.Common.{◌≡◌, ◌∙◌, ◌<◌, length, slice_index_or, ap, arith}
use Rattle.std.proofs.lemmas.List.{get_or_default}
use Rattle.std.proofs.Math.ListN.{length-set}
use Rattle.place_plan.specs.declared.drafts.draft_rows.ActionRow.{ActionRow}
use Rattle.place_plan.specs.Plans.Places.{no_action}
use Rattle.place_plan.specs.Plans.Weights.{counted, own_entries}
use Rattle.place_plan.proofs.OnPlans.Counted.{one_more}
use Rattle.place_plan.proofs.plans.unfolded.own_bounds.Goals as goal

pub loop-number-preserved : goal.loop-number-preserved
loop-number-preserved c =
    let l : c.loop-number.number < length c.args.actions.now = omega arith in
    let row : c.index-actions-number.result ≡ slice_index_or c.args.actions.now c.loop-number.number no_action =
    c.index-actions-number.is
    ∙ get_or_default c.args.actions.now c.loop-number.number c.index-actions-number.result no_action l in
    record {
      told =
          one_more c.loop-number.table c.loop-number.number c.own_bound.result
          (λ a. counted (own_entries (slice_index_or c.args.actions.now a no_action)))
          (omega (arith, c.loop-number.invariant.long)) c.loop-number.invariant.told
          (c.own_bound.ensures ∙ ap (λ (a : ActionRow). counted (own_entries a)) row);
      long = length-set c.loop-number.table c.loop-number.number c.own_bound.result ∙ c.loop-number.invariant.long;
    }
