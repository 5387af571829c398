use Rattle.std.proofs.Common.{◌≡◌, ◌∙◌, ◌<◌, ◌+◌, length, slice_index_or, ap, arith}
use Rattle.std.proofs.lemmas.List.{get_or_default}
use Rattle.std.proofs.Math.ListN.{length-set}
use Rattle.place_plan.specs.declared.drafts.draft_rows.ActionRow.{ActionRow}
use Rattle.place_plan.specs.Plans.Places.{no_action}
use Rattle.place_plan.specs.Plans.Weights.{counted, at, nested_weight}
use Rattle.place_plan.proofs.OnPlans.Counted.{one_more}
use Rattle.place_plan.proofs.plans.unfolded.one_level_deeper.Goals as goal

pub loop-number-preserved : goal.loop-number-preserved
loop-number-preserved c =
    let l : c.loop-number.number < length c.args.actions.now = omega arith in
    let row : c.index-actions-number.result ≡ slice_index_or c.args.actions.now c.loop-number.number no_action =
    c.index-actions-number.is
    ∙ get_or_default c.args.actions.now c.loop-number.number c.index-actions-number.result no_action l in
    let nested =
    c.nested_weight-nested.ensures
    ∙ ap (λ nests. counted (nested_weight (at c.args.weights.now) nests))
    (c.as_slice.ensures ∙ ap (λ (a : ActionRow). a.nests) row) in
    let both : c.counted_sum.result
    ≡ counted (at c.args.own.now c.loop-number.number + nested_weight (at c.args.weights.now)
    (slice_index_or c.args.actions.now c.loop-number.number no_action).nests) = omega
    (arith, nested, c.counted_sum.ensures, c.number_at.ensures) in
    record {
      told =
          one_more c.loop-number.table c.loop-number.number c.counted_sum.result
          (λ a. counted (at c.args.own.now a + nested_weight (at c.args.weights.now)
          (slice_index_or c.args.actions.now a no_action).nests))
          (omega (arith, c.loop-number.invariant.long)) c.loop-number.invariant.told both;
      long = length-set c.loop-number.table c.loop-number.number c.counted_sum.result ∙ c.loop-number.invariant.long;
    }
