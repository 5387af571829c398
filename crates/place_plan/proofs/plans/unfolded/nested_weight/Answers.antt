use Rattle.std.proofs.Common.{◌≡◌, ◌∙◌, ◌<◌, length, get_or, ap, arith, sum_by}
use Rattle.place_plan.specs.declared.drafts.draft_rows.NestRow.{NestRow}
use Rattle.place_plan.specs.Plans.Weights.{counted, at}
use Rattle.place_plan.proofs.OnPlans.Counted.{nested_step}
use Rattle.place_plan.proofs.plans.unfolded.nested_weight.Goals as goal

pub loop-nest-preserved : goal.loop-nest-preserved
loop-nest-preserved c =
    let l : c.loop-nest.nest-index < length c.args.nests.now = omega arith in
    let step = nested_step (at c.args.weights.now) c.args.nests.now c.loop-nest.nest-index c.nest-item.result l in
    let here : c.weight_of.result
    ≡ counted (sum_by (at c.args.weights.now)
    (get_or c.args.nests.now c.loop-nest.nest-index c.nest-item.result).actions) =
    c.weight_of.ensures ∙ ap (λ actions. counted (sum_by (at c.args.weights.now) actions))
    (c.as_slice.ensures ∙ ap (λ (n : NestRow). n.actions) c.nest-item.is) in
    record {
      value = omega (arith, step, here, c.counted_sum-sum.ensures, c.loop-nest.invariant.value);
      small = omega (arith, c.counted_sum-sum.ensures);
    }
