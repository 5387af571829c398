use Rattle.std.proofs.Common.{◌∙◌, ◌<◌, length, ap, sym, arith, suc}
use Rattle.caa_base.specs.Written.Limits.{most_depth}
use Rattle.place_plan.specs.Drafts.DraftRules.{depth_within}
use Rattle.place_plan.specs.Plans.Weights.{counted}
use Rattle.place_plan.proofs.OnPlans.Counted.{depths_deep, depths_next}
use Rattle.place_plan.proofs.drafts.depth.keeps_depth.Goals as goal

pub returns-then-depths-number : goal.returns-then-depths-number
returns-then-depths-number c =
    let l : c.loop-number.number < length c.args.draft.now.actions = omega arith in
    let same = ap length c.as_slice.ensures in
    let told =
    c.depths_of-depths.ensures c.loop-number.number (omega (arith, l, same))
    ∙ ap (λ actions. counted (depth_within (suc most_depth) actions c.loop-number.number)) c.as_slice.ensures in
    sym (depths_deep c.args.draft.now.actions c.loop-number.number l (omega (arith, told, c.if-depths-number.true)))
    ∙ c.loop-number.invariant

pub loop-number-preserved : goal.loop-number-preserved
loop-number-preserved c =
    let l : c.loop-number.number < length c.args.draft.now.actions = omega arith in
    let same = ap length c.as_slice.ensures in
    let told =
    c.depths_of-depths.ensures c.loop-number.number (omega (arith, l, same))
    ∙ ap (λ actions. counted (depth_within (suc most_depth) actions c.loop-number.number)) c.as_slice.ensures in
    sym (depths_next c.args.draft.now.actions c.loop-number.number l (omega (arith, told, c.if-depths-number.false)))
    ∙ c.loop-number.invariant
