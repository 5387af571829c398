use Rattle.std.proofs.Common.{◌≡◌, ◌∙◌, ap, sym, subst, arith, add-one, suc}
use Rattle.caa_base.specs.Written.Limits.{most_actions, most_depth}
use Rattle.place_plan.specs.Drafts.DraftRules.{depth_within}
use Rattle.place_plan.specs.Plans.Weights.{counted}
use Rattle.place_plan.specs.inner.Tables.{Tells}
use Rattle.place_plan.proofs.OnPlans.Counted.{depth_more, depth_none, zeros_tell}
use Rattle.place_plan.proofs.drafts.depth.depths_of.Goals as goal

pub loop-level-init : goal.loop-level-init
loop-level-init c = λ a l. zeros_tell a most_actions (omega (arith, l, c.requires.few)) ∙ sym (ap counted (depth_none c.args.actions.now a))

pub loop-level-preserved : goal.loop-level-preserved
loop-level-preserved c = λ a l.
    c.one_level_more-table.ensures a l
    ∙ depth_more c.args.actions.now c.loop-level.table c.loop-level.level c.requires.known c.loop-level.invariant a
    ∙ ap (λ n. counted (depth_within n c.args.actions.now a)) (sym (add-one c.loop-level.level))

pub returns : goal.returns
returns c =
    let last : c.loop-level.level ≡ suc most_depth = omega arith in
    subst (λ n. Tells c.args.actions.now c.loop-level.table (depth_within n c.args.actions.now)) last c.loop-level.invariant
