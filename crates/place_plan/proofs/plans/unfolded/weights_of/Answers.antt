use Rattle.std.proofs.Common.{◌≡◌, ◌∙◌, ap, sym, subst, arith, add-one}
use Rattle.caa_base.specs.Written.Limits.{most_actions, most_depth}
use Rattle.place_plan.specs.Plans.Weights.{counted, weight}
use Rattle.place_plan.specs.inner.Tables.{Tells}
use Rattle.place_plan.proofs.OnPlans.Counted.{weight_more, weight_none, zeros_tell}
use Rattle.place_plan.proofs.plans.unfolded.weights_of.Goals as goal

pub loop-level-init : goal.loop-level-init
loop-level-init c =
    λ a l. zeros_tell a most_actions (omega (arith, l, c.requires.few))
    ∙ sym (ap counted (weight_none c.args.own.now c.args.actions.now a))

pub loop-level-preserved : goal.loop-level-preserved
loop-level-preserved c = λ a l.
    c.one_level_deeper-table.ensures a l
    ∙ weight_more c.args.actions.now c.loop-level.table c.args.own.now c.loop-level.level c.requires.known c.loop-level.invariant a
    ∙ ap (λ n. counted (weight c.args.own.now n c.args.actions.now a)) (sym (add-one c.loop-level.level))

pub returns : goal.returns
returns c =
    let last : c.loop-level.level ≡ most_depth = omega arith in
    subst (λ n. Tells c.args.actions.now c.loop-level.table (weight c.args.own.now n c.args.actions.now)) last c.loop-level.invariant
