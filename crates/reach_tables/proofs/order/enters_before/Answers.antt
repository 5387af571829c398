use Rattle.std.proofs.Common.{◌∙◌}
use Rattle.reach_tables.proofs.EnteredSteps.{some_before, all_before}
use Rattle.reach_tables.proofs.order.enters_before.Goals as goal

pub returns-then-index-steps : goal.returns-then-index-steps
returns-then-index-steps c = c.some_from.ensures ∙ some_before _ c.args.index c.args.steps.now

pub returns-else-index-steps : goal.returns-else-index-steps
returns-else-index-steps c =
    c.some_from-else-index-steps.ensures ∙ all_before _ c.args.index c.args.steps.now c.if-index-steps.false
