use Rattle.std.proofs.Common.{sym, ◌∙◌}
use Rattle.reach_tables.proofs.EnteredSteps.{rest_behind, none_behind}
use Rattle.reach_tables.proofs.order.enters_behind.Goals as goal

pub returns-then-index-steps : goal.returns-then-index-steps
returns-then-index-steps c = sym (none_behind _ c.args.index c.args.steps.now c.if-index-steps.true)

pub returns : goal.returns
returns c = c.some_up_to.ensures ∙ rest_behind _ c.args.index c.args.steps.now
