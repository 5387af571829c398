use Rattle.std.proofs.Common.{◌-◌, sym, ◌∙◌, arith}
use Rattle.interlock_rules.proofs.MayBe.{last_told, doubt_told}
use Rattle.interlock_rules.proofs.places.where_may_be.Goals as goal

pub returns-then-is_put_on : goal.returns-then-is_put_on
returns-then-is_put_on c = λ x.
    last_told c.args.plan.now c.args.entries.now (c.loop-index.index - 1) c.loop-index.index c.args.object x _ _ (omega arith) (omega arith)
    (sym c.is_put_on.ensures ∙ c.if-is_put_on.true) (c.in_ok-add_value.ensures x) (c.loop-index.invariant x)

pub loop-index-preserved-in-Continue-branch-2 : goal.loop-index-preserved-in-Continue-branch-2
loop-index-preserved-in-Continue-branch-2 c = λ x.
    doubt_told c.args.plan.now c.args.entries.now (c.loop-index.index - 1) c.loop-index.index c.args.object x _ _ (omega arith) (omega arith)
    (sym c.is_put_on.ensures ∙ c.if-is_put_on.false) (sym c.is_fault_on.ensures ∙ c.if-is_fault_on.true)
    (c.in_ok-add_value-2.ensures x) (c.loop-index.invariant x)
