use Rattle.std.proofs.Common.{◌∙◌, sym, ap, length, arith}
use Rattle.reach_tables.proofs.Checked.{every_number}
use Rattle.reach_tables.proofs.checking.leaves_nothing_out.Goals as goal

pub returns : goal.returns
returns c = λ e.
    let same = ap length c.action_rows-actions.ensures in
    let test = c.loop-index-test.false in
    every_number c.args.plan.now c.args.table.now (sym same ∙ c.if-actions-table.false) (λ a l. c.loop-index.invariant a (omega arith))
