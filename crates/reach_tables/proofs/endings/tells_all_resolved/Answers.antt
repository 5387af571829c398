use Rattle.std.proofs.Common.{arith}
use Rattle.reach_tables.specs.ReachTable.{tells_resolved}
use Rattle.reach_tables.proofs.Checked.{range_all, one_more}
use Rattle.reach_tables.proofs.endings.tells_all_resolved.Goals as goal

pub loop-exception-preserved : goal.loop-exception-preserved
loop-exception-preserved c =
    one_more (tells_resolved c.args.internal.now c.args.interface.now c.args.action.now c.args.row.now c.args.groups.now) c.loop-exception.exception
    c.loop-exception.invariant (c.in_ok-tells_resolved.ensures c.if-not-branch.false)

pub returns : goal.returns
returns c = λ e.
    let test = c.loop-exception-test.false in
    let count = c.count-exception-end.ensures in
    range_all (tells_resolved c.args.internal.now c.args.interface.now c.args.action.now c.args.row.now c.args.groups.now) 0 c.args.internal.now.count
    (λ x l m. c.loop-exception.invariant x (omega arith))
