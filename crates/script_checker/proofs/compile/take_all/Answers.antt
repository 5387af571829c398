use Rattle.script_checker.proofs.Taking.{none_taken, taken_more, line_refused, all_declared}
use Rattle.script_checker.proofs.compile.take_all.Goals as goal

pub loop-line-init : goal.loop-line-init
loop-line-init c =
    none_taken c.args.script.now c.names-names.result.now c.lines-line-items.result.now c.args.so_far.now c.args.rows.now.items
    c.names-names.ensures c.requires.begun c.requires.rows

pub loop-line-preserved : goal.loop-line-preserved
loop-line-preserved c =
    let next = c.in_default.ensures in
    taken_more c.names-names.result.now c.lines-line-items.result.now c.loop-line.line-index c.loop-line.so_far c.take.new.so_far
    c.loop-line.rows.items c.take.new.rows.items c.line-item.result
    c.loop-line-test.true c.line-item.is c.loop-line.invariant next.accepted next.taken next.rows

pub returns-in-Err-clause-refused : goal.returns-in-Err-clause-refused
returns-in-Err-clause-refused c = λ ne.
    line_refused c.args.script.now c.names-names.result.now c.lines-line-items.result.now c.loop-line.line-index c.loop-line.so_far
    c.loop-line.rows.items c.line-item.result c.in-Err.cause
    c.names-names.ensures c.lines-line-items.ensures c.loop-line-test.true c.line-item.is c.loop-line.invariant
    (c.in-Err.ensures.refused ne)

pub returns-clause-declared : goal.returns-clause-declared
returns-clause-declared c =
    all_declared c.args.script.now c.names-names.result.now c.lines-line-items.result.now c.loop-line.line-index c.loop-line.so_far
    c.loop-line.rows.items
    c.names-names.ensures c.lines-line-items.ensures c.loop-line-test.false c.loop-line.invariant
