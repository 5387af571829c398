use Rattle.std.proofs.Common.{arith}
use Rattle.name_uses.proofs.Found.{found_begun, found_more, found_done}
use Rattle.name_uses.proofs.occurrences.occurrences.Goals as goal

pub loop-line-init : goal.loop-line-init
loop-line-init c =
    found_begun c.args.script.now.names c.args.lines.now c.new-found.result.items c.in_ok-scope.scope c.new-found.ensures.items
    c.in_ok-scope.ensures

pub loop-line-preserved : goal.loop-line-preserved
loop-line-preserved c =
    found_more c.args.script.now.names c.args.lines.now _ c.loop-line.found.items c.take_line.new.found.items c.loop-line.scope
    c.take_line.new.scope c.loop-line.line-index c.line-item.result c.loop-line-test.true c.line-item.is c.loop-line.invariant
    c.in_ok-take_line.ensures.scope c.in_ok-take_line.ensures.found

pub returns : goal.returns
returns c =
    found_done c.args.script.now.names c.args.lines.now _ c.loop-line.found.items c.loop-line.scope c.loop-line.line-index
    (omega (arith, c.loop-line-test.false)) c.loop-line.invariant
