use Rattle.std.proofs.Common.{rules}
use Rattle.script_checker.proofs.Taking.{taken_more, refused_line}
use Rattle.script_checker.proofs.refused.take_lines.Goals as goal

pub loop-index-preserved : goal.loop-index-preserved
loop-index-preserved c =
    taken_more c.args.names.now c.args.lines.now c.loop-index.index c.loop-index.so_far c.take.new.so_far c.loop-index.rows.items
    c.take.new.rows.items c.index-lines-index.result
    c.loop-index-test.true c.index-lines-index.is c.loop-index.invariant
    c.in-Ok.ensures.accepted c.in-Ok.ensures.taken c.in-Ok.ensures.rows

pub returns-in-Err : goal.returns-in-Err
returns-in-Err c = record {
  taken = λ none. absurd cc;
  accepted = λ none. absurd cc;
  refused =
      refused_line c.args.names.now c.args.lines.now c.loop-index.index c.loop-index.so_far c.loop-index.rows.items
      c.index-lines-index.result c.in-Err.cause
      c.loop-index-test.true c.index-lines-index.is c.loop-index.invariant (c.in-Err.ensures.refused (search rules));
}
