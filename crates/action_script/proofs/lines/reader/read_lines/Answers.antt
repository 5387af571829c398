use Rattle.std.proofs.Common.{[], length, refl, ap, arith}
use Rattle.action_script.specs.inner.SoFar.{so_far}
use Rattle.action_script.proofs.OnLines.LineByLine.{has_read-more, has_read-refused, took-line, took-lines, took-names}
use Rattle.action_script.proofs.lines.reader.read_lines.Goals as goal

pub returns-in-Err-clause-refused : goal.returns-in-Err-clause-refused
returns-in-Err-clause-refused c = λ known.
    has_read-refused c.args.bytes.now c.loop-rest.rest.now c.cut_line.result.1.now c.cut_line.result.0.now (so_far c.loop-rest.reader)
    c.in-Err.error
    c.loop-rest.invariant.read c.cut_line.ensures.cut (c.in-Err.ensures.refused known) c.in-Err.ensures.place

pub loop-rest-preserved : goal.loop-rest-preserved
loop-rest-preserved c =
    let took = c.in-Ok.ensures.taken in
    record {
      read =
          has_read-more c.args.bytes.now c.loop-rest.rest.now c.cut_line.result.1.now c.cut_line.result.0.now
          (so_far c.loop-rest.reader) (so_far c.take_line.new.self) c.loop-rest.invariant.read c.cut_line.ensures.cut took;
      few = omega (arith, took-line (so_far c.loop-rest.reader) c.cut_line.result.0.now (so_far c.take_line.new.self) took);
      lines = omega (arith, took-lines (so_far c.loop-rest.reader) c.cut_line.result.0.now (so_far c.take_line.new.self) took);
      room = omega (arith, took-names (so_far c.loop-rest.reader) c.cut_line.result.0.now (so_far c.take_line.new.self) took);
    }

pub loop-rest-init : goal.loop-rest-init
loop-rest-init c = record {
  read = record { done = []; names = c.new.ensures; lines = c.new-2.ensures.items; whole = refl };
  few = omega arith;
  lines = omega (arith, ap length c.new-2.ensures.items);
  room = omega (arith, ap length c.new.ensures);
}
