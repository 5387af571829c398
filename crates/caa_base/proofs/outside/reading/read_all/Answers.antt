use Rattle.std.proofs.Common.{arith, take, length-append, length-take, ◌++◌, ◌+◌}
use Rattle.caa_base.proofs.KnownBytes.{prepend_known-more, took_without_memory}
use Rattle.caa_base.proofs.outside.reading.read_all.Goals as goal

pub returns-then-taken-spare-clause-taken : goal.returns-then-taken-spare-clause-taken
returns-then-taken-spare-clause-taken g c = record {
  bytes = c.loop-bytes.bytes.items ++ take c.in_ok-taken.taken c.read_once.new.buf;
  number =
      omega (
        arith,
        length-append c.loop-bytes.bytes.items (take c.in_ok-taken.taken c.read_once.new.buf),
        length-take c.in_ok-taken.taken c.read_once.new.buf,
        c.loop-bytes.bytes.ok.0,
        c.in_ok-taken.ensures.bound,
        c.min.ensures,
        c.len.ensures,
        c.read_once.auto.buf,
        length-take (c.min.result + 1) c.loop-bytes.piece,
      );
  front = prepend_known-more _ _ _ _ _ c.loop-bytes.invariant.taken c.in_ok-taken.ensures.bytes;
}

pub returns-in_err-extend_from_slice-clause-taken : goal.returns-in_err-extend_from_slice-clause-taken
returns-in_err-extend_from_slice-clause-taken g c =
    took_without_memory c.from_residual-in_err-extend_from_slice.result _ _ _
    c.from_residual-in_err-extend_from_slice.ensures.1 (record {
      bytes = c.loop-bytes.bytes.items ++ take c.in_ok-taken.taken c.read_once.new.buf;
      number =
          omega (
            arith,
            length-append c.loop-bytes.bytes.items (take c.in_ok-taken.taken c.read_once.new.buf),
            length-take c.in_ok-taken.taken c.read_once.new.buf,
            c.loop-bytes.bytes.ok.0,
            c.in_ok-taken.ensures.bound,
            c.min.ensures,
            c.len.ensures,
            c.read_once.auto.buf,
            length-take (c.min.result + 1) c.loop-bytes.piece,
          );
      front = prepend_known-more _ _ _ _ _ c.loop-bytes.invariant.taken c.in_ok-taken.ensures.bytes;
    })
