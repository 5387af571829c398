use Rattle.std.proofs.Common.{vec_len, ◌-◌, ◌+◌, ◌≡◌, ◌≤◌}
use Rattle.std.specs.Io.KnownBytes.{prepend_known}
use Rattle.caa_base.proofs.outside.reading.read_all.Given as goal

abbrev pub invariant-loop-bytes : goal.invariant-loop-bytes
invariant-loop-bytes g l = record {
  fits : vec_len l.bytes ≤ l.limit;
  taken : g.S.Source.left l.fn.source ≡ prepend_known l.bytes.items (g.S.Source.left l.source);
  count : g.S.Source.faults l.source ≡ g.S.Source.faults l.fn.source;
}

abbrev pub decreases-loop-bytes : goal.decreases-loop-bytes
decreases-loop-bytes g l = l.limit + 1 - vec_len l.bytes
