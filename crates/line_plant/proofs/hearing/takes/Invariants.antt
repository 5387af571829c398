use Rattle.std.proofs.Common.{◌≡◌, take}
use Rattle.std.specs.Io.KnownBytes.{prepend_known}
use Rattle.line_plant.proofs.hearing.takes.Given as goal

abbrev pub invariant-loop-byte : goal.invariant-loop-byte
invariant-loop-byte g l = record {
  taken : g.S.Source.left l.fn.source ≡ prepend_known (take l.byte-index l.wanted) (g.S.Source.left l.source);
  unfailed : g.S.Source.faults l.source ≡ g.S.Source.faults l.fn.source;
}
