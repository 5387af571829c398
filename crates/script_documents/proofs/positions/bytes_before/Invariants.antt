use Rattle.std.proofs.Common.{◌≡◌, ◌+◌, length}
use Rattle.script_documents.specs.Positions.{bytes_before}
use Rattle.script_documents.proofs.positions.bytes_before.Given as goal

abbrev pub invariant-loop-byte : goal.invariant-loop-byte
invariant-loop-byte l = record {
  same : bytes_before l.units l.text ≡ l.count + bytes_before l.left l.rest;
  whole : l.count + length l.rest ≡ length l.text;
}

abbrev pub decreases-loop-byte : goal.decreases-loop-byte
decreases-loop-byte l = length l.rest
