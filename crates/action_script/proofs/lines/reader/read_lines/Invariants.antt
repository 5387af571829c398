use Rattle.std.proofs.Common.{◌+◌, ◌≤◌, length}
use Rattle.action_script.specs.inner.SoFar.{so_far, HasRead}
use Rattle.action_script.proofs.lines.reader.read_lines.Given as goal

abbrev pub invariant-loop-rest : goal.invariant-loop-rest
invariant-loop-rest l = record {
  read : HasRead l.bytes l.rest (so_far l.reader);
  few : l.reader.line + length l.rest ≤ length l.bytes + 1;
  lines : length l.reader.lines.items + length l.rest ≤ length l.bytes;
  room : length l.reader.names + length l.rest ≤ length l.bytes;
}

abbrev pub decreases-loop-rest : goal.decreases-loop-rest
decreases-loop-rest l = length l.rest
