use Rattle.std.proofs.Common.{◌≡◌, ◌+◌, ◌*◌, ◌≤◌, ◌<◌, ◌^◌, length}
use Rattle.script_documents.specs.Positions.{position_from}
use Rattle.script_documents.proofs.positions.position_from.Given as goal

abbrev pub invariant-loop-more : goal.invariant-loop-more
invariant-loop-more l = record {
  same : position_from l.position l.left l.rest ≡ position_from l.fn.from l.fn.count l.fn.text;
  lines : l.position.line + length l.rest < 2 ^ 63;
  units : l.position.character + 2 * length l.rest < 2 ^ 63;
  line : l.position.line + l.left ≤ l.fn.from.line + l.fn.count;
  character : l.position.character + 2 * l.left ≤ l.fn.from.character + 2 * l.fn.count;
}

abbrev pub decreases-loop-more : goal.decreases-loop-more
decreases-loop-more l = length l.rest
