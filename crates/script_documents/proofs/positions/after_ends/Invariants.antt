use Rattle.std.proofs.Common.{◌≡◌, ◌≤◌, length}
use Rattle.script_documents.specs.Positions.{after_ends}
use Rattle.script_documents.proofs.positions.after_ends.Given as goal

abbrev pub invariant-loop-more : goal.invariant-loop-more
invariant-loop-more l = record {
  rest : after_ends l.left l.rest ≡ after_ends l.count l.text;
  within : length l.rest ≤ length l.text;
}

abbrev pub decreases-loop-more : goal.decreases-loop-more
decreases-loop-more l = length l.rest
