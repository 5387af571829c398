use Rattle.std.proofs.Common.{◌≡◌, take}
use Rattle.rehearsals.specs.Tallies.{AreWithin}
use Rattle.rehearsals.proofs.Counting.{CountsSo}
use Rattle.rehearsals.proofs.tally.Tally.note.Given as goal

abbrev pub invariant-loop-fact : goal.invariant-loop-fact
invariant-loop-fact l = record {
  within : AreWithin l.number l.rows.items;
  counts : CountsSo l.number l.initial.rows.items l.rows.items (take l.fact-index l.facts);
}
