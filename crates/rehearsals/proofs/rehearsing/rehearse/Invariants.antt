use Rattle.std.proofs.Common.{◌≡◌}
use Rattle.rehearsals.specs.Tallies.{Rehearsed}
use Rattle.rehearsals.proofs.rehearsing.rehearse.Given as goal

abbrev pub invariant-loop-number : goal.invariant-loop-number
invariant-loop-number l = record {
  plan : l.rehearsal.plan ≡ l.initial.rehearsal.plan;
  noted : l.rehearsal.tally.noted ≡ l.number;
  counts : Rehearsed l.rehearsal.plan l.rehearsal.paths.items l.rehearsal.tally.rows l.rehearsal.tally.noted;
}
