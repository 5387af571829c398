use Rattle.std.proofs.Common.{◌≡◌, take}
use Rattle.place_plan.specs.Plans.Places.{initials_of}
use Rattle.rehearsals.specs.Facts.{values_after}
use Rattle.fault_trials.specs.Measures.{GrewBy, IsLeftIn, IsWayIn}
use Rattle.fault_trials.proofs.measure.note_ends.Given as goal

abbrev pub invariant-loop-entry : goal.invariant-loop-entry
invariant-loop-entry l = record {
  values : l.values.items ≡ values_after (initials_of l.plan) (take l.entry-index l.entries);
  lefts : GrewBy (IsLeftIn l.plan l.entries) l.initial.lefts.items l.lefts.items;
  ways : GrewBy (IsWayIn l.plan l.entries) l.initial.ways.items l.ways.items;
}
