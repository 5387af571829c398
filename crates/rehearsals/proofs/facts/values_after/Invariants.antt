use Rattle.std.proofs.Common.{◌≡◌, take}
use Rattle.place_plan.specs.Plans.Places.{initials_of}
use Rattle.rehearsals.specs.Facts.{values_after}
use Rattle.rehearsals.proofs.facts.values_after.Given as goal

abbrev pub invariant-loop-entry : goal.invariant-loop-entry
invariant-loop-entry l = l.values.items ≡ values_after (initials_of l.plan) (take l.entry-index l.entries)
