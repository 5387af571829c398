use Rattle.fault_trials.specs.Measures.{GrewBy, IsLeftBy}
use Rattle.fault_trials.proofs.measure.add_lefts.Given as goal

abbrev pub invariant-loop-object : goal.invariant-loop-object
invariant-loop-object l = GrewBy (IsLeftBy l.plan l.ending l.values) l.initial.lefts.items l.lefts.items
