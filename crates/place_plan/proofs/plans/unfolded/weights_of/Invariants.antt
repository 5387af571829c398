use Rattle.place_plan.specs.Plans.Weights.{weight}
use Rattle.place_plan.specs.inner.Tables.{Tells}
use Rattle.place_plan.proofs.plans.unfolded.weights_of.Given as goal

abbrev pub invariant-loop-level : goal.invariant-loop-level
invariant-loop-level l = Tells l.actions l.table (weight l.own l.level l.actions)
