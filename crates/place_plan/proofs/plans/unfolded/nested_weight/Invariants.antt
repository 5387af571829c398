use Rattle.std.proofs.Common.{◌≡◌, ◌≤◌, ◌+◌, drop}
use Rattle.place_plan.specs.Plans.Weights.{at, counted, nested_weight, most_counted}
use Rattle.place_plan.proofs.plans.unfolded.nested_weight.Given as goal

abbrev pub invariant-loop-nest : goal.invariant-loop-nest
invariant-loop-nest l = record {
  value : counted (l.sum + nested_weight (at l.weights) (drop l.nest-index l.nests)) ≡ counted (nested_weight (at l.weights) l.nests);
  small : l.sum ≤ most_counted;
}
