use Rattle.std.proofs.Common.{◌≡◌, ◌≤◌, ◌+◌, drop, sum_by}
use Rattle.place_plan.specs.Plans.Weights.{at, counted, most_counted}
use Rattle.place_plan.proofs.plans.unfolded.weight_of.Given as goal

abbrev pub invariant-loop-action : goal.invariant-loop-action
invariant-loop-action l = record {
  value : counted (l.sum + sum_by (at l.weights) (drop l.action-index l.actions)) ≡ counted (sum_by (at l.weights) l.actions);
  small : l.sum ≤ most_counted;
}
