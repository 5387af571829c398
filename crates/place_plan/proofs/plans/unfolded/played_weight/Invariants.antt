use Rattle.std.proofs.Common.{◌≡◌, ◌≤◌, ◌+◌, drop}
use Rattle.place_plan.specs.Plans.Weights.{at, counted, played_weight, most_counted}
use Rattle.place_plan.proofs.plans.unfolded.played_weight.Given as goal

abbrev pub invariant-loop-play : goal.invariant-loop-play
invariant-loop-play l = record {
  value : counted (l.sum + played_weight (at l.weights) (drop l.play-index l.plays)) ≡ counted (played_weight (at l.weights) l.plays);
  small : l.sum ≤ most_counted;
}
