use Rattle.std.proofs.Common.{◌≡◌, ◌+◌, ◌<◌, ℕ, slice_index_or, length}
use Rattle.caa_base.specs.Written.Limits.{most_actions}
use Rattle.place_plan.specs.Plans.Places.{no_action}
use Rattle.place_plan.specs.Plans.Weights.{at, counted, nested_weight}
use Rattle.place_plan.proofs.plans.unfolded.one_level_deeper.Given as goal

abbrev pub invariant-loop-number : goal.invariant-loop-number
invariant-loop-number l = record {
  told : (a : ℕ) → a < l.number
      → at l.table a ≡ counted (at l.own a + nested_weight (at l.weights) (slice_index_or l.actions a no_action).nests);
  long : length l.table ≡ most_actions;
}
