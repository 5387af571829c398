use Rattle.std.proofs.Common.{◌≡◌, ◌<◌, ℕ, slice_index_or, length}
use Rattle.caa_base.specs.Written.Limits.{most_actions}
use Rattle.place_plan.specs.Plans.Places.{no_action}
use Rattle.place_plan.specs.Plans.Weights.{counted, at, own_entries}
use Rattle.place_plan.proofs.plans.unfolded.own_bounds.Given as goal

abbrev pub invariant-loop-number : goal.invariant-loop-number
invariant-loop-number l = record {
  told : (a : ℕ) → a < l.number → at l.table a ≡ counted (own_entries (slice_index_or l.actions a no_action));
  long : length l.table ≡ most_actions;
}
