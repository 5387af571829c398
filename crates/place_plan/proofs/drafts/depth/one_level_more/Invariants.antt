use Rattle.std.proofs.Common.{◌≡◌, ◌+◌, ◌<◌, ℕ, slice_index_or, length}
use Rattle.caa_base.specs.Written.Limits.{most_actions}
use Rattle.place_plan.specs.Plans.Places.{no_action}
use Rattle.place_plan.specs.Drafts.DraftRules.{deepest}
use Rattle.place_plan.specs.Plans.Weights.{at, counted}
use Rattle.place_plan.proofs.drafts.depth.one_level_more.Given as goal

abbrev pub invariant-loop-number : goal.invariant-loop-number
invariant-loop-number l = record {
  told : (a : ℕ) → a < l.number → at l.table a ≡ counted (1 + deepest (at l.depths) (slice_index_or l.actions a no_action).nests);
  long : length l.table ≡ most_actions;
}
