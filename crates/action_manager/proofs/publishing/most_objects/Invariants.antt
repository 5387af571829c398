use Rattle.std.proofs.Common.{◌≡◌, ℕ, ◌<◌, ◌≤◌, length}
use Rattle.place_plan.specs.Plans.Places.{objects_of}
use Rattle.action_manager.proofs.publishing.most_objects.Given as goal

abbrev pub invariant-loop-place : goal.invariant-loop-place
invariant-loop-place l = record {
  end : l.place-end ≡ length l.plan.places;
  most : (p : ℕ) → p < l.place → length (objects_of l.plan p) ≤ l.most;
}
