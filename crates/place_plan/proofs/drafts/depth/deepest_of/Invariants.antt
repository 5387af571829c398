use Rattle.std.proofs.Common.{◌≡◌, drop, max}
use Rattle.place_plan.specs.Drafts.DraftRules.{deepest_of}
use Rattle.place_plan.specs.Plans.Weights.{at}
use Rattle.place_plan.proofs.drafts.depth.deepest_of.Given as goal

abbrev pub invariant-loop-action : goal.invariant-loop-action
invariant-loop-action l = max l.most (deepest_of (at l.depths) (drop l.action-index l.actions)) ≡ deepest_of (at l.depths) l.actions
