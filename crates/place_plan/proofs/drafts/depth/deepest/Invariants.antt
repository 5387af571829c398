use Rattle.std.proofs.Common.{◌≡◌, drop, max}
use Rattle.place_plan.specs.Drafts.DraftRules.{deepest}
use Rattle.place_plan.specs.Plans.Weights.{at}
use Rattle.place_plan.proofs.drafts.depth.deepest.Given as goal

abbrev pub invariant-loop-nest : goal.invariant-loop-nest
invariant-loop-nest l = max l.most (deepest (at l.depths) (drop l.nest-index l.nests)) ≡ deepest (at l.depths) l.nests
