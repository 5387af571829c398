use Rattle.place_plan.specs.Drafts.DraftRules.{depth_within}
use Rattle.place_plan.specs.inner.Tables.{Tells}
use Rattle.place_plan.proofs.drafts.depth.depths_of.Given as goal

abbrev pub invariant-loop-level : goal.invariant-loop-level
invariant-loop-level l = Tells l.actions l.table (depth_within l.level l.actions)
