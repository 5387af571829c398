use Rattle.std.proofs.Common.{◌≡◌, drop}
use Rattle.place_plan.specs.Drafts.DraftRules.{depths_fit, depth_rule}
use Rattle.place_plan.proofs.drafts.depth.keeps_depth.Given as goal

abbrev pub invariant-loop-number : goal.invariant-loop-number
invariant-loop-number l = depths_fit l.number l.draft.actions (drop l.number l.draft.actions) ≡ depth_rule l.draft
