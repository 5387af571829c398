use Rattle.std.proofs.Common.{◌≡◌, drop}
use Rattle.place_plan.specs.Drafts.DraftRules.{nests_below, order_rule}
use Rattle.place_plan.proofs.drafts.uses.keeps_order.Given as goal

abbrev pub invariant-loop-number : goal.invariant-loop-number
invariant-loop-number l = nests_below l.number (drop l.number l.draft.actions) ≡ order_rule l.draft
