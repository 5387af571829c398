use Rattle.std.proofs.Common.{◌≡◌, drop}
use Rattle.place_plan.specs.Drafts.DraftRules.{entered_by}
use Rattle.place_plan.proofs.drafts.uses.next_enter.Given as goal

abbrev pub invariant-loop-index : goal.invariant-loop-index
invariant-loop-index l = entered_by (drop l.index l.steps) ≡ entered_by l.steps
