use Rattle.std.proofs.Common.{◌≡◌, drop}
use Rattle.std.specs.List.{list_all}
use Rattle.place_plan.specs.declared.drafts.draft_rows.ActionRow.{ActionRow}
use Rattle.place_plan.specs.Drafts.DraftRules.{roles_enter, enter_rule}
use Rattle.place_plan.proofs.drafts.uses.keeps_enters.Given as goal

abbrev pub invariant-loop-action : goal.invariant-loop-action
invariant-loop-action l =
    list_all (λ (action : ActionRow). roles_enter action.nests 0 action.roles) (drop l.action-index l.draft.actions)
    ≡ enter_rule l.draft
