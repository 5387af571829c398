-- What tables with a number for each action tell.
use Rattle.std.specs.Prelude.{ℕ, ◌<◌, ◌≡◌, Bool, List, length}
use Rattle.std.specs.List.{list_all}
use Rattle.place_plan.specs.declared.drafts.draft_rows.ActionRow.{ActionRow}
use Rattle.place_plan.specs.declared.drafts.draft_rows.NestRow.{NestRow}
use Rattle.place_plan.specs.Drafts.DraftRules.{all_below}
use Rattle.place_plan.specs.Plans.Weights.{counted, at}

-- the table tells this of each action, as far as it is counted
abbrev pub Tells : List ActionRow → List ℕ → (ℕ → ℕ) → Type 0
Tells actions table f = (a : ℕ) → a < length actions → at table a ≡ counted (f a)

-- each use of an action is of actions that are there
abbrev pub are_nests_known : List ActionRow → Bool
are_nests_known actions =
    list_all (λ (action : ActionRow). list_all (λ (nest : NestRow). all_below (length actions) nest.actions) action.nests) actions
