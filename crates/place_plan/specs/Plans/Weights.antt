-- How much the actions of a draft unfold into, counted up to a most.
use Rattle.std.specs.Prelude.{ℕ, ◌+◌, min, List, slice_index_or, sum_by, length, zero, suc}
use Rattle.place_plan.specs.declared.drafts.draft_rows.ActionRow.{ActionRow}
use Rattle.place_plan.specs.declared.drafts.draft_rows.NestRow.{NestRow}
use Rattle.place_plan.specs.declared.drafts.draft_rows.PlayRow.{PlayRow}
use Rattle.place_plan.specs.Plans.Places.{no_action}
use Rattle.place_plan.specs.Plans.Bound.{action_bound}

-- the greatest number that is counted
abbrev pub most_counted : ℕ
most_counted = 4000000000

-- a number, or the most that is counted where it is greater
abbrev pub counted : ℕ → ℕ
counted n = min most_counted n

-- a table as a function; past its end it has 0
abbrev pub at : List ℕ → ℕ → ℕ
at table n = slice_index_or table n 0

-- the sum over all actions of nested uses
abbrev pub nested_weight : (ℕ → ℕ) → List NestRow → ℕ
nested_weight weight nests = sum_by (λ nest. sum_by weight nest.actions) nests

-- the weight of an action with what is nested in it at most `depth` deep, where each instance has the weight that the table gives
-- its action
unfoldable pub weight : List ℕ → ℕ → List ActionRow → ℕ → ℕ
weight own zero actions a = 0
weight own (suc depth) actions a = at own a + nested_weight (weight own depth actions) (slice_index_or actions a no_action).nests

-- how many entries an instance of an action may have, what is nested in it aside
abbrev pub own_entries : ActionRow → ℕ
own_entries action = action_bound action (length action.roles)

-- the weight of all plays
abbrev pub played_weight : (ℕ → ℕ) → List PlayRow → ℕ
played_weight weight plays = sum_by (λ (play : PlayRow). weight play.action) plays
