-- How many entries a plan allows at most.
use Rattle.std.specs.Prelude.{ℕ, ◌+◌, ◌*◌, max, List, [], ◌∷◌, length, slice_index_or, sum_by}
use Rattle.place_plan.specs.declared.drafts.draft_rows.RoleRow.{RoleRow}
use Rattle.place_plan.specs.declared.drafts.draft_rows.HandlerRow.{HandlerRow}
use Rattle.place_plan.specs.declared.drafts.draft_rows.ActionRow.{ActionRow}
use Rattle.place_plan.specs.Plans.PlanValue.{Plan, PlaceRow}
use Rattle.place_plan.specs.Plans.Places.{no_action}

-- the steps of the longest body
abbrev pub longest_body : List RoleRow → ℕ
longest_body [] = 0
longest_body (r ∷ rs) = max (length r.body.steps) (longest_body rs)

-- the steps of the longest of these handlers
abbrev pub longest_of : List HandlerRow → ℕ
longest_of [] = 0
longest_of (h ∷ hs) = max (length h.program.steps) (longest_of hs)

-- the steps of the longest handler, 0 where there is none
abbrev pub longest_handler : List RoleRow → ℕ
longest_handler [] = 0
longest_handler (r ∷ rs) = max (longest_of r.handlers) (longest_handler rs)

-- how many entries an instance of this action may have, played by so many roles. For each role: its steps, and eight more (it
-- arrives, is halted, gives a verdict before a resolution and one after it, begins its handler, is refused a put there, gives up,
-- leaves). A restore for each object. Four for the place: it starts, is resolved, is undone, ends
unfoldable pub action_bound : ActionRow → ℕ → ℕ
action_bound action roles = roles * (8 + longest_body action.roles + longest_handler action.roles) + length action.objects + 4

-- how many entries a place may have
abbrev pub row_bound : List ActionRow → PlaceRow → ℕ
row_bound actions row = action_bound (slice_index_or actions row.action no_action) (length row.roles)

-- the sum over all places
abbrev pub bound : Plan → ℕ
bound plan = sum_by (row_bound plan.actions) plan.places
