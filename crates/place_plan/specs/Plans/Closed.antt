-- What is known of a plan that was closed.
use Rattle.std.specs.Prelude.{◌≡◌, ℕ, ◌<◌, List, length, slice_index_or, None}
use Rattle.cover_table.specs.Cover.{IsSound, SetsHaveLeastCovers}
use Rattle.place_plan.specs.declared.drafts.draft.Draft.{Draft}
use Rattle.place_plan.specs.declared.drafts.draft_rows.GraphRow.{GraphRow}
use Rattle.place_plan.specs.Plans.PlanValue.{Plan}
use Rattle.place_plan.specs.Plans.Places.{no_graph}
use Rattle.place_plan.specs.Plans.Unfolding.{plan_of}
use Rattle.place_plan.specs.Drafts.DraftRules.{broken_rule}

-- each graph is sound: so what is raised has a least cover, and one alone
abbrev pub AreSound : List GraphRow → Type 0
AreSound rows =
    (g : ℕ) → g < length rows
    → IsSound (slice_index_or rows g no_graph).graph × SetsHaveLeastCovers (slice_index_or rows g no_graph).graph

-- the plan is the unfolding of a draft that breaks no rule, and its graphs are sound
pub record IsClosed (plan : Plan) : Type 0 where
  pub draft : Draft
  pub whole : broken_rule draft ≡ None
  pub sound : AreSound draft.graphs
  pub same : plan ≡ plan_of draft
