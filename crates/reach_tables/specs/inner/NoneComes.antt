-- What can't be resolved in an action, by what a table tells of it.
use Rattle.std.specs.Prelude.{ℕ, List, IsFalse}
use Rattle.std.specs.List.{All}
use Rattle.place_plan.specs.Plans.PlanValue.{Plan}
use Rattle.place_plan.specs.Plans.Places.{graph_at}
use Rattle.reach_laws.specs.CanCome.{action_of}
use Rattle.reach_tables.specs.declared.table.ReachRow.{ReachRow}
use Rattle.reach_tables.specs.ReachTable.{groups_of, can_resolve}

-- none of these can be resolved in the action a, of which the row tells
abbrev pub NoneComes : Plan → ReachRow → ℕ → List ℕ → Type 0
NoneComes plan row a xs =
    All (λ (x : ℕ). IsFalse (can_resolve (graph_at plan (action_of plan a).internal) (groups_of (action_of plan a) row) x)) xs
