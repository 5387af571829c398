use Rattle.std.proofs.Common.{ℕ, ◌<◌, slice_index_or}
use Rattle.cover_table.specs.Cover.{IsSound, SetsHaveLeastCovers}
use Rattle.place_plan.specs.Plans.Places.{no_graph}
use Rattle.place_plan.proofs.plans.plan.are_sound.Given as goal

abbrev pub invariant-loop-row : goal.invariant-loop-row
invariant-loop-row l =
    (g : ℕ) → g < l.row-index
    → IsSound (slice_index_or l.rows g no_graph).graph × SetsHaveLeastCovers (slice_index_or l.rows g no_graph).graph
