use Rattle.std.proofs.Common.{◌≡◌, ℕ, ◌<◌, ◌≤◌}
use Rattle.std.specs.Prelude.{slice_index_or}
use Rattle.graph_drawing.specs.declared.spots.Spot.{Spot}
use Rattle.graph_drawing.specs.Spots.{end_at, EndsBy}
use Rattle.graph_drawing.proofs.spots.reach_of.Given as goal

abbrev pub invariant-loop-spot : goal.invariant-loop-spot
invariant-loop-spot l = record {
  past : (k : ℕ) (d : Spot) → k < l.spot-index → (slice_index_or l.spots k d).layer ≡ l.layer → end_at l.spots k d ≤ l.reach;
  least : (bound : ℕ) → EndsBy l.spots bound → l.reach ≤ bound;
}
