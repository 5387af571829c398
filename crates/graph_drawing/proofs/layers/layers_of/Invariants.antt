use Rattle.std.proofs.Common.{◌≡◌, ℕ, ◌+◌, ◌<◌, ◌≤◌, length}
use Rattle.std.specs.Prelude.{slice_index}
use Rattle.std.specs.List.{All}
use Rattle.graph_drawing.specs.Layers.{MayGoDown, unset}
use Rattle.graph_drawing.proofs.layers.layers_of.Given as goal

abbrev pub invariant-loop-settled : goal.invariant-loop-settled
invariant-loop-settled l = record {
  size : length l.layers.items ≡ l.count;
  below : (n : ℕ) → n < l.count → slice_index l.layers.items n < l.settled + 1;
  kept : All (MayGoDown l.layers.items) l.edges;
  few : unset l.layers.items + l.settled ≤ l.count;
}
