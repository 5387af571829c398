use Rattle.std.proofs.Common.{ℕ, ◌<◌, slice_index_or}
use Rattle.graph_drawing.specs.Layers.{IsWithin}
use Rattle.graph_drawing.specs.declared.edges.Edge.{Edge}
use Rattle.script_pages.proofs.graphs.are_within.Given as goal

abbrev pub invariant-loop-edge : goal.invariant-loop-edge
invariant-loop-edge l = (k : ℕ) (d : Edge) → k < l.edge-index → IsWithin l.count (slice_index_or l.edges k d)
