use Rattle.std.proofs.Common.{◌≡◌, ℕ, ◌+◌, ◌<◌, ◌≤◌, false, length, take}
use Rattle.std.specs.Prelude.{if◌then◌else◌, slice_index}
use Rattle.graph_drawing.specs.Layers.{unset, is_free, next_layer}
use Rattle.graph_drawing.proofs.layers.settle.Given as goal

abbrev pub invariant-loop-node : goal.invariant-loop-node
invariant-loop-node l = record {
  size : length l.next.items ≡ l.node;
  each : (n : ℕ) → n < l.node → slice_index l.next.items n ≡ next_layer l.layers l.edges l.layer n;
  fewer : unset l.next.items + (if l.any then 1 else 0) ≤ unset (take l.node l.layers);
  stuck : l.any ≡ false → (n : ℕ) → n < l.node → is_free l.layers l.edges n ≡ false;
}
