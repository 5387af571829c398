use Rattle.std.proofs.Common.{◌≡◌, ℕ, ◌+◌, ◌*◌, ◌^◌, length, take, map}
use Rattle.graph_drawing.specs.Spots.{EndsBy, AreApart}
use Rattle.graph_drawing.proofs.spots.spots_of.Given as goal

abbrev pub invariant-loop-node : goal.invariant-loop-node
invariant-loop-node l = record {
  size : length l.spots.items ≡ l.node;
  layers : map (λ s. s.layer) l.spots.items ≡ take l.node l.layers;
  widths : map (λ s. s.width) l.spots.items ≡ take l.node l.widths;
  ends : EndsBy l.spots.items (l.node * 2 ^ 21);
  apart : AreApart l.spots.items;
}
