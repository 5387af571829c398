-- Where the nodes of a graph are drawn.
use Rattle.std.specs.Prelude.{◌≡◌, ℕ, ◌+◌, ◌<◌, ◌≤◌, List, length, slice_index_or}
use Rattle.graph_drawing.specs.declared.spots.Spot.{Spot}

-- how far to the right node k reaches
abbrev pub end_at : List Spot → ℕ → Spot → ℕ
end_at spots k d = (slice_index_or spots k d).left + (slice_index_or spots k d).width

-- no node reaches further than this
abbrev pub EndsBy : List Spot → ℕ → Type 0
EndsBy spots bound = (k : ℕ) (d : Spot) → k < length spots → end_at spots k d ≤ bound

-- of two nodes in one layer the later one begins where the earlier one has ended
abbrev pub AreApart : List Spot → Type 0
AreApart spots = (a b : ℕ) (d : Spot) → a < b → b < length spots
    → (slice_index_or spots a d).layer ≡ (slice_index_or spots b d).layer → end_at spots a d ≤ (slice_index_or spots b d).left
