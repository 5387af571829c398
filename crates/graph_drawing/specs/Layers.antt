-- The layers of a graph. They are counted from 1; a node that has none yet has 0.
use Rattle.std.specs.Prelude.{◌≡◌, ◌⊎◌, ℕ, ◌<◌, ◌==◌, Bool, true, not, ◌&&◌, if◌then◌else◌, List, slice_index}
use Rattle.std.specs.List.{Contains, count_by, list_any}
use Rattle.graph_drawing.specs.declared.edges.DrawError.{DrawError}
use Rattle.graph_drawing.specs.declared.edges.DrawError.TheVariants as error
use Rattle.graph_drawing.specs.declared.edges.Edge.{Edge}

-- both ends of an edge are among so many nodes
abbrev pub IsWithin : ℕ → Edge → Type 0
IsWithin count e = (e.upper < count) × (e.lower < count)

-- the edge leads from a layer down to a lower one
abbrev pub GoesDown : List ℕ → Edge → Type 0
GoesDown layers e = (0 < slice_index layers e.upper) × (slice_index layers e.upper < slice_index layers e.lower)

-- the edge leads down, or the node below it has no layer yet
abbrev pub MayGoDown : List ℕ → Edge → Type 0
MayGoDown layers e = (slice_index layers e.lower ≡ 0) ⊎ GoesDown layers e

-- how many nodes have no layer yet
abbrev pub unset : List ℕ → ℕ
unset layers = count_by (λ l. l == 0) layers

-- some edge leads down to the node from one of these
abbrev pub HangsBelow : (ℕ → Bool) → List Edge → ℕ → Type 0
HangsBelow among edges n = (e : Edge) × (Contains edges e × (e.lower ≡ n) × (among e.upper ≡ true))

-- there are nodes of which each hangs below another of them: then the edges can't all lead down
pub record HasRing (edges : List Edge) : Type 0 where
  pub among : ℕ → Bool
  pub some : ℕ
  pub is_one : among some ≡ true
  pub below : (n : ℕ) → among n ≡ true → HangsBelow among edges n

-- the edge leads down to n from a node that has no layer yet
abbrev pub holds_back : List ℕ → ℕ → Edge → Bool
holds_back layers n e = (e.lower == n) && (slice_index layers e.upper == 0)

-- n has no layer yet, and each node above it has one
abbrev pub is_free : List ℕ → List Edge → ℕ → Bool
is_free layers edges n = (slice_index layers n == 0) && not (list_any (holds_back layers n) edges)

-- the layer of n once all free nodes are given this one
abbrev pub next_layer : List ℕ → List Edge → ℕ → ℕ → ℕ
next_layer layers edges layer n = if is_free layers edges n then layer else slice_index layers n

-- a ring, where the edges are told to have one
abbrev pub RingedOnlyWhere : List Edge → DrawError → Type 0
RingedOnlyWhere edges error.Ringed = HasRing edges
RingedOnlyWhere edges error.OutOfMemory = Unit {0}
