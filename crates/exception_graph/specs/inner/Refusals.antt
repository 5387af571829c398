-- Why a graph is refused.
use Rattle.std.specs.Prelude.{◌≡◌, ◌<◌, ◌≤◌, ℕ, List}
use Rattle.cover_table.specs.Cover.{most_exceptions}
use Rattle.exception_graph.specs.Chains.{IsFirstInCycle, IsFirstUnjoined, IsSoundGraph}
use Rattle.exception_graph.specs.declared.graph_error.GraphError.{GraphError}
use Rattle.exception_graph.specs.declared.graph_error.GraphError.TheVariants.{Cycle, NoLeast, TooMany, OutOfMemory}

-- the cause of a refusal; memory is wanted only where there is no other cause
abbrev pub IsRefusal : ℕ → List (ℕ × ℕ) → GraphError → Type 0
IsRefusal count pairs (Cycle at) = (count ≤ most_exceptions) × IsFirstInCycle count pairs at
IsRefusal count pairs (NoLeast a b) = (count ≤ most_exceptions) × IsFirstUnjoined count pairs a b
IsRefusal count pairs (TooMany number) = (most_exceptions < count) × (number ≡ count)
IsRefusal count pairs OutOfMemory = IsSoundGraph count pairs
