-- How sets of each size are counted.
use Rattle.std.specs.Prelude.{◌≡◌, ℕ, ◌+◌, ◌<◌, List, ◌∷◌, length, slice_index}
use Rattle.set_graphs.specs.Sets.{choose}

-- at each size, the number of sets of this size of the first n primitives
abbrev pub CountSets : ℕ → List ℕ → Type 0
CountSets n counts = (size : ℕ) → size < length counts → slice_index counts size ≡ length (choose n size)

-- each new count is the old one and the old one before it
abbrev pub AreNextCounts : List ℕ → List ℕ → Type 0
AreNextCounts old new =
    (size : ℕ) → size < length old → slice_index new size ≡ slice_index old size + slice_index (0 ∷ old) size
