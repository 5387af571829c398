-- What the graph of sets tells: a set covers what it has among its members, and several are covered by their union.
use Rattle.std.specs.Prelude.{◌≡◌, ◌==◌, ◌↔◌, ℕ, ◌<◌, List, true, length, All, if◌then◌else◌}
use Rattle.std.specs.List.{list_any}
use Rattle.cover_table.specs.Cover.{CoverOrder, covers, IsLeastCover}
use Rattle.set_graphs.specs.Sets.{exception_count, members_of, number_of, union_of, IsWithin}

-- a graph of sets: of how many primitives, of how many members at most, and which exception covers which
pub record SetOrder : Type 0 where
  pub primitives : ℕ
  pub most : ℕ
  pub order : CoverOrder

-- what covers several exceptions most closely: universal where it is one of them, else the exception of their union
abbrev pub least_of : ℕ → ℕ → List ℕ → ℕ
least_of n most exceptions =
    if list_any (λ exception. exception == 0) exceptions then 0 else number_of n most (union_of n most exceptions)

-- one exception covers another just where each member of the other is one of its own
abbrev pub CoversSubsets : ℕ → ℕ → CoverOrder → Type 0
CoversSubsets n most order =
    (a b : ℕ) → 0 < a → a < exception_count n most → 0 < b → b < exception_count n most
    → (covers order a b ≡ true) ↔ IsWithin (members_of n most b) (members_of n most a)

-- the least cover of exceptions, of one at least, is the exception of their union
abbrev pub JoinsUnions : ℕ → ℕ → CoverOrder → Type 0
JoinsUnions n most order =
    (exceptions : List ℕ) (x : ℕ) → 0 < length exceptions → All (λ exception. exception < exception_count n most) exceptions
    → IsLeastCover order exceptions x ↔ (x ≡ least_of n most exceptions)
