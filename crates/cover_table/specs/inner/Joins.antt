-- What a table of least covers keeps.
use Rattle.std.specs.Prelude.{ℕ, ◌<◌, ◌≤◌, List, [], ◌∷◌, slice_index, slice_index_or}
use Rattle.cover_table.specs.Cover.{most_exceptions, order_of, IsLeastCover, IsOrder}

-- `joins` has in row a, at b, the least cover of the two, for the order on the first `count` of `width` numbers
pub record HoldsJoins (width count : ℕ) (rows : List ℕ) (joins : List (List ℕ)) : Type 0 where
  pub fits : count ≤ width
  pub within : width ≤ most_exceptions
  pub is_order : IsOrder (order_of count rows)
  pub least : (a b : ℕ) → a < count → b < count
      → IsLeastCover (order_of count rows) (a ∷ b ∷ []) (slice_index (slice_index_or joins a []) b)
