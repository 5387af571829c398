-- What a graph of sets keeps.
use Rattle.std.specs.Prelude.{◌≡◌, ℕ, ◌<◌, ◌≤◌, List}
use Rattle.cover_table.specs.Cover.{most_exceptions, CoverOrder}
use Rattle.exception_graph.specs.Chains.{IsOrderOf}
use Rattle.set_graphs.specs.Sets.{exception_count, pairs_of, table}

-- the table of these sets, few enough, and the order of their pairs
pub record KeepsSets (n most : ℕ) (all : List ℕ) (order : CoverOrder) : Type 0 where
  pub primitives : n < 128
  pub few : exception_count n most ≤ most_exceptions
  pub stands_for : all ≡ table n most
  pub order_of : IsOrderOf (exception_count n most) (pairs_of n most) order
