-- Cycles of declared pairs, by the rows that tell the chains.
use Rattle.std.proofs.Common.{◌≡◌, ◌<◌, inl, inr, ℕ, true, List, length, slice_index, sym, arith}
use Rattle.std.proofs.lemmas.Bool.{cases_eq}
use Rattle.std.proofs.lemmas.Nat.Bits.{same_from_bits}
use Rattle.cover_table.specs.Cover.{CoverOrder, order_of_rows, tells, IsOrder}
use Rattle.cover_table.proofs.Bits.{same_bit}
use Rattle.exception_graph.specs.Chains.{IsInCycle, IsFirstInCycle, IsOrderOf, none, more, universal}
use Rattle.exception_graph.specs.inner.Closing.{AreClosedOver}
use Rattle.exception_graph.specs.Graph.{HasUniversal}
use Rattle.exception_graph.specs.inner.Cycles.{IsMutual, IsFirstMutual}

module _ (count : ℕ) (pairs : List (ℕ × ℕ)) (order : CoverOrder) (is : IsOrderOf count pairs order) where
  -- what covers another that covers it is in a cycle, and the other way round
  pub cycle_from_mutual : (a : ℕ) → a < count → IsMutual order a → IsInCycle count pairs a
  cycle_from_mutual a a_in m =
      let many = is.counts in
      let below = m.in_range in
      let b_in : m.other < count = omega arith in
      record {
        other = m.other;
        in_range = b_in;
        apart = m.apart;
        down = (is.tells a m.other a_in b_in).0 m.down;
        up = (is.tells m.other a b_in a_in).0 m.up;
      }

  pub mutual_from_cycle : (a : ℕ) → a < count → IsInCycle count pairs a → IsMutual order a
  mutual_from_cycle a a_in m =
      let many = is.counts in
      let b_in = m.in_range in
      record {
        other = m.other;
        in_range = omega arith;
        apart = m.apart;
        down = (is.tells a m.other a_in b_in).1 m.down;
        up = (is.tells m.other a b_in a_in).1 m.up;
      }

  -- the first of the one is the first of the other
  pub first_cycle : (at : ℕ) → IsFirstMutual order at → IsFirstInCycle count pairs at
  first_cycle at h =
      let many = is.counts in
      let below = h.in_range in
      let at_in : at < count = omega arith in
      record {
        in_range = at_in;
        cycle = cycle_from_mutual at at_in h.cycle;
        first = λ a less cycle. h.first a less (mutual_from_cycle a (omega arith) cycle);
      }

  -- number 0 covers all in an order of declared pairs
  pub universal_covers : 0 < count → HasUniversal order
  universal_covers some =
      let many = is.counts in
      record {
        some = omega arith;
        covers_all = λ a below. let a_in : a < count = omega arith in (is.tells 0 a some a_in).1 (more (universal a_in) none);
      }

-- in closed rows two numbers that tell each other have the same row
pub same_row : (rows : List ℕ) (a b : ℕ) → AreClosedOver rows (length rows) → a < length rows → b < length rows
    → tells rows a b ≡ true → tells rows b a ≡ true → slice_index rows b ≡ slice_index rows a
same_row rows a b closed a_in b_in down up =
    same_from_bits (slice_index rows b) (slice_index rows a)
    (λ c. same_bit _ _ c (λ told. closed b a c b_in a_in down told) (λ told. closed a b c a_in b_in up told))

-- closed rows without a cycle are an order
pub order_without_cycle : (pairs : List (ℕ × ℕ)) (rows : List ℕ) → AreClosedOver rows (length rows)
    → IsOrderOf (length rows) pairs (order_of_rows rows)
    → ((a : ℕ) → a < length rows → ¬ (IsMutual (order_of_rows rows) a)) → IsOrder (order_of_rows rows)
order_without_cycle pairs rows closed is acyclic = record {
  reflexive = λ a a_in. (is.tells a a a_in a_in).1 none;
  transitive = λ a b c a_in b_in c_in down further. closed b a c b_in a_in down further;
  antisymmetric = λ a b a_in b_in down up. elim (cases_eq b a) [
    | inl same ↦ sym same
    | inr apart ↦ absurd (acyclic a a_in (record { other = b; in_range = b_in; apart = apart; down = down; up = up }))
  ];
}
