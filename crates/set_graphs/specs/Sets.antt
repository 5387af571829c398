-- Sets of primitive exceptions, as numbers: bit i - 1 stands for primitive i.
use Rattle.std.specs.Prelude.{◌≡◌, ℕ, zero, suc, ◌+◌, ◌-◌, ◌*◌, ◌/◌, ◌%◌, ◌^◌, ◌<◌, ◌≤◌, ◌==◌, ◌⊎◌, ◌&&◌, true, false, List, [], ◌∷◌, ◌++◌, map, length, slice_index, position, unwrap_or, nat_lt, bit_or, if◌then◌else◌}
use Rattle.cover_table.specs.Cover.{has_bit}

-- the set that has primitive 1, and each member of this one under the next number
abbrev pub with_first : ℕ → ℕ
with_first set = 1 + 2 * set

-- the set that has each member of this one under the next number
abbrev pub without_first : ℕ → ℕ
without_first set = 2 * set

-- the sets of so many of the primitives from 1 to n, those with the least members first: all that have primitive 1, then the rest.
-- Nobody has to believe this: `AreNumbered` says what comes of it
abbrev pub choose : ℕ → ℕ → List ℕ
choose n zero = 0 ∷ []
choose zero (suc size) = []
choose (suc n) (suc size) = map with_first (choose n size) ++ map without_first (choose n (suc size))

-- the sets of at least one and at most so many of the primitives from 1 to n, by their size
abbrev pub sets : ℕ → ℕ → List ℕ
sets n zero = []
sets n (suc most) = sets n most ++ choose n (suc most)

-- what each exception stands for, by its number: universal, which is 0, for no set, and then each for one set.
-- Of three primitives and two members at most: universal, {1}, {2}, {3}, {1, 2}, {1, 3}, {2, 3}
abbrev pub table : ℕ → ℕ → List ℕ
table n most = 0 ∷ sets n most

-- how many exceptions there are, universal counted
abbrev pub exception_count : ℕ → ℕ → ℕ
exception_count n most = length (table n most)

-- the set that an exception stands for
abbrev pub members_of : ℕ → ℕ → ℕ → ℕ
members_of n most exception = slice_index (table n most) exception

-- where a set stands in such a table, or 0 where it doesn't
abbrev pub number_in : List ℕ → ℕ → ℕ
number_in all set = unwrap_or (position (λ other. other == set) all) 0

-- the exception that stands for a set, or 0 where none does
abbrev pub number_of : ℕ → ℕ → ℕ → ℕ
number_of n most set = number_in (table n most) set

-- how many of the primitives from 1 to n a set has
abbrev pub size_of : ℕ → ℕ → ℕ
size_of zero set = 0
size_of (suc n) set = set % 2 + size_of n (set / 2)

-- each member of the one is a member of the other
abbrev pub IsWithin : ℕ → ℕ → Type 0
IsWithin set other = (bit : ℕ) → has_bit set bit ≡ true → has_bit other bit ≡ true

-- at least one and at most so many of the primitives from 1 to n, and nothing else
pub record IsSet (n most set : ℕ) : Type 0 where
  pub some : 0 < set
  pub primitives : set < 2 ^ n
  pub few : size_of n set ≤ most

-- the least primitive that is in just one of the two sets is in the first
pub record HasLeastApart (set other : ℕ) : Type 0 where
  pub bit : ℕ
  pub here : has_bit set bit ≡ true
  pub not_there : has_bit other bit ≡ false
  pub least : (lower : ℕ) → lower < bit → has_bit set lower ≡ has_bit other lower

-- the first set has fewer members, or as many and the least primitive that is in just one of the two
abbrev pub ComesFirst : ℕ → ℕ → ℕ → Type 0
ComesFirst n set other =
    (size_of n set < size_of n other) ⊎ ((size_of n set ≡ size_of n other) × HasLeastApart set other)

-- exceptions stand for sets, those that come first by lower numbers, and each set has one
pub record AreNumbered (n most : ℕ) : Type 0 where
  pub stands : (exception : ℕ) → 0 < exception → exception < exception_count n most
      → IsSet n most (members_of n most exception)
  pub ordered : (a b : ℕ) → 0 < a → a < b → b < exception_count n most
      → ComesFirst n (members_of n most a) (members_of n most b)
  pub whole : (set : ℕ) → IsSet n most set
      → (exception : ℕ) × (0 < exception) × (exception < exception_count n most) × (members_of n most exception ≡ set)

-- the set without one of its members
abbrev pub without_member : ℕ → ℕ → ℕ
without_member set bit = set - 2 ^ bit

-- the sets that lack just one member of this set, the greatest of the first n left out first; the empty one isn't counted
abbrev pub lowered : ℕ → ℕ → List ℕ
lowered zero set = []
lowered (suc bit) set =
    if has_bit set bit && nat_lt 0 (without_member set bit)
    then without_member set bit ∷ lowered bit set
    else lowered bit set

-- an exception is declared over those whose sets lack just one of its members
abbrev pub pairs_at : ℕ → List ℕ → ℕ → List (ℕ × ℕ)
pairs_at n all exception = map (λ set. (exception, number_in all set)) (lowered n (slice_index all exception))

-- the pairs of the first so many exceptions of a table
abbrev pub pairs_below : ℕ → List ℕ → ℕ → List (ℕ × ℕ)
pairs_below n all zero = []
pairs_below n all (suc exception) = pairs_below n all exception ++ pairs_at n all exception

-- all pairs that the graph of sets declares
abbrev pub pairs_of : ℕ → ℕ → List (ℕ × ℕ)
pairs_of n most = pairs_below n (table n most) (exception_count n most)

-- the members of all of these exceptions together
abbrev pub union_of : ℕ → ℕ → List ℕ → ℕ
union_of n most [] = 0
union_of n most (exception ∷ exceptions) = bit_or (members_of n most exception) (union_of n most exceptions)
