-- The least cover of sets is the exception of their union.
use Rattle.std.proofs.Common.{◌≡◌, Bool, ℕ, ◌^◌, ◌<◌, ◌≤◌, ◌↔◌, ◌==◌, inl, inr, true, false, List, [], ◌∷◌, length, All, Result, Err, sym, refl, subst, arith}
use Rattle.std.specs.List.{list_all, list_any}
use Rattle.std.proofs.lemmas.Bool.{and_from, and_parts, both_ways, cases_Bool, cases_eq, cases_lt, cond-false, cond-true, eqb-true, eqb-false, or_cases, or_parts}
use Rattle.std.proofs.lemmas.Nat.{or_lt, pow_pos}
use Rattle.std.proofs.lemmas.List.Elements.{All-nil, All-cons, All-head, All-tail}
use Rattle.std.specs.Prelude.{IsErrOf}
use Rattle.cover_table.specs.Cover.{covers, covers_each, has_bit, most_exceptions, CoverOrder, IsLeastCover}
use Rattle.cover_table.proofs.Bits.{had_in_zero, had_in_either, had_from_left, had_from_right}
use Rattle.exception_graph.specs.Chains.{IsOrderOf, IsFirstInCycle, IsFirstUnjoined}
use Rattle.exception_graph.specs.declared.graph_error.GraphError.{GraphError}
use Rattle.exception_graph.specs.declared.graph_error.GraphError.TheVariants.{Cycle, NoLeast, TooMany, OutOfMemory}
use Rattle.set_graphs.specs.Sets.{exception_count, members_of, number_of, pairs_of, size_of, union_of, IsWithin}
use Rattle.set_graphs.specs.SetGraph.{least_of, CoversSubsets, JoinsUnions}
use Rattle.set_graphs.proofs.Halves.{size_within}
use Rattle.set_graphs.proofs.Numbers.{number_past, number_whole, numbered}
use Rattle.set_graphs.proofs.SetChains.{acyclic, chain_from, over_apart, over_from, over_universal, some_within, top, within, within_from, IsOver}

-- ---- tests over lists
all_passed : (p : ℕ → Bool) (xs : List ℕ) → list_all p xs ≡ true → All (λ (x : ℕ). p x ≡ true) xs
all_passed p [] each = All-nil (λ (x : ℕ). p x ≡ true)
all_passed p (x ∷ xs) each =
    let parts = and_parts (p x) (list_all p xs) each in
    All-cons (λ (x : ℕ). p x ≡ true) x xs parts.0 (all_passed p xs parts.1)

all_pass : (p : ℕ → Bool) (xs : List ℕ) → All (λ (x : ℕ). p x ≡ true) xs → list_all p xs ≡ true
all_pass p [] each = refl
all_pass p (x ∷ xs) each =
    and_from (p x) (list_all p xs) (All-head (λ (x : ℕ). p x ≡ true) x xs each) (all_pass p xs (All-tail (λ (x : ℕ). p x ≡ true) x xs each))

-- what holds of each holds of 0 where it is one of them
at_universal : (P : ℕ → Type 0) (xs : List ℕ) → list_any (λ x. x == 0) xs ≡ true → All P xs → P 0
at_universal P [] among each = absurd (both_ways false refl among)
at_universal P (x ∷ xs) among each =
    elim (or_cases (x == 0) (list_any (λ y. y == 0) xs) among) [
      | inl here ↦ subst P (eqb-true x 0 here) (All-head P x xs each)
      | inr later ↦ at_universal P xs later (All-tail P x xs each)
    ]

-- where 0 isn't one of them, each is from 1 on
none_universal : (xs : List ℕ) → list_any (λ x. x == 0) xs ≡ false → All (λ (x : ℕ). 0 < x) xs
none_universal [] not = All-nil (λ (x : ℕ). 0 < x)
none_universal (x ∷ xs) not =
    let parts = or_parts (x == 0) (list_any (λ y. y == 0) xs) not in
    let apart = eqb-false x 0 parts.0 in
    let some : 0 < x = elim (cases_eq x 0) [ inl same ↦ absurd (apart same) | inr other ↦ omega (arith, other) ] in
    All-cons (λ (x : ℕ). 0 < x) x xs some (none_universal xs parts.1)

module _ (n most : ℕ) where
  -- ---- unions
  union_within : (set : ℕ) (xs : List ℕ) → All (λ (x : ℕ). IsWithin (members_of n most x) set) xs → IsWithin (union_of n most xs) set
  union_within set [] each bit had = absurd (both_ways (has_bit 0 bit) (had_in_zero bit) had)
  union_within set (x ∷ xs) each bit had =
      elim (had_in_either (members_of n most x) (union_of n most xs) bit had) [
        | inl here ↦ All-head (λ (x : ℕ). IsWithin (members_of n most x) set) x xs each bit here
        | inr later ↦ union_within set xs (All-tail (λ (x : ℕ). IsWithin (members_of n most x) set) x xs each) bit later
      ]

  each_within : (set : ℕ) (xs : List ℕ) → IsWithin (union_of n most xs) set → All (λ (x : ℕ). IsWithin (members_of n most x) set) xs
  each_within set [] into = All-nil (λ (x : ℕ). IsWithin (members_of n most x) set)
  each_within set (x ∷ xs) into =
      All-cons (λ (x : ℕ). IsWithin (members_of n most x) set) x xs
      (λ bit had. into bit (had_from_left (members_of n most x) (union_of n most xs) bit had))
      (each_within set xs (λ bit had. into bit (had_from_right (members_of n most x) (union_of n most xs) bit had)))

  union_below : (xs : List ℕ) → All (λ (x : ℕ). x < exception_count n most) xs → All (λ (x : ℕ). 0 < x) xs → union_of n most xs < 2 ^ n
  union_below [] in_range some = pow_pos n
  union_below (x ∷ xs) in_range some =
      let low =
      ((numbered n most).stands x (All-head (λ (x : ℕ). 0 < x) x xs some)
      (All-head (λ (x : ℕ). x < exception_count n most) x xs in_range)).primitives in
      or_lt n (members_of n most x) (union_of n most xs) low
      (union_below xs (All-tail (λ (x : ℕ). x < exception_count n most) x xs in_range) (All-tail (λ (x : ℕ). 0 < x) x xs some))

  union_some : (xs : List ℕ) → 0 < length xs → All (λ (x : ℕ). x < exception_count n most) xs → All (λ (x : ℕ). 0 < x) xs
      → 0 < union_of n most xs
  union_some [] full in_range some = absurd (omega (arith, full))
  union_some (x ∷ xs) full in_range some =
      let has =
      ((numbered n most).stands x (All-head (λ (x : ℕ). 0 < x) x xs some)
      (All-head (λ (x : ℕ). x < exception_count n most) x xs in_range)).some in
      some_within (members_of n most x) (union_of n most (x ∷ xs)) has
      (λ bit had. had_from_left (members_of n most x) (union_of n most xs) bit had)

  -- ---- an order of these pairs
  module _ (order : CoverOrder) (is : IsOrderOf (exception_count n most) (pairs_of n most) order) where
    over_covered : (a b : ℕ) → a < exception_count n most → b < exception_count n most → covers order a b ≡ true → IsOver n most a b
    over_covered a b a_in b_in told = over_from n most ((is.tells a b a_in b_in).0 told)

    covered_over : (a b : ℕ) → a < exception_count n most → b < exception_count n most → IsOver n most a b → covers order a b ≡ true
    covered_over a b a_in b_in over = (is.tells a b a_in b_in).1 (chain_from n most a b a_in b_in over)

    pub covers_subsets : CoversSubsets n most order
    covers_subsets a b a_some a_in b_some b_in = (
      λ told. within_from n most a b a_some (over_covered a b a_in b_in told),
      λ into. covered_over a b a_in b_in (within a_some b_some into),
    )

    -- what covers each of some exceptions, by their sets
    each_over : (y : ℕ) (xs : List ℕ) → 0 < y → y < exception_count n most → All (λ (x : ℕ). x < exception_count n most) xs
        → covers_each order y xs ≡ true → IsWithin (union_of n most xs) (members_of n most y)
    each_over y xs some y_in in_range each =
        union_within (members_of n most y) xs
        (λ k d lt. within_from n most y _ some (over_covered y _ y_in (in_range k d lt) (all_passed (covers order y) xs each k d lt)))

    over_each : (y : ℕ) (xs : List ℕ) → 0 < y → y < exception_count n most → All (λ (x : ℕ). x < exception_count n most) xs
        → All (λ (x : ℕ). 0 < x) xs → IsWithin (union_of n most xs) (members_of n most y) → covers_each order y xs ≡ true
    over_each y xs y_some y_in in_range some into =
        all_pass (covers order y) xs
        (λ k d lt. covered_over y _ y_in (in_range k d lt) (within y_some (some k d lt) (each_within (members_of n most y) xs into k d lt)))

    universal_each : (xs : List ℕ) → All (λ (x : ℕ). x < exception_count n most) xs → covers_each order 0 xs ≡ true
    universal_each xs in_range = all_pass (covers order 0) xs (λ k d lt. covered_over 0 _ (omega arith) (in_range k d lt) top)

    -- universal, where it is the least that covers each
    least_universal : (xs : List ℕ) → All (λ (x : ℕ). x < exception_count n most) xs
        → ((y : ℕ) → y < exception_count n most → covers_each order y xs ≡ true → y ≡ 0) → IsLeastCover order xs 0
    least_universal xs in_range only =
        let many = is.counts in
        record {
          in_range = omega (arith, many);
          above = universal_each xs in_range;
          least = λ y y_in each.
              let y_below : y < exception_count n most = omega (arith, y_in, many) in
              covered_over y 0 y_below (omega arith) (subst (λ (x : ℕ). IsOver n most x 0) (sym (only y y_below each)) top);
        }

    -- the union's exception, where it has one
    least_union : (xs : List ℕ) → 0 < length xs → All (λ (x : ℕ). x < exception_count n most) xs → All (λ (x : ℕ). 0 < x) xs
        → IsLeastCover order xs (number_of n most (union_of n most xs))
    least_union xs full in_range some =
        let union = union_of n most xs in
        let many = is.counts in
        elim (cases_lt most (size_of n union)) [
          | inl large ↦ subst (IsLeastCover order xs) (sym (number_past n most union large))
              (least_universal xs in_range (λ y y_in each. elim (cases_eq y 0) [
                | inl none ↦ none
                | inr other ↦
                    let y_some : 0 < y = omega (arith, other) in
                    let few = ((numbered n most).stands y y_some y_in).few in
                    let fewer = size_within n union (members_of n most y) (each_over y xs y_some y_in in_range each) in
                    absurd (omega (arith, large, few, fewer))
              ]))
          | inr small ↦
              let number =
              number_whole n most union
              (record { some = union_some xs full in_range some; primitives = union_below xs in_range some; few = small }) in
              let at = number_of n most union in
              let inside = number.in_range in
              record {
                in_range = omega (arith, many, inside);
                above =
                    over_each at xs number.some number.in_range in_range some
                    (subst (IsWithin union) (sym number.members) (λ bit had. had));
                least = λ y y_in each.
                    let y_below : y < exception_count n most = omega (arith, y_in, many) in
                    covered_over y at y_below number.in_range (elim (cases_eq y 0) [
                      | inl none ↦ subst (λ (x : ℕ). IsOver n most x at) (sym none) top
                      | inr other ↦
                          let y_some : 0 < y = omega (arith, other) in
                          within y_some number.some
                          (subst (λ (s : ℕ). IsWithin s (members_of n most y)) (sym number.members)
                          (each_over y xs y_some y_below in_range each))
                    ]);
              }
        ]

    pub least_is : (xs : List ℕ) → 0 < length xs → All (λ (x : ℕ). x < exception_count n most) xs
        → IsLeastCover order xs (least_of n most xs)
    least_is xs full in_range =
        let any = list_any (λ x. x == 0) xs in
        let union = number_of n most (union_of n most xs) in
        elim (cases_Bool any) [
          | inl among ↦ subst (IsLeastCover order xs) (sym (cond-true any 0 union among))
              (least_universal xs in_range
              (λ y y_in each. over_universal n most y
              (over_covered y 0 y_in (omega arith)
              (at_universal (λ (x : ℕ). covers order y x ≡ true) xs among (all_passed (covers order y) xs each)))))
          | inr not ↦ subst (IsLeastCover order xs) (sym (cond-false any 0 union not))
              (least_union xs full in_range (none_universal xs not))
        ]

    -- there is one least cover
    least_apart : (xs : List ℕ) (x y : ℕ) → IsLeastCover order xs x → IsLeastCover order xs y → x ≡ y
    least_apart xs x y h k =
        let many = is.counts in
        let x_order = h.in_range in
        let y_order = k.in_range in
        let x_in : x < exception_count n most = omega (arith, x_order, many) in
        let y_in : y < exception_count n most = omega (arith, y_order, many) in
        over_apart n most x y x_in y_in (over_covered x y x_in y_in (k.least x h.in_range h.above))
        (over_covered y x y_in x_in (h.least y k.in_range k.above))

    pub joins_unions : JoinsUnions n most order
    joins_unions xs x full in_range = (
      λ least. least_apart xs x (least_of n most xs) least (least_is xs full in_range),
      λ same. subst (IsLeastCover order xs) (sym same) (least_is xs full in_range),
    )

  -- ---- such a graph is refused for no fault
  pub no_cycle : (at : ℕ) → IsFirstInCycle (exception_count n most) (pairs_of n most) at → ⊥
  no_cycle at first = acyclic n most at first.in_range first.cycle

  pub all_joined : (a b : ℕ) → IsFirstUnjoined (exception_count n most) (pairs_of n most) a b → ⊥
  all_joined a b unjoined =
      let first = unjoined.first in
      let many = unjoined.is_order_of.counts in
      let less = first.ascending in
      let below = first.in_range in
      let in_range : All (λ (x : ℕ). x < exception_count n most) (a ∷ b ∷ []) =
      All-cons (λ (x : ℕ). x < exception_count n most) a (b ∷ []) (omega (arith, less, below, many))
      (All-cons (λ (x : ℕ). x < exception_count n most) b [] (omega (arith, below, many))
      (All-nil (λ (x : ℕ). x < exception_count n most))) in
      first.without (least_of n most (a ∷ b ∷ []), least_is unjoined.order unjoined.is_order_of (a ∷ b ∷ []) (omega arith) in_range)

  -- so that nothing but want of memory is left
  pub only_memory : (count : ℕ) (pairs : List (ℕ × ℕ)) (result : Result CoverOrder GraphError) (refusal : GraphError)
      → count ≡ exception_count n most → pairs ≡ pairs_of n most → count ≤ most_exceptions → result ≡ Err refusal
      → ((number : ℕ) → IsErrOf result (TooMany number) ↔ ((most_exceptions < count) × (number ≡ count)))
      → ((at : ℕ) → IsErrOf result (Cycle at) ↔ ((count ≤ most_exceptions) × IsFirstInCycle count pairs at))
      → ((a b : ℕ) → IsErrOf result (NoLeast a b) ↔ ((count ≤ most_exceptions) × IsFirstUnjoined count pairs a b))
      → refusal ≡ OutOfMemory
  only_memory count pairs result (Cycle at) counts declares few is many cycle unjoined =
      absurd
      (no_cycle at
      (subst (λ (k : ℕ). IsFirstInCycle k (pairs_of n most) at) counts
      (subst (λ (l : List (ℕ × ℕ)). IsFirstInCycle count l at) declares ((cycle at).0 is).1)))
  only_memory count pairs result (NoLeast a b) counts declares few is many cycle unjoined =
      absurd
      (all_joined a b
      (subst (λ (k : ℕ). IsFirstUnjoined k (pairs_of n most) a b) counts
      (subst (λ (l : List (ℕ × ℕ)). IsFirstUnjoined count l a b) declares ((unjoined a b).0 is).1)))
  only_memory count pairs result (TooMany number) counts declares few is many cycle unjoined =
      absurd (let past = ((many number).0 is).0 in omega (arith, past, few))
  only_memory count pairs result OutOfMemory counts declares few is many cycle unjoined = refl
