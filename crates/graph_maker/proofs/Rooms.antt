-- How many exceptions and pairs a graph of sets has.
use Rattle.std.proofs.Common.{◌≡◌, ℕ, zero, suc, ◌+◌, ◌*◌, ◌<◌, ◌≤◌, inl, inr, Bool, true, false, ◌&&◌, nat_lt, if◌then◌else◌, List, [], ◌∷◌, ◌++◌, length, slice_index, refl, ap, ◌∙◌, arith}
use Rattle.std.proofs.lemmas.Bool.{both_ways, cases_Bool, cases_lt}
use Rattle.std.proofs.lemmas.List.{get_or_past, length-append, length-map}
use Rattle.cover_table.specs.Cover.{has_bit}
use Rattle.cover_table.proofs.Bits.{had_in_zero}
use Rattle.set_graphs.specs.Sets.{choose, exception_count, lowered, number_in, pairs_at, pairs_below, sets, table, without_member, IsSet}
use Rattle.set_graphs.proofs.Counted.{pascal}
use Rattle.set_graphs.proofs.Sizes.{choose_none, sets_are}
use Rattle.graph_maker.specs.SetNames.{member_list}
use Rattle.graph_maker.proofs.Naming.{length-members}

-- there are as many sets of one member as primitives
pub count_ones : (n : ℕ) → length (choose n (suc zero)) ≡ n
count_ones zero = refl
count_ones (suc n) =
    let rest = count_ones n in
    let more = pascal n zero in
    let one = ap (λ (l : List ℕ). length l) (choose_none n) in
    omega (arith, rest, more, one)

-- so there are more exceptions than primitives
pub more_exceptions : (n most : ℕ) → 0 < most → n < exception_count n most
more_exceptions n zero some = absurd (omega (arith, some))
more_exceptions n (suc zero) some = let e = count_ones n in let l = length-append (sets n zero) (choose n (suc zero)) in omega (arith, e, l)
more_exceptions n (suc (suc most)) some =
    let fewer = more_exceptions n (suc most) (omega arith) in
    let l = length-append (sets n (suc most)) (choose n (suc (suc most))) in
    omega (arith, fewer, l)

-- a set has no more sets that lack just one of its members than members
length-lowered : (n set : ℕ) → length (lowered n set) ≤ length (member_list n set)
length-lowered zero set = omega arith
length-lowered (suc bit) set = by (has_bit set bit) (nat_lt 0 (without_member set bit)) (length-lowered bit set)
  where
    by : (b c : Bool) → length (lowered bit set) ≤ length (member_list bit set)
        → length (if b && c then without_member set bit ∷ lowered bit set else lowered bit set)
        ≤ length (if b then member_list bit set ++ (bit + 1) ∷ [] else member_list bit set)
    by true true h = let l = length-append (member_list bit set) ((bit + 1) ∷ []) in omega (arith, h, l)
    by true false h = let l = length-append (member_list bit set) ((bit + 1) ∷ []) in omega (arith, h, l)
    by false c h = omega (arith, h)

-- nothing has no member
none_in : (n : ℕ) → member_list n 0 ≡ []
none_in zero = refl
none_in (suc bit) =
    elim (cases_Bool (has_bit 0 bit)) [
      | inl had ↦ absurd (both_ways (has_bit 0 bit) (had_in_zero bit) had)
      | inr not ↦ ap (λ (b : Bool). if b then member_list bit 0 ++ (bit + 1) ∷ [] else member_list bit 0) not ∙ none_in bit
    ]

few_members : (n most set : ℕ) → IsSet n most set → length (member_list n set) ≤ most
few_members n most set is = let size = length-members n set in let few = is.few in omega (arith, size, few)

-- what an exception stands for has at most so many members
members_at : (n most k : ℕ) → length (member_list n (slice_index (table n most) k)) ≤ most
members_at n most zero = let none = ap (λ (l : List ℕ). length l) (none_in n) in omega (arith, none)
members_at n most (suc k) =
    elim (cases_lt k (length (sets n most))) [
      | inl within ↦ few_members n most (slice_index (sets n most) k) (sets_are n most k 0 within)
      | inr past ↦
          let none = ap (λ x. length (member_list n x)) (get_or_past (sets n most) k 0 past) in
          let empty = ap (λ (l : List ℕ). length l) (none_in n) in
          omega (arith, none, empty)
    ]

few_here : (n most exception : ℕ) → length (pairs_at n (table n most) exception) ≤ most
few_here n most exception =
    let set = slice_index (table n most) exception in
    let few = length-lowered n set in
    let small = members_at n most exception in
    let same = length-map {B = ℕ × ℕ} (lowered n set) (λ other. (exception, number_in (table n most) other)) in
    omega (arith, few, small, same)

-- each exception has no more pairs than a set may have members
pub length-pairs : (n most count : ℕ) → length (pairs_below n (table n most) count) ≤ count * most
length-pairs n most zero = omega arith
length-pairs n most (suc count) =
    let before = length-pairs n most count in
    let both = length-append (pairs_below n (table n most) count) (pairs_at n (table n most) count) in
    let here = few_here n most count in
    let more : suc count * most ≡ count * most + most = grind arith in
    omega (arith, before, both, here, more)
