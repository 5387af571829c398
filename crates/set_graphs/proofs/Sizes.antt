-- The sets of one size, and all sets of at most some size: which there are, and their order.
use Rattle.std.proofs.Common.{◌≡◌, ℕ, zero, suc, ◌-◌, ◌/◌, ◌%◌, ◌^◌, ◌<◌, inl, inr, true, false, List, [], ◌∷◌, ◌++◌, map, length, get_or, All, Contains, sym, ap, ◌∙◌, refl, subst, arith, AllPairs}
use Rattle.std.proofs.Math.Nat.{two-pow-succ}
use Rattle.std.proofs.Math.Seq.{get_or-append_right}
use Rattle.std.proofs.lemmas.Bool.{cases_lt, cases_eq}
use Rattle.std.proofs.lemmas.Nat.{pow_pos}
use Rattle.std.proofs.lemmas.List.{get_or-map, length-map, length-append, get_or_append_left}
use Rattle.std.proofs.lemmas.List.Elements.{All-nil, All-cons, All-append, All-map, All-weaker, All-contains, Contains-append_left, Contains-append_right, Contains-get_or}
use Rattle.cover_table.specs.Cover.{has_bit}
use Rattle.set_graphs.specs.Sets.{choose, sets, size_of, with_first, without_first, ComesFirst, HasLeastApart, IsSet}
use Rattle.set_graphs.proofs.Halves.{first_had, first_lacked, half_below, none_from_size, size_none, size_with, size_without, with_half, with_next, without_half, without_next}

-- ---- lists
-- what stands in a list stands in the list of what is made of each
pub Contains-map : {X Y : Type 0} (f : X → Y) (xs : List X) (x : X) → Contains xs x → Contains (map f xs) (f x)
Contains-map f xs x (k, lt, e) =
    let many = length-map xs f in
    (k, omega (arith, lt, many), get_or-map f xs k x (f x) lt ∙ ap f e)

-- a relation of each element to each later one, over two lists
pub AllPairs-append : (R : ℕ → ℕ → Type 0) (xs ys : List ℕ) → AllPairs R xs → AllPairs R ys
    → ((x y : ℕ) → Contains xs x → Contains ys y → R x y) → AllPairs R (xs ++ ys)
AllPairs-append R xs ys left right across i j d less below =
    let many = length-append xs ys in
    elim (cases_lt j (length xs)) [
      | inl j_in ↦
          let i_in : i < length xs = omega (arith, less, j_in) in
          subst (λ x. R x (get_or (xs ++ ys) j d)) (sym (get_or_append_left xs ys d i i_in))
          (subst (λ y. R (get_or xs i d) y) (sym (get_or_append_left xs ys d j j_in)) (left i j d less j_in))
      | inr j_out ↦
          let j_below : j - length xs < length ys = omega (arith, below, many, j_out) in
          let at_j = get_or-append_right xs ys j d j_out in
          elim (cases_lt i (length xs)) [
            | inl i_in ↦
                subst (λ x. R x (get_or (xs ++ ys) j d)) (sym (get_or_append_left xs ys d i i_in))
                (subst (λ y. R (get_or xs i d) y) (sym at_j)
                (across _ _ (Contains-get_or xs i d i_in) (Contains-get_or ys (j - length xs) d j_below)))
            | inr i_out ↦
                subst (λ x. R x (get_or (xs ++ ys) j d)) (sym (get_or-append_right xs ys i d i_out))
                (subst (λ y. R (get_or ys (i - length xs) d) y) (sym at_j)
                (right (i - length xs) (j - length xs) d (omega (arith, less, i_out)) j_below))
          ]
    ]

AllPairs-map : (R : ℕ → ℕ → Type 0) (f : ℕ → ℕ) (xs : List ℕ) → AllPairs (λ x y. R (f x) (f y)) xs → AllPairs R (map f xs)
AllPairs-map R f xs pairs i j d less below =
    let many = length-map xs f in
    let j_in : j < length xs = omega (arith, below, many) in
    let i_in : i < length xs = omega (arith, less, j_in) in
    subst (λ x. R x (get_or (map f xs) j d)) (sym (get_or-map f xs i 0 d i_in))
    (subst (λ y. R (f (get_or xs i 0)) y) (sym (get_or-map f xs j 0 d j_in)) (pairs i j 0 less j_in))

-- ---- the sets of one size
abbrev pub IsOfSize : ℕ → ℕ → ℕ → Type 0
IsOfSize n size set = (set < 2 ^ n) × (size_of n set ≡ size)

pub choose_none : (n : ℕ) → choose n zero ≡ 0 ∷ []
choose_none zero = refl
choose_none (suc n) = refl

with_sized : (n size set : ℕ) → IsOfSize n size set → IsOfSize (suc n) (suc size) (with_first set)
with_sized n size set is =
    let low = is.0 in
    let twice = two-pow-succ n in
    (omega (arith, low, twice), size_with n set ∙ ap suc is.1)

without_sized : (n size set : ℕ) → IsOfSize n size set → IsOfSize (suc n) size (without_first set)
without_sized n size set is =
    let low = is.0 in
    let twice = two-pow-succ n in
    (omega (arith, low, twice), size_without n set ∙ is.1)

pub chosen : (n size : ℕ) → All (IsOfSize n size) (choose n size)
chosen zero zero = All-cons (IsOfSize zero zero) 0 [] (pow_pos 0, refl) (All-nil (IsOfSize zero zero))
chosen (suc n) zero = All-cons (IsOfSize (suc n) zero) 0 [] (pow_pos (suc n), size_none (suc n)) (All-nil (IsOfSize (suc n) zero))
chosen zero (suc size) = All-nil (IsOfSize zero (suc size))
chosen (suc n) (suc size) =
    let P : ℕ → Type 0 = IsOfSize (suc n) (suc size) in
    All-append P (map with_first (choose n size)) (map without_first (choose n (suc size)))
    (All-map P with_first (choose n size) (All-weaker (IsOfSize n size) (λ set. P (with_first set)) (with_sized n size)
    (choose n size) (chosen n size)))
    (All-map P without_first (choose n (suc size))
    (All-weaker (IsOfSize n (suc size)) (λ set. P (without_first set)) (without_sized n (suc size)) (choose n (suc size))
    (chosen n (suc size))))

pub chosen_all : (n size set : ℕ) → set < 2 ^ n → size_of n set ≡ size → Contains (choose n size) set
chosen_all zero zero set low sized =
    let none : 0 ≡ set = omega (arith, low) in
    (0, omega arith, none)
chosen_all zero (suc size) set low sized = absurd (omega (arith, sized))
chosen_all (suc n) zero set low sized = (0, omega arith, sym (none_from_size (suc n) set low sized))
chosen_all (suc n) (suc size) set low sized =
    elim (cases_eq (set % 2) 1) [
      | inl one ↦
          let e = with_half set one in
          let found = chosen_all n size (set / 2) (half_below n set low) (omega (arith, sized, one)) in
          subst (Contains (choose (suc n) (suc size))) (sym e)
          (Contains-append_left (map with_first (choose n size)) (map without_first (choose n (suc size)))
          (with_first (set / 2)) (Contains-map with_first (choose n size) (set / 2) found))
      | inr other ↦
          let none : set % 2 ≡ 0 = omega (arith, other) in
          let e = without_half set none in
          let found = chosen_all n (suc size) (set / 2) (half_below n set low) (omega (arith, sized, none)) in
          subst (Contains (choose (suc n) (suc size))) (sym e)
          (Contains-append_right (map with_first (choose n size)) (map without_first (choose n (suc size)))
          (without_first (set / 2)) (Contains-map without_first (choose n (suc size)) (set / 2) found))
    ]

-- what differs first still does behind a first primitive that both have, or both lack
with_apart : (set other : ℕ) → HasLeastApart set other → HasLeastApart (with_first set) (with_first other)
with_apart set other apart = record {
  bit = suc apart.bit;
  here = with_next set apart.bit ∙ apart.here;
  not_there = with_next other apart.bit ∙ apart.not_there;
  least = least set other apart;
}
  where
    least : (set other : ℕ) (apart : HasLeastApart set other) (lower : ℕ) → lower < suc apart.bit
        → has_bit (with_first set) lower ≡ has_bit (with_first other) lower
    least set other apart zero below = first_had set ∙ sym (first_had other)
    least set other apart (suc lower) below = with_next set lower ∙ (apart.least lower (omega (arith, below)) ∙ sym (with_next other lower))

without_apart : (set other : ℕ) → HasLeastApart set other → HasLeastApart (without_first set) (without_first other)
without_apart set other apart = record {
  bit = suc apart.bit;
  here = without_next set apart.bit ∙ apart.here;
  not_there = without_next other apart.bit ∙ apart.not_there;
  least = least set other apart;
}
  where
    least : (set other : ℕ) (apart : HasLeastApart set other) (lower : ℕ) → lower < suc apart.bit
        → has_bit (without_first set) lower ≡ has_bit (without_first other) lower
    least set other apart zero below = first_lacked set ∙ sym (first_lacked other)
    least set other apart (suc lower) below =
        without_next set lower ∙ (apart.least lower (omega (arith, below)) ∙ sym (without_next other lower))

-- the sets of one size are in order
pub chosen_ordered : (n size : ℕ) → AllPairs HasLeastApart (choose n size)
chosen_ordered zero zero = λ i j d less below. absurd (omega (arith, less, below))
chosen_ordered (suc n) zero = λ i j d less below. absurd (omega (arith, less, below))
chosen_ordered zero (suc size) = λ i j d less below. absurd (omega (arith, below))
chosen_ordered (suc n) (suc size) =
    let left = choose n size in
    let right = choose n (suc size) in
    AllPairs-append HasLeastApart (map with_first left) (map without_first right)
    (AllPairs-map HasLeastApart with_first left (λ i j d less below. with_apart _ _ (chosen_ordered n size i j d less below)))
    (AllPairs-map HasLeastApart without_first right (λ i j d less below. without_apart _ _ (chosen_ordered n (suc size) i j d less below)))
    (λ x y in_left in_right. record {
      bit = 0;
      here =
          All-contains (λ (set : ℕ). has_bit set 0 ≡ true) (map with_first left) x
          (All-map (λ (set : ℕ). has_bit set 0 ≡ true) with_first left (λ k d lt. first_had _)) in_left;
      not_there =
          All-contains (λ (set : ℕ). has_bit set 0 ≡ false) (map without_first right) y
          (All-map (λ (set : ℕ). has_bit set 0 ≡ false) without_first right (λ k d lt. first_lacked _)) in_right;
      least = λ lower below. absurd (omega (arith, below));
    })

-- ---- the sets of at most some size
more_members : (n most set : ℕ) → IsSet n most set → IsSet n (suc most) set
more_members n most set is = record {
  some = is.some;
  primitives = is.primitives;
  few = let f = is.few in omega (arith, f);
}

set_of_size : (n size set : ℕ) → IsOfSize n (suc size) set → IsSet n (suc size) set
set_of_size n size set is = record {
  some =
      let sized = is.1 in
      elim (cases_eq set 0) [
        | inl none ↦ let e = sym sized ∙ (ap (size_of n) none ∙ size_none n) in absurd (omega (arith, e))
        | inr some ↦ omega (arith, some)
      ];
  primitives = is.0;
  few = let sized = is.1 in omega (arith, sized);
}

pub sets_are : (n most : ℕ) → All (IsSet n most) (sets n most)
sets_are n zero = All-nil (IsSet n zero)
sets_are n (suc most) =
    All-append (IsSet n (suc most)) (sets n most) (choose n (suc most))
    (All-weaker (IsSet n most) (IsSet n (suc most)) (more_members n most) (sets n most) (sets_are n most))
    (All-weaker (IsOfSize n (suc most)) (IsSet n (suc most)) (set_of_size n most) (choose n (suc most)) (chosen n (suc most)))

pub sets_whole : (n most set : ℕ) → IsSet n most set → Contains (sets n most) set
sets_whole n zero set is =
    let few = is.few in
    let some = is.some in
    let none = none_from_size n set is.primitives (omega (arith, few)) in
    absurd (omega (arith, some, none))
sets_whole n (suc most) set is =
    elim (cases_eq (size_of n set) (suc most)) [
      | inl full ↦ Contains-append_right (sets n most) (choose n (suc most)) set (chosen_all n (suc most) set is.primitives full)
      | inr less ↦ Contains-append_left (sets n most) (choose n (suc most)) set (sets_whole n most set (record {
        some = is.some;
        primitives = is.primitives;
        few = let few = is.few in omega (arith, few, less);
      }))
    ]

pub sets_ordered : (n most : ℕ) → AllPairs (ComesFirst n) (sets n most)
sets_ordered n zero = λ i j d less below. absurd (omega (arith, below))
sets_ordered n (suc most) =
    let all = choose n (suc most) in
    AllPairs-append (ComesFirst n) (sets n most) all (sets_ordered n most)
    (λ i j d less below.
    let i_in : i < length all = omega (arith, less, below) in
    inr ((chosen n (suc most) i d i_in).1 ∙ sym (chosen n (suc most) j d below).1, chosen_ordered n (suc most) i j d less below))
    (λ x y in_left in_right.
    let few = (All-contains (IsSet n most) (sets n most) x (sets_are n most) in_left).few in
    let full = (All-contains (IsOfSize n (suc most)) all y (chosen n (suc most)) in_right).1 in
    inl (omega (arith, few, full)))
