-- Each set has one number, and each number one set.
use Rattle.std.proofs.Common.{◌≡◌, Bool, ℕ, zero, suc, ◌<◌, ◌⊎◌, inl, inr, ◌==◌, nat_lt, cond, List, length, get_or, Some, None, unwrap_or, sym, ap, ◌∙◌, refl, subst, arith}
use Rattle.std.specs.List.{position_or_len}
use Rattle.std.proofs.lemmas.Bool.{both_ways, cases_Bool, cases_eq, cases_order, eq-eqb, eqb-true, lt-ltb, ne_eqb}
use Rattle.std.proofs.lemmas.List.{get_or_default}
use Rattle.std.proofs.lemmas.List.Sums.{position_or_len_is}
use Rattle.std.proofs.lemmas.List.Quantifiers.{position-Some}
use Rattle.cover_table.specs.Cover.{has_bit}
use Rattle.set_graphs.specs.Sets.{exception_count, members_of, number_in, number_of, sets, size_of, table, AreNumbered, ComesFirst, IsSet}
use Rattle.set_graphs.proofs.Sizes.{sets_are, sets_ordered, sets_whole}

stands : (n most exception : ℕ) → 0 < exception → exception < exception_count n most → IsSet n most (members_of n most exception)
stands n most zero some below = absurd (omega (arith, some))
stands n most (suc at) some below = sets_are n most at 0 (omega (arith, below))

ordered : (n most a b : ℕ) → 0 < a → a < b → b < exception_count n most → ComesFirst n (members_of n most a) (members_of n most b)
ordered n most zero b some less below = absurd (omega (arith, some))
ordered n most (suc a) zero some less below = absurd (omega (arith, less))
ordered n most (suc a) (suc b) some less below = sets_ordered n most a b 0 (omega (arith, less)) (omega (arith, below))

pub numbered : (n most : ℕ) → AreNumbered n most
numbered n most = record {
  stands = stands n most;
  ordered = ordered n most;
  whole = λ set is.
      let found = sets_whole n most set is in
      let at = found.0 in
      let lt = found.1 in
      (suc at, omega arith, omega (arith, lt), get_or_default (sets n most) at 0 set lt ∙ found.2);
}

-- no set comes before itself
never_first : (n set : ℕ) → ComesFirst n set set → ⊥
never_first n set (inl less) = omega (arith, less)
never_first n set (inr (same, apart)) = both_ways (has_bit set apart.bit) apart.not_there apart.here

never_same : (n set other : ℕ) → ComesFirst n set other → set ≡ other → ⊥
never_same n set other first same = never_first n set (subst (ComesFirst n set) (sym same) first)

-- exceptions that stand for one set are one
pub members_apart : (n most a b : ℕ) → a < exception_count n most → b < exception_count n most → members_of n most a ≡ members_of n most b
    → a ≡ b
members_apart n most a b a_in b_in same =
    elim (cases_order a b) [
      | inl one ↦ one
      | inr apart ↦ elim apart [
        | inl less ↦ absurd (later n most a b less b_in same)
        | inr more ↦ absurd (later n most b a more a_in (sym same))
      ]
    ]
  where
    later : (n most a b : ℕ) → a < b → b < exception_count n most → members_of n most a ≡ members_of n most b → ⊥
    later n most zero b less below same =
        let some = (stands n most b (omega (arith, less)) below).some in
        omega (arith, some, same)
    later n most (suc a) b less below same = never_same n _ _ (ordered n most (suc a) b (omega arith) less below) same

-- the number of an exception's set is the exception
pub number-members : (n most a : ℕ) → a < exception_count n most → number_of n most (members_of n most a) ≡ a
number-members n most a a_in =
    let set = members_of n most a in
    let all = table n most in
    let at : position_or_len (λ other. other == set) all ≡ a =
    position_or_len_is (λ other. other == set) all a 0 (omega (arith, a_in))
    (λ k less. ne_eqb (get_or all k 0) set (λ same. let e =
    members_apart n most k a (omega (arith, less, a_in)) a_in same in omega (arith, less, e)))
    (λ _. eq-eqb (get_or all a 0) set refl) in
    ap (λ i. unwrap_or (cond (nat_lt i (length all)) (Some i) None) 0) at
    ∙ ap (λ b. unwrap_or (cond b (Some a) None) 0) (lt-ltb a (length all) a_in)

-- the exception that stands for a set
pub record IsNumberOf (n most set number : ℕ) : Type 0 where
  pub some : 0 < number
  pub in_range : number < exception_count n most
  pub members : members_of n most number ≡ set

pub number_whole : (n most set : ℕ) → IsSet n most set → IsNumberOf n most set (number_of n most set)
number_whole n most set is =
    let found = (numbered n most).whole set is in
    let e : number_of n most set ≡ found.0 = ap (number_of n most) (sym found.3) ∙ number-members n most found.0 found.2 in
    subst (IsNumberOf n most set) (sym e) (record { some = found.1; in_range = found.2; members = found.3 })

-- a place in a table is one of its places, or 0
pub number_cases : (all : List ℕ) (set : ℕ)
    → (number_in all set ≡ 0) ⊎ ((number_in all set < length all) × (get_or all (number_in all set) 0 ≡ set))
number_cases all set =
    let at = position_or_len (λ other. other == set) all in
    let value = λ (b : Bool). unwrap_or (cond b (Some at) None) 0 in
    elim (cases_Bool (nat_lt at (length all))) [
      | inl inside ↦
          let e : number_in all set ≡ at = ap value inside in
          let found = position-Some (λ other. other == set) all at 0 (ap (λ (b : Bool). cond b (Some at) None) inside) in
          inr (subst (λ i. (i < length all) × (get_or all i 0 ≡ set)) (sym e) (found.0, eqb-true (get_or all at 0) set found.1))
      | inr outside ↦ inl (ap value outside)
    ]

pub number_below : (all : List ℕ) (set : ℕ) → 0 < length all → number_in all set < length all
number_below all set some =
    elim (number_cases all set) [
      | inl none ↦ omega (arith, none, some)
      | inr found ↦ found.0
    ]

-- a set of too many members has no exception
pub number_past : (n most set : ℕ) → most < size_of n set → number_of n most set ≡ 0
number_past n most set large =
    elim (number_cases (table n most) set) [
      | inl none ↦ none
      | inr found ↦ elim (cases_eq (number_of n most set) 0) [
        | inl none ↦ none
        | inr some ↦
            let few = (stands n most (number_of n most set) (omega (arith, some)) found.0).few in
            let same = ap (size_of n) found.1 in
            absurd (omega (arith, large, few, same))
      ]
    ]
