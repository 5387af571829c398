-- Which pairs the graph of sets declares.
use Rattle.std.proofs.Common.{◌≡◌, Bool, ℕ, zero, suc, ◌-◌, ◌*◌, ◌%◌, ◌^◌, ◌<◌, ◌≤◌, ◌&&◌, inl, inr, true, false, nat_lt, List, [], ◌∷◌, ◌++◌, map, length, get_or, slice_index, Contains, All, sym, ap, ◌∙◌, refl, subst, arith, append_assoc}
use Rattle.std.proofs.lemmas.Bool.{and_from, and_parts, cases_Bool, cases_eq, cond-false, cond-true, false_from_ne_true, lt-ltb, ltb-true}
use Rattle.std.proofs.lemmas.Nat.{one_shl}
use Rattle.std.proofs.lemmas.List.{get_or-map, length-map}
use Rattle.std.proofs.lemmas.List.Elements.{Contains-append_cases, Contains-append_left, Contains-append_right, Contains-get_or, All-nil, All-append, All-map}
use Rattle.cover_table.specs.Cover.{has_bit}
use Rattle.set_graphs.specs.Sets.{lowered, number_in, pairs_at, pairs_below, without_member}
use Rattle.set_graphs.proofs.Halves.{taken_out}
use Rattle.set_graphs.proofs.Numbers.{number_below}
use Rattle.set_graphs.proofs.Sizes.{Contains-map}

-- a set that lacks just this member of another, and has some
pub record IsLowered (set bit low : ℕ) : Type 0 where
  pub had : has_bit set bit ≡ true
  pub some : 0 < low
  pub lacks : without_member set bit ≡ low

-- whether a set without this member is counted
abbrev pub is_counted : ℕ → ℕ → Bool
is_counted set bit = has_bit set bit && nat_lt 0 (without_member set bit)

-- the step of `lowered`
pub lowered_with : (bit set : ℕ) → is_counted set bit ≡ true → lowered (suc bit) set ≡ without_member set bit ∷ lowered bit set
lowered_with bit set counted = cond-true (is_counted set bit) (without_member set bit ∷ lowered bit set) (lowered bit set) counted

pub lowered_past : (bit set : ℕ) → is_counted set bit ≡ false → lowered (suc bit) set ≡ lowered bit set
lowered_past bit set not = cond-false (is_counted set bit) (without_member set bit ∷ lowered bit set) (lowered bit set) not

Contains-cons : {X : Type 0} (x : X) (xs : List X) → Contains (x ∷ xs) x
Contains-cons x xs = (0, omega arith, refl)

Contains-later : {X : Type 0} (x y : X) (xs : List X) → Contains xs y → Contains (x ∷ xs) y
Contains-later x y xs among = Contains-append_right (x ∷ []) xs y among

-- each of the sets lacks a member
pub lowered_is : (n set low : ℕ) → Contains (lowered n set) low → (bit : ℕ) × IsLowered set bit low
lowered_is zero set low among = absurd (let lt = among.1 in omega (arith, lt))
lowered_is (suc n) set low among =
    elim (cases_Bool (is_counted set n)) [
      | inl counted ↦
          let parts = and_parts (has_bit set n) (nat_lt 0 (without_member set n)) counted in
          elim (Contains-append_cases (without_member set n ∷ []) (lowered n set) low
          (subst (λ (l : List ℕ). Contains l low) (lowered_with n set counted) among)) [
            | inl here ↦
                let e : without_member set n ≡ low = only (without_member set n) low here in
                (n, record { had = parts.0; some = subst (λ (s : ℕ). 0 < s) e (ltb-true 0 (without_member set n) parts.1); lacks = e })
            | inr later ↦ lowered_is n set low later
          ]
      | inr not ↦ lowered_is n set low (subst (λ (l : List ℕ). Contains l low) (lowered_past n set not) among)
    ]
  where
    only : (x y : ℕ) → Contains (x ∷ []) y → x ≡ y
    only x y (zero, lt, e) = e
    only x y (suc k, lt, e) = absurd (omega (arith, lt))

-- and each set that does is there
pub lowered_has : (n set bit low : ℕ) → bit < n → IsLowered set bit low → Contains (lowered n set) low
lowered_has zero set bit low below is = absurd (omega (arith, below))
lowered_has (suc n) set bit low below is =
    elim (cases_eq bit n) [
      | inl here ↦
          let had = subst (λ (b : ℕ). has_bit set b ≡ true) here is.had in
          let e : without_member set n ≡ low = subst (λ (b : ℕ). without_member set b ≡ low) here is.lacks in
          let counted =
          and_from (has_bit set n) (nat_lt 0 (without_member set n)) had
          (lt-ltb 0 (without_member set n) (subst (λ (s : ℕ). 0 < s) (sym e) is.some)) in
          subst (λ (l : List ℕ). Contains l low) (sym (lowered_with n set counted))
          (subst (Contains (without_member set n ∷ lowered n set)) e (Contains-cons (without_member set n) (lowered n set)))
      | inr before ↦
          let found = lowered_has n set bit low (omega (arith, below, before)) is in
          elim (cases_Bool (is_counted set n)) [
            | inl counted ↦ subst (λ (l : List ℕ). Contains l low) (sym (lowered_with n set counted))
                (Contains-later (without_member set n) low (lowered n set) found)
            | inr not ↦ subst (λ (l : List ℕ). Contains l low) (sym (lowered_past n set not)) found
          ]
    ]

-- what stands in a list that is made of another's elements is made of one of them
pub Contains-map_from : {Y : Type 0} (f : ℕ → Y) (xs : List ℕ) (y : Y) → Contains (map f xs) y → (x : ℕ) × Contains xs x × (f x ≡ y)
Contains-map_from f xs y (k, lt, e) =
    let many = length-map xs f in
    let inside : k < length xs = omega (arith, lt, many) in
    (get_or xs k 0, Contains-get_or xs k 0 inside, sym (get_or-map f xs k 0 y inside) ∙ e)

-- a declared pair: the lower's set lacks one of the members of the upper's
pub record IsPairOf (n : ℕ) (all : List ℕ) (upper lower : ℕ) : Type 0 where
  pub low : ℕ
  pub among : Contains (lowered n (slice_index all upper)) low
  pub number : number_in all low ≡ lower

pub pair_at : (n : ℕ) (all : List ℕ) (exception a b : ℕ) → Contains (pairs_at n all exception) (a, b) → (exception ≡ a) × IsPairOf n all a b
pair_at n all exception a b among =
    let found = Contains-map_from (λ (set : ℕ). (exception, number_in all set)) (lowered n (slice_index all exception)) (a, b) among in
    let upper : exception ≡ a = ap (λ (p : ℕ × ℕ). p.0) found.2 in
    let number : number_in all found.0 ≡ b = ap (λ (p : ℕ × ℕ). p.1) found.2 in
    (upper, subst (λ (e : ℕ). IsPairOf n all e b) upper (record { low = found.0; among = found.1; number = number }))

pub pair_is : (n : ℕ) (all : List ℕ) (bound a b : ℕ) → Contains (pairs_below n all bound) (a, b) → (a < bound) × IsPairOf n all a b
pair_is n all zero a b among = absurd (let lt = among.1 in omega (arith, lt))
pair_is n all (suc bound) a b among =
    elim (Contains-append_cases (pairs_below n all bound) (pairs_at n all bound) (a, b) among) [
      | inl before ↦ let found = pair_is n all bound a b before in let less = found.0 in (omega (arith, less), found.1)
      | inr here ↦ let found = pair_at n all bound a b here in let same = found.0 in (omega (arith, same), found.1)
    ]

pub pair_has : (n : ℕ) (all : List ℕ) (bound a b : ℕ) → a < bound → IsPairOf n all a b → Contains (pairs_below n all bound) (a, b)
pair_has n all zero a b below is = absurd (omega (arith, below))
pair_has n all (suc bound) a b below is =
    elim (cases_eq a bound) [
      | inl here ↦
          let made = Contains-map (λ (set : ℕ). (a, number_in all set)) (lowered n (slice_index all a)) is.low is.among in
          let named = subst (λ (k : ℕ). Contains (pairs_at n all a) (a, k)) is.number made in
          Contains-append_right (pairs_below n all bound) (pairs_at n all bound) (a, b)
          (subst (λ (k : ℕ). Contains (pairs_at n all k) (a, b)) here named)
      | inr before ↦ Contains-append_left (pairs_below n all bound) (pairs_at n all bound) (
        a,
        b,
      ) (pair_has n all bound a b (omega (arith, below, before)) is)
    ]

-- pairs are of exceptions of the table
pub pairs_in_range : (n : ℕ) (all : List ℕ) (bound : ℕ) → bound ≤ length all
    → All (λ (p : ℕ × ℕ). (p.0 < length all) × (p.1 < length all)) (pairs_below n all bound)
pairs_in_range n all zero few = All-nil (λ (p : ℕ × ℕ). (p.0 < length all) × (p.1 < length all))
pairs_in_range n all (suc bound) few =
    let P : ℕ × ℕ → Type 0 = λ (p : ℕ × ℕ). (p.0 < length all) × (p.1 < length all) in
    All-append P (pairs_below n all bound) (pairs_at n all bound) (pairs_in_range n all bound (omega (arith, few)))
    (All-map P (λ (set : ℕ). (bound, number_in all set)) (lowered n (slice_index all bound))
    (λ k d lt. (omega (arith, few), number_below all _ (omega (arith, few)))))

-- ---- a loop that adds the pairs of one exception, from the greatest member on
-- the exception over a set
abbrev pub pair_over : List ℕ → ℕ → ℕ → ℕ × ℕ
pair_over all exception set = (exception, number_in all set)

-- a member left out, and one pair more
pub pair_added : (all : List ℕ) (exception bit set lower : ℕ) (old new rest : List (ℕ × ℕ)) (number : ℕ) → 0 < bit
    → old ++ map (pair_over all exception) (lowered bit set) ≡ rest → has_bit set (bit - 1) ≡ true → 0 < lower → lower ≡ without_member
    set (bit - 1)
    → number ≡ number_in all lower → new ≡ old ++ (exception, number) ∷ []
    → new ++ map (pair_over all exception) (lowered (bit - 1) set) ≡ rest
pair_added all exception zero set lower old new rest number some before had full is numbered step = absurd (omega (arith, some))
pair_added all exception (suc bit) set lower old new rest number some before had full is numbered step =
    let at : suc bit - 1 ≡ bit = omega arith in
    let here : lower ≡ without_member set bit = is ∙ ap (without_member set) at in
    let counted =
    and_from (has_bit set bit) (nat_lt 0 (without_member set bit)) (subst (λ (b : ℕ). has_bit set b ≡ true) at had)
    (lt-ltb 0 (without_member set bit) (subst (λ (s : ℕ). 0 < s) here full)) in
    let pair : new ≡ old ++ pair_over all exception (without_member set bit) ∷ [] =
    step ∙ ap (λ (k : ℕ). old ++ (exception, k) ∷ []) (numbered ∙ ap (number_in all) here) in
    let left = map (pair_over all exception) (lowered bit set) in
    ap (λ (b : ℕ). new ++ map (pair_over all exception) (lowered b set)) at
    ∙ (ap (λ (l : List (ℕ × ℕ)). l ++ left) pair
    ∙ (append_assoc old (pair_over all exception (without_member set bit) ∷ []) left
    ∙ (ap (λ (l : List ℕ). old ++ map (pair_over all exception) l) (sym (lowered_with bit set counted)) ∙ before)))

-- no pair, since the primitive isn't a member or no other is
pub no_pair : (all : List ℕ) (exception bit set : ℕ) (old rest : List (ℕ × ℕ)) → 0 < bit
    → old ++ map (pair_over all exception) (lowered bit set) ≡ rest → (has_bit set (bit - 1) ≡ true → without_member set (bit - 1) ≡ 0)
    → old ++ map (pair_over all exception) (lowered (bit - 1) set) ≡ rest
no_pair all exception zero set old rest some before past = absurd (omega (arith, some))
no_pair all exception (suc bit) set old rest some before past =
    let at : suc bit - 1 ≡ bit = omega arith in
    let not : is_counted set bit ≡ false = false_from_ne_true (is_counted set bit) (λ counted.
    let parts = and_parts (has_bit set bit) (nat_lt 0 (without_member set bit)) counted in
    let full = ltb-true 0 (without_member set bit) parts.1 in
    let empty = subst (λ (b : ℕ). has_bit set b ≡ true → without_member set b ≡ 0) at past parts.0 in
    omega (arith, full, empty)) in
    ap (λ (b : ℕ). old ++ map (pair_over all exception) (lowered b set)) at
    ∙ (ap (λ (l : List ℕ). old ++ map (pair_over all exception) l) (sym (lowered_past bit set not)) ∙ before)

-- what is taken out of a set was in it
pub member_fits : (set bit : ℕ) → bit < 128 → has_bit set bit ≡ true → (1 * 2 ^ bit % 2 ^ 128 ≡ 2 ^ bit) × (2 ^ bit ≤ set)
member_fits set bit below had = (one_shl bit 128 below, (taken_out (suc bit) set bit (omega arith) had).had)
