-- How the list of sets is made step by step.
use Rattle.std.proofs.Common.{◌≡◌, ℕ, zero, suc, ◌+◌, ◌-◌, ◌*◌, ◌%◌, ◌^◌, ◌<◌, ◌≤◌, List, [], ◌∷◌, ◌++◌, map, sym, ap, ◌∙◌, refl, subst, append_assoc, arith}
use Rattle.std.proofs.lemmas.List.{map-append}
use Rattle.std.proofs.lemmas.Nat.{one_shl}
use Rattle.std.proofs.Math.Pow.{pow_mono}
use Rattle.std.proofs.Math.Nat.{two-pow-succ}
use Rattle.set_graphs.specs.Sets.{choose, table, with_first, without_first}
use Rattle.set_graphs.specs.inner.Moved.{moved_after}

-- the step of `choose`
pub choose_step : (left size : ℕ) → 0 < left → 0 < size
    → choose left size ≡ map with_first (choose (left - 1) (size - 1)) ++ map without_first (choose (left - 1) size)
choose_step zero size some full = absurd (omega (arith, some))
choose_step (suc left) zero some full = absurd (omega (arith, full))
choose_step (suc left) (suc size) some full =
    let l : suc left - 1 ≡ left = omega arith in
    let s : suc size - 1 ≡ size = omega arith in
    rw (l, s) refl

pub two_pow_more : (next : ℕ) → 2 ^ (next + 1) ≡ 2 ^ next + 2 ^ next
two_pow_more next =
    let e : next + 1 ≡ suc next = omega arith in
    rw e (two-pow-succ next)

-- the sum of 2 ^ next and of twice that
twice_moved : (p before set : ℕ) → before + p + (p + p) * set ≡ before + p * (1 + 2 * set)
twice_moved p before set = grind arith

moved_twice : (p before set : ℕ) → before + (p + p) * set ≡ before + p * (2 * set)
moved_twice p before set = grind arith

-- the primitive at `next` before each set
pub moved_with : (before next : ℕ) (lists : List ℕ)
    → map (moved_after (before + 2 ^ next) (next + 1)) lists ≡ map (moved_after before next) (map with_first lists)
moved_with before next [] = refl
moved_with before next (set ∷ lists) =
    let e : moved_after (before + 2 ^ next) (next + 1) set ≡ moved_after before next (with_first set) =
    subst (λ p. before + 2 ^ next + p * set ≡ before + 2 ^ next * (1 + 2 * set)) (sym (two_pow_more next))
    (twice_moved (2 ^ next) before set) in
    λ i. e i ∷ moved_with before next lists i

-- and without it
pub moved_without : (before next : ℕ) (lists : List ℕ)
    → map (moved_after before (next + 1)) lists ≡ map (moved_after before next) (map without_first lists)
moved_without before next [] = refl
moved_without before next (set ∷ lists) =
    let e : moved_after before (next + 1) set ≡ moved_after before next (without_first set) =
    subst (λ p. before + p * set ≡ before + 2 ^ next * (2 * set)) (sym (two_pow_more next)) (moved_twice (2 ^ next) before set) in
    λ i. e i ∷ moved_without before next lists i

-- what both calls add is what is to be added
pub added : (before next left size : ℕ) (old mid new : List ℕ) → 0 < left → 0 < size
    → mid ≡ old ++ map (moved_after (before + 2 ^ next) (next + 1)) (choose (left - 1) (size - 1))
    → new ≡ mid ++ map (moved_after before (next + 1)) (choose (left - 1) size)
    → new ≡ old ++ map (moved_after before next) (choose left size)
added before next left size old mid new some full first second =
    let a = choose (left - 1) (size - 1) in
    let b = choose (left - 1) size in
    second
    ∙ (ap (λ m. m ++ map (moved_after before (next + 1)) b) (first ∙ ap (λ m. old ++ m) (moved_with before next a))
    ∙ (append_assoc old (map (moved_after before next) (map with_first a)) (map (moved_after before (next + 1)) b)
    ∙ ap (λ m. old ++ m) (ap (λ m. map (moved_after before next) (map with_first a) ++ m) (moved_without before next b)
    ∙ (sym (map-append (moved_after before next) (map with_first a) (map without_first b))
    ∙ ap (map (moved_after before next)) (sym (choose_step left size some full))))))

-- the bit of a primitive
pub unit_is : (next : ℕ) → next < 128 → 1 * 2 ^ next % 2 ^ 128 ≡ 2 ^ next
unit_is next fits = one_shl next 128 fits

-- nothing before, from bit 0 on
pub moved_none : (lists : List ℕ) → map (moved_after 0 0) lists ≡ lists
moved_none [] = refl
moved_none (set ∷ lists) =
    let e : moved_after 0 0 set ≡ set = omega arith in
    λ i. e i ∷ moved_none lists i

pub fits : (before next : ℕ) → next < 127 → before < 2 ^ next → before + 1 * 2 ^ next % 2 ^ 128 < 2 ^ 128
fits before next last low =
    let u = unit_is next (omega (arith, last)) in
    let d = two-pow-succ next in
    let l : 2 ^ suc next ≤ 2 ^ 128 = pow_mono {i = suc next} {j = 128} (omega (arith, last)) in
    omega (arith, u, d, l, low)

-- one size more
pub table_more : (n size : ℕ) (old new : List ℕ) → old ≡ table n size → new ≡ old ++ map (moved_after 0 0) (choose n (size + 1))
    → new ≡ table n (size + 1)
table_more n size old new before step =
    let one : size + 1 ≡ suc size = omega arith in
    rw one (step ∙ (ap (λ m. old ++ m) (moved_none (choose n (size + 1))) ∙ rw one (ap (λ m. m ++ choose n (suc size)) before)))
