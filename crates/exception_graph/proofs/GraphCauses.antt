-- Each refusal has its own cause, and no graph has two.
use Rattle.std.proofs.Common.{◌≡◌, ◌<◌, ◌≤◌, ◌↔◌, inl, inr, ℕ, Bool, true, false, List, [], ◌∷◌, Result, Ok, Err, MatchResult, get_or, sym, ap, ◌∙◌, subst, refl, arith}
use Rattle.std.specs.Prelude.{IsErrOf, IsOkUnless}
use Rattle.std.specs.Int.{bit_at}
use Rattle.std.proofs.lemmas.Bool.{cases_order}
use Rattle.std.proofs.lemmas.List.{ext_get_or}
use Rattle.std.proofs.lemmas.Nat.Bits.{same_from_bits}
use Rattle.cover_table.specs.Cover.{most_exceptions, CoverOrder, covers, covers_each, IsLeastCover, IsFirstWithoutLeast}
use Rattle.cover_table.proofs.Bits.{same_bit}
use Rattle.cover_table.proofs.Orders.{first-same, sound_has_none}
use Rattle.exception_graph.specs.Chains.{IsFirstInCycle, IsFirstUnjoined, IsInCycle, IsOrderOf, IsSoundGraph}
use Rattle.exception_graph.specs.inner.Refusals.{IsRefusal}
use Rattle.exception_graph.specs.declared.graph_error.GraphError.{GraphError}
use Rattle.exception_graph.specs.declared.graph_error.GraphError.TheVariants.{Cycle, NoLeast, TooMany, OutOfMemory}

-- two tests that tell one fact are the same
same_tests : {P : Type 0} (x y : Bool) → (x ≡ true) ↔ P → (y ≡ true) ↔ P → x ≡ y
same_tests true y h k = sym (k.1 (h.0 refl))
same_tests false true h k = h.1 (k.0 refl)
same_tests false false h k = refl

abbrev with_rows : ℕ → List ℕ → CoverOrder
with_rows n rows = record { count = n; rows = rows }

module _ (count : ℕ) (pairs : List (ℕ × ℕ)) where
  module _ (order other : CoverOrder) (is : IsOrderOf count pairs order) (too : IsOrderOf count pairs other) where
    -- orders of the same pairs tell the same
    covers-same : (a b : ℕ) → a < count → b < count → covers order a b ≡ covers other a b
    covers-same a b a_in b_in = same_tests (covers order a b) (covers other a b) (is.tells a b a_in b_in) (too.tells a b a_in b_in)

    covers_both-same : (x a b : ℕ) → x < count → a < count → b < count → covers_each order x (a ∷ b ∷ []) ≡ covers_each other x (a ∷ b ∷ [])
    covers_both-same x a b x_in a_in b_in = rw (covers-same x a x_in a_in, covers-same x b x_in b_in)

    -- a least cover of two in the one is one in the other
    least-same : (a b x : ℕ) → a < count → b < count → IsLeastCover order (a ∷ b ∷ []) x → IsLeastCover other (a ∷ b ∷ []) x
    least-same a b x a_in b_in h =
        let here = is.counts in
        let there = too.counts in
        let below = h.in_range in
        let x_in : x < count = omega arith in
        record {
          in_range = omega arith;
          above = sym (covers_both-same x a b x_in a_in b_in) ∙ h.above;
          least = λ y y_in each.
              let y_below : y < count = omega arith in
              sym (covers-same y x y_below x_in) ∙ h.least y (omega arith) (covers_both-same y a b y_below a_in b_in ∙ each);
        }

    -- bit by bit, also past the count, where neither has any
    bit-same : (a b : ℕ) → a < count → bit_at (get_or order.rows a 0) b ≡ bit_at (get_or other.rows a 0) b
    bit-same a b a_in = same_bit (get_or order.rows a 0) (get_or other.rows a 0) b
        (λ told. sym (covers-same a b a_in (is.within a b a_in told)) ∙ told)
        (λ told. covers-same a b a_in (too.within a b a_in told) ∙ told)

    rows-same : order.rows ≡ other.rows
    rows-same =
        let many = is.rows in
        ext_get_or 0 order.rows other.rows (is.rows ∙ sym too.rows)
        (λ a a_in. same_from_bits (get_or order.rows a 0) (get_or other.rows a 0) (λ b. bit-same a b (omega arith)))

    -- so they are one
    pub order-same : order ≡ other
    order-same = ap (λ (n : ℕ). with_rows n order.rows) (is.counts ∙ sym too.counts) ∙ ap (with_rows other.count) rows-same

  -- the first pair without a least cover in the one is so in the other
  unjoined-same : (order other : CoverOrder) → IsOrderOf count pairs order → IsOrderOf count pairs other → (a b : ℕ)
      → IsFirstWithoutLeast order a b → IsFirstWithoutLeast other a b
  unjoined-same order other is too a b h =
      let here = is.counts in
      let there = too.counts in
      let less = h.ascending in
      let below = h.in_range in
      record {
        ascending = less;
        in_range = omega arith;
        without = λ found. h.without (found.0, least-same other order too is a b found.0 (omega arith) (omega arith) found.1);
        earlier = λ c d ascending d_in before.
            let found = h.earlier c d ascending (omega arith) before in
            (found.0, least-same order other is too c d found.0 (omega arith) (omega arith) found.1);
      }

  -- a sound graph has no cycle
  pub sound_acyclic : IsSoundGraph count pairs → (a : ℕ) → a < count → IsInCycle count pairs a → ⊥
  sound_acyclic sound a a_in cycle =
      let is = sound.is_order_of in
      let many = is.counts in
      let b_in = cycle.in_range in
      cycle.apart (sound.sound.is_order.antisymmetric cycle.other a (omega arith) (omega arith)
      ((is.tells cycle.other a b_in a_in).1 cycle.up) ((is.tells a cycle.other a_in b_in).1 cycle.down))

  -- and no pair without a least cover
  pub sound_joined : IsSoundGraph count pairs → (a b : ℕ) → IsFirstUnjoined count pairs a b → ⊥
  sound_joined sound a b h =
      sound_has_none sound.order a b sound.sound (unjoined-same h.order sound.order h.is_order_of sound.is_order_of a b h.first)

  -- there is one least exception in a cycle
  cycle-same : (a b : ℕ) → IsFirstInCycle count pairs a → IsFirstInCycle count pairs b → a ≡ b
  cycle-same a b h k = elim (cases_order a b) [
    | inl same ↦ same
    | inr apart ↦ elim apart [
      | inl less ↦ absurd (k.first a less h.cycle)
      | inr more ↦ absurd (h.first b more k.cycle)
    ]
  ]

  unjoined-one : (a b c d : ℕ) → IsFirstUnjoined count pairs a b → IsFirstUnjoined count pairs c d → (a ≡ c) × (b ≡ d)
  unjoined-one a b c d h k = first-same k.order a b c d (unjoined-same h.order k.order h.is_order_of k.is_order_of a b h.first) k.first

  module _ {T : Type 0} where
    -- a right answer names an exception in a cycle exactly where it is the first
    pub cycle_exactly : (answer : Result T GraphError)
        → MatchResult answer (λ _. IsSoundGraph count pairs) (IsRefusal count pairs) → (at : ℕ)
        → IsErrOf answer (Cycle at) ↔ ((count ≤ most_exceptions) × IsFirstInCycle count pairs at)
    cycle_exactly (Ok t) sound at = (λ e. absurd cc, λ h. absurd (sound_acyclic sound at h.1.in_range h.1.cycle))
    cycle_exactly (Err (Cycle other)) found at = (
      λ e. let same : other ≡ at = cc in (found.0, subst (λ (x : ℕ). IsFirstInCycle count pairs x) same found.1),
      λ h. let same = cycle-same other at found.1 h.1 in ap (λ (x : ℕ). Err (Cycle x)) same,
    )
    cycle_exactly (Err (NoLeast a b)) found at = (λ e. absurd cc, λ h. absurd (found.1.acyclic at h.1.in_range h.1.cycle))
    cycle_exactly (Err (TooMany number)) found at = (λ e. absurd cc, λ h. absurd (omega arith))
    cycle_exactly (Err OutOfMemory) sound at = (λ e. absurd cc, λ h. absurd (sound_acyclic sound at h.1.in_range h.1.cycle))

    -- and two without a least cover exactly where they are the first
    pub no_least_exactly : (answer : Result T GraphError)
        → MatchResult answer (λ _. IsSoundGraph count pairs) (IsRefusal count pairs) → (a b : ℕ)
        → IsErrOf answer (NoLeast a b) ↔ ((count ≤ most_exceptions) × IsFirstUnjoined count pairs a b)
    no_least_exactly (Ok t) sound a b = (λ e. absurd cc, λ h. absurd (sound_joined sound a b h.1))
    no_least_exactly (Err (Cycle at)) found a b = (λ e. absurd cc, λ h. absurd (h.1.acyclic at found.1.in_range found.1.cycle))
    no_least_exactly (Err (NoLeast c d)) found a b = (
      λ e.
          let first : c ≡ a = cc in
          let second : d ≡ b = cc in (
            found.0,
            subst (λ (x : ℕ). IsFirstUnjoined count pairs x b) first
                (subst (λ (y : ℕ). IsFirstUnjoined count pairs c y) second found.1),
          ),
      λ h.
          let same = unjoined-one c d a b found.1 h.1 in
          ap (λ (x : ℕ). Err (NoLeast x d)) same.0 ∙ ap (λ (y : ℕ). Err (NoLeast a y)) same.1,
    )
    no_least_exactly (Err (TooMany number)) found a b = (λ e. absurd cc, λ h. absurd (omega arith))
    no_least_exactly (Err OutOfMemory) sound a b = (λ e. absurd cc, λ h. absurd (sound_joined sound a b h.1))

    -- and refuses a sound graph only for want of memory
    pub accepted_where_sound : (answer : Result T GraphError)
        → MatchResult answer (λ _. IsSoundGraph count pairs) (IsRefusal count pairs) → IsSoundGraph count pairs
        → IsOkUnless answer OutOfMemory
    accepted_where_sound (Ok t) found sound = tt
    accepted_where_sound (Err (Cycle at)) found sound = absurd (sound_acyclic sound at found.1.in_range found.1.cycle)
    accepted_where_sound (Err (NoLeast a b)) found sound = absurd (sound_joined sound a b found.1)
    accepted_where_sound (Err (TooMany number)) found sound = let few = sound.few in absurd (omega arith)
    accepted_where_sound (Err OutOfMemory) found sound = refl
