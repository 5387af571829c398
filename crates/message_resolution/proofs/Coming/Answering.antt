-- What a member sends at one event.
use Rattle.std.proofs.Common.{◌≡◌, ℕ, ◌<◌, ◌&&◌, not, true, false, List, [], ◌∷◌, length, inl, inr, refl, sym, ◌∙◌, ap, subst, map, All, Contains, arith}
use Rattle.std.proofs.lemmas.Bool.{and_parts, cases_Bool, cond-true, cond-false, cases_cond}
use Rattle.std.proofs.lemmas.List.Elements.{Contains-append_left, Contains-append_right, Contains-append_cases}
use Rattle.cover_table.specs.Cover.{CoverOrder, IsLeastCover, IsSound}
use Rattle.cover_table.proofs.Orders.{sound_sets}
use Rattle.message_resolution.specs.declared.node.message.Message.{Message}
use Rattle.message_resolution.specs.declared.node.message.Message.TheVariants as message
use Rattle.message_resolution.specs.Members.LeastCover.{least_cover}
use Rattle.message_resolution.specs.Members.LocalEvents.{LocalEvent, raises, receives, own, told, has_raised, has_spoken}
use Rattle.message_resolution.specs.Members.Answers.{may_resolve, has_resolved, resolution, word, answers}
use Rattle.message_resolution.proofs.Containing.{nothing_in, first_in, one_in, cases_in}
use Rattle.message_resolution.proofs.LeastCovers.{least_cover-is}
use Rattle.message_resolution.proofs.Knowing.States.{raised_told}
use Rattle.message_resolution.proofs.Knowing.Resolving.{resolves_rightly, does_resolve}

-- Raised is said by who raises
word_raised : (t : ℕ) (past : List LocalEvent) (x : LocalEvent) (u e : ℕ) → Contains (word t past x) (message.Raised u e)
    → (u ≡ t) × (x ≡ raises e)
word_raised t past (raises f) u e at =
    let same : message.Raised t f ≡ message.Raised u e = one_in _ _ at in
    let a : u ≡ t = cc in
    let b : f ≡ e = cc in
    (a, ap (λ y. raises y) b)
word_raised t past (receives (message.Raised v f)) u e at = elim (cases_cond (has_spoken past) [] (message.Suspended t ∷ []) _ refl) [
  | inl none ↦ absurd (nothing_in _ (subst (λ ms. Contains ms (message.Raised u e)) none at))
  | inr some ↦ let same : message.Suspended t ≡ message.Raised u e =
      one_in _ _ (subst (λ ms. Contains ms (message.Raised u e)) some at) in absurd cc
]
word_raised t past (receives (message.Suspended v)) u e at = absurd (nothing_in _ at)
word_raised t past (receives (message.Resolved v f)) u e at = absurd (nothing_in _ at)

-- Suspended by who is told for the first time, and had not raised
word_suspended : (t : ℕ) (past : List LocalEvent) (x : LocalEvent) (u : ℕ) → Contains (word t past x) (message.Suspended u)
    → (u ≡ t) × (has_spoken past ≡ false) × (own (x ∷ past) ≡ own past) × (has_spoken (x ∷ past) ≡ true)
word_suspended t past (raises f) u at = let same : message.Raised t f ≡ message.Suspended u = one_in _ _ at in absurd cc
word_suspended t past (receives (message.Raised v f)) u at = elim (cases_Bool (has_spoken past)) [
  | inl spoken ↦ absurd (nothing_in (message.Suspended u) (subst (λ ms. Contains ms (message.Suspended u)) (cond-true _ _ _ spoken) at))
  | inr silent ↦ let same : message.Suspended t ≡ message.Suspended u =
      one_in _ _ (subst (λ ms. Contains ms (message.Suspended u)) (cond-false _ _ _ silent) at) in let a : u ≡ t =
      cc in (a, silent, refl, refl)
]
word_suspended t past (receives (message.Suspended v)) u at = absurd (nothing_in _ at)
word_suspended t past (receives (message.Resolved v f)) u at = absurd (nothing_in _ at)

word_resolved : (t : ℕ) (past : List LocalEvent) (x : LocalEvent) (u e : ℕ) → Contains (word t past x) (message.Resolved u e) → ⊥
word_resolved t past (raises f) u e at = let same : message.Raised t f ≡ message.Resolved u e = one_in _ _ at in absurd cc
word_resolved t past (receives (message.Raised v f)) u e at = elim (cases_cond (has_spoken past) [] (message.Suspended t ∷ []) _ refl) [
  | inl none ↦ absurd (nothing_in _ (subst (λ ms. Contains ms (message.Resolved u e)) none at))
  | inr some ↦ let same : message.Suspended t ≡ message.Resolved u e =
      one_in _ _ (subst (λ ms. Contains ms (message.Resolved u e)) some at) in absurd cc
]
word_resolved t past (receives (message.Suspended v)) u e at = absurd (nothing_in _ at)
word_resolved t past (receives (message.Resolved v f)) u e at = absurd (nothing_in _ at)

resolved_map : (t : ℕ) (es : List ℕ) (m : Message) → Contains (map (λ e. message.Resolved t e) es) m
    → (e : ℕ) × Contains es e × (m ≡ message.Resolved t e)
resolved_map t [] m at = absurd (nothing_in m at)
resolved_map t (e ∷ es) m at = elim (cases_in _ _ m at) [
  | inl same ↦ (e, first_in e es, sym same)
  | inr later ↦ let found = resolved_map t es m later in (found.0, Contains-append_right (e ∷ []) es found.0 found.1, found.2)
]

module _ (order : CoverOrder) (count t : ℕ) (past : List LocalEvent) (x : LocalEvent) where
  in_resolution : (e : ℕ) → Contains (resolution order count t past x) e → resolution order count t past x ≡ e ∷ []
  in_resolution e at =
      elim (cases_cond (may_resolve count t (x ∷ past) && not (has_resolved count t past))
      (least_cover order (told (x ∷ past)) ∷ []) [] _ refl) [
        | inl some ↦ let same : least_cover order (told (x ∷ past)) ≡ e = one_in _ _ (subst (λ es. Contains es e) some at) in some
            ∙ ap (λ y. y ∷ []) same
        | inr none ↦ absurd (nothing_in e (subst (λ es. Contains es e) none at))
      ]

  pub in_resolution_only : (e : ℕ) → Contains (resolution order count t past x) e → resolution order count t past x ≡ e ∷ []
  in_resolution_only e at = in_resolution e at

  pub sends_raised : (u e : ℕ) → Contains (answers order count t past x) (message.Raised u e) → (u ≡ t) × (x ≡ raises e)
  sends_raised u e at = elim (Contains-append_cases (word t past x) _ _ at) [
    | inl said ↦ word_raised t past x u e said
    | inr resolved ↦ let found = resolved_map t (resolution order count t past x) _ resolved in let same = found.2 in absurd cc
  ]

  pub sends_suspended : (u : ℕ) → Contains (answers order count t past x) (message.Suspended u)
      → (u ≡ t) × (has_spoken past ≡ false) × (own (x ∷ past) ≡ own past) × (has_spoken (x ∷ past) ≡ true)
  sends_suspended u at = elim (Contains-append_cases (word t past x) _ _ at) [
    | inl said ↦ word_suspended t past x u said
    | inr resolved ↦ let found = resolved_map t (resolution order count t past x) _ resolved in let same = found.2 in absurd cc
  ]

  pub sends_resolved : (u e : ℕ) → Contains (answers order count t past x) (message.Resolved u e)
      → (u ≡ t) × (resolution order count t past x ≡ e ∷ [])
  sends_resolved u e at = elim (Contains-append_cases (word t past x) _ _ at) [
    | inl said ↦ absurd (word_resolved t past x u e said)
    | inr resolved ↦
        let found = resolved_map t (resolution order count t past x) _ resolved in
        let same = found.2 in
        let a : u ≡ t = cc in
        let b : found.0 ≡ e = cc in
        (a, in_resolution e (subst (λ f. Contains (resolution order count t past x) f) b found.1))
  ]

  pub resolution_sent : (e : ℕ) → resolution order count t past x ≡ e ∷ [] → Contains (answers order count t past x) (message.Resolved t e)
  resolution_sent e is =
      Contains-append_right (word t past x) _ _
      (subst (λ es. Contains (map (λ f. message.Resolved t f) es) (message.Resolved t e)) (sym is) (first_in (message.Resolved t e) []))

  pub word_sent : (m : Message) → Contains (word t past x) m → Contains (answers order count t past x) m
  word_sent m at = Contains-append_left (word t past x) _ m at

  -- a resolution is the least cover of all that was told
  pub resolution_least : (e : ℕ) → IsSound order → All (λ f. f < order.count) (told (x ∷ past)) → resolution order count t past x ≡ e ∷ []
      → IsLeastCover order (told (x ∷ past)) e
  resolution_least e sound in_range is =
      let right = resolves_rightly order count t past x e [] is in
      let has : has_raised (x ∷ past) ≡ true = (and_parts (has_raised (x ∷ past)) _ right.0).0 in
      let some : 0 < length (told (x ∷ past)) = some_length (told (x ∷ past)) (raised_told (x ∷ past) has) in
      let found = sound_sets order sound (told (x ∷ past)) some in_range in
      let computed = does_resolve order count t past x right.0 right.1 in
      let same : least_cover order (told (x ∷ past)) ≡ e = cc in
      subst (IsLeastCover order (told (x ∷ past))) (sym (least_cover-is order (told (x ∷ past)) found.0 sound.is_order found.1) ∙ same)
      found.1
    where
      some_length : (xs : List ℕ) → (xs ≡ [] → ⊥) → 0 < length xs
      some_length [] some = absurd (some refl)
      some_length (y ∷ xs) some = omega arith
