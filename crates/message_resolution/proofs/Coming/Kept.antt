-- The facts that every legal past keeps, and what follows where a member may resolve.
use Rattle.std.proofs.Common.{◌≡◌, ◌≢◌, ℕ, ◌<◌, ◌==◌, ◌||◌, true, false, List, [], ◌∷◌, inl, inr, ◌⊎◌, refl, sym, ap, subst, All, Contains, arith}
use Rattle.std.proofs.lemmas.Bool.{and_parts, cases_eq, or_cases, eqb-true, both_ways}
use Rattle.cover_table.specs.Cover.{CoverOrder, IsLeastCover}
use Rattle.message_resolution.specs.declared.node.message.Message.{Message}
use Rattle.message_resolution.specs.declared.node.message.Message.TheVariants as message
use Rattle.message_resolution.specs.Members.LocalEvents.{LocalEvent, raises, receives, raised_at, own, told_at, told, is_word_of, is_call, has_raised, has_spoken, has_heard}
use Rattle.message_resolution.specs.Members.Answers.{has_heard_all, may_resolve, has_resolved, decisions}
use Rattle.message_resolution.specs.Members.Nodes.{IsMessage, MayMeet}
use Rattle.message_resolution.specs.Histories.Courses.{Course}
use Rattle.message_resolution.proofs.Containing.{nothing_in, first_in, any_member, any_from, flat_map_from, flat_map_member, one_in}
use Rattle.message_resolution.proofs.Ranges.{in_range_all}
use Rattle.message_resolution.proofs.Knowing.States.{raised_spoken}

-- a Suspended or a Raised of u was sent
abbrev pub HasSaid : List Message → ℕ → Type 0
HasSaid messages u = Contains messages (message.Suspended u) ⊎ ((e : ℕ) × Contains messages (message.Raised u e))

-- of the words that were sent, of what was raised and of what was delivered
pub record KeepsWords (order : CoverOrder) (count : ℕ) (course : Course) (raised : List ℕ) : Type 0 where
  pub raised_sent : (u e : ℕ) → Contains course.messages (message.Raised u e) → Contains (own (course.local u)) e
  pub sent_raised : (u e : ℕ) → Contains (own (course.local u)) e → Contains course.messages (message.Raised u e)
  pub suspended : (u : ℕ) → Contains course.messages (message.Suspended u)
      → (has_spoken (course.local u) ≡ true) × (own (course.local u) ≡ [])
  pub said : (u : ℕ) → has_spoken (course.local u) ≡ true → HasSaid course.messages u
  pub received : (t : ℕ) (m : Message) → Contains (course.local t) (receives m) → Contains course.messages m
  pub once : (u e f : ℕ) → Contains (own (course.local u)) e → Contains (own (course.local u)) f → e ≡ f
  pub members : (u e : ℕ) → Contains (own (course.local u)) e → u < count
  pub met : (t : ℕ) → All (MayMeet order count t) (course.local t)
  pub known : All (IsMessage order count) course.messages
  pub to_raised : (u e : ℕ) → Contains (own (course.local u)) e → Contains raised e
  pub from_raised : (e : ℕ) → Contains raised e → (u : ℕ) × Contains (own (course.local u)) e

-- each member has raised or was told
abbrev pub AllSpoken : ℕ → Course → Type 0
AllSpoken count course = (u : ℕ) → u < count → has_spoken (course.local u) ≡ true

-- of what was resolved and decided
pub record KeepsDecisions (order : CoverOrder) (count : ℕ) (course : Course) (raised : List ℕ) : Type 0 where
  pub resolved_decided : (u e : ℕ) → Contains course.messages (message.Resolved u e) → Contains (decisions order count u (course.local u)) e
  pub resolved_sent : (u : ℕ) → has_resolved count u (course.local u) ≡ true → (e : ℕ) × Contains course.messages (message.Resolved u e)
  pub decided : (t e : ℕ) → Contains (decisions order count t (course.local t)) e → AllSpoken count course × IsLeastCover order raised e

-- whom a member has heard has sent it a word
heard_from : (u : ℕ) (x : LocalEvent) → is_word_of u x ≡ true
    → (x ≡ receives (message.Suspended u)) ⊎ ((e : ℕ) × (x ≡ receives (message.Raised u e)))
heard_from u (raises e) is = absurd cc
heard_from u (receives (message.Raised v e)) is = inr (e, ap (λ w. receives (message.Raised w e)) (eqb-true v u is))
heard_from u (receives (message.Suspended v)) is = inl (ap (λ w. receives (message.Suspended w)) (eqb-true v u is))
heard_from u (receives (message.Resolved v e)) is = absurd cc

pub heard_said : (past : List LocalEvent) (u : ℕ) → has_heard past u ≡ true
    → Contains past (receives (message.Suspended u)) ⊎ ((e : ℕ) × Contains past (receives (message.Raised u e)))
heard_said past u heard =
    let found = any_member (is_word_of u) past heard in
    elim (heard_from u found.0 found.2) [
      | inl suspended ↦ inl (subst (Contains past) suspended found.1)
      | inr raised ↦ inr (raised.0, subst (Contains past) raised.1 found.1)
    ]

-- what was told was raised by the member itself or by another
told_from : (x : LocalEvent) (e : ℕ) → Contains (told_at x) e → (x ≡ raises e) ⊎ ((u : ℕ) × (x ≡ receives (message.Raised u e)))
told_from (raises f) e at = inl (ap (λ y. raises y) (one_in f e at))
told_from (receives (message.Raised u f)) e at = inr (u, ap (λ y. receives (message.Raised u y)) (one_in f e at))
told_from (receives (message.Suspended u)) e at = absurd (nothing_in e at)
told_from (receives (message.Resolved u f)) e at = absurd (nothing_in e at)

own_told_at : (x : LocalEvent) (e : ℕ) → Contains (raised_at x) e → Contains (told_at x) e
own_told_at (raises f) e at = at
own_told_at (receives m) e at = absurd (nothing_in e at)

-- who has raised something has spoken
pub has_own_spoken : (past : List LocalEvent) (e : ℕ) → Contains (own past) e → has_spoken past ≡ true
has_own_spoken past e at =
    let found = flat_map_member raised_at past e at in
    any_from is_call past found.0 found.1 (raises_call found.0 e found.2)
  where
    raises_call : (x : LocalEvent) (f : ℕ) → Contains (raised_at x) f → is_call x ≡ true
    raises_call (raises g) f here = refl
    raises_call (receives m) f here = absurd (nothing_in f here)

-- who has not spoken has raised nothing
pub silent_own : (past : List LocalEvent) → has_spoken past ≡ false → own past ≡ []
silent_own past silent = own_none (own past) refl
  where
    own_none : (xs : List ℕ) → own past ≡ xs → own past ≡ []
    own_none [] is = is
    own_none (e ∷ xs) is =
        absurd (both_ways (has_spoken past) silent (has_own_spoken past e (subst (λ ys. Contains ys e) (sym is) (first_in e xs))))

module _ (order : CoverOrder) (count : ℕ) (course : Course) (raised : List ℕ) (kept : KeepsWords order count course raised) (t : ℕ) where
  pub told_raised : (e : ℕ) → Contains (told (course.local t)) e → Contains raised e
  told_raised e at =
      let found = flat_map_member told_at (course.local t) e at in
      elim (told_from found.0 e found.2) [
        | inl own_one ↦ kept.to_raised t e
            (flat_map_from raised_at (course.local t) (raises e) e (subst (Contains (course.local t)) own_one found.1) (first_in e []))
        | inr other ↦ kept.to_raised other.0 e
            (kept.raised_sent other.0 e (kept.received t (message.Raised other.0 e) (subst (Contains (course.local t)) other.1 found.1)))
      ]

  -- who may resolve has heard each other member
  heard_each : may_resolve count t (course.local t) ≡ true → (u : ℕ) → u < count → u ≢ t → has_heard (course.local t) u ≡ true
  heard_each may u u_in other =
      let parts = and_parts (has_raised (course.local t)) _ may in
      let heard = (and_parts (has_heard_all count t (course.local t)) _ parts.1).0 in
      elim (or_cases (u == t) (has_heard (course.local t) u)
      (in_range_all (λ v. v == t || has_heard (course.local t) v) 0 count heard u (omega arith) (omega arith))) [
        | inl same ↦ absurd (other (eqb-true u t same))
        | inr has ↦ has
      ]

  -- where a member may resolve, all have spoken
  pub all_spoken : may_resolve count t (course.local t) ≡ true → AllSpoken count course
  all_spoken may u u_in = elim (cases_eq u t) [
    | inl same ↦ subst (λ v. has_spoken (course.local v) ≡ true) (sym same)
        (raised_spoken (course.local t) (and_parts (has_raised (course.local t)) _ may).0)
    | inr other ↦ elim (heard_said (course.local t) u (heard_each may u u_in other)) [
      | inl suspended ↦ (kept.suspended u (kept.received t (message.Suspended u) suspended)).0
      | inr raised_one ↦ has_own_spoken (course.local u) raised_one.0
          (kept.raised_sent u raised_one.0 (kept.received t (message.Raised u raised_one.0) raised_one.1))
    ]
  ]

  -- and it was told all that was raised
  pub raised_told_all : may_resolve count t (course.local t) ≡ true → (e : ℕ) → Contains raised e → Contains (told (course.local t)) e
  raised_told_all may e at =
      let who = kept.from_raised e at in
      let u = who.0 in
      elim (cases_eq u t) [
        | inl same ↦
            let mine : Contains (own (course.local t)) e = subst (λ v. Contains (own (course.local v)) e) same who.1 in
            let found = flat_map_member raised_at (course.local t) e mine in
            flat_map_from told_at (course.local t) found.0 e found.1 (own_told_at found.0 e found.2)
        | inr other ↦ elim (heard_said (course.local t) u (heard_each may u (kept.members u e who.1) other)) [
          | inl suspended ↦ absurd
              (nothing_in e (subst (λ es. Contains es e) (kept.suspended u (kept.received t (message.Suspended u) suspended)).1 who.1))
          | inr raised_one ↦
              let same : raised_one.0 ≡ e =
              kept.once u raised_one.0 e
              (kept.raised_sent u raised_one.0 (kept.received t (message.Raised u raised_one.0) raised_one.1)) who.1 in
              flat_map_from told_at (course.local t) (receives (message.Raised u raised_one.0)) e raised_one.1
              (subst (λ f. Contains (raised_one.0 ∷ []) f) same (first_in raised_one.0 []))
        ]
      ]
