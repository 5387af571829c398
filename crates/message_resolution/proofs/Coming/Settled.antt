-- Once nothing is due, all have decided, where anything was raised.
use Rattle.std.proofs.Common.{◌≡◌, ◌≢◌, ℕ, zero, suc, ◌<◌, ◌==◌, ◌||◌, Bool, true, false, List, [], ◌∷◌, ◌++◌, slice_get, Option, Some, None, option_map, inl, inr, ◌⊎◌, refl, sym, ◌∙◌, ap, subst, Contains, arith}
use Rattle.std.specs.List.{list_any}
use Rattle.std.proofs.lemmas.Bool.{cases_Bool, cases_eq, and_from, and_parts, or_left, or_right, eq-eqb, ne_eqb, not_from_false, both_ways, ltb-true, false_from_ne_true, eqb-true}
use Rattle.std.proofs.lemmas.Option.{slice_get-get_or}
use Rattle.std.proofs.lemmas.List.Elements.{All-contains, Contains-append_left, Contains-append_right}
use Rattle.cover_table.specs.Cover.{CoverOrder, IsSound}
use Rattle.message_resolution.specs.declared.node.message.Message.{Message}
use Rattle.message_resolution.specs.declared.node.message.Message.TheVariants as message
use Rattle.message_resolution.specs.declared.world.event.Event.{Event}
use Rattle.message_resolution.specs.declared.world.event.Event.TheVariants.{Raise, Deliver}
use Rattle.message_resolution.specs.Members.LocalEvents.{LocalEvent, raises, receives, is_call, is_word_of, is_greater, is_raise, raised_at, resolved_at, own, has_raised, has_spoken, has_heard, has_greater}
use Rattle.message_resolution.specs.Members.Answers.{has_heard_all, may_resolve, has_resolved, resolution, decisions}
use Rattle.message_resolution.specs.Members.Nodes.{IsMessage, sender_of}
use Rattle.message_resolution.specs.Histories.Courses.{Course, course_of, member_of, met_at, all_raised}
use Rattle.message_resolution.specs.Histories.Legal.{LegalPast, is_from_other}
use Rattle.message_resolution.specs.Histories.Settling.{IsSettled, Settles, settled, delivers, AllHaveDecided}
use Rattle.message_resolution.specs.inner.Deliveries.{is_delivery}
use Rattle.message_resolution.proofs.Containing.{nothing_in, first_in, later_in, cases_in, any_member, any_from, flat_map_from, flat_map_member}
use Rattle.message_resolution.proofs.Ranges.{all_in_range}
use Rattle.message_resolution.proofs.Coming.Kept.{KeepsWords, KeepsDecisions, AllSpoken, has_own_spoken}
use Rattle.message_resolution.proofs.Coming.Advance.{advanced, local_same, lasting}
use Rattle.message_resolution.proofs.Coming.LegalPasts.{step_of, course_step, keeps, contains_got}

-- a message keeps its number as more is sent
pub got_more : (messages more : List Message) (number : ℕ) (m : Message) → slice_get messages number ≡ Some m
    → slice_get (messages ++ more) number ≡ Some m
got_more [] more number m is = absurd cc
got_more (n ∷ messages) more zero m is = is
got_more (n ∷ messages) more (suc number) m is = got_more messages more number m is

mapped : (o : Option Message) (x : LocalEvent) → option_map (λ m. receives m) o ≡ Some x → (m : Message) × (o ≡ Some m) × (x ≡ receives m)
mapped None x is = absurd cc
mapped (Some m) x is = let same : x ≡ receives m = cc in (m, refl, same)

pub is_delivery_true : (t number : ℕ) (e : Event) → is_delivery t number e ≡ true → e ≡ Deliver t number
is_delivery_true t number (Raise by f) is = absurd cc
is_delivery_true t number (Deliver to n) is =
    let parts = and_parts (to == t) (n == number) is in
    let first = eqb-true to t parts.0 in
    let second = eqb-true n number parts.1 in
    cc

pub delivers_itself : (t number : ℕ) → is_delivery t number (Deliver t number) ≡ true
delivers_itself t number = and_from _ _ (eq-eqb t t refl) (eq-eqb number number refl)

pub delivered_or_not : (past : List Event) (t number : ℕ) → Contains past (Deliver t number) ⊎ (Contains past (Deliver t number) → ⊥)
delivered_or_not past t number = elim (cases_Bool (list_any (is_delivery t number) past)) [
  | inl some ↦ let found =
      any_member (is_delivery t number) past some in inl (subst (Contains past) (is_delivery_true t number found.0 found.2) found.1)
  | inr none ↦ inr
      (λ at. both_ways (list_any (is_delivery t number) past) none
      (any_from (is_delivery t number) past (Deliver t number) at (delivers_itself t number)))
]

got_contained : (messages : List Message) (m : Message) → Contains messages m → (number : ℕ) × (slice_get messages number ≡ Some m)
got_contained messages m at = (at.0, slice_get-get_or messages at.0 m at.1 ∙ ap (λ n. Some n) at.2)

from_other : (t : ℕ) (o : Option Message) (m : Message) → o ≡ Some m → sender_of m ≢ t → is_from_other t o ≡ true
from_other t o m is other = ap (is_from_other t) is ∙ not_from_false (sender_of m == t) (ne_eqb (sender_of m) t other)

pub other_some : (t : ℕ) (o : Option Message) → is_from_other t o ≡ true → (m : Message) × (o ≡ Some m)
other_some t None other = absurd cc
other_some t (Some m) other = (m, refl)

-- the greatest number that passes
greatest : (p : ℕ → Bool) (n u : ℕ) → u < n → p u ≡ true → (g : ℕ) × (g < n) × (p g ≡ true) × ((v : ℕ) → g < v → v < n → p v ≡ false)
greatest p zero u u_in holds = absurd (omega arith)
greatest p (suc n) u u_in holds = elim (cases_Bool (p n)) [
  | inl last ↦ (n, omega arith, last, λ v above below. absurd (omega arith))
  | inr fails ↦
      let apart : u ≡ n → ⊥ = λ same. both_ways (p n) fails (subst (λ k. p k ≡ true) same holds) in
      let found = greatest p n u (omega arith) holds in
      let below_n = found.1 in (
        found.0,
        omega arith,
        found.2,
        λ v above below. elim (cases_eq v n) [
          | inl same ↦ subst (λ k. p k ≡ false) (sym same) fails
          | inr other ↦ found.3 v above (omega arith)
        ],
      )
]

own_has_raised : (past : List LocalEvent) (e : ℕ) → Contains (own past) e → has_raised past ≡ true
own_has_raised past e at =
    let found = flat_map_member raised_at past e at in
    any_from is_raise past found.0 found.1 (raises_is found.0 e found.2)
  where
    raises_is : (x : LocalEvent) (f : ℕ) → Contains (raised_at x) f → is_raise x ≡ true
    raises_is (raises g) f here = refl
    raises_is (receives m) f here = absurd (nothing_in f here)

greater_from : (g : ℕ) (x : LocalEvent) → is_greater g x ≡ true → (v : ℕ) × (e : ℕ) × (g < v) × (x ≡ receives (message.Raised v e))
greater_from g (raises e) is = absurd cc
greater_from g (receives (message.Raised v e)) is = (v, e, ltb-true g v is, refl)
greater_from g (receives (message.Suspended v)) is = absurd cc
greater_from g (receives (message.Resolved v e)) is = absurd cc

call_from : (x : LocalEvent) → is_call x ≡ true → ((e : ℕ) × (x ≡ raises e)) ⊎ ((v : ℕ) × (e : ℕ) × (x ≡ receives (message.Raised v e)))
call_from (raises e) is = inl (e, refl)
call_from (receives (message.Raised v e)) is = inr (v, e, refl)
call_from (receives (message.Suspended v)) is = absurd cc
call_from (receives (message.Resolved v e)) is = absurd cc

may_has_resolved : (count g : ℕ) (past : List LocalEvent) → may_resolve count g past ≡ true → has_resolved count g past ≡ true
may_has_resolved count g [] may = absurd cc
may_has_resolved count g (x ∷ past) may = or_left (may_resolve count g (x ∷ past)) (has_resolved count g past) may

heard_decides : (order : CoverOrder) (count t : ℕ) (past : List LocalEvent) (v e : ℕ) → Contains past (receives (message.Resolved v e))
    → Contains (decisions order count t past) e
heard_decides order count t [] v e at = absurd (nothing_in _ at)
heard_decides order count t (x ∷ past) v e at = elim (cases_in x past _ at) [
  | inl same ↦ Contains-append_left (resolution order count t past x ++ resolved_at x) _ e
      (Contains-append_right (resolution order count t past x) (resolved_at x) e
      (subst (λ y. Contains (resolved_at y) e) (sym same) (first_in e [])))
  | inr later ↦ Contains-append_right (resolution order count t past x ++ resolved_at x) _ e (heard_decides order count t past v e later)
]

module _ (order : CoverOrder) (count : ℕ) where
  -- a course's messages keep their numbers
  pub got_later : (past : List Event) (e : Event) → LegalPast order count (e ∷ past) → (number : ℕ) (m : Message)
      → slice_get (course_of order count past).messages number ≡ Some m
      → slice_get (course_of order count (e ∷ past)).messages number ≡ Some m
  got_later past e legal number m is =
      let step = step_of order count past e legal.1 in
      subst (λ (c : Course). slice_get c.messages number ≡ Some m) (sym (course_step order count past e step))
      (got_more (course_of order count past).messages _ number m is)

  -- the message that was delivered was met
  abbrev Met : List Event → ℕ → ℕ → Type 0
  Met past t number =
      (m : Message) × (slice_get (course_of order count past).messages number ≡ Some m) × Contains
      ((course_of order count past).local t) (receives m)

  delivered_now : (past : List Event) (e : Event) (t number : ℕ) → LegalPast order count (e ∷ past) → e ≡ Deliver t number
      → Met (e ∷ past) t number
  delivered_now past e t number legal is =
      let course = course_of order count past in
      let step = step_of order count past e legal.1 in
      let met = subst (λ (d : Event). met_at course.messages d ≡ Some step.x) is step.met in
      let found = mapped (slice_get course.messages number) step.x met in
      let member : member_of e ≡ t = ap member_of is in
      let here : Contains ((advanced order count course (member_of e) step.x).local (member_of e)) (receives found.0) =
      subst (λ met. Contains met (receives found.0)) (sym (local_same order count course (member_of e) step.x))
      (subst (λ y. Contains (step.x ∷ course.local (member_of e)) y) found.2 (first_in step.x (course.local (member_of e)))) in (
        found.0,
        got_later past e legal number found.0 found.1,
        subst (λ (c : Course). Contains (c.local t) (receives found.0)) (sym (course_step order count past e step))
            (subst (λ u. Contains ((advanced order count course (member_of e) step.x).local u) (receives found.0)) member here),
      )

  pub delivered_met : (past : List Event) (t number : ℕ) → LegalPast order count past → Contains past (Deliver t number) → Met past t number
  delivered_met [] t number legal at = absurd (nothing_in _ at)
  delivered_met (e ∷ past) t number legal at = elim (cases_in e past _ at) [
    | inl same ↦ delivered_now past e t number legal same
    | inr before ↦
        let course = course_of order count past in
        let step = step_of order count past e legal.1 in
        let found = delivered_met past t number legal.0 before in (
          found.0,
          got_later past e legal number found.0 found.1,
          subst (λ (c : Course). Contains (c.local t) (receives found.0)) (sym (course_step order count past e step))
              (lasting order count course (member_of e) step.x (λ v met. Contains met (receives found.0)) t
              (λ had. later_in step.x (course.local (member_of e)) (receives found.0) had) found.2),
        )
  ]

  module _ (sound : IsSound order) (past : List Event) (legal : LegalPast order count past) where
    abbrev course : Course
    course = course_of order count past

    pub words : KeepsWords order count course (all_raised past)
    words = (keeps order count past sound legal).0

    kept : KeepsDecisions order count course (all_raised past)
    kept = (keeps order count past sound legal).1

    -- where nothing is due, each message reached each other member
    reached : IsSettled order count past → (t : ℕ) (m : Message) → t < count → sender_of m ≢ t → Contains course.messages m
        → Contains (course.local t) (receives m)
    reached calm t m t_in other at =
        let number = got_contained course.messages m at in
        elim (delivered_or_not past t number.0) [
          | inl delivered ↦
              let met = delivered_met past t number.0 legal delivered in
              let same : met.0 ≡ m = let both : Some met.0 ≡ Some m = sym met.1 ∙ number.1 in cc in
              subst (λ n. Contains (course.local t) (receives n)) same met.2
          | inr never ↦ absurd (calm number.0 t (record {
            member = t_in;
            other = from_other t _ m number.1 other;
            never = never;
          }))
        ]

    reached_call : IsSettled order count past → (u e : ℕ) → Contains course.messages (message.Raised u e) → AllSpoken count course
    reached_call calm u e at t t_in = elim (cases_eq u t) [
      | inl same ↦ subst (λ v. has_spoken (course.local v) ≡ true) same (has_own_spoken (course.local u) e (words.raised_sent u e at))
      | inr other ↦ any_from is_call (course.local t) (receives (message.Raised u e))
          (reached calm t (message.Raised u e) t_in other at) refl
    ]

    hears : IsSettled order count past → AllSpoken count course → (g u : ℕ) → g < count → u < count → u ≢ g
        → has_heard (course.local g) u ≡ true
    hears calm spoken g u g_in u_in other = elim (words.said u (spoken u u_in)) [
      | inl suspended ↦ any_from (is_word_of u) (course.local g) (receives (message.Suspended u))
          (reached calm g (message.Suspended u) g_in other suspended) (eq-eqb u u refl)
      | inr raised_one ↦ any_from (is_word_of u) (course.local g) (receives (message.Raised u raised_one.0))
          (reached calm g (message.Raised u raised_one.0) g_in other raised_one.1) (eq-eqb u u refl)
    ]

    no_greater : (g : ℕ) → ((v : ℕ) → g < v → v < count → has_raised (course.local v) ≡ false) → has_greater g (course.local g) ≡ false
    no_greater g last = false_from_ne_true (has_greater g (course.local g)) (λ is.
        let found = any_member (is_greater g) (course.local g) is in
        let from = greater_from g found.0 found.2 in
        let raises_too =
        words.raised_sent from.0 from.1
        (words.received g (message.Raised from.0 from.1) (subst (Contains (course.local g)) from.3 found.1)) in
        both_ways (has_raised (course.local from.0)) (last from.0 from.2 (words.members from.0 from.1 raises_too))
        (own_has_raised (course.local from.0) from.1 raises_too))

    resolver : IsSettled order count past → (u e : ℕ) → Contains (own (course.local u)) e
        → (g : ℕ) × (f : ℕ) × Contains course.messages (message.Resolved g f)
    resolver calm u e at =
        let u_in = words.members u e at in
        let spoken = reached_call calm u e (words.sent_raised u e at) in
        let last = greatest (λ v. has_raised (course.local v)) count u u_in (own_has_raised (course.local u) e at) in
        let g = last.0 in
        let g_in = last.1 in
        let heard : has_heard_all count g (course.local g) ≡ true =
        all_in_range (λ v. v == g || has_heard (course.local g) v) 0 count (λ v low high. elim (cases_eq v g) [
          | inl same ↦ or_left (v == g) (has_heard (course.local g) v) (eq-eqb v g same)
          | inr other ↦ or_right (v == g) (has_heard (course.local g) v) (hears calm spoken g v g_in (omega arith) other)
        ]) in
        let may : may_resolve count g (course.local g) ≡ true =
        and_from (has_raised (course.local g)) _ last.2
        (and_from (has_heard_all count g (course.local g)) _ heard (not_from_false _ (no_greater g last.3))) in
        let sent_one = kept.resolved_sent g (may_has_resolved count g (course.local g) may) in
        (g, sent_one.0, sent_one.1)

    -- where anything was raised, all decide
    pub all_decide : IsSettled order count past → (all_raised past ≡ [] → ⊥) → AllHaveDecided order count past
    all_decide calm some t t_in =
        let first = some_in (all_raised past) some in
        let who = words.from_raised first.0 first.1 in
        let found = resolver calm who.0 first.0 who.1 in (
          found.1,
          elim (cases_eq found.0 t) [
            | inl same ↦ subst (λ v. Contains (decisions order count v (course.local v)) found.1) same
                (kept.resolved_decided found.0 found.1 found.2)
            | inr other ↦ heard_decides order count t (course.local t) found.0 found.1
                (reached calm t (message.Resolved found.0 found.1) t_in other found.2)
          ],
        )
      where
        some_in : (xs : List ℕ) → (xs ≡ [] → ⊥) → (x : ℕ) × Contains xs x
        some_in [] any = absurd (any refl)
        some_in (x ∷ xs) any = (x, first_in x xs)

    -- where nothing was raised, nothing was sent
    unraised : all_raised past ≡ [] → (u e : ℕ) → Contains course.messages (message.Raised u e) → ⊥
    unraised none u e at = nothing_in e (subst (λ es. Contains es e) none (words.to_raised u e (words.raised_sent u e at)))

    pub unspoken : all_raised past ≡ [] → (u : ℕ) → has_spoken (course.local u) ≡ true → ⊥
    unspoken none u spoken =
        let found = any_member is_call (course.local u) spoken in
        elim (call_from found.0 found.2) [
          | inl mine ↦ nothing_in mine.0
              (subst (λ es. Contains es mine.0) none
              (words.to_raised u mine.0
              (flat_map_from raised_at (course.local u) found.0 mine.0 found.1
              (subst (λ y. Contains (raised_at y) mine.0) (sym mine.1) (first_in mine.0 [])))))
          | inr other ↦ unraised none other.0 other.1
              (words.received u (message.Raised other.0 other.1) (subst (Contains (course.local u)) other.2 found.1))
        ]

    pub unsent : all_raised past ≡ [] → (m : Message) → Contains course.messages m → ⊥
    unsent none (message.Raised u e) at = unraised none u e at
    unsent none (message.Suspended u) at = unspoken none u (words.suspended u at).0
    unsent none (message.Resolved u e) at =
        let known = All-contains (IsMessage order count) course.messages (message.Resolved u e) words.known at in
        unspoken none u ((kept.decided u e (kept.resolved_decided u e at)).0 u known.0)

    pub calm_unraised : all_raised past ≡ [] → IsSettled order count past
    calm_unraised none number t due =
        let found = other_some t (slice_get course.messages number) due.other in
        unsent none found.0 (contains_got course.messages number found.0 found.1)

  -- settling is legal, settles, and raises nothing
  pub settles_legal : {past new : List Event} → Settles order count past new → LegalPast order count past → LegalPast order count new
  settles_legal (settled calm) legal = legal
  settles_legal (delivers {number = number} {t = t} first later) legal =
      settles_legal later (legal, record { in_range = first.due.member; legal = first.due.other })

  pub settles_settled : {past new : List Event} → Settles order count past new → IsSettled order count new
  settles_settled (settled calm) = calm
  settles_settled (delivers first later) = settles_settled later

  pub settles_raised : {past new : List Event} → Settles order count past new → all_raised new ≡ all_raised past
  settles_raised (settled calm) = refl
  settles_raised (delivers first later) = settles_raised later

  pub settles_same : {past new : List Event} → Settles order count past new → IsSettled order count past → new ≡ past
  settles_same (settled calm) is = refl
  settles_same (delivers {number = number} {t = t} first later) is = absurd (is number t first.due)

  -- so after settling all have decided, where anything was raised, and else nothing has changed
  pub settles_decide : {past new : List Event} → IsSound order → LegalPast order count past → Settles order count past new
      → (all_raised past ≡ [] → ⊥) → AllHaveDecided order count new
  settles_decide {new = new} sound legal settling some =
      all_decide sound new (settles_legal settling legal) (settles_settled settling) (λ none. some (sym (settles_raised settling) ∙ none))

  pub settles_none : {past new : List Event} → IsSound order → LegalPast order count past → Settles order count past new
      → all_raised past ≡ [] → new ≡ past
  settles_none {past = past} sound legal settling none = settles_same settling (calm_unraised sound past legal none)
