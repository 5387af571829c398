-- One more event keeps what is kept of the words that were sent.
use Rattle.std.proofs.Common.{◌≡◌, ◌≢◌, ℕ, ◌<◌, true, false, List, [], ◌∷◌, ◌++◌, inl, inr, ◌⊎◌, Some, refl, sym, ◌∙◌, ap, subst, map, All, Contains}
use Rattle.std.proofs.lemmas.Bool.{cases_eq, cases_Bool, cond-true, cond-false, eq-eqb, ne_eqb, both_ways, or_right}
use Rattle.std.proofs.lemmas.List.Elements.{All-nil, All-cons, All-append, All-contains, Contains-append_left, Contains-append_right, Contains-append_cases}
use Rattle.cover_table.specs.Cover.{CoverOrder, IsSound}
use Rattle.message_resolution.specs.declared.node.message.Message.{Message}
use Rattle.message_resolution.specs.declared.node.message.Message.TheVariants as message
use Rattle.message_resolution.specs.Members.LocalEvents.{LocalEvent, raises, receives, raised_at, own, told, has_spoken}
use Rattle.message_resolution.specs.Members.Answers.{resolution, word, answers}
use Rattle.message_resolution.specs.Members.Nodes.{IsMessage, MayMeet, sender_of}
use Rattle.message_resolution.specs.Histories.Courses.{Course, course_with}
use Rattle.message_resolution.proofs.Containing.{nothing_in, first_in, later_in, one_in, cases_in}
use Rattle.message_resolution.proofs.Knowing.States.{told_in}
use Rattle.message_resolution.proofs.Coming.Answering.{sends_raised, sends_suspended, word_sent, in_resolution_only, resolution_least}
use Rattle.message_resolution.proofs.Coming.Kept.{HasSaid, KeepsWords, silent_own}

-- what t may meet in a course: it raises while it has not spoken, or another's message that was sent is delivered
abbrev pub MeetsNow : CoverOrder → Course → ℕ → LocalEvent → Type 0
MeetsNow order course t (raises e) = (has_spoken (course.local t) ≡ false) × (e < order.count)
MeetsNow order course t (receives m) = Contains course.messages m × (sender_of m ≢ t)

module _ (order : CoverOrder) (count : ℕ) (course : Course) (t : ℕ) (x : LocalEvent) where
  abbrev pub advanced : Course
  advanced = course_with order count course t (Some x)

  pub local_same : advanced.local t ≡ x ∷ course.local t
  local_same = cond-true _ _ _ (eq-eqb t t refl)

  pub local_other : (u : ℕ) → u ≢ t → advanced.local u ≡ course.local u
  local_other u other = cond-false _ _ _ (ne_eqb u t other)

  -- a fact of each member's past holds after the event where it holds for t with the event, and for the others as they were
  pub at_each : (P : ℕ → List LocalEvent → Type 0) (u : ℕ) → P t (x ∷ course.local t) → (u ≢ t → P u (course.local u))
      → P u (advanced.local u)
  at_each P u here others = elim (cases_eq u t) [
    | inl same ↦ subst (λ v. P v (advanced.local v)) (sym same) (subst (P t) (sym local_same) here)
    | inr other ↦ subst (P u) (sym (local_other u other)) (others other)
  ]

  -- and where it lasts through the event
  pub lasting : (P : ℕ → List LocalEvent → Type 0) (u : ℕ) → (P t (course.local t) → P t (x ∷ course.local t)) → P u (course.local u)
      → P u (advanced.local u)
  lasting P u step before = elim (cases_eq u t) [
    | inl same ↦ subst (λ v. P v (advanced.local v)) (sym same)
        (subst (P t) (sym local_same) (step (subst (λ v. P v (course.local v)) same before)))
    | inr other ↦ subst (P u) (sym (local_other u other)) before
  ]

-- who receives raises nothing more; who raises had raised nothing
own_cases : (order : CoverOrder) (course : Course) (t : ℕ) (x : LocalEvent) → MeetsNow order course t x
    → (raised_at x ≡ []) ⊎ ((e : ℕ) × (x ≡ raises e) × (own (course.local t) ≡ []) × (has_spoken (course.local t) ≡ false))
own_cases order course t (raises e) may = inr (e, refl, silent_own (course.local t) may.0, may.0)
own_cases order course t (receives m) may = inl refl

raised_only : (x : LocalEvent) (e : ℕ) → Contains (raised_at x) e → x ≡ raises e
raised_only (raises f) e at = ap (λ y. raises y) (one_in f e at)
raised_only (receives m) e at = absurd (nothing_in e at)

received_now : (order : CoverOrder) (course : Course) (t : ℕ) (x : LocalEvent) (m : Message) → MeetsNow order course t x → x ≡ receives m
    → Contains course.messages m
received_now order course t x m may is =
    let may_m : MeetsNow order course t (receives m) = subst (MeetsNow order course t) is may in
    may_m.0

meets_met : (order : CoverOrder) (count : ℕ) (course : Course) (t : ℕ) (x : LocalEvent) → All (IsMessage order count) course.messages
    → MeetsNow order course t x → MayMeet order count t x
meets_met order count course t (raises e) known may = may.1
meets_met order count course t (receives m) known may = (All-contains (IsMessage order count) course.messages m known may.0, may.1)

-- who has spoken at last said so at once
said_now : (order : CoverOrder) (count : ℕ) (course : Course) (t : ℕ) (x : LocalEvent) → has_spoken (course.local t) ≡ false
    → has_spoken (x ∷ course.local t) ≡ true → HasSaid (word t (course.local t) x) t
said_now order count course t (raises e) silent spoken = inr (e, first_in (message.Raised t e) [])
said_now order count course t (receives (message.Raised v e)) silent spoken =
    inl (subst (λ ms. Contains ms (message.Suspended t)) (sym (cond-false _ _ _ silent)) (first_in (message.Suspended t) []))
said_now order count course t (receives (message.Suspended v)) silent spoken =
    absurd (both_ways (has_spoken (course.local t)) silent spoken)
said_now order count course t (receives (message.Resolved v e)) silent spoken =
    absurd (both_ways (has_spoken (course.local t)) silent spoken)

word_known : (order : CoverOrder) (count t : ℕ) (past : List LocalEvent) (x : LocalEvent) → t < count → MayMeet order count t x
    → All (IsMessage order count) (word t past x)
word_known order count t past (raises e) t_in may =
    All-cons (IsMessage order count) (message.Raised t e) [] (t_in, may) (All-nil (IsMessage order count))
word_known order count t past (receives (message.Raised v e)) t_in may = elim (cases_Bool (has_spoken past)) [
  | inl spoken ↦ subst (All (IsMessage order count)) (sym (cond-true _ _ _ spoken)) (All-nil (IsMessage order count))
  | inr silent ↦ subst (All (IsMessage order count)) (sym (cond-false _ _ _ silent))
      (All-cons (IsMessage order count) (message.Suspended t) [] t_in (All-nil (IsMessage order count)))
]
word_known order count t past (receives (message.Suspended v)) t_in may = All-nil (IsMessage order count)
word_known order count t past (receives (message.Resolved v e)) t_in may = All-nil (IsMessage order count)

said_left : (messages more : List Message) (u : ℕ) → HasSaid messages u → HasSaid (messages ++ more) u
said_left messages more u said = elim said [
  | inl suspended ↦ inl (Contains-append_left messages more _ suspended)
  | inr raised_one ↦ inr (raised_one.0, Contains-append_left messages more _ raised_one.1)
]

said_right : (messages more : List Message) (u : ℕ) → HasSaid more u → HasSaid (messages ++ more) u
said_right messages more u said = elim said [
  | inl suspended ↦ inl (Contains-append_right messages more _ suspended)
  | inr raised_one ↦ inr (raised_one.0, Contains-append_right messages more _ raised_one.1)
]

module _ (order : CoverOrder) (sound : IsSound order) (count : ℕ) (course : Course) (raised : List ℕ)
    (kept : KeepsWords order count course raised) (t : ℕ) (t_in : t < count) (x : LocalEvent) (may : MeetsNow order course t x) where
  abbrev sent : List Message
  sent = answers order count t (course.local t) x

  abbrev next : Course
  next = advanced order count course t x

  own_grows : (u e : ℕ) → Contains (own (course.local u)) e → Contains (own (next.local u)) e
  own_grows u e at =
      lasting order count course t x (λ v past. Contains (own past) e) u (λ before. Contains-append_right (raised_at x) _ e before) at

  step_raised_sent : (u e : ℕ) → Contains next.messages (message.Raised u e) → Contains (own (next.local u)) e
  step_raised_sent u e at = elim (Contains-append_cases course.messages sent _ at) [
    | inl before ↦ own_grows u e (kept.raised_sent u e before)
    | inr now ↦
        let by = sends_raised order count t (course.local t) x u e now in
        subst (λ v. Contains (own (next.local v)) e) (sym by.0)
        (subst (λ past. Contains (own past) e) (sym (local_same order count course t x))
        (subst (λ y. Contains (own (y ∷ course.local t)) e) (sym by.1) (first_in e (own (course.local t)))))
  ]

  sent_first : (e : ℕ) → x ≡ raises e → Contains sent (message.Raised t e)
  sent_first e is =
      word_sent order count t (course.local t) x (message.Raised t e)
      (subst (λ y. Contains (word t (course.local t) y) (message.Raised t e)) (sym is) (first_in (message.Raised t e) []))

  step_sent_raised : (u e : ℕ) → Contains (own (next.local u)) e → Contains next.messages (message.Raised u e)
  step_sent_raised u e = at_each order count course t x (λ v past. Contains (own past) e → Contains next.messages (message.Raised v e)) u
      (λ at. elim (Contains-append_cases (raised_at x) (own (course.local t)) e at) [
        | inl now ↦ Contains-append_right course.messages sent _ (sent_first e (raised_only x e now))
        | inr before ↦ Contains-append_left course.messages sent _ (kept.sent_raised t e before)
      ])
      (λ other at. Contains-append_left course.messages sent _ (kept.sent_raised u e at))

  abbrev Suspends : List LocalEvent → Type 0
  Suspends past = (has_spoken past ≡ true) × (own past ≡ [])

  stays_suspended : Suspends (course.local t) → Suspends (x ∷ course.local t)
  stays_suspended was = elim (own_cases order course t x may) [
    | inl none ↦ (or_right _ (has_spoken (course.local t)) was.0, ap (λ es. es ++ own (course.local t)) none ∙ was.1)
    | inr raises_now ↦ absurd (both_ways (has_spoken (course.local t)) raises_now.3 was.0)
  ]

  step_suspended : (u : ℕ) → Contains next.messages (message.Suspended u) → Suspends (next.local u)
  step_suspended u at = elim (Contains-append_cases course.messages sent _ at) [
    | inl before ↦ lasting order count course t x (λ v past. Suspends past) u stays_suspended (kept.suspended u before)
    | inr now ↦
        let by = sends_suspended order count t (course.local t) x u now in
        subst (λ v. Suspends (next.local v)) (sym by.0)
        (subst Suspends (sym (local_same order count course t x)) (by.3, by.2 ∙ silent_own (course.local t) by.1))
  ]

  step_said : (u : ℕ) → has_spoken (next.local u) ≡ true → HasSaid next.messages u
  step_said u = at_each order count course t x (λ v past. has_spoken past ≡ true → HasSaid next.messages v) u
      (λ spoken. elim (cases_Bool (has_spoken (course.local t))) [
        | inl had ↦ said_left course.messages sent t (kept.said t had)
        | inr silent ↦ said_right course.messages sent t
            (said_left (word t (course.local t) x) _ t (said_now order count course t x silent spoken))
      ])
      (λ other spoken. said_left course.messages sent u (kept.said u spoken))

  step_received : (u : ℕ) (m : Message) → Contains (next.local u) (receives m) → Contains next.messages m
  step_received u m = at_each order count course t x (λ v past. Contains past (receives m) → Contains next.messages m) u
      (λ at. Contains-append_left course.messages sent m (elim (cases_in x (course.local t) (receives m) at) [
        | inl now ↦ received_now order course t x m may now
        | inr before ↦ kept.received t m before
      ]))
      (λ other at. Contains-append_left course.messages sent m (kept.received u m at))

  step_once : (u e f : ℕ) → Contains (own (next.local u)) e → Contains (own (next.local u)) f → e ≡ f
  step_once u e f = at_each order count course t x (λ v past. Contains (own past) e → Contains (own past) f → e ≡ f) u
      (elim (own_cases order course t x may) [
        | inl none ↦ λ at_e at_f. kept.once t e f (subst (λ es. Contains (es ++ own (course.local t)) e) none at_e)
            (subst (λ es. Contains (es ++ own (course.local t)) f) none at_f)
        | inr raises_now ↦
            let only : own (x ∷ course.local t) ≡ raises_now.0 ∷ [] =
            ap (λ y. raised_at y ++ own (course.local t)) raises_now.1 ∙ ap (λ es. raises_now.0 ∷ es) raises_now.2 in
            λ at_e at_f. sym (one_in raises_now.0 e (subst (λ es. Contains es e) only at_e))
            ∙ one_in raises_now.0 f (subst (λ es. Contains es f) only at_f)
      ])
      (λ other at_e at_f. kept.once u e f at_e at_f)

  step_members : (u e : ℕ) → Contains (own (next.local u)) e → u < count
  step_members u e =
      at_each order count course t x (λ v past. Contains (own past) e → v < count) u (λ at. t_in) (λ other at. kept.members u e at)

  now_met : MayMeet order count t x
  now_met = meets_met order count course t x kept.known may

  step_met : (u : ℕ) → All (MayMeet order count u) (next.local u)
  step_met u =
      at_each order count course t x (λ v past. All (MayMeet order count v) past) u
      (All-cons (MayMeet order count t) x (course.local t) now_met (kept.met t)) (λ other. kept.met u)

  told_range : All (λ e. e < order.count) (told (x ∷ course.local t))
  told_range = told_in order count t (x ∷ course.local t) (All-cons (MayMeet order count t) x (course.local t) now_met (kept.met t))

  resolution_known : (es : List ℕ) → ((e : ℕ) → Contains es e → e < order.count)
      → All (IsMessage order count) (map (λ e. message.Resolved t e) es)
  resolution_known [] in_range = All-nil (IsMessage order count)
  resolution_known (e ∷ es) in_range =
      All-cons (IsMessage order count) (message.Resolved t e) _ (t_in, in_range e (first_in e es))
      (resolution_known es (λ f at. in_range f (later_in e es f at)))

  step_known : All (IsMessage order count) next.messages
  step_known =
      All-append (IsMessage order count) course.messages sent kept.known
      (All-append (IsMessage order count) (word t (course.local t) x) _ (word_known order count t (course.local t) x t_in now_met)
      (resolution_known (resolution order count t (course.local t) x) (λ e at. let least =
      resolution_least order count t (course.local t) x e sound told_range
      (in_resolution_only order count t (course.local t) x e at) in least.in_range)))

  step_to_raised : (u e : ℕ) → Contains (own (next.local u)) e → Contains (raised_at x ++ raised) e
  step_to_raised u e = at_each order count course t x (λ v past. Contains (own past) e → Contains (raised_at x ++ raised) e) u
      (λ at. elim (Contains-append_cases (raised_at x) (own (course.local t)) e at) [
        | inl now ↦ Contains-append_left (raised_at x) raised e now
        | inr before ↦ Contains-append_right (raised_at x) raised e (kept.to_raised t e before)
      ])
      (λ other at. Contains-append_right (raised_at x) raised e (kept.to_raised u e at))

  step_from_raised : (e : ℕ) → Contains (raised_at x ++ raised) e → (u : ℕ) × Contains (own (next.local u)) e
  step_from_raised e at = elim (Contains-append_cases (raised_at x) raised e at) [
    | inl now ↦ (
      t,
      subst (λ past. Contains (own past) e) (sym (local_same order count course t x))
          (Contains-append_left (raised_at x) (own (course.local t)) e now),
    )
    | inr before ↦ let who = kept.from_raised e before in (who.0, own_grows who.0 e who.1)
  ]

  pub keeps_words : KeepsWords order count (advanced order count course t x) (raised_at x ++ raised)
  keeps_words = record {
    raised_sent = step_raised_sent;
    sent_raised = step_sent_raised;
    suspended = step_suspended;
    said = step_said;
    received = step_received;
    once = step_once;
    members = step_members;
    met = step_met;
    known = step_known;
    to_raised = step_to_raised;
    from_raised = step_from_raised;
  }
