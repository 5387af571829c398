-- Length law: no legal journal has more entries than the bound says, since each entry spends something that was not spent before.
use Rattle.std.proofs.Common.{◌≡◌, ℕ, ◌==◌, ◌<◌, ◌≤◌, ◌+◌, ◌⊎◌, Bool, true, false, not, cond, ◌&&◌, ◌||◌, List, [], ◌∷◌, Option, Some, None, refl, ◌∙◌, subst, subst₂, arith, length, inl, inr, MatchOption}
use Rattle.std.proofs.lemmas.Bool.{and_parts, and_from, or_cases, or_left, or_right, eqb-true, eq-eqb, false≢true, not-true, not_from_false, cases_Bool, false_from_ne_true, both_ways}
use Rattle.caa_base.specs.declared.written.entry.Entry.{Entry}
use Rattle.caa_base.specs.declared.written.entry.Kind.{Kind}
use Rattle.caa_base.specs.declared.written.entry.Kind.TheVariants as kind
use Rattle.place_plan.specs.Plans.PlanValue.{Plan}
use Rattle.caa_base.specs.inner.Lists.{one_if}
use Rattle.place_plan.specs.Plans.Places.{objects_of}
use Rattle.place_plan.specs.RulesOfJournals.Entries.{is_in, is_by, has, has_by}
use Rattle.place_plan.specs.RulesOfJournals.Whereabouts.{inside, has_started, has_ended, is_undoing}
use Rattle.place_plan.specs.RulesOfJournals.Raising.{has_handled, carries_into, is_calm, is_hot, is_halted, exception_resolved}
use Rattle.place_plan.specs.RulesOfJournals.Objects.{is_tried}
use Rattle.place_plan.specs.RulesOfJournals.Roles.{has_given_after, has_given, is_handling, was_refused_in_handler, is_in_handler, is_able, has_aborted}
use Rattle.place_plan.specs.RulesOfJournals.Rules.{Row, MayVerdict, SaysVerdict, unhandled_verdict}
use Rattle.place_plan.specs.RulesOfJournals.Journals.{LegalPast}
use Rattle.place_plan.specs.Plans.Bound.{row_bound, bound}
use Rattle.journal_laws.specs.Laws.{Holds, IsBounded}
use Rattle.journal_laws.proofs.Playable.{IsPlayable}
use Rattle.journal_laws.proofs.Core.{Core}
use Rattle.caa_base.proofs.ListLemmas.{first_not_fails}
use Rattle.place_plan.proofs.OnJournals.EntryKinds.{of_kind, both_same}
use Rattle.journal_laws.proofs.Newest.{newest_stands, stands_newest}
use Rattle.journal_laws.proofs.Phases.{calm_open, hot_open, going_parts}
use Rattle.journal_laws.proofs.Raised.{plain_calm, unhandled_fault}
use Rattle.journal_laws.proofs.Arrivals.{fresh, inside_stays, gone}
use Rattle.journal_laws.proofs.Holding.{end_live}
use Rattle.journal_laws.proofs.Lives.{live_parts}
use Rattle.journal_laws.proofs.Makers.{maker_role}
use Rattle.journal_laws.proofs.Ranges.{place_known, recovery_verdict}
use Rattle.journal_laws.proofs.Costs.{one_if_or, one_if_up, total, total_rows, total_up, total_more, walked, has_said_before, has_said_after, was_refused_once, role_cost, stages, place_cost, place_up, stage_spent, object_spent, role_spent, place_bound, place_within, place_row}
use Rattle.journal_laws.proofs.Walked.{walked_within}

-- ---- counters and what the rules ask

-- a verdict that was given before the Resolve is one; and one after it needs it
said_verdict : (past : List Entry) (p t : ℕ) → has_said_before past p t ≡ true → has_by kind.Verdict past p t ≡ true
said_verdict [] p t h = absurd (false≢true h)
said_verdict (e ∷ past) p t h = elim (or_cases (is_by kind.Verdict p t e && not (has kind.Resolve past p)) (has_said_before past p t) h) [
  | inl x ↦ or_left _ _ (and_parts (is_by kind.Verdict p t e) (not (has kind.Resolve past p)) x).0
  | inr x ↦ or_right _ _ (said_verdict past p t x)
]

said_resolved : (past : List Entry) (p t : ℕ) → has_said_after past p t ≡ true → has kind.Resolve past p ≡ true
said_resolved [] p t h = absurd (false≢true h)
said_resolved (e ∷ past) p t h = elim (or_cases (is_by kind.Verdict p t e && has kind.Resolve past p) (has_said_after past p t) h) [
  | inl x ↦ or_right _ _ (and_parts (is_by kind.Verdict p t e) (has kind.Resolve past p) x).1
  | inr x ↦ or_right _ _ (said_resolved past p t x)
]

refused_handled : (past : List Entry) (p t : ℕ) → was_refused_once past p t ≡ true → has_handled past p t ≡ true
refused_handled [] p t h = absurd (false≢true h)
refused_handled (e ∷ past) p t h =
    elim (or_cases (is_by kind.PutFault p t e && has_by kind.Handle past p t) (was_refused_once past p t) h) [
      | inl x ↦ or_right _ _ (and_parts (is_by kind.PutFault p t e) (has_by kind.Handle past p t) x).1
      | inr x ↦ or_right _ _ (refused_handled past p t x)
    ]

module _ (plan : Plan) where
  -- what was said after the Resolve is still given: there is no second one
  said_given_by : (past : List Entry) (k : Kind) (e : Entry) (p t : ℕ)
      → (has_said_after past p t ≡ true → has_given_after past p t ≡ true) → Row k plan past (of_kind k e)
      → has_said_after (of_kind k e ∷ past) p t ≡ true → has_given_after (of_kind k e ∷ past) p t ≡ true
  said_given_by past kind.Resolve e p t ih h w = elim (cases_Bool (e.place == p)) [
    | inl x ↦
        let some = stands_newest (is_in kind.Resolve p) past (said_resolved past p t w) in
        let none : exception_resolved past p ≡ None = subst (λ a. exception_resolved past a ≡ None) (eqb-true e.place p x) h.fresh in
        absurd cc
    | inr x ↦ rw x (ih w)
  ]
  said_given_by past kind.Verdict e p t ih h w = by_own ((e.place == p) && (e.by == t)) w
    where
      by_own : (b : Bool) → ((b && has kind.Resolve past p) || has_said_after past p t) ≡ true
          → cond b (has kind.Resolve past p) (has_given_after past p t) ≡ true
      by_own true w = elim (or_cases (has kind.Resolve past p) (has_said_after past p t) w) [ inl x ↦ x | inr x ↦ said_resolved past p t x ]
      by_own false w = ih w
  said_given_by past _ e p t ih h w = ih w

  said_given : (past : List Entry) → LegalPast plan past → (p t : ℕ) → has_said_after past p t ≡ true → has_given_after past p t ≡ true
  said_given [] h p t w = absurd (false≢true w)
  said_given (e ∷ past) h p t w = said_given_by past e.kind e p t (said_given past h.0 p t) h.1 w

  -- and who was refused a put in a handler was so in its only one
  refused_once_by : (past : List Entry) (k : Kind) (e : Entry) (p t : ℕ)
      → (was_refused_once past p t ≡ true → was_refused_in_handler past p t ≡ true) → Row k plan past (of_kind k e)
      → was_refused_once (of_kind k e ∷ past) p t ≡ true → was_refused_in_handler (of_kind k e ∷ past) p t ≡ true
  refused_once_by past kind.Handle e p t ih h w = elim (cases_Bool ((e.place == p) && (e.by == t))) [
    | inl x ↦
        let same = both_same e.place p e.by t x in
        absurd (both_ways _ (subst₂ (λ a b. has_handled past a b ≡ false) same.0 same.1 h.fresh) (refused_handled past p t w))
    | inr x ↦ rw x (ih w)
  ]
  refused_once_by past kind.PutFault e p t ih h w = by_own ((e.place == p) && (e.by == t)) w
    where
      by_own : (b : Bool) → ((b && has_by kind.Handle past p t) || was_refused_once past p t) ≡ true
          → cond b (has_by kind.Handle past p t) (was_refused_in_handler past p t) ≡ true
      by_own true w =
          elim (or_cases (has_by kind.Handle past p t)
          (was_refused_once past p t) w) [ inl x ↦ x | inr x ↦ refused_handled past p t x ]
      by_own false w = ih w
  refused_once_by past _ e p t ih h w = ih w

  refused_once : (past : List Entry) → LegalPast plan past → (p t : ℕ) → was_refused_once past p t ≡ true
      → was_refused_in_handler past p t ≡ true
  refused_once [] h p t w = absurd (false≢true w)
  refused_once (e ∷ past) h p t w = refused_once_by past e.kind e p t (refused_once past h.0 p t) h.1 w

-- ---- what an entry spends

own_entry : (p t : ℕ) → ((p == p) && (t == t)) ≡ true
own_entry p t = and_from _ _ (eq-eqb p p refl) (eq-eqb t t refl)

one_if_left : (x l w : Bool) → x ≡ true → l ≡ false → w ≡ false → one_if (l || w) < one_if ((x || l) || w)
one_if_left x l w a b c = rw (a, b, c) (omega arith)

one_if_right : (x l w : Bool) → x ≡ true → l ≡ false → w ≡ false → one_if (l || w) < one_if (l || (x || w))
one_if_right x l w a b c = rw (a, b, c) (omega arith)

step_up : (b : Bool) (n : ℕ) → b ≡ true → n < one_if b + n
step_up b n h = rw h (omega arith)

module _ (plan : Plan) (playable : IsPlayable plan) (core : Holds Core plan) where
  -- a verdict is the first before the Resolve, or the first after it
  VerdictIsFirst : List Entry → ℕ → ℕ → Type 0
  VerdictIsFirst past p t =
      ((has kind.Resolve past p ≡ false) × (has_said_before past p t ≡ false))
      ⊎ ((has kind.Resolve past p ≡ true) × (has_said_after past p t ≡ false))

  first_in_calm : (past : List Entry) (p t : ℕ) → LegalPast plan past → is_calm plan past p ≡ true
      → has_given plan past p t ≡ false → VerdictIsFirst past p t
  unfolding VerdictIsFirst
  first_in_calm past p t legal calm given =
      let plain = (calm_open plan past p calm).1 in
      let unsaid : has_by kind.Verdict past p t ≡ false = rw plain at given in
      inl (
        false_from_ne_true _ (λ w.
            let some = stands_newest (is_in kind.Resolve p) past w in
            both_ways _ plain ((core past legal).raises.resolves p some.0 some.1).1),
        false_from_ne_true _ (λ w. both_ways _ unsaid (said_verdict past p t w)),
      )

  first_resolved : (past : List Entry) (p t x : ℕ) → LegalPast plan past → exception_resolved past p ≡ Some x
      → has_given_after past p t ≡ false → VerdictIsFirst past p t
  unfolding VerdictIsFirst
  first_resolved past p t x legal w given =
      inr (
        newest_stands (is_in kind.Resolve p) past x w,
        false_from_ne_true _ (λ s. both_ways _ given (said_given plan past legal p t s)),
      )

  first_of_handler : (past : List Entry) (p t : ℕ) → LegalPast plan past → has_handled past p t ≡ true
      → is_handling past p t ≡ true → VerdictIsFirst past p t
  first_of_handler past p t legal handled handling =
      let c : Core plan past = core past legal in
      let some = stands_newest (is_by kind.Handle p t) past handled in
      first_resolved past p t some.0 legal (c.raises.handles p t some.0 some.1).0 (c.says.handler p t handled ∙ rw handling refl)

  first_unhandled : (past : List Entry) (p t : ℕ) (e : Entry) → LegalPast plan past → is_hot plan past p ≡ true
      → has_given plan past p t ≡ false
      → MatchOption (unhandled_verdict plan p t (exception_resolved past p)) ⊥ (SaysVerdict e) → VerdictIsFirst past p t
  first_unhandled past p t e legal hot given h = by_resolved (exception_resolved past p) refl h
    where
      by_resolved : (o : Option ℕ) → exception_resolved past p ≡ o
          → MatchOption (unhandled_verdict plan p t o) ⊥ (SaysVerdict e) → VerdictIsFirst past p t
      by_resolved None w h = elim h [ ]
      by_resolved (Some x) w h = first_resolved past p t x legal w (rw (hot_open plan past p hot).1 at given)

  first_in_hot : (past : List Entry) (e : Entry) → LegalPast plan past → is_hot plan past e.place ≡ true
      → MatchOption (recovery_verdict plan past e.place e.by) ⊥ (SaysVerdict e) → VerdictIsFirst past e.place e.by
  first_in_hot past e legal hot s =
      elim (cases_Bool (has_handled past e.place e.by)) [
        | inl handled ↦ elim (cases_Bool (is_handling past e.place e.by)) [
          | inl d ↦ first_of_handler past e.place e.by legal handled d
          | inr d ↦ absurd (rw (handled, d) at s)
        ]
        | inr bare ↦ elim (cases_Bool (has_given plan past e.place e.by)) [
          | inl g ↦ absurd (rw (bare, g) at s)
          | inr g ↦ first_unhandled past e.place e.by e legal hot g (rw (bare, g) at s)
        ]
      ]

  verdict_is_first : (past : List Entry) (e : Entry) → LegalPast plan past → MayVerdict plan past e → VerdictIsFirst past e.place e.by
  verdict_is_first past e legal h =
      elim (cases_Bool (is_calm plan past e.place)) [
        | inl calm ↦ elim (cases_Bool (has_given plan past e.place e.by)) [
          | inl g ↦ absurd (rw (calm, g) at h.due)
          | inr g ↦ first_in_calm past e.place e.by legal calm g
        ]
        | inr cold ↦ elim (cases_Bool (is_hot plan past e.place)) [
          | inl hot ↦ first_in_hot past e legal hot (rw (cold, hot) at h.due)
          | inr hot ↦ absurd (rw (cold, hot) at h.due)
        ]
      ]

  -- a put that is refused in a handler is the first one there, and otherwise its maker isn't halted yet
  fault_in_handler : (past : List Entry) (p t : ℕ) → LegalPast plan past → is_able plan past p t ≡ true
      → has_handled past p t ≡ true → was_refused_once past p t ≡ false
  fault_in_handler past p t legal can handled =
      elim (or_cases (is_calm plan past p && not (has_given plan past p t)) (is_hot plan past p && is_in_handler past p t) can) [
        | inl x ↦
            let plain = (calm_open plan past p (and_parts (is_calm plan past p) _ x).0).1 in
            absurd (both_ways _ (plain_calm plan past p t (core past legal).raises plain).1 handled)
        | inr x ↦
            let taken =
            not-true _ (and_parts (is_handling past p t) (not (was_refused_in_handler past p t))
            (and_parts (is_hot plan past p) (is_in_handler past p t) x).1).1 in
            false_from_ne_true _ (λ w. both_ways _ taken (refused_once plan past legal p t w))
      ]

  fault_unhandled : (past : List Entry) (p t : ℕ) → LegalPast plan past → is_able plan past p t ≡ true
      → has_handled past p t ≡ false → is_halted plan past p t ≡ false
  fault_unhandled past p t legal can handled =
      false_from_ne_true _ (λ w. unhandled_fault plan past t p ((core past legal).raises.halts p t w) handled can)

  -- ---- by kind

  stays_there : (past : List Entry) (p t : ℕ) → LegalPast plan past → inside plan past t ≡ Some p
      → (has_by kind.Leave past p t ≡ false) × (has_by kind.Withdraw past p t ≡ false)
  stays_there past p t legal here = gone plan playable.tree past legal p t (inside_stays plan playable.tree past legal p t here)

  -- the kinds of which a role has so many
  of_role : Kind → Bool
  of_role kind.Start = false
  of_role kind.Resolve = false
  of_role kind.Undo = false
  of_role kind.Restore = false
  of_role kind.End = false
  of_role _ = true

  role_more_by : (past : List Entry) (k : Kind) (e : Entry) → LegalPast plan past → of_role k ≡ true
      → Row k plan past (of_kind k e)
      → role_cost plan past e.place e.by < role_cost plan (of_kind k e ∷ past) e.place e.by
  unfolding role_cost VerdictIsFirst of_role
  role_more_by past kind.Arrive e legal r h =
      omega (
        arith,
        one_if_up ((e.place == e.place) && (e.by == e.by)) (has_by kind.Arrive past e.place e.by)
            (own_entry e.place e.by) (fresh plan past (of_kind kind.Arrive e) h),
      )
  role_more_by past kind.Withdraw e legal r h =
      let stays = stays_there past e.place e.by legal h.here in
      omega (
        arith,
        one_if_right ((e.place == e.place) && (e.by == e.by)) (has_by kind.Leave past e.place e.by)
            (has_by kind.Withdraw past e.place e.by) (own_entry e.place e.by) stays.0 stays.1,
      )
  role_more_by past kind.Read e legal r h =
      omega (
        arith,
        step_up ((e.place == e.place) && (e.by == e.by)) (walked plan past e.place e.by)
            (own_entry e.place e.by),
      )
  role_more_by past kind.Work e legal r h =
      omega (
        arith,
        step_up ((e.place == e.place) && (e.by == e.by)) (walked plan past e.place e.by)
            (own_entry e.place e.by),
      )
  role_more_by past kind.Write e legal r h =
      omega (
        arith,
        step_up ((e.place == e.place) && (e.by == e.by)) (walked plan past e.place e.by)
            (own_entry e.place e.by),
      )
  role_more_by past kind.Check e legal r h =
      omega (
        arith,
        step_up ((e.place == e.place) && (e.by == e.by)) (walked plan past e.place e.by)
            (own_entry e.place e.by),
      )
  role_more_by past kind.PutFault e legal r h = elim (cases_Bool (has_handled past e.place e.by)) [
    | inl handled ↦
        omega (
          arith,
          one_if_or (((e.place == e.place) && not (has_handled past e.place e.by)) && (e.by == e.by))
              (is_halted plan past e.place e.by),
          one_if_up (((e.place == e.place) && (e.by == e.by)) && has_handled past e.place e.by)
              (was_refused_once past e.place e.by) (and_from _ _ (own_entry e.place e.by) handled)
              (fault_in_handler past e.place e.by legal h.can handled),
        )
    | inr bare ↦
        let own : ((e.place == e.place) && not (has_handled past e.place e.by)) && (e.by == e.by) ≡ true =
        rw (bare, eq-eqb e.place e.place refl, eq-eqb e.by e.by refl) refl in
        omega (
          arith,
          one_if_up (((e.place == e.place) && not (has_handled past e.place e.by)) && (e.by == e.by))
              (is_halted plan past e.place e.by) own (fault_unhandled past e.place e.by legal h.can bare),
          one_if_or (((e.place == e.place) && (e.by == e.by)) && has_handled past e.place e.by)
              (was_refused_once past e.place e.by),
        )
  ]
  role_more_by past kind.Raise e legal r h =
      omega (
        arith,
        one_if_up ((e.place == e.place) && (e.by == e.by)) (is_halted plan past e.place e.by)
            (own_entry e.place e.by) h.running,
      )
  role_more_by past kind.Inform e legal r h =
      omega (
        arith,
        one_if_up ((e.place == e.place) && (e.by == e.by)) (is_halted plan past e.place e.by)
            (own_entry e.place e.by) h.running,
      )
  role_more_by past kind.Handle e legal r h =
      omega (
        arith,
        one_if_up ((e.place == e.place) && (e.by == e.by)) (has_handled past e.place e.by)
            (own_entry e.place e.by) h.fresh,
      )
  role_more_by past kind.Verdict e legal r h = elim (verdict_is_first past (of_kind kind.Verdict e) legal h) [
    | inl x ↦
        omega (
          arith,
          one_if_up (((e.place == e.place) && (e.by == e.by)) && not (has kind.Resolve past e.place))
              (has_said_before past e.place e.by) (and_from _ _ (own_entry e.place e.by) (not_from_false _ x.0)) x.1,
          one_if_or (((e.place == e.place) && (e.by == e.by)) && has kind.Resolve past e.place)
              (has_said_after past e.place e.by),
        )
    | inr x ↦
        omega (
          arith,
          one_if_up (((e.place == e.place) && (e.by == e.by)) && has kind.Resolve past e.place)
              (has_said_after past e.place e.by) (and_from _ _ (own_entry e.place e.by) x.0) x.1,
          one_if_or (((e.place == e.place) && (e.by == e.by)) && not (has kind.Resolve past e.place))
              (has_said_before past e.place e.by),
        )
  ]
  role_more_by past kind.Abort e legal r h =
      omega (
        arith,
        one_if_up ((e.place == e.place) && (e.by == e.by)) (has_aborted past e.place e.by)
            (own_entry e.place e.by) h.fresh,
      )
  role_more_by past kind.Leave e legal r h =
      let stays = stays_there past e.place e.by legal h.here in
      omega (
        arith,
        one_if_left ((e.place == e.place) && (e.by == e.by)) (has_by kind.Leave past e.place e.by)
            (has_by kind.Withdraw past e.place e.by) (own_entry e.place e.by) stays.0 stays.1,
        one_if_or (carries_into plan e.place (of_kind kind.Leave e) && (e.by == e.by))
            (is_halted plan past e.place e.by),
      )
  role_more_by past _ e legal r h = absurd (false≢true r)

  cost_more_by : (past : List Entry) (k : Kind) (e : Entry) → LegalPast plan past → Row k plan past (of_kind k e)
      → place_cost plan past e.place < place_cost plan (of_kind k e ∷ past) e.place
  unfolding stages of_role
  cost_more_by past kind.Start e legal h =
      stage_spent plan past (of_kind kind.Start e) e.place
      (omega (
        arith,
        one_if_up (e.place == e.place) (has_started past e.place)
            (eq-eqb e.place e.place refl) h.waits,
      ))
  cost_more_by past kind.Resolve e legal h =
      let new : has kind.Resolve past e.place ≡ false =
      false_from_ne_true _ (λ w. let some = stands_newest
      (is_in kind.Resolve e.place) past w in let none : exception_resolved past e.place ≡ None = h.fresh in cc) in
      stage_spent plan past (of_kind kind.Resolve e) e.place
      (omega (
        arith,
        one_if_up (e.place == e.place) (has kind.Resolve past e.place)
            (eq-eqb e.place e.place refl) new,
      ))
  cost_more_by past kind.Undo e legal h =
      stage_spent plan past (of_kind kind.Undo e) e.place
      (omega (
        arith,
        one_if_up (e.place == e.place) (is_undoing past e.place) (eq-eqb e.place e.place refl)
            (going_parts past e.place h.when).kept,
      ))
  cost_more_by past kind.End e legal h =
      stage_spent plan past (of_kind kind.End e) e.place
      (omega (
        arith,
        one_if_up (e.place == e.place) (has_ended past e.place) (eq-eqb e.place e.place refl)
            (live_parts e.place past (end_live plan playable.tree past (of_kind kind.End e) legal h)).1,
      ))
  cost_more_by past kind.Restore e legal h =
      let next = first_not_fails (is_tried past e.place) (objects_of plan e.place) e.arg h.least in
      object_spent plan past (of_kind kind.Restore e) e.place e.arg next.1
      (one_if_up ((e.place == e.place) && (e.arg == e.arg)) (is_tried past e.place e.arg)
      (own_entry e.place e.arg) next.0)
  cost_more_by past k e legal h =
      role_spent plan past (of_kind k e) e.place e.by (maker_role plan playable.tree past (of_kind k e) legal h)
      (role_more_by past k e legal refl h)

  -- ---- the law

  spent : (past : List Entry) → LegalPast plan past → length past ≤ total (place_cost plan past) (length plan.places)
  spent [] h = omega arith
  spent (e ∷ past) h =
      omega (
        arith,
        spent past h.0,
        total_more (place_cost plan past) (place_cost plan (e ∷ past)) (length plan.places) e.place
            (place_known plan e.place e.by (maker_role plan playable.tree past e h.0 h.1)) (place_up plan past e)
            (cost_more_by past e.kind e h.0 h.1),
      )

  is_within : (past : List Entry) → LegalPast plan past → length past ≤ bound plan
  is_within past h =
      omega (
        arith,
        spent past h,
        total_up (place_cost plan past) (place_bound plan) (length plan.places)
            (λ p. place_within plan past p (walked_within plan playable core past h p)),
        total_rows (place_bound plan) (row_bound plan.actions) plan.places (place_row plan),
      )

-- length law
pub bounded : (plan : Plan) → IsPlayable plan → Holds Core plan → Holds IsBounded plan
bounded plan playable core past legal = is_within plan playable core past legal
