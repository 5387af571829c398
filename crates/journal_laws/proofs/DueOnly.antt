-- What may follow is what is due: the computed entry is the only one of its maker.
use Rattle.std.proofs.Common.{◌≡◌, ℕ, ℤ, pos, ◌+ℤ◌, ◌==◌, Bool, true, false, not, cond, ◌&&◌, ◌⊎◌, List, [], ◌∷◌, Some, None, Option, refl, sym, ap, ◌∙◌, subst, inl, inr, MatchBool, MatchOption, is_none}
use Rattle.std.proofs.lemmas.Bool.{and_parts, or_cases, eq-eqb, false≢true, not-true, cases_Bool, cond-true, cond-false, or_from, false_from_ne_true, both_ways}
use Rattle.caa_base.specs.Written.Mixing.{mix}
use Rattle.caa_base.specs.declared.written.entry.Entry.{Entry}
use Rattle.caa_base.specs.declared.written.entry.Kind.{Kind}
use Rattle.caa_base.specs.declared.written.entry.Kind.TheVariants as kind
use Rattle.caa_base.specs.declared.written.entry.Verdict.{Verdict}
use Rattle.caa_base.specs.declared.written.entry.Verdict.TheVariants as verdict
use Rattle.place_plan.specs.declared.drafts.draft_rows.Step.{Step}
use Rattle.place_plan.specs.declared.drafts.draft_rows.Step.TheVariants as step
use Rattle.place_plan.specs.Plans.PlanValue.{Plan}
use Rattle.caa_base.specs.Written.Lists.{member}
use Rattle.place_plan.specs.Plans.Places.{roles_of, internal_of, interface_of, handler_of, abort_row}
use Rattle.place_plan.specs.RulesOfJournals.Whereabouts.{inside, has_started, has_ended, is_undoing}
use Rattle.place_plan.specs.RulesOfJournals.Raising.{has_handled, exceptions_raised, is_raised, is_calm, is_hot, is_halted, exception_resolved}
use Rattle.place_plan.specs.RulesOfJournals.Objects.{holder_of, value_of}
use Rattle.place_plan.specs.RulesOfJournals.Roles.{register, program_of, next_step, next_raise, has_given, is_handling, is_in_handler, is_able, signals, has_aborted, all_have_aborted, next_play}
use Rattle.place_plan.specs.RulesOfJournals.Rules.{Row, MayArrive, MayFollow, Names, SaysVerdict, IsPlain, put_of, is_check, clamped, place_entered, arrival, verdict_due, unhandled_verdict, breaks_off, abort_of, undone_mark, exception_carried, AskForUndo, EndsUndone, EndsAgreed, SignalsLeast}
use Rattle.place_plan.specs.RulesOfJournals.Journals.{LegalPast}
use Rattle.journal_laws.specs.Laws.{Holds, as_taken}
use Rattle.journal_laws.specs.Due.{says, plainly, naming, verdict_entry, due_of, due_held, due_step, due_forward, due_body, due_handler, due_end}
use Rattle.journal_laws.proofs.Playable.{IsPlayable}
use Rattle.journal_laws.proofs.Core.{Core}
use Rattle.caa_base.proofs.ListLemmas.{all_at, chosen}
use Rattle.place_plan.proofs.OnJournals.EntryKinds.{of_kind}
use Rattle.journal_laws.proofs.Busy.{abort_doomed}
use Rattle.journal_laws.proofs.Holding.{ended_started, undoing_started}
use Rattle.journal_laws.proofs.Phases.{IsOpen, going_parts, open_parts, open_from, calm_open, hot_open, open_either, calm_from, hot_from, not_hot, not_calm}
use Rattle.journal_laws.proofs.Options.{some_apart, some_same, none_is}
use Rattle.journal_laws.proofs.Raised.{role_inside, arrives_calm}
use Rattle.journal_laws.proofs.Frozen.{verdict_open}
use Rattle.journal_laws.proofs.LeastOf.{least_found}
use Rattle.journal_laws.proofs.Recovering.{in_handler, handling_given, handled_resolved, able_unsaid, due_in_calm, due_in_hot, due_in_resolved, due_in_agreed}

-- ---- entries by their fields

made : (k : Kind) (e : Entry) (mark arg : ℕ) (v : ℤ) → e.mark ≡ mark → e.arg ≡ arg → e.value ≡ v
    → Some (record { kind = k; place = e.place; by = e.by; arg = arg; mark = mark; value = v }) ≡ Some (of_kind k e)
made k e mark arg v m a w = sym (λ i. Some (record { kind = k; place = e.place; by = e.by; arg = a i; mark = m i; value = w i }))

made_plain : (k : Kind) (e : Entry) → IsPlain (of_kind k e) → Some (plainly k e.place e.by) ≡ Some (of_kind k e)
made_plain k e h = made k e 0 0 (pos 0) h.mark h.arg h.value

made_naming : (k : Kind) (e : Entry) (o : Option ℕ) → Names (of_kind k e) o → e.value ≡ pos 0
    → Some (naming k e.place e.by o) ≡ Some (of_kind k e)
made_naming k e None h v = made k e 0 0 (pos 0) h.0 h.1 v
made_naming k e (Some x) h v = made k e 1 x (pos 0) h.0 h.1 v

made_verdict : (e : Entry) (v : Verdict) → SaysVerdict (of_kind kind.Verdict e) v → e.value ≡ pos 0
    → Some (verdict_entry e.place e.by v) ≡ Some (of_kind kind.Verdict e)
made_verdict e verdict.Done h w = made kind.Verdict e 0 0 (pos 0) h.0 h.1 w
made_verdict e (verdict.Signal x) h w = made kind.Verdict e 1 x (pos 0) h.0 h.1 w
made_verdict e verdict.Undo h w = made kind.Verdict e 2 0 (pos 0) h.0 h.1 w

-- ---- what a verdict that is due says

said_final : (b d : Bool) (v : Verdict) (e : Entry) → MatchOption (cond b None (cond d (Some v) None)) ⊥ (SaysVerdict e)
    → (b ≡ false) × (d ≡ true) × SaysVerdict e v
said_final true d v e h = elim h [ ]
said_final false false v e h = elim h [ ]
said_final false true v e h = (refl, refl, h)

said_handler : (b c d : Bool) (v : Verdict) (e : Entry)
    → MatchOption (cond b (cond c (Some verdict.Undo) (cond d (Some v) None)) None) ⊥ (SaysVerdict e)
    → (b ≡ true) × (((c ≡ true) × SaysVerdict e verdict.Undo) ⊎ ((c ≡ false) × (d ≡ true) × SaysVerdict e v))
said_handler false c d v e h = elim h [ ]
said_handler true true d v e h = (refl, inl (refl, h))
said_handler true false false v e h = elim h [ ]
said_handler true false true v e h = (refl, inr (refl, refl, h))

said_unhandled : (plan : Plan) (p t : ℕ) (e : Entry) (b : Bool) (o : Option ℕ)
    → MatchOption (cond b None (unhandled_verdict plan p t o)) ⊥ (SaysVerdict e)
    → (b ≡ false) × ((x : ℕ) × (o ≡ Some x) × (is_none (handler_of plan p t x) ≡ true) × SaysVerdict e verdict.Undo)
said_unhandled plan p t e true o h = elim h [ ]
said_unhandled plan p t e false None h = elim h [ ]
said_unhandled plan p t e false (Some x) h = by_handler (is_none (handler_of plan p t x)) refl h
  where
    by_handler : (c : Bool) → is_none (handler_of plan p t x) ≡ c
        → MatchOption (cond c (Some verdict.Undo) None) ⊥ (SaysVerdict e)
        → (false ≡ false) × ((y : ℕ) × (Some x ≡ Some y) × (is_none (handler_of plan p t y) ≡ true)
        × SaysVerdict e verdict.Undo)
    by_handler true w h = (refl, (x, refl, w, h))
    by_handler false w h = elim h [ ]

module _ (plan : Plan) (playable : IsPlayable plan) (core : Holds Core plan) (past : List Entry) (legal : LegalPast plan past) where
  role : (t p : ℕ) → inside plan past t ≡ Some p → member t (roles_of plan p) ≡ true
  role t p w = role_inside plan playable.tree past legal t p w

  not_ended : (p : ℕ) → has_started past p ≡ false → has_ended past p ≡ false
  not_ended p h = false_from_ne_true _ (λ f. both_ways _ h (ended_started plan playable.tree past legal p f))

  -- ---- arrivals

  entered_due : (t q p : ℕ) → inside plan past t ≡ Some q → is_calm plan past q ≡ true → has_given plan past q t ≡ false
      → (s : Option Step) → next_step plan past q t ≡ s → place_entered plan past q t s ≡ Some p
      → due_of plan past t ≡ Some (plainly kind.Arrive p t)
  entered_due t q p w c g (Some (step.Enter k)) n h =
      let calm = calm_open plan past q c in
      due_in_calm plan playable core past legal t q w calm.0 calm.1 ∙ rw (g, n, n, h) refl
  entered_due t q p w c g None n h = absurd (some_apart h)
  entered_due t q p w c g (Some (step.Read a)) n h = absurd (some_apart h)
  entered_due t q p w c g (Some (step.Put a b)) n h = absurd (some_apart h)
  entered_due t q p w c g (Some (step.Add a b)) n h = absurd (some_apart h)
  entered_due t q p w c g (Some (step.Work a)) n h = absurd (some_apart h)
  entered_due t q p w c g (Some (step.Check a b x)) n h = absurd (some_apart h)
  entered_due t q p w c g (Some (step.Raise a)) n h = absurd (some_apart h)

  calm_unsaid : (t q : ℕ) → is_calm plan past q ≡ true → is_able plan past q t ≡ true → has_given plan past q t ≡ false
  calm_unsaid t q c a =
      elim (or_cases (is_calm plan past q && not (has_given plan past q t))
      (is_hot plan past q && is_in_handler past q t) a) [
        | inl w ↦ not-true _ (and_parts (is_calm plan past q) _ w).1
        | inr w ↦ absurd (both_ways _ (not_hot plan past q (calm_open plan past q c).1) (and_parts (is_hot plan past q) _ w).0)
      ]

  arrive_due : (e : Entry) → MayArrive plan past (of_kind kind.Arrive e) → (o : Option ℕ) → inside plan past e.by ≡ o
      → due_of plan past e.by ≡ Some (plainly kind.Arrive e.place e.by)
  arrive_due e h None w =
      let next : next_play plan past e.by ≡ Some e.place = subst (λ o. arrival plan past e.by o ≡ Some e.place) w h.leads in
      rw (w, next) refl
  arrive_due e h (Some q) w =
      let leads : arrival plan past e.by (Some q) ≡ Some e.place = subst (λ o. arrival plan past e.by o ≡ Some e.place) w h.leads in
      let fit = and_parts (is_calm plan past q) _ (arrives_calm plan playable.tree past (of_kind kind.Arrive e) q h w) in
      let entered : place_entered plan past q e.by (next_step plan past q e.by) ≡ Some e.place =
      (elim (chosen (is_calm plan past q && is_able plan past q e.by) _ _ _ leads) [
        | inl x ↦ x.1
        | inr x ↦ absurd
            (some_apart x.1)
      ]) in
      entered_due e.by q e.place w fit.0 (calm_unsaid e.by q fit.0 fit.1) (next_step plan past q e.by) refl entered

  -- ---- steps

  -- who is able and whose next step doesn't raise makes it
  step_due : (t p : ℕ) (s : Option Step) → inside plan past t ≡ Some p → is_able plan past p t ≡ true
      → next_step plan past p t ≡ s → next_raise plan past p t ≡ None
      → due_forward plan past p t s ≡ due_step plan past p t s → due_of plan past t ≡ due_step plan past p t s
  step_due t p s w a n nr f =
      elim (or_cases (is_calm plan past p && not (has_given plan past p t))
      (is_hot plan past p && is_in_handler past p t) a) [
        | inl x ↦
            let parts = and_parts (is_calm plan past p) _ x in
            let calm = calm_open plan past p parts.0 in
            due_in_calm plan playable core past legal t p w calm.0 calm.1
            ∙ cond-false (has_given plan past p t) _ _ (not-true _ parts.1) ∙ ap (due_body plan past p t) nr
            ∙ ap (due_forward plan past p t) n ∙ f
        | inr x ↦
            let parts = and_parts (is_hot plan past p) _ x in
            let hot = hot_open plan past p parts.0 in
            let h = in_handler plan playable core past legal p t (role t p w) hot.1 parts.1 in
            let unbroken : breaks_off plan past p t ≡ false = or_from _ _ h.taken (ap (λ o. not (is_none o)) nr) in
            due_in_resolved plan playable core past legal t p h.exception w hot.0 hot.1 h.resolution
            ∙ cond-false (has_given plan past p t) _ _ h.unsaid ∙ cond-true (has_handled past p t) _ _ h.handled
            ∙ cond-false (breaks_off plan past p t) _ _ unbroken ∙ ap (due_step plan past p t) n
      ]

  held_due : (p o : ℕ) (e : Entry) → holder_of plan past o ≡ Some p → due_held plan past p o e ≡ Some e
  held_due p o e h = rw h (cond-true (p == p) (Some e) None (eq-eqb p p refl))

  put_due : (t p a : ℕ) (v : ℤ) (s : Option Step) → inside plan past t ≡ Some p → is_able plan past p t ≡ true
      → next_step plan past p t ≡ s → put_of s (register plan past p t) ≡ Some (a, v) → holder_of plan past a ≡ Some p
      → due_of plan past t ≡ Some (says kind.Write p t a v)
  put_due t p a v (Some (step.Put o x)) w able n puts h =
      let same : ◌≡◌ {A = ℕ × ℤ} (o, x) (a, v) = some_same puts in
      let holds : holder_of plan past o ≡ Some p = subst (λ b. holder_of plan past b ≡ Some p) (sym (ap (λ z. z.0) same)) h in
      step_due t p (Some (step.Put o x)) w able n (rw n refl) refl ∙ held_due p o _ holds
      ∙ (λ i. Some (says kind.Write p t (same i).0 (same i).1))
  put_due t p a v (Some (step.Add o x)) w able n puts h =
      let same : ◌≡◌ {A = ℕ × ℤ} (o, clamped (register plan past p t +ℤ x)) (a, v) = some_same puts in
      let holds : holder_of plan past o ≡ Some p = subst (λ b. holder_of plan past b ≡ Some p) (sym (ap (λ z. z.0) same)) h in
      step_due t p (Some (step.Add o x)) w able n (rw n refl) refl ∙ held_due p o _ holds
      ∙ (λ i. Some (says kind.Write p t (same i).0 (same i).1))
  put_due t p a v None w able n puts h = absurd (some_apart puts)
  put_due t p a v (Some (step.Read o)) w able n puts h = absurd (some_apart puts)
  put_due t p a v (Some (step.Work o)) w able n puts h = absurd (some_apart puts)
  put_due t p a v (Some (step.Check o b x)) w able n puts h = absurd (some_apart puts)
  put_due t p a v (Some (step.Raise o)) w able n puts h = absurd (some_apart puts)
  put_due t p a v (Some (step.Enter o)) w able n puts h = absurd (some_apart puts)

  check_due : (t p : ℕ) (s : Option Step) → inside plan past t ≡ Some p → is_able plan past p t ≡ true
      → next_step plan past p t ≡ s → is_check s ≡ true → next_raise plan past p t ≡ None
      → due_of plan past t ≡ Some (plainly kind.Check p t)
  check_due t p (Some (step.Check a b x)) w able n c nr = step_due t p (Some (step.Check a b x)) w able n nr refl
  check_due t p None w able n c nr = absurd (false≢true c)
  check_due t p (Some (step.Read o)) w able n c nr = absurd (false≢true c)
  check_due t p (Some (step.Put o x)) w able n c nr = absurd (false≢true c)
  check_due t p (Some (step.Add o x)) w able n c nr = absurd (false≢true c)
  check_due t p (Some (step.Work o)) w able n c nr = absurd (false≢true c)
  check_due t p (Some (step.Raise o)) w able n c nr = absurd (false≢true c)
  check_due t p (Some (step.Enter o)) w able n c nr = absurd (false≢true c)

  -- ---- verdicts

  -- the verdict of a body, in a calm place
  body_verdict : (t p : ℕ) (e : Entry) → inside plan past t ≡ Some p → IsOpen plan past p
      → is_raised plan past p ≡ false → MatchOption (verdict_due plan past p t) ⊥ (SaysVerdict e)
      → (v : Verdict) × SaysVerdict e v × (due_of plan past t ≡ Some (verdict_entry p t v))
  body_verdict t p e w o r due =
      let v = (program_of plan past p t).verdict in
      let said = said_final (has_given plan past p t) (is_none (next_step plan past p t)) v e (rw (calm_from plan past p o r) at due) in
      let n : next_step plan past p t ≡ None = none_is _ said.1 in
      let nr : next_raise plan past p t ≡ None = rw n refl in (
        v,
        said.2,
        due_in_calm plan playable core past legal t p w o r ∙ cond-false (has_given plan past p t) _ _ said.0
            ∙ ap (due_body plan past p t) nr ∙ ap (due_forward plan past p t) n,
      )

  -- the verdict of who has a handler, and of who has none
  handler_due : (t p : ℕ) → inside plan past t ≡ Some p → IsOpen plan past p → is_raised plan past p ≡ true
      → has_handled past p t ≡ true → is_handling past p t ≡ true → due_of plan past t ≡ due_handler plan past p t
  handler_due t p w o r f g =
      let some = handled_resolved plan playable core past legal p t f in
      let unsaid : has_given plan past p t ≡ false = handling_given plan playable core past legal p t r f ∙ rw g refl in
      due_in_resolved plan playable core past legal t p some.0 w o r some.1
      ∙ cond-false (has_given plan past p t) _ _ unsaid ∙ cond-true (has_handled past p t) _ _ f

  handler_verdict_due : (t p : ℕ) (e : Entry) → inside plan past t ≡ Some p → IsOpen plan past p
      → is_raised plan past p ≡ true → has_handled past p t ≡ true
      → MatchOption (verdict_due plan past p t) ⊥ (SaysVerdict e)
      → (v : Verdict) × SaysVerdict e v × (due_of plan past t ≡ Some (verdict_entry p t v))
  handler_verdict_due t p e w o r f due =
      let v = (program_of plan past p t).verdict in
      let said =
      said_handler (is_handling past p t) (breaks_off plan past p t) (is_none (next_step plan past p t)) v e
      (rw (not_calm plan past p r, hot_from plan past p o r, f) at due) in
      let way = handler_due t p w o r f said.0 in
      elim said.1 [
        | inl x ↦ (verdict.Undo, x.1, way ∙ cond-true (breaks_off plan past p t) _ _ x.0)
        | inr x ↦ (v, x.2, way ∙ cond-false (breaks_off plan past p t) _ _ x.0 ∙ ap (due_step plan past p t) (none_is _ x.1))
      ]

  unhandled_due : (t p : ℕ) (e : Entry) → inside plan past t ≡ Some p → IsOpen plan past p
      → is_raised plan past p ≡ true → has_handled past p t ≡ false
      → MatchOption (verdict_due plan past p t) ⊥ (SaysVerdict e)
      → (v : Verdict) × SaysVerdict e v × (due_of plan past t ≡ Some (verdict_entry p t v))
  unhandled_due t p e w o r f due =
      let said =
      said_unhandled plan p t e (has_given plan past p t) (exception_resolved past p)
      (rw (not_calm plan past p r, hot_from plan past p o r, f) at due) in
      let n = said.1 in (
        verdict.Undo,
        n.3,
        due_in_resolved plan playable core past legal t p n.0 w o r n.1
            ∙ cond-false (has_given plan past p t) _ _ said.0 ∙ cond-false (has_handled past p t) _ _ f
            ∙ cond-true (is_none (handler_of plan p t n.0)) _ _ n.2,
      )

  said_due : (t p : ℕ) (e : Entry) → inside plan past t ≡ Some p
      → MatchOption (verdict_due plan past p t) ⊥ (SaysVerdict e)
      → (v : Verdict) × SaysVerdict e v × (due_of plan past t ≡ Some (verdict_entry p t v))
  said_due t p e w due =
      let o = verdict_open plan past p t e due in
      elim (cases_Bool (is_raised plan past p)) [
        | inr r ↦ body_verdict t p e w o r due
        | inl r ↦
            elim (cases_Bool (has_handled past p t)) [
              | inl f ↦ handler_verdict_due t p e w o r f due
              | inr f ↦
                  unhandled_due t p e w o r f due
            ]
      ]

  -- ---- agreements

  -- the End after verdicts with and without signals
  end_due : (e : Entry) (xs : List ℕ) → SignalsLeast plan (of_kind kind.End e) xs → e.value ≡ pos 0
      → due_end plan e.place e.by xs ≡ Some (of_kind kind.End e)
  end_due e [] h v = made kind.End e 0 0 (pos 0) h.0 h.1 v
  end_due e (x ∷ xs) h v =
      rw (least_found (interface_of plan e.place) (x ∷ xs) e.arg (playable.sound e.place).2 h.1)
      (made kind.End e 1 e.arg (pos 0) h.0 refl v)

  ended_due : (e : Entry) → inside plan past e.by ≡ Some e.place → EndsAgreed plan past (of_kind kind.End e)
      → e.value ≡ pos 0 → due_of plan past e.by ≡ Some (of_kind kind.End e)
  ended_due e w h v =
      let o = open_parts plan past e.place (open_from plan past e.place h.goes h.spared) in
      due_in_agreed plan playable core past legal e.by e.place w o h.agreed
      ∙ rw (h.agreed, h.kept) (end_due e (signals past e.place (roles_of plan e.place)) h.outcome v)

  undone_due : (e : Entry) → inside plan past e.by ≡ Some e.place → is_undoing past e.place ≡ true
      → EndsUndone plan past (of_kind kind.End e) → e.value ≡ pos 0 → due_of plan past e.by ≡ Some (of_kind kind.End e)
  undone_due e w u h v =
      rw (w, h.lasts, undoing_started plan playable.tree past legal e.place u, u, h.all_tried)
      (made kind.End e (undone_mark past e.place) 0 (pos 0) h.mark h.arg v)

  -- ---- all kinds

  only_by : (k : Kind) (e : Entry) → Row k plan past (of_kind k e) → due_of plan past e.by ≡ Some (as_taken k (of_kind k e))
  only_by kind.Arrive e h = arrive_due e h (inside plan past e.by) refl ∙ made_plain kind.Arrive e h.plain
  only_by kind.Withdraw e h = rw (h.here, not_ended e.place h.waits, h.waits, h.doom) (made_plain kind.Withdraw e h.plain)
  only_by kind.Start e h = rw (h.here, not_ended e.place h.waits, h.waits, h.spared, h.together, h.ready) (made_plain kind.Start e h.plain)
  only_by kind.Read e h =
      step_due e.by e.place (Some (step.Read e.arg)) h.here h.can h.reads (rw h.reads refl) refl
      ∙ held_due e.place e.arg _ h.holds ∙ made kind.Read e 0 e.arg (value_of plan past e.arg) h.mark refl h.value
  only_by kind.Work e h =
      step_due e.by e.place (Some (step.Work e.arg)) h.here h.can h.works (rw h.works refl) refl
      ∙ made kind.Work e 0 e.arg (mix (register plan past e.place e.by) e.arg) h.mark refl h.value
  only_by kind.Write e h =
      put_due e.by e.place e.arg e.value (next_step plan past e.place e.by) h.here h.can refl h.puts h.holds
      ∙ made kind.Write e 0 e.arg e.value h.mark refl refl
  only_by kind.PutFault e h =
      put_due e.by e.place e.arg e.value (next_step plan past e.place e.by) h.here h.can refl h.puts h.holds
      ∙ made kind.Write e 0 e.arg e.value h.mark refl refl
  only_by kind.Check e h =
      check_due e.by e.place (next_step plan past e.place e.by) h.here h.can refl h.checks h.passes
      ∙ made_plain kind.Check e h.plain
  only_by kind.Raise e h =
      let o = open_either plan past e.place h.when in
      elim (cases_Bool (is_raised plan past e.place)) [
        | inl r ↦
            due_in_hot plan playable core past legal e.by e.place h.here o r
            ∙ rw (h.running, h.raises) (made kind.Raise e 0 e.arg (pos 0) h.mark refl h.value)
        | inr r ↦
            due_in_calm plan playable core past legal e.by e.place h.here o r
            ∙ cond-false (has_given plan past e.place e.by) _ _ h.unsaid
            ∙ rw h.raises (made kind.Raise e 0 e.arg (pos 0) h.mark refl h.value)
      ]
  only_by kind.Inform e h =
      let hot = hot_open plan past e.place h.when in
      due_in_hot plan playable core past legal e.by e.place h.here hot.0 hot.1 ∙ rw (h.running, h.silent) (made_plain kind.Inform e h.plain)
  only_by kind.Resolve e h =
      let hot = hot_open plan past e.place h.when in
      let halted : is_halted plan past e.place e.by ≡ true =
      all_at (is_halted plan past e.place) (roles_of plan e.place) e.by h.together (role e.by e.place h.here) in
      let least = least_found (internal_of plan e.place) (exceptions_raised plan past e.place) e.arg (playable.sound e.place).0 h.least in
      due_in_hot plan playable core past legal e.by e.place h.here hot.0 hot.1
      ∙ rw (halted, h.fresh, h.together, least) (made kind.Resolve e 0 e.arg (pos 0) h.mark refl h.value)
  only_by kind.Handle e h =
      let hot = hot_open plan past e.place h.when in
      let unsaid : has_given plan past e.place e.by ≡ false =
      false_from_ne_true _ (λ g. both_ways _ h.able_to
      (able_unsaid plan playable core past legal e.place e.by e.arg hot.1 h.fresh h.resolution g)) in
      due_in_resolved plan playable core past legal e.by e.place e.arg h.here hot.0 hot.1 h.resolution
      ∙ cond-false (has_given plan past e.place e.by) _ _ unsaid
      ∙ cond-false (has_handled past e.place e.by) _ _ h.fresh
      ∙ rw h.able_to (made kind.Handle e 0 e.arg (pos 0) h.mark refl h.value)
  only_by kind.Verdict e h =
      let said = said_due e.by e.place (of_kind kind.Verdict e) h.here h.due in
      said.2 ∙ made_verdict e said.0 said.1 h.value
  only_by kind.Abort e h =
      let g = going_parts past e.place h.when in
      rw (h.here, g.lasts, g.started, g.kept, h.doom, h.fresh, h.together)
      (made_naming kind.Abort e
      (abort_of (abort_row plan e.place e.by) (register plan past e.place e.by)) h.names h.value)
  only_by kind.Undo e h = by_aborted (all_have_aborted plan past e.place) refl h.agreed
    where
      by_aborted : (b : Bool) → all_have_aborted plan past e.place ≡ b
          → MatchBool b (Unit {0}) (AskForUndo plan past e.place) → due_of plan past e.by ≡ Some (of_kind kind.Undo e)
      by_aborted true a u =
          let g = going_parts past e.place h.when in
          let own : has_aborted past e.place e.by ≡ true =
          all_at (has_aborted past e.place) (roles_of plan e.place) e.by a (role e.by e.place h.here) in
          let doom = abort_doomed plan playable.tree past legal e.place e.by own in
          rw (h.here, g.lasts, g.started, g.kept, doom, own, a) (made_plain kind.Undo e h.plain)
      by_aborted false a u =
          let o = open_parts plan past e.place (open_from plan past e.place h.when u.spared) in
          due_in_agreed plan playable core past legal e.by e.place h.here o u.agreed
          ∙ rw (u.agreed, u.wanted) (made_plain kind.Undo e h.plain)
  only_by kind.Restore e h =
      rw (h.here, h.lasts, undoing_started plan playable.tree past legal e.place h.when, h.when, h.least) (
      λ i. Some (record { kind = kind.Restore; place = e.place; by = e.by; arg = e.arg; mark = 0; value = (sym h.value) i }))
  only_by kind.End e h = by_undo (is_undoing past e.place) refl h.how
    where
      by_undo : (b : Bool) → is_undoing past e.place ≡ b
          → MatchBool b (EndsUndone plan past (of_kind kind.End e)) (EndsAgreed plan past (of_kind kind.End e))
          → due_of plan past e.by ≡ Some (of_kind kind.End e)
      by_undo true u ends = undone_due e h.here u ends h.value
      by_undo false u ends = ended_due e h.here ends h.value
  only_by kind.Leave e h = rw (h.here, h.when) (made_naming kind.Leave e (exception_carried plan past e.place e.by) h.carries h.value)

  pub only_due : (e : Entry) → MayFollow plan past e → due_of plan past e.by ≡ Some (as_taken e.kind e)
  only_due e h = only_by e.kind e h
