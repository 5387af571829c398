-- What is due may follow, and so may the device's other answer to what it asks of it.
use Rattle.std.proofs.Common.{◌≡◌, ℕ, ℤ, ◌+ℤ◌, true, false, not, ◌&&◌, ◌||◌, List, [], ◌∷◌, Some, None, Option, refl, sym, ap, ◌∙◌, subst, inl, inr, is_none}
use Rattle.std.proofs.lemmas.Bool.{and_parts, and_from, or_left, or_right, or_parts, not-true, not-false, not_from_false, cond-true, cond-false, both_ways}
use Rattle.caa_base.specs.Written.Mixing.{mix}
use Rattle.caa_base.specs.declared.written.entry.Entry.{Entry}
use Rattle.caa_base.specs.declared.written.entry.Kind.TheVariants as kind
use Rattle.caa_base.specs.declared.written.entry.Verdict.{Verdict}
use Rattle.caa_base.specs.declared.written.entry.Verdict.TheVariants as verdict
use Rattle.place_plan.specs.declared.drafts.draft_rows.Step.{Step}
use Rattle.place_plan.specs.declared.drafts.draft_rows.Step.TheVariants as step
use Rattle.place_plan.specs.Plans.PlanValue.{Plan}
use Rattle.caa_base.specs.Written.Lists.{member, same_option}
use Rattle.place_plan.specs.Plans.Places.{roles_of, internal_of, interface_of, handler_of, abort_row}
use Rattle.place_plan.specs.RulesOfJournals.Whereabouts.{inside, all_are_inside, has_started, has_ended, is_undoing, is_going}
use Rattle.place_plan.specs.RulesOfJournals.Raising.{has_handled, exceptions_raised, is_raised, is_doomed, is_calm, is_hot, is_halted, all_are_halted, exception_resolved}
use Rattle.place_plan.specs.RulesOfJournals.Objects.{holder_of, objects_are_ready, value_of, next_restore}
use Rattle.place_plan.specs.RulesOfJournals.Roles.{register, program_of, next_step, next_raise, has_given, all_have_given, is_handling, was_refused_in_handler, is_able, wants_undo, signals, has_aborted, all_have_aborted, next_play}
use Rattle.place_plan.specs.RulesOfJournals.Rules.{MayFollow, put_of, clamped, place_entered, verdict_due, breaks_off, abort_of, undone_mark, exception_carried, HaveAgreed, SignalsLeast}
use Rattle.place_plan.specs.RulesOfJournals.Journals.{LegalPast, is_put}
use Rattle.journal_laws.specs.Laws.{Holds}
use Rattle.journal_laws.specs.Due.{says, plainly, marked, naming, verdict_entry, least_of, as_refused, due_of, due_at, due_inside, due_arrival, due_waiting, due_live, due_restore, due_doomed, due_signal, due_end, due_agreed, due_held, due_step, due_forward, due_body, due_handler, due_answer, due_resolved, due_resolve, due_halted, due_running, due_hot, due_calm}
use Rattle.journal_laws.proofs.Playable.{IsPlayable}
use Rattle.journal_laws.proofs.Core.{Core}
use Rattle.caa_base.proofs.ListLemmas.{chosen}
use Rattle.journal_laws.proofs.Holding.{same_from_option}
use Rattle.journal_laws.proofs.Phases.{IsOpen, open_parts, open_from, going_from, calm_from, hot_from, not_calm}
use Rattle.journal_laws.proofs.Options.{some_apart, some_same, none_is}
use Rattle.journal_laws.proofs.Raised.{role_inside, plain_calm}
use Rattle.journal_laws.proofs.LeastOf.{found_least}
use Rattle.journal_laws.proofs.Recovering.{handling_given, running_unsaid, some_stay}

-- e may follow and is made by t, and so may it as the device refuses it
pub record Fits (plan : Plan) (past : List Entry) (t : ℕ) (e : Entry) : Type 0 where
  pub may : MayFollow plan past e
  pub own : e.by ≡ t
  pub refused : is_put e ≡ true → MayFollow plan past (as_refused e.kind e)

-- one that the device isn't asked for
unasked : (plan : Plan) (past : List Entry) (e : Entry) → is_put e ≡ false → MayFollow plan past e → Fits plan past e.by e
unasked plan past e f h = record { may = h; own = refl; refused = λ w. absurd (both_ways _ f w) }

-- what is made is what fits
fits_made : (plan : Plan) (past : List Entry) (t : ℕ) (x e : Entry) → Some x ≡ Some e → Fits plan past t x → Fits plan past t e
fits_made plan past t x e h f = subst (Fits plan past t) (some_same h) f

module _ (plan : Plan) (playable : IsPlayable plan) (core : Holds Core plan) (past : List Entry)
    (legal : LegalPast plan past) (t p : ℕ) (here : inside plan past t ≡ Some p) where
  role : member t (roles_of plan p) ≡ true
  role = role_inside plan playable.tree past legal t p here

  -- ---- verdicts and steps

  verdict_fits : (v : Verdict) → verdict_due plan past p t ≡ Some v → Fits plan past t (verdict_entry p t v)
  verdict_fits verdict.Done w =
      unasked plan past (verdict_entry p t verdict.Done) refl
      (record { here = here; due = rw w (refl, refl); value = refl })
  verdict_fits (verdict.Signal x) w =
      unasked plan past (verdict_entry p t (verdict.Signal x)) refl
      (record { here = here; due = rw w (refl, refl); value = refl })
  verdict_fits verdict.Undo w =
      unasked plan past (verdict_entry p t verdict.Undo) refl
      (record { here = here; due = rw w (refl, refl); value = refl })

  write_fits : (a : ℕ) (v : ℤ) → is_able plan past p t ≡ true
      → put_of (next_step plan past p t) (register plan past p t) ≡ Some (a, v) → holder_of plan past a ≡ Some p
      → Fits plan past t (says kind.Write p t a v)
  write_fits a v able puts holds = record {
    may = record { here = here; can = able; puts = puts; holds = holds; mark = refl };
    own = refl;
    refused = λ w. record { here = here; can = able; puts = puts; holds = holds; mark = refl };
  }

  -- what waits for its object holds it
  held : (o : ℕ) (x e : Entry) → due_held plan past p o x ≡ Some e → (holder_of plan past o ≡ Some p) × (Some x ≡ Some e)
  held o x e h = elim (chosen (same_option (holder_of plan past o) (Some p)) _ _ _ h) [
    | inl w ↦ (same_from_option _ _ w.0, w.1)
    | inr w ↦ absurd (some_apart w.1)
  ]

  step_fits : (e : Entry) (s : Option Step) → is_able plan past p t ≡ true
      → (is_none (next_step plan past p t) ≡ true → verdict_due plan past p t ≡ Some (program_of plan past p t).verdict)
      → next_raise plan past p t ≡ None → next_step plan past p t ≡ s → due_step plan past p t s ≡ Some e
      → Fits plan past t e
  step_fits e None able said nr n h = fits_made plan past t _ e h (verdict_fits (program_of plan past p t).verdict (said (rw n refl)))
  step_fits e (Some (step.Read o)) able said nr n h =
      let w = held o _ e h in
      fits_made plan past t _ e w.1
      (unasked plan past (says kind.Read p t o (value_of plan past o)) refl
      (record { here = here; can = able; reads = n; holds = w.0; value = refl; mark = refl }))
  step_fits e (Some (step.Put o v)) able said nr n h = let w = held o _ e h in
      fits_made plan past t _ e w.1 (write_fits o v able (rw n refl) w.0)
  step_fits e (Some (step.Add o v)) able said nr n h = let w = held o _ e h in
      fits_made plan past t _ e w.1 (write_fits o (clamped (register plan past p t +ℤ v)) able (rw n refl) w.0)
  step_fits e (Some (step.Work k)) able said nr n h =
      fits_made plan past t _ e h
      (unasked plan past (says kind.Work p t k (mix (register plan past p t) k)) refl
      (record { here = here; can = able; works = n; value = refl; mark = refl }))
  step_fits e (Some (step.Check a b x)) able said nr n h =
      fits_made plan past t _ e h
      (unasked plan past (plainly kind.Check p t) refl
      (record {
        here = here;
        can = able;
        checks = rw n refl;
        passes = nr;
        plain = record { arg = refl; mark = refl; value = refl };
      }))
  step_fits e (Some (step.Raise x)) able said nr n h = absurd (some_apart h)
  step_fits e (Some (step.Enter k)) able said nr n h = absurd (some_apart h)

  -- ---- agreements

  asks : is_doomed plan past p ≡ false → all_have_given plan past p ≡ true → wants_undo plan past p ≡ true → HaveAgreed plan past p
  asks spared all undo =
      rw (some_stay plan playable core past legal p t role spared)
      (record { spared = spared; agreed = all; wanted = undo })

  undo_fits : is_going past p ≡ true → HaveAgreed plan past p → Fits plan past t (plainly kind.Undo p t)
  undo_fits goes a =
      unasked plan past (plainly kind.Undo p t) refl
      (record { here = here; when = goes; agreed = a; plain = record { arg = refl; mark = refl; value = refl } })

  end_fits : (mark arg : ℕ) (o : IsOpen plan past p) → all_have_given plan past p ≡ true
      → wants_undo plan past p ≡ false
      → SignalsLeast plan (marked kind.End p t mark arg) (signals past p (roles_of plan p))
      → Fits plan past t (marked kind.End p t mark arg)
  end_fits mark arg o all kept outcome =
      unasked plan past (marked kind.End p t mark arg) refl
      (record {
        here = here;
        how = rw o.kept
            (record { goes = o.goes; spared = o.spared; agreed = all; kept = kept; outcome = outcome });
        value = refl;
      })

  signals_fit : (e : Entry) (xs : List ℕ) → IsOpen plan past p → all_have_given plan past p ≡ true
      → wants_undo plan past p ≡ false → signals past p (roles_of plan p) ≡ xs → due_end plan p t xs ≡ Some e
      → Fits plan past t e
  signals_fit e [] o all kept s h = fits_made plan past t _ e h (end_fits 0 0 o all kept (rw s (refl, refl)))
  signals_fit e (x ∷ xs) o all kept s h = by_least (least_of (interface_of plan p) (x ∷ xs)) refl h
    where
      by_least : (l : Option ℕ) → least_of (interface_of plan p) (x ∷ xs) ≡ l → due_signal p t l ≡ Some e → Fits plan past t e
      by_least None w h = absurd (some_apart h)
      by_least (Some y) w h =
          fits_made plan past t _ e h
          (end_fits 1 y o all kept (rw s (refl, found_least (interface_of plan p) (x ∷ xs) y w)))

  agreed_fits : (e : Entry) → IsOpen plan past p → due_agreed plan past p t ≡ Some e → Fits plan past t e
  agreed_fits e o h = elim (chosen (not (all_have_given plan past p)) _ _ _ h) [
    | inl x ↦ absurd (some_apart x.1)
    | inr x ↦ elim (chosen (wants_undo plan past p) _ _ _ x.1) [
      | inl y ↦ fits_made plan past t _ e y.1 (undo_fits o.goes (asks o.spared (not-false _ x.0) y.0))
      | inr y ↦ signals_fit e (signals past p (roles_of plan p)) o (not-false _ x.0) y.0 refl y.1
    ]
  ]

  -- ---- in a calm place

  raise_fits : (x : ℕ) → is_calm plan past p || is_hot plan past p ≡ true → is_halted plan past p t ≡ false
      → has_given plan past p t ≡ false → next_raise plan past p t ≡ Some x
      → Fits plan past t (marked kind.Raise p t 0 x)
  raise_fits x when running unsaid raises =
      unasked plan past (marked kind.Raise p t 0 x) refl
      (record {
        here = here;
        when = when;
        running = running;
        unsaid = unsaid;
        raises = raises;
        mark = refl;
        value = refl;
      })

  enter_fits : (e : Entry) (k : ℕ) (o : Option ℕ) → is_calm plan past p ≡ true → is_able plan past p t ≡ true
      → next_step plan past p t ≡ Some (step.Enter k) → place_entered plan past p t (Some (step.Enter k)) ≡ o
      → due_arrival t o ≡ Some e → Fits plan past t e
  enter_fits e k None calm able n w h = absurd (some_apart h)
  enter_fits e k (Some q) calm able n w h =
      fits_made plan past t _ e h
      (unasked plan past (plainly kind.Arrive q t) refl
      (record {
        leads = rw here
            (cond-true (is_calm plan past p && is_able plan past p t) _ _ (and_from (is_calm plan past p) _ calm able)
            ∙ ap (place_entered plan past p t) n ∙ w);
        plain = record { arg = refl; mark = refl; value = refl };
      }))

  forward_fits : (e : Entry) (s : Option Step) → is_calm plan past p ≡ true → has_given plan past p t ≡ false
      → next_raise plan past p t ≡ None → next_step plan past p t ≡ s → due_forward plan past p t s ≡ Some e
      → Fits plan past t e
  forward_fits e s calm unsaid nr n h = by_step s n h
    where
      able : is_able plan past p t ≡ true
      able = or_left _ _ (and_from (is_calm plan past p) _ calm (not_from_false _ unsaid))

      said : is_none (next_step plan past p t) ≡ true → verdict_due plan past p t ≡ Some (program_of plan past p t).verdict
      said w = rw (calm, unsaid, w) refl

      by_step : (s : Option Step) → next_step plan past p t ≡ s → due_forward plan past p t s ≡ Some e → Fits plan past t e
      by_step (Some (step.Enter k)) n h = enter_fits e k (place_entered plan past p t (Some (step.Enter k))) calm able n refl h
      by_step None n h = step_fits e None able said nr n h
      by_step (Some (step.Read a)) n h = step_fits e (Some (step.Read a)) able said nr n h
      by_step (Some (step.Put a b)) n h = step_fits e (Some (step.Put a b)) able said nr n h
      by_step (Some (step.Add a b)) n h = step_fits e (Some (step.Add a b)) able said nr n h
      by_step (Some (step.Work a)) n h = step_fits e (Some (step.Work a)) able said nr n h
      by_step (Some (step.Check a b x)) n h = step_fits e (Some (step.Check a b x)) able said nr n h
      by_step (Some (step.Raise a)) n h = step_fits e (Some (step.Raise a)) able said nr n h

  calm_fits : (e : Entry) → IsOpen plan past p → is_raised plan past p ≡ false → due_calm plan past p t ≡ Some e → Fits plan past t e
  calm_fits e o r h = elim (chosen (has_given plan past p t) _ _ _ h) [
    | inl x ↦ agreed_fits e o x.1
    | inr x ↦ by_raise (next_raise plan past p t) x.0 refl x.1
  ]
    where
      calm : is_calm plan past p ≡ true
      calm = calm_from plan past p o r

      by_raise : (x : Option ℕ) → has_given plan past p t ≡ false → next_raise plan past p t ≡ x
          → due_body plan past p t x ≡ Some e → Fits plan past t e
      by_raise (Some x) g nr h =
          fits_made plan past t _ e h
          (raise_fits x (or_left _ _ calm) (plain_calm plan past p t (core past legal).raises r).0 g nr)
      by_raise None g nr h = forward_fits e (next_step plan past p t) calm g nr refl h

  -- ---- in a hot place

  -- who handles is able as long as its handler isn't broken off
  handler_able : IsOpen plan past p → is_raised plan past p ≡ true → is_handling past p t ≡ true
      → was_refused_in_handler past p t ≡ false → is_able plan past p t ≡ true
  handler_able o r g f =
      or_right (is_calm plan past p && not (has_given plan past p t)) _
      (and_from (is_hot plan past p) _ (hot_from plan past p o r)
      (and_from (is_handling past p t) _ g (not_from_false _ f)))

  handler_fits : (e : Entry) → IsOpen plan past p → is_raised plan past p ≡ true → has_handled past p t ≡ true
      → has_given plan past p t ≡ false → due_handler plan past p t ≡ Some e → Fits plan past t e
  handler_fits e o r f g h = elim (chosen (breaks_off plan past p t) _ _ _ h) [
    | inl x ↦
        fits_made plan past t _ e x.1
        (verdict_fits verdict.Undo
        (rw (not_calm plan past p r, hot_from plan past p o r, f, handling)
        (cond-true (breaks_off plan past p t) _ _ x.0)))
    | inr x ↦
        let parts = or_parts (was_refused_in_handler past p t) (not (is_none (next_raise plan past p t))) x.0 in
        let nr : next_raise plan past p t ≡ None = none_is _ (not-false _ parts.1) in
        step_fits e (next_step plan past p t) (handler_able o r handling parts.0)
        (λ n. rw (not_calm plan past p r, hot_from plan past p o r, f, handling)
        (cond-false (breaks_off plan past p t) _ _ x.0 ∙ cond-true (is_none (next_step plan past p t)) _ _ n)) nr
        refl x.1
  ]
    where
      handling : is_handling past p t ≡ true
      handling = not-false _ ((sym (handling_given plan playable core past legal p t r f)) ∙ g)

  answer_fits : (e : Entry) (x : ℕ) → IsOpen plan past p → is_raised plan past p ≡ true → has_handled past p t ≡ false
      → has_given plan past p t ≡ false → exception_resolved past p ≡ Some x → due_answer plan p t x ≡ Some e
      → Fits plan past t e
  answer_fits e x o r f g w h = elim (chosen (is_none (handler_of plan p t x)) _ _ _ h) [
    | inl y ↦
        fits_made plan past t _ e y.1
        (verdict_fits verdict.Undo (rw (not_calm plan past p r, hot_from plan past p o r, f, g, w, y.0) refl))
    | inr y ↦
        fits_made plan past t _ e y.1
        (unasked plan past (marked kind.Handle p t 0 x) refl
        (record {
          here = here;
          when = hot_from plan past p o r;
          resolution = w;
          able_to = y.0;
          fresh = f;
          mark = refl;
          value = refl;
        }))
  ]

  resolved_fits : (e : Entry) (x : ℕ) → IsOpen plan past p → is_raised plan past p ≡ true
      → exception_resolved past p ≡ Some x → due_resolved plan past p t x ≡ Some e → Fits plan past t e
  resolved_fits e x o r w h = elim (chosen (has_given plan past p t) _ _ _ h) [
    | inl y ↦ agreed_fits e o y.1
    | inr y ↦ elim (chosen (has_handled past p t) _ _ _ y.1) [
      | inl z ↦ handler_fits e o r z.0 y.0 z.1
      | inr z ↦ answer_fits e x o r z.0 y.0 w z.1
    ]
  ]

  halted_fits : (e : Entry) (l : Option ℕ) → IsOpen plan past p → is_raised plan past p ≡ true
      → exception_resolved past p ≡ l → due_halted plan past p t l ≡ Some e → Fits plan past t e
  halted_fits e (Some x) o r w h = resolved_fits e x o r w h
  halted_fits e None o r w h = elim (chosen (all_are_halted plan past p) _ _ _ h) [
    | inl y ↦ by_least (least_of (internal_of plan p) (exceptions_raised plan past p)) y.0 refl y.1
    | inr y ↦ absurd (some_apart y.1)
  ]
    where
      by_least : (l : Option ℕ) → all_are_halted plan past p ≡ true
          → least_of (internal_of plan p) (exceptions_raised plan past p) ≡ l → due_resolve p t l ≡ Some e
          → Fits plan past t e
      by_least None all least h = absurd (some_apart h)
      by_least (Some x) all least h =
          fits_made plan past t _ e h
          (unasked plan past (marked kind.Resolve p t 0 x) refl
          (record {
            here = here;
            when = hot_from plan past p o r;
            together = all;
            fresh = w;
            least = found_least (internal_of plan p) (exceptions_raised plan past p) x least;
            mark = refl;
            value =
                refl;
          }))

  hot_fits : (e : Entry) → IsOpen plan past p → is_raised plan past p ≡ true → due_hot plan past p t ≡ Some e → Fits plan past t e
  hot_fits e o r h = elim (chosen (not (is_halted plan past p t)) _ _ _ h) [
    | inl x ↦ by_raise (next_raise plan past p t) (not-true _ x.0) refl x.1
    | inr x ↦ halted_fits e (exception_resolved past p) o r refl x.1
  ]
    where
      hot : is_hot plan past p ≡ true
      hot = hot_from plan past p o r

      by_raise : (x : Option ℕ) → is_halted plan past p t ≡ false → next_raise plan past p t ≡ x
          → due_running p t x ≡ Some e → Fits plan past t e
      by_raise (Some x) f nr h =
          fits_made plan past t _ e h
          (raise_fits x (or_right (is_calm plan past p) _ hot) f
          (running_unsaid plan playable core past legal p t role r f) nr)
      by_raise None f nr h =
          fits_made plan past t _ e h
          (unasked plan past (plainly kind.Inform p t) refl
          (record {
            here = here;
            when = hot;
            running = f;
            silent = nr;
            plain = record { arg = refl; mark = refl; value = refl };
          }))

  -- ---- where it gives up, is undone, waits, or has ended

  abort_fits : (o : Option ℕ) → is_going past p ≡ true → is_doomed plan past p ≡ true
      → all_are_inside plan past p ≡ true → has_aborted past p t ≡ false
      → abort_of (abort_row plan p t) (register plan past p t) ≡ o → Fits plan past t (naming kind.Abort p t o)
  abort_fits None goes doom all f w =
      unasked plan past (naming kind.Abort p t None) refl
      (record {
        here = here;
        when = goes;
        doom = doom;
        together = all;
        fresh = f;
        names = rw w (refl, refl);
        value = refl;
      })
  abort_fits (Some x) goes doom all f w =
      unasked plan past (naming kind.Abort p t (Some x)) refl
      (record {
        here = here;
        when = goes;
        doom = doom;
        together = all;
        fresh = f;
        names = rw w (refl, refl);
        value = refl;
      })

  doomed_fits : (e : Entry) → is_going past p ≡ true → is_doomed plan past p ≡ true → due_doomed plan past p t ≡ Some e → Fits plan past t e
  doomed_fits e goes doom h = elim (chosen (has_aborted past p t) _ _ _ h) [
    | inl x ↦ elim (chosen (all_have_aborted plan past p) _ _ _ x.1) [
      | inl y ↦ fits_made plan past t _ e y.1 (undo_fits goes (rw y.0 tt))
      | inr y ↦ absurd (some_apart y.1)
    ]
    | inr x ↦ elim (chosen (all_are_inside plan past p) _ _ _ x.1) [
      | inl y ↦ fits_made plan past t _ e y.1 (abort_fits (abort_of (abort_row plan p t) (register plan past p t)) goes doom y.0 x.0 refl)
      | inr y ↦ absurd (some_apart y.1)
    ]
  ]

  restore_fits : (e : Entry) (o : Option ℕ) → has_ended past p ≡ false → is_undoing past p ≡ true
      → next_restore plan past p ≡ o → due_restore plan past p t o ≡ Some e → Fits plan past t e
  restore_fits e None lasts u w h =
      fits_made plan past t _ e h
      (unasked plan past (marked kind.End p t (undone_mark past p) 0) refl
      (record {
        here = here;
        how = rw u (record { lasts = lasts; all_tried = w; mark = refl; arg = refl });
        value = refl;
      }))
  restore_fits e (Some o) lasts u w h =
      fits_made plan past t _ e h (record {
        may = record { here = here; when = u; lasts = lasts; least = w; value = refl; mark = refl };
        own = refl;
        refused = λ x. record { here = here; when = u; lasts = lasts; least = w; value = refl; mark = refl };
      })

  waiting_fits : (e : Entry) → has_started past p ≡ false → due_waiting plan past p t ≡ Some e → Fits plan past t e
  waiting_fits e waits h = elim (chosen (is_doomed plan past p) _ _ _ h) [
    | inl x ↦
        fits_made plan past t _ e x.1
        (unasked plan past (plainly kind.Withdraw p t) refl
        (record { here = here; waits = waits; doom = x.0; plain = record { arg = refl; mark = refl; value = refl } }))
    | inr x ↦ elim (chosen (all_are_inside plan past p && objects_are_ready plan past p) _ _ _ x.1) [
      | inl y ↦
          let parts = and_parts (all_are_inside plan past p) (objects_are_ready plan past p) y.0 in
          fits_made plan past t _ e y.1
          (unasked plan past (plainly kind.Start p t) refl
          (record {
            here = here;
            waits = waits;
            spared = x.0;
            together = parts.0;
            ready = parts.1;
            plain = record { arg = refl; mark = refl; value = refl };
          }))
      | inr y ↦ absurd (some_apart y.1)
    ]
  ]

  leave_fits : (o : Option ℕ) → has_ended past p ≡ true → exception_carried plan past p t ≡ o → Fits plan past t (naming kind.Leave p t o)
  leave_fits None w c =
      unasked plan past (naming kind.Leave p t None) refl
      (record { here = here; when = w; carries = rw c (refl, refl); value = refl })
  leave_fits (Some x) w c =
      unasked plan past (naming kind.Leave p t (Some x)) refl
      (record { here = here; when = w; carries = rw c (refl, refl); value = refl })

  live_fits : (e : Entry) → has_ended past p ≡ false → has_started past p ≡ true → due_live plan past p t ≡ Some e → Fits plan past t e
  live_fits e f s h = elim (chosen (is_undoing past p) _ _ _ h) [
    | inl u ↦ restore_fits e (next_restore plan past p) f u.0 refl u.1
    | inr u ↦ elim (chosen (is_doomed plan past p) _ _ _ u.1) [
      | inl d ↦ doomed_fits e (going_from past p f s u.0) d.0 d.1
      | inr d ↦
          let o = open_parts plan past p (open_from plan past p (going_from past p f s u.0) d.0) in
          elim (chosen (is_raised plan past p) _ _ _ d.1) [ inl r ↦ hot_fits e o r.0 r.1 | inr r ↦ calm_fits e o r.0 r.1 ]
    ]
  ]

  pub inside_fits : (e : Entry) → due_inside plan past p t ≡ Some e → Fits plan past t e
  inside_fits e h = elim (chosen (has_ended past p) _ _ _ h) [
    | inl f ↦ fits_made plan past t _ e f.1 (leave_fits (exception_carried plan past p t) f.0 refl)
    | inr f ↦ elim (chosen (has_started past p) _ _ _ f.1) [ inl s ↦ live_fits e f.0 s.0 s.1 | inr s ↦ waiting_fits e s.0 s.1 ]
  ]

-- what is due fits
pub due_fits : (plan : Plan) → IsPlayable plan → Holds Core plan → (past : List Entry) → LegalPast plan past
    → (t : ℕ) (e : Entry) → due_of plan past t ≡ Some e → Fits plan past t e
due_fits plan playable core past legal t e h = by_place (inside plan past t) refl h
  where
    by_play : (o : Option ℕ) → inside plan past t ≡ None → next_play plan past t ≡ o → due_arrival t o ≡ Some e → Fits plan past t e
    by_play None w n h = absurd (some_apart h)
    by_play (Some p) w n h =
        fits_made plan past t _ e h
        (unasked plan past (plainly kind.Arrive p t) refl
        (record { leads = rw w n; plain = record { arg = refl; mark = refl; value = refl } }))

    by_place : (o : Option ℕ) → inside plan past t ≡ o → due_at plan past t o ≡ Some e → Fits plan past t e
    by_place None w h = by_play (next_play plan past t) w refl h
    by_place (Some p) w h = inside_fits plan playable core past legal t p w e h
