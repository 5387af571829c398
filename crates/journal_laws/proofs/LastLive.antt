-- The last of the live places: its roles are in it or wait right inside it, it holds its objects, and unless it is calm something
-- is due to one of its roles.
use Rattle.std.proofs.Common.{◌≡◌, ℕ, ◌==◌, ◌<◌, Bool, true, false, not, cond, ◌||◌, List, [], ◌∷◌, Some, None, Option, length, refl, sym, ap, ◌∙◌, subst, arith, slice_get, inl, inr, is_none}
use Rattle.std.specs.List.{list_any}
use Rattle.std.proofs.lemmas.Bool.{or_cases, or_left, or_right, or_parts, eqb-true, eq-eqb, false≢true, not-false, true_from_ne_false, both_ways}
use Rattle.caa_base.specs.declared.written.entry.Entry.{Entry}
use Rattle.caa_base.specs.declared.written.entry.Kind.TheVariants as kind
use Rattle.caa_base.specs.declared.written.entry.Verdict.TheVariants as verdict
use Rattle.place_plan.specs.declared.drafts.draft_rows.Step.{Step}
use Rattle.place_plan.specs.declared.drafts.draft_rows.Step.TheVariants as step
use Rattle.place_plan.specs.Plans.PlanValue.{Plan}
use Rattle.caa_base.specs.Written.Lists.{member, is_empty, first_of}
use Rattle.place_plan.specs.Plans.Places.{around, parent, roles_of, uses, internal_of, interface_of, handler_of}
use Rattle.place_plan.specs.RulesOfJournals.Entries.{is_by}
use Rattle.place_plan.specs.RulesOfJournals.Whereabouts.{inside, is_inside, all_are_inside, has_started, has_ended, is_undoing, is_live}
use Rattle.place_plan.specs.RulesOfJournals.Raising.{has_handled, exceptions_raised, is_raised, is_doomed, is_halted, all_are_halted, exception_resolved, exception_handled}
use Rattle.place_plan.specs.RulesOfJournals.Objects.{holder_of, next_restore}
use Rattle.place_plan.specs.RulesOfJournals.Roles.{program_in, position, register, next_step, next_raise, raise_of, has_given, all_have_given, was_refused_in_handler, wants_undo, signals, has_aborted}
use Rattle.place_plan.specs.RulesOfJournals.Rules.{breaks_off}
use Rattle.place_plan.specs.RulesOfJournals.Journals.{LegalPast}
use Rattle.journal_laws.specs.Due.{plainly, marked, verdict_entry, due_restore, due_doomed, due_hot, due_halted, due_running, due_answer, due_handler, due_step, due_held, due_agreed, due_end}
use Rattle.journal_laws.proofs.Playable.{IsPlayable}
use Rattle.caa_base.proofs.ListLemmas.{all_from, same_at}
use Rattle.journal_laws.proofs.Lives.{live_parts, going_live}
use Rattle.journal_laws.proofs.Tree.{in_within, live_within}
use Rattle.journal_laws.proofs.InnerFirst.{started_filled}
use Rattle.journal_laws.proofs.Holding.{holds_within, holds_own}
use Rattle.journal_laws.proofs.Newest.{stands_newest}
use Rattle.journal_laws.proofs.Options.{none_is}
use Rattle.journal_laws.proofs.Phases.{going_parts}
use Rattle.journal_laws.proofs.Raised.{busy_inside, parent_round}
use Rattle.journal_laws.proofs.LeastOf.{least_some}
use Rattle.journal_laws.proofs.Ranges.{raised_in_range, signals_in_range}
use Rattle.journal_laws.proofs.Arrivals.{around_parent}
use Rattle.journal_laws.proofs.Uses.{enters_nowhere}
use Rattle.journal_laws.proofs.Waiting.{NothingDue, not_due, not_started, waiting_spared}

-- t waits in r, which is right inside p
pub record WaitsIn (plan : Plan) (past : List Entry) (p t r : ℕ) : Type 0 where
  pub place : inside plan past t ≡ Some r
  pub up : parent plan r ≡ Some p
  pub waits : has_started past r ≡ false
  pub spared : is_doomed plan past r ≡ false

-- where a role of p is
pub data Stands (plan : Plan) (past : List Entry) (p t : ℕ) : Type 0 where
  at_itself : inside plan past t ≡ Some p → Stands plan past p t
  at_child : (r : ℕ) → WaitsIn plan past p t r → Stands plan past p t

some_raised : (xs : List ℕ) → not (is_empty xs) ≡ true → 0 < length xs
some_raised [] h = absurd (false≢true h)
some_raised (x ∷ xs) h = omega arith

module _ (plan : Plan) (playable : IsPlayable plan) (past : List Entry) (legal : LegalPast plan past)
    (still : NothingDue plan past) (p : ℕ) (live : is_live past p ≡ true)
    (last : (q : ℕ) → p < q → is_live past q ≡ false) where
  pub started : has_started past p ≡ true
  started = (live_parts p past live).0

  pub lasts : has_ended past p ≡ false
  lasts = (live_parts p past live).1

  -- ---- where its roles are

  pub stands : (t : ℕ) → member t (roles_of plan p) ≡ true → Stands plan past p t
  stands t m = by_place (inside plan past t) refl (live_within plan playable.tree past legal t p m started lasts)
    where
      -- the place that it waits in is right inside p: one between would be live
      right_inside : (r : ℕ) → inside plan past t ≡ Some r → (qs : List ℕ) → around plan r ≡ qs → member p qs ≡ true → first_of qs ≡ Some p
      right_inside r w [] a x = absurd (false≢true x)
      right_inside r w (q ∷ qs) a x = elim (or_cases (q == p) (member p qs) x) [
        | inl y ↦ ap Some (eqb-true q p y)
        | inr y ↦
            let busy = busy_inside plan playable.tree past legal t q r w (rw a (or_left _ _ (eq-eqb q q refl))) in
            let below = playable.tree.above q p (rw (playable.tree.chain r q qs a) y) in
            absurd (both_ways _ (last q below) (going_live q past busy.goes))
      ]

      by_place : (o : Option ℕ) → inside plan past t ≡ o → in_within plan o p ≡ true → Stands plan past p t
      by_place None w d = absurd (false≢true d)
      by_place (Some r) w d = elim (or_cases (r == p) (member p (around plan r)) d) [
        | inl x ↦ at_itself (w ∙ ap Some (eqb-true r p x))
        | inr x ↦
            let waits = not_started plan playable past legal still t r w (last r (playable.tree.above r p x)) in
            at_child r (record {
              place = w;
              up = right_inside r w (around plan r) refl x;
              waits = waits;
              spared = waiting_spared plan playable past legal still t r w waits;
            })
      ]

  -- in a raised or doomed place they are all back
  back : is_raised plan past p || is_doomed plan past p ≡ true → (t : ℕ) → member t (roles_of plan p) ≡ true → inside plan past t ≡ Some p
  back d t m = by_standing (stands t m)
    where
      by_standing : Stands plan past p t → inside plan past t ≡ Some p
      by_standing (at_itself w) = w
      by_standing (at_child r c) =
          absurd (both_ways _ c.spared
          (subst (λ qs. list_any (λ q. is_raised plan past q) qs ≡ true)
          (sym (around_parent plan playable.tree p r c.up)) d))

  pub some_role : (t : ℕ) × (member t (roles_of plan p) ≡ true)
  some_role = started_filled plan playable.tree past legal p started

  -- ---- and its objects

  pub holds : (o : ℕ) → uses plan p o ≡ true → holder_of plan past o ≡ Some p
  holds o u =
      holds_own plan playable.tree past o p (holds_within plan playable.tree past legal o) live u
      (λ r w m. both_ways _ (last r (playable.tree.above r p m)) w)

  -- a step whose object p holds is due
  pub held_due : (o : ℕ) (e : Entry) → uses plan p o ≡ true → due_held plan past p o e ≡ None → ⊥
  held_due o e u d = cc (rw (holds o u, eq-eqb p p refl) at d)

  -- a step that neither raises nor enters is due, and after the last the verdict is
  pub step_due : (t : ℕ) (s : Option Step) → next_step plan past p t ≡ s → next_raise plan past p t ≡ None
      → enters_nowhere s ≡ true → due_step plan past p t s ≡ None → ⊥
  step_due t None n r e d = cc
  step_due t (Some (step.Read o)) n r e d =
      held_due o _ (playable.held p t (exception_handled past p t) (position plan past p t) (step.Read o) n) d
  step_due t (Some (step.Put o v)) n r e d =
      held_due o _ (playable.held p t (exception_handled past p t) (position plan past p t) (step.Put o v) n) d
  step_due t (Some (step.Add o v)) n r e d =
      held_due o _ (playable.held p t (exception_handled past p t) (position plan past p t) (step.Add o v) n) d
  step_due t (Some (step.Work k)) n r e d = cc
  step_due t (Some (step.Check a b x)) n r e d = cc
  step_due t (Some (step.Raise x)) n r e d =
      let raises : raise_of (next_step plan past p t) (register plan past p t) ≡ Some x = rw n refl in cc
  step_due t (Some (step.Enter k)) n r e d = absurd (false≢true e)

  -- once all have given their verdicts, the undo or the end is due
  pub agreed_due : (t : ℕ) → all_have_given plan past p ≡ true → due_agreed plan past p t ≡ None → ⊥
  agreed_due t all d = by_undo (wants_undo plan past p) refl (rw all at d)
    where
      by_signals : (xs : List ℕ) → signals past p (roles_of plan p) ≡ xs → due_end plan p t xs ≡ None → ⊥
      by_signals [] s d = cc
      by_signals (x ∷ xs) s d =
          let sound = playable.sound p in
          let least =
          least_some (interface_of plan p) (x ∷ xs) sound.2 sound.3 (omega arith)
          (rw s at (signals_in_range plan playable past legal p (roles_of plan p))) in
          cc (rw least.1 at d)

      by_undo : (b : Bool) → wants_undo plan past p ≡ b
          → cond b (Some (plainly kind.Undo p t)) (due_end plan p t (signals past p (roles_of plan p))) ≡ None → ⊥
      by_undo true u d = cc
      by_undo false u d = by_signals (signals past p (roles_of plan p)) refl d

  -- ---- something is due, whatever its phase

  pub not_undoing : is_undoing past p ≡ true → ⊥
  not_undoing u = by_standing some_role.0 (stands some_role.0 some_role.1)
    where
      by_object : (t : ℕ) (o : Option ℕ) → due_restore plan past p t o ≡ None → ⊥
      by_object t None d = cc
      by_object t (Some o) d = cc

      by_standing : (t : ℕ) → Stands plan past p t → ⊥
      by_standing t (at_itself w) =
          by_object t (next_restore plan past p)
          (rw (lasts, started, u) at (not_due plan playable past legal still t p w))
      by_standing t (at_child r c) =
          let busy = busy_inside plan playable.tree past legal t p r c.place (parent_round plan playable.tree r p c.up) in
          both_ways _ (going_parts past p busy.goes).kept u

  pub not_doomed : is_undoing past p ≡ false → is_doomed plan past p ≡ true → ⊥
  not_doomed u d =
      let all = all_from (has_aborted past p) (roles_of plan p) aborted in
      cc (rw (aborted some_role.0 some_role.1, all) at (due some_role.0 some_role.1))
    where
      due : (t : ℕ) → member t (roles_of plan p) ≡ true → due_doomed plan past p t ≡ None
      due t m = rw (lasts, started, u, d) at (not_due plan playable past legal still t p (back (or_right _ _ d) t m))

      together : all_are_inside plan past p ≡ true
      together = all_from (is_inside plan past p) (roles_of plan p) (λ t m. same_at _ p (back (or_right _ _ d) t m))

      aborted : (t : ℕ) → member t (roles_of plan p) ≡ true → has_aborted past p t ≡ true
      aborted t m = true_from_ne_false _ (λ n. cc (rw (n, together) at (due t m)))

  -- a handler goes on, says its verdict, or is broken off
  handler_due : (t : ℕ) → has_handled past p t ≡ true → due_handler plan past p t ≡ None → ⊥
  handler_due t f d = by_breaking (breaks_off plan past p t) refl d
    where
      nowhere : (s : Option Step) → next_step plan past p t ≡ s → enters_nowhere s ≡ true
      nowhere None n = refl
      nowhere (Some (step.Enter k)) n =
          let some = stands_newest (is_by kind.Handle p t) past f in
          absurd (playable.plain p t some.0 (position plan past p t) k
          (subst (λ o. slice_get (program_in plan p t o).steps (position plan past p t) ≡ Some (step.Enter k))
          some.1 n))
      nowhere (Some (step.Read a)) n = refl
      nowhere (Some (step.Put a b)) n = refl
      nowhere (Some (step.Add a b)) n = refl
      nowhere (Some (step.Work a)) n = refl
      nowhere (Some (step.Check a b c)) n = refl
      nowhere (Some (step.Raise a)) n = refl

      by_breaking : (b : Bool) → breaks_off plan past p t ≡ b
          → cond b (Some (verdict_entry p t verdict.Undo)) (due_step plan past p t (next_step plan past p t)) ≡ None → ⊥
      by_breaking true x d = cc
      by_breaking false x d =
          let none =
          none_is (next_raise plan past p t)
          (not-false _ (or_parts (was_refused_in_handler past p t)
          (not (is_none (next_raise plan past p t))) x).1) in
          step_due t (next_step plan past p t) refl none (nowhere (next_step plan past p t) refl) d

  answer_due : (t x : ℕ) → due_answer plan p t x ≡ None → ⊥
  answer_due t x d = by_handler (is_none (handler_of plan p t x)) d
    where
      by_handler : (b : Bool) → cond b (Some (verdict_entry p t verdict.Undo)) (Some (marked kind.Handle p t 0 x)) ≡ None → ⊥
      by_handler true d = cc
      by_handler false d = cc

  module _ (kept : is_undoing past p ≡ false) (spared : is_doomed plan past p ≡ false) (hot : is_raised plan past p ≡ true) where
    due_in_hot : (t : ℕ) → member t (roles_of plan p) ≡ true → due_hot plan past p t ≡ None
    due_in_hot t m = rw (lasts, started, kept, spared, hot) at (not_due plan playable past legal still t p (back (or_left _ _ hot) t m))

    halted : (t : ℕ) → member t (roles_of plan p) ≡ true → is_halted plan past p t ≡ true
    halted t m = true_from_ne_false _ (λ n. running (next_raise plan past p t) (rw n at (due_in_hot t m)))
      where
        running : (o : Option ℕ) → due_running p t o ≡ None → ⊥
        running None d = cc
        running (Some x) d = cc

    due_at_halt : (t : ℕ) (o : Option ℕ) → member t (roles_of plan p) ≡ true → exception_resolved past p ≡ o
        → due_halted plan past p t o ≡ None
    due_at_halt t o m r = subst (λ o. due_halted plan past p t o ≡ None) r (rw (halted t m) at (due_in_hot t m))

    not_resolved_to : (x : ℕ) → exception_resolved past p ≡ Some x → ⊥
    not_resolved_to x r =
        agreed_due some_role.0 all
        (rw (given some_role.0 some_role.1) at (due_at_halt some_role.0 (Some x) some_role.1 r))
      where
        by_handled : (t : ℕ) (b : Bool) → has_handled past p t ≡ b → cond b (due_handler plan past p t) (due_answer plan p t x) ≡ None → ⊥
        by_handled t true f d = handler_due t f d
        by_handled t false f d = answer_due t x d

        given : (t : ℕ) → member t (roles_of plan p) ≡ true → has_given plan past p t ≡ true
        given t m = true_from_ne_false _ (λ n. by_handled t (has_handled past p t) refl (rw n at (due_at_halt t (Some x) m r)))

        all : all_have_given plan past p ≡ true
        all = all_from (has_given plan past p) (roles_of plan p) given

    pub not_hot : ⊥
    not_hot = by_resolved (exception_resolved past p) refl
      where
        by_resolved : (o : Option ℕ) → exception_resolved past p ≡ o → ⊥
        by_resolved (Some x) r = not_resolved_to x r
        by_resolved None r =
            let sound = playable.sound p in
            let least =
            least_some (internal_of plan p) (exceptions_raised plan past p) sound.0 sound.1
            (some_raised (exceptions_raised plan past p) hot) (raised_in_range plan playable past legal p) in
            let all : all_are_halted plan past p ≡ true = all_from (is_halted plan past p) (roles_of plan p) halted in
            cc (rw (all, least.1) at (due_at_halt some_role.0 None some_role.1 r))
