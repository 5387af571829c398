-- How far a role of these plays has come, and what it has said, the rest of the past tells as the whole does.
use Rattle.std.proofs.Common.{◌≡◌, ℕ, pos, ◌==◌, Bool, true, false, not, cond, ◌&&◌, ◌||◌, List, [], ◌∷◌, ◌++◌, Some, None, Option, refl, sym, ap, ap₂, ◌∙◌, is_none, zero, suc, slice_get}
use Rattle.caa_base.specs.declared.written.entry.Entry.{Entry}
use Rattle.caa_base.specs.declared.written.entry.Kind.{Kind}
use Rattle.caa_base.specs.declared.written.entry.Kind.TheVariants as kind
use Rattle.caa_base.specs.Written.Lists.{member, is_at, first_not}
use Rattle.caa_base.specs.Written.Marks.{mark_of}
use Rattle.caa_base.specs.declared.written.entry.Outcome.TheVariants as outcome
use Rattle.place_plan.specs.declared.drafts.draft_rows.Step.{Step}
use Rattle.place_plan.specs.declared.drafts.draft_rows.Step.TheVariants as step
use Rattle.place_plan.specs.Plans.PlanValue.{Plan}
use Rattle.place_plan.specs.Plans.Places.{parent, roles_of, alternates_of, plays_of}
use Rattle.place_plan.specs.RulesOfJournals.Entries.{is_in, is_by, has_by, newest}
use Rattle.place_plan.specs.RulesOfJournals.Whereabouts.{is_left_in_silence}
use Rattle.place_plan.specs.RulesOfJournals.Raising.{is_raised, is_calm}
use Rattle.place_plan.specs.RulesOfJournals.Roles.{advances, position, gives_value, register, program_in, program_of, next_step, raise_of, next_raise, has_given_after, has_given, all_have_given, is_handling, was_refused_in_handler, is_in_handler, is_able, verdict_at, verdict_of, is_undo, wants_undo, signal_in, signals, has_aborted, all_have_aborted, next_play}
use Rattle.place_plan.specs.RulesOfJournals.Rules.{place_entered, arrival, final_verdict, breaks_off, verdict_due, undone_mark, outcome_mapped, is_deaf, exception_carried}
use Rattle.lone_plays.proofs.Left.{IsGroup, AllOwn, left, along, elsewhere, inner_mine, beside, by_mine, not_in, not_by, newest_left, has_left, has_by_left, all_same, any_same, first_same}
use Rattle.lone_plays.proofs.Asked.{alone, silence_left, is_raised_left, doomed_left, calm_left, hot_left, resolved_left, handled_left, end_left, failed_left}

module _ (plan : Plan) (mine : ℕ → Bool) (group : IsGroup plan mine) (plays : List ℕ) where
  abbrev lone : Plan
  lone = alone plan mine group plays

  abbrev rest : List Entry → List Entry
  rest past = left mine past

  -- ---- steps

  advances_kind : (k : Kind) (e : Entry) (ps qs : List Entry) (p : ℕ)
      → is_left_in_silence lone ps e.place ≡ is_left_in_silence plan qs e.place
      → advances lone ps p e k ≡ advances plan qs p e k
  advances_kind kind.Leave e ps qs p h = ap (λ b. is_at (parent plan e.place) p && not b) h
  advances_kind _ e ps qs p h = refl

  advances_none : (k : Kind) (e : Entry) (past : List Entry) (p : ℕ) → (e.place == p) ≡ false
      → is_at (parent plan e.place) p ≡ false → advances plan past p e k ≡ false
  advances_none kind.Read e past p x y = x
  advances_none kind.Work e past p x y = x
  advances_none kind.Write e past p x y = x
  advances_none kind.Check e past p x y = x
  advances_none kind.Leave e past p x y = rw y refl
  advances_none _ e past p x y = refl

  pub position_left : (p t : ℕ) → mine p ≡ true → (past : List Entry) → AllOwn plan past
      → position lone (rest past) p t ≡ position plan past p t
  position_left p t m past own =
      along plan mine group (λ ps. position lone ps p t) (λ ps. position plan ps p t) refl
      (λ e past o n ih. ap₂ (λ b i. cond (is_by kind.Handle p t e) zero (cond (b && (e.by == t)) (suc i) i))
      (advances_kind e.kind e (rest past) past p (silence_left plan mine group plays e.place n past o.0)) ih)
      (λ e past o n. rw (
        not_by plan mine group kind.Handle p t e m n,
        advances_none e.kind e past p (elsewhere plan mine group e p m n) (beside plan mine group e p m n),
      ) refl) past own

  not_there : (a b c : Bool) → b ≡ false → a && (b && c) ≡ false
  not_there true b c h = rw h refl
  not_there false b c h = refl

  pub register_left : (p t : ℕ) → mine p ≡ true → (past : List Entry) → AllOwn plan past
      → register lone (rest past) p t ≡ register plan past p t
  register_left p t m past own =
      along plan mine group (λ ps. register lone ps p t) (λ ps. register plan ps p t) refl
      (λ e past o n ih. ap (λ v. cond (is_by kind.Handle p t e) (pos 0)
      (cond (gives_value e.kind && ((e.place == p) && (e.by == t))) e.value v)) ih)
      (λ e past o n. rw (
        not_by plan mine group kind.Handle p t e m n,
        not_there (gives_value e.kind) (e.place == p) (e.by == t) (elsewhere plan mine group e p m n),
      ) refl) past own

  pub program_left : (p t : ℕ) → mine p ≡ true → (past : List Entry) → AllOwn plan past
      → program_of lone (rest past) p t ≡ program_of plan past p t
  program_left p t m past own = ap (program_in plan p t) (handled_left plan mine group plays p t m past own)

  pub step_left : (p t : ℕ) → mine p ≡ true → (past : List Entry) → AllOwn plan past
      → next_step lone (rest past) p t ≡ next_step plan past p t
  step_left p t m past own = ap₂ (λ a i. slice_get a.steps i) (program_left p t m past own) (position_left p t m past own)

  pub raise_left : (p t : ℕ) → mine p ≡ true → (past : List Entry) → AllOwn plan past
      → next_raise lone (rest past) p t ≡ next_raise plan past p t
  raise_left p t m past own = ap₂ raise_of (step_left p t m past own) (register_left p t m past own)

  -- ---- verdicts

  given_after_left : (p t : ℕ) → mine p ≡ true → (past : List Entry) → AllOwn plan past
      → has_given_after (rest past) p t ≡ has_given_after past p t
  given_after_left p t m past own =
      along plan mine group (λ ps. has_given_after ps p t) (λ ps. has_given_after ps p t) refl
      (λ e past o n ih. ap₂ (λ a b. cond (is_in kind.Resolve p e) false (cond (is_by kind.Verdict p t e) a b))
      (has_left plan mine group kind.Resolve p m past o.0) ih)
      (λ e past o n. rw (not_in plan mine group kind.Resolve p e m n, not_by plan mine group kind.Verdict p t e m n) refl) past own

  pub given_left : (p t : ℕ) → mine p ≡ true → (past : List Entry) → AllOwn plan past
      → has_given lone (rest past) p t ≡ has_given plan past p t
  given_left p t m past own =
      ap (λ b. cond b (has_given_after (rest past) p t) (has_by kind.Verdict (rest past) p t)) (is_raised_left plan mine group plays p m past own)
      ∙ ap₂ (cond (is_raised plan past p)) (given_after_left p t m past own) (has_by_left plan mine group kind.Verdict p t m past own)

  pub all_given_left : (p : ℕ) → mine p ≡ true → (past : List Entry) → AllOwn plan past
      → all_have_given lone (rest past) p ≡ all_have_given plan past p
  all_given_left p m past own =
      all_same (has_given lone (rest past) p) (has_given plan past p) (roles_of plan p) (λ t r. given_left p t m past own)

  pub handling_left : (p t : ℕ) → mine p ≡ true → (past : List Entry) → AllOwn plan past
      → is_handling (rest past) p t ≡ is_handling past p t
  handling_left p t m past own =
      along plan mine group (λ ps. is_handling ps p t) (λ ps. is_handling ps p t) refl
      (λ e past o n ih. ap (λ b. cond (is_by kind.Handle p t e) true (cond (is_by kind.Verdict p t e) false b)) ih)
      (λ e past o n. rw (not_by plan mine group kind.Handle p t e m n, not_by plan mine group kind.Verdict p t e m n) refl) past own

  pub refused_left : (p t : ℕ) → mine p ≡ true → (past : List Entry) → AllOwn plan past
      → was_refused_in_handler (rest past) p t ≡ was_refused_in_handler past p t
  refused_left p t m past own =
      along plan mine group (λ ps. was_refused_in_handler ps p t) (λ ps. was_refused_in_handler ps p t) refl
      (λ e past o n ih. ap₂ (λ a b. cond (is_by kind.Handle p t e) false (cond (is_by kind.PutFault p t e) a b))
      (has_by_left plan mine group kind.Handle p t m past o.0) ih)
      (λ e past o n. rw (not_by plan mine group kind.Handle p t e m n, not_by plan mine group kind.PutFault p t e m n) refl) past own

  in_handler_left : (p t : ℕ) → mine p ≡ true → (past : List Entry) → AllOwn plan past
      → is_in_handler (rest past) p t ≡ is_in_handler past p t
  in_handler_left p t m past own = ap₂ (λ a b. a && not b) (handling_left p t m past own) (refused_left p t m past own)

  pub able_left : (p t : ℕ) → mine p ≡ true → (past : List Entry) → AllOwn plan past
      → is_able lone (rest past) p t ≡ is_able plan past p t
  able_left p t m past own =
      ap₂ (λ a b. a || b)
      (ap₂ (λ a b. a && not b) (calm_left plan mine group plays p m past own) (given_left p t m past own))
      (ap₂ (λ a b. a && b) (hot_left plan mine group plays p m past own) (in_handler_left p t m past own))

  verdict_left : (p t : ℕ) → mine p ≡ true → (past : List Entry) → AllOwn plan past
      → verdict_of (rest past) p t ≡ verdict_of past p t
  verdict_left p t m past own =
      along plan mine group (λ ps. verdict_of ps p t) (λ ps. verdict_of ps p t) refl
      (λ e past o n ih. ap (cond (is_by kind.Verdict p t e) (Some (verdict_at e))) ih)
      (λ e past o n. rw (not_by plan mine group kind.Verdict p t e m n) refl) past own

  pub wants_undo_left : (p : ℕ) → mine p ≡ true → (past : List Entry) → AllOwn plan past
      → wants_undo lone (rest past) p ≡ wants_undo plan past p
  wants_undo_left p m past own =
      any_same (λ t. is_undo (verdict_of (rest past) p t)) (λ t. is_undo (verdict_of past p t)) (roles_of plan p)
      (λ t r. ap is_undo (verdict_left p t m past own))

  pub signals_left : (p : ℕ) → mine p ≡ true → (past : List Entry) → AllOwn plan past → (ts : List ℕ)
      → signals (rest past) p ts ≡ signals past p ts
  signals_left p m past own [] = refl
  signals_left p m past own (t ∷ ts) =
      ap₂ (λ a b. signal_in a ++ b) (verdict_left p t m past own) (signals_left p m past own ts)

  pub all_aborted_left : (p : ℕ) → mine p ≡ true → (past : List Entry) → AllOwn plan past
      → all_have_aborted lone (rest past) p ≡ all_have_aborted plan past p
  all_aborted_left p m past own =
      all_same (has_aborted (rest past) p) (has_aborted past p) (roles_of plan p)
      (λ t r. has_by_left plan mine group kind.Abort p t m past own)

  -- ---- the verdict that is due

  final_left : (p t : ℕ) → mine p ≡ true → (past : List Entry) → AllOwn plan past
      → final_verdict lone (rest past) p t ≡ final_verdict plan past p t
  final_left p t m past own =
      ap₂ (λ s a. cond (is_none s) (Some a.verdict) None) (step_left p t m past own) (program_left p t m past own)

  breaks_left : (p t : ℕ) → mine p ≡ true → (past : List Entry) → AllOwn plan past
      → breaks_off lone (rest past) p t ≡ breaks_off plan past p t
  breaks_left p t m past own = ap₂ (λ a s. a || not (is_none s)) (refused_left p t m past own) (raise_left p t m past own)

  pub due_left : (p t : ℕ) → mine p ≡ true → (past : List Entry) → AllOwn plan past
      → verdict_due lone (rest past) p t ≡ verdict_due plan past p t
  due_left p t m past own =
      rw (
        calm_left plan mine group plays p m past own,
        hot_left plan mine group plays p m past own,
        given_left p t m past own,
        final_left p t m past own,
        has_by_left plan mine group kind.Handle p t m past own,
        handling_left p t m past own,
        breaks_left p t m past own,
        resolved_left plan mine group plays p m past own,
      ) refl

  -- ---- ends and leaves

  pub undone_mark_left : (p : ℕ) → mine p ≡ true → (past : List Entry) → AllOwn plan past → undone_mark (rest past) p ≡ undone_mark past p
  undone_mark_left p m past own =
      ap₂ (λ a b. cond a (mark_of outcome.Failed) (cond b (mark_of outcome.Aborted) (mark_of outcome.Undone)))
      (failed_left plan mine group plays p m past own) (has_left plan mine group kind.Abort p m past own)

  deaf_left : (p : ℕ) → mine p ≡ true → (past : List Entry) → AllOwn plan past
      → is_deaf lone (rest past) (parent plan p) ≡ is_deaf plan past (parent plan p)
  deaf_left p m past own = by_parent (parent plan p) refl
    where
      by_parent : (o : Option ℕ) → parent plan p ≡ o → is_deaf lone (rest past) o ≡ is_deaf plan past o
      by_parent None h = refl
      by_parent (Some q) h = doomed_left plan mine group plays q (sym (inner_mine plan mine group p q h) ∙ m) past own

  pub carried_left : (p t : ℕ) → mine p ≡ true → (past : List Entry) → AllOwn plan past
      → exception_carried lone (rest past) p t ≡ exception_carried plan past p t
  carried_left p t m past own =
      ap₂ (λ a b. cond (a || b) None (outcome_mapped plan p (newest (is_in kind.End p) (rest past)) (newest (is_by kind.Abort p t) (rest past))))
      (deaf_left p m past own) (silence_left plan mine group plays p m past own)
      ∙ ap₂ (λ a b. cond (is_deaf plan past (parent plan p) || is_left_in_silence plan past p) None (outcome_mapped plan p a b))
      (end_left plan mine group plays p m past own)
      (newest_left plan mine group (is_by kind.Abort p t) (λ e w. by_mine plan mine group kind.Abort p t e m w) past own)

  -- ---- arrivals

  entered_left : (q t : ℕ) → mine q ≡ true → (past : List Entry) → AllOwn plan past → (s : Option Step)
      → place_entered lone (rest past) q t s ≡ place_entered plan past q t s
  entered_left q t m past own (Some (step.Enter k)) =
      first_same (λ p. has_by kind.Arrive (rest past) p t) (λ p. has_by kind.Arrive past p t) (alternates_of plan q k)
      (λ c n. has_by_left plan mine group kind.Arrive c t (group.below q k c n ∙ m) past own)
  entered_left q t m past own _ = refl

  pub play_left : (t : ℕ) → plays_of lone t ≡ plays_of plan t → ((p : ℕ) → member p (plays_of plan t) ≡ true → mine p ≡ true)
      → (past : List Entry) → AllOwn plan past → next_play lone (rest past) t ≡ next_play plan past t
  play_left t same there past own =
      ap (first_not (λ p. has_by kind.Arrive (rest past) p t)) same
      ∙ first_same (λ p. has_by kind.Arrive (rest past) p t) (λ p. has_by kind.Arrive past p t) (plays_of plan t)
      (λ p n. has_by_left plan mine group kind.Arrive p t (there p n) past own)

  pub arrival_left : (t : ℕ) → plays_of lone t ≡ plays_of plan t → ((p : ℕ) → member p (plays_of plan t) ≡ true → mine p ≡ true)
      → (past : List Entry) → AllOwn plan past → (o : Option ℕ) → ((q : ℕ) → o ≡ Some q → mine q ≡ true)
      → arrival lone (rest past) t o ≡ arrival plan past t o
  arrival_left t same there past own None h = play_left t same there past own
  arrival_left t same there past own (Some q) h =
      let m = h q refl in
      ap₂ (λ a b. cond (a && b) (place_entered lone (rest past) q t (next_step lone (rest past) q t)) None)
      (calm_left plan mine group plays q m past own) (able_left q t m past own)
      ∙ ap (λ x. cond (is_calm plan past q && is_able plan past q t) x None)
      (ap (place_entered lone (rest past) q t) (step_left q t m past own) ∙ entered_left q t m past own (next_step plan past q t))
