-- Who has no entry still has none after an entry of somebody else that doesn't wake it: what it waits for didn't come.
use Rattle.std.proofs.Common.{◌≡◌, ℕ, pos, ◌==◌, Bool, true, false, not, cond, ◌&&◌, ◌||◌, ◌⊎◌, List, [], ◌∷◌, ◌++◌, zero, suc, slice_get, Some, None, Option, refl, sym, ap, ◌∙◌, subst, inl, inr, is_none}
use Rattle.std.specs.List.{list_any, list_all}
use Rattle.std.proofs.lemmas.Bool.{and_parts, and_from, and_right, or_parts, or_left, or_right, eqb-true, eq-eqb, false≢true, cases_Bool, false_from_ne_true, both_ways}
use Rattle.caa_base.specs.declared.written.entry.Entry.{Entry}
use Rattle.caa_base.specs.declared.written.entry.Kind.{Kind}
use Rattle.caa_base.specs.declared.written.entry.Kind.TheVariants as kind
use Rattle.place_plan.specs.declared.drafts.draft_rows.Step.{Step}
use Rattle.place_plan.specs.declared.drafts.draft_rows.Step.TheVariants as step
use Rattle.place_plan.specs.Plans.PlanValue.{Plan}
use Rattle.caa_base.specs.Written.Lists.{member, is_at, is_empty, same_option, first_not}
use Rattle.place_plan.specs.Plans.Places.{around, parent, roles_of, objects_of, uses, plays_of, alternates_of, internal_of, fault_of}
use Rattle.place_plan.specs.RulesOfJournals.Entries.{is_in, is_by, has, has_by}
use Rattle.place_plan.specs.RulesOfJournals.Whereabouts.{inside, inside_after, is_inside, all_are_inside, has_started, has_ended, is_undoing}
use Rattle.place_plan.specs.RulesOfJournals.Raising.{has_handled, raises_in, exceptions_raised, is_raised, is_doomed, halts_in, is_halted, all_are_halted, exception_resolved, exception_handled}
use Rattle.place_plan.specs.RulesOfJournals.Objects.{holder_of, holder_after, objects_are_ready, next_restore}
use Rattle.place_plan.specs.RulesOfJournals.Roles.{advances, gives_value, position, register, program_in, next_step, next_raise, raise_of, has_given, has_given_after, all_have_given, was_refused_in_handler, verdict_at, verdict_of, is_undo, wants_undo, signal_in, signals, has_aborted, all_have_aborted, gathers, next_play}
use Rattle.place_plan.specs.RulesOfJournals.Rules.{Row, MayFollow, breaks_off}
use Rattle.place_plan.specs.RulesOfJournals.Journals.{LegalPast, HasNoEntry}
use Rattle.journal_laws.specs.Laws.{Holds, has_role_in, wakes_by, wakes, SleepsOn}
use Rattle.journal_laws.specs.Due.{plainly, due_of, due_at, due_arrival, due_inside, due_waiting, due_live, due_restore, due_doomed, due_hot, due_running, due_halted, due_resolve, due_resolved, due_answer, due_handler, due_calm, due_body, due_forward, due_step, due_held, due_agreed, due_end, DueIsRight, least_of}
use Rattle.caa_base.proofs.ListLemmas.{failed}
use Rattle.place_plan.proofs.OnJournals.EntryKinds.{of_kind}
use Rattle.journal_laws.proofs.Playable.{IsPlayable}
use Rattle.journal_laws.proofs.Options.{some_apart}
use Rattle.journal_laws.proofs.Phases.{Phase, at_end, at_wait, at_undo, at_doom, at_hot, at_calm, phase_of, going_parts}
use Rattle.journal_laws.proofs.Raised.{all_up, role_inside, busy_inside, parent_round}

-- ---- small words

-- the branch that isn't taken, and the one that is
passed : {A : Type 0} (b : Bool) (x y : A) → b ≡ false → cond b x y ≡ y
passed b x y h = ap (λ c. cond c x y) h

taken : {A : Type 0} (b : Bool) (x y : A) → b ≡ true → cond b x y ≡ x
taken b x y h = ap (λ c. cond c x y) h

-- the same of a test that is turned round
not_passed : {A : Type 0} (b : Bool) (x y : A) → b ≡ true → cond (not b) x y ≡ y
not_passed b x y h = ap (λ c. cond (not c) x y) h

not_taken : {A : Type 0} (b : Bool) (x y : A) → b ≡ false → cond (not b) x y ≡ x
not_taken b x y h = ap (λ c. cond (not c) x y) h

-- where the first branch is some, the second is taken
skipped : {A : Type 0} (b : Bool) (x : A) (y : Option A) → cond b (Some x) y ≡ None → (b ≡ false) × (y ≡ None)
skipped true x y h = absurd cc
skipped false x y h = (refl, h)

-- tests that agree on each member of a list agree on the list
any_same : (f g : ℕ → Bool) (xs : List ℕ) → ((x : ℕ) → member x xs ≡ true → f x ≡ g x) → list_any f xs ≡ list_any g xs
any_same f g [] h = refl
any_same f g (x ∷ xs) h =
    let here : f x ≡ g x = h x (or_left _ _ (eq-eqb x x refl)) in
    let rest = any_same f g xs (λ y m. h y (or_right (x == y) _ m)) in
    (λ i. here i || rest i)

-- who makes no entry of its own stays where it is
others_stay : (plan : Plan) (k : Kind) (p : ℕ) (was : Option ℕ) → inside_after plan k p false was ≡ was
others_stay plan kind.Arrive p was = refl
others_stay plan kind.Withdraw p was = refl
others_stay plan kind.Leave p was = refl
others_stay plan _ p was = refl

-- ---- places in which t has a role, and those that an entry that doesn't wake t leaves alone

-- an entry of this kind, in the place of x, doesn't wake t; `now` are the entries with it
abbrev Unwoken : Plan → ℕ → List Entry → Kind → Entry → Type 0
Unwoken plan t now k x = gathers plan now x.place k && wakes_by plan k x.place t ≡ false

module _ (plan : Plan) (t : ℕ) (now : List Entry) where
  place_apart : (x p : ℕ) → member t (roles_of plan x) ≡ false → member t (roles_of plan p) ≡ true → (x == p) ≡ false
  place_apart x p off m =
      false_from_ne_true _ (λ s. both_ways _ off (subst (λ a. member t (roles_of plan a) ≡ true) (sym (eqb-true x p s)) m))

  at_apart : (o : Option ℕ) (p : ℕ) → has_role_in plan t o ≡ false → member t (roles_of plan p) ≡ true → is_at o p ≡ false
  at_apart None p off m = refl
  at_apart (Some x) p off m = place_apart x p off m

  same_apart : (o : Option ℕ) (p : ℕ) → has_role_in plan t o ≡ false → member t (roles_of plan p) ≡ true → same_option o (Some p) ≡ false
  same_apart None p off m = refl
  same_apart (Some x) p off m = place_apart x p off m

  -- what would wake t in p, if all roles were together there, comes elsewhere; or they aren't
  still_missing : (together : ℕ → Bool) (x p : ℕ) → together x && member t (roles_of plan x) ≡ false
      → member t (roles_of plan p) ≡ true → ((x == p) ≡ false) ⊎ (together p ≡ false)
  still_missing together x p w m = elim (cases_Bool (x == p)) [
    | inl s ↦
        let here = subst (λ a. together a && member t (roles_of plan a) ≡ false) (eqb-true x p s) w in
        inr (false_from_ne_true (together p) (λ all. both_ways _ here (and_from _ _ all m)))
    | inr apart ↦ inl apart
  ]

  arrives_apart : (k : Kind) (x : Entry) (p : ℕ) → Unwoken plan t now k x → member t (roles_of plan p) ≡ true
      → (is_in kind.Arrive p (of_kind k x) ≡ false) ⊎ (all_are_inside plan now p ≡ false)
  arrives_apart kind.Arrive x p w m = still_missing (all_are_inside plan now) x.place p w m
  arrives_apart _ x p w m = inl refl

  informs_apart : (k : Kind) (x : Entry) (p : ℕ) → Unwoken plan t now k x → member t (roles_of plan p) ≡ true
      → (is_in kind.Inform p (of_kind k x) ≡ false) ⊎ (all_are_halted plan now p ≡ false)
  informs_apart kind.Inform x p w m = still_missing (all_are_halted plan now) x.place p w m
  informs_apart _ x p w m = inl refl

  says_apart : (k : Kind) (x : Entry) (p : ℕ) → Unwoken plan t now k x → member t (roles_of plan p) ≡ true
      → (is_in kind.Verdict p (of_kind k x) ≡ false) ⊎ (all_have_given plan now p ≡ false)
  says_apart kind.Verdict x p w m = still_missing (all_have_given plan now) x.place p w m
  says_apart _ x p w m = inl refl

  aborts_apart : (k : Kind) (x : Entry) (p : ℕ) → Unwoken plan t now k x → member t (roles_of plan p) ≡ true
      → (is_in kind.Abort p (of_kind k x) ≡ false) ⊎ (all_have_aborted plan now p ≡ false)
  aborts_apart kind.Abort x p w m = still_missing (all_have_aborted plan now) x.place p w m
  aborts_apart _ x p w m = inl refl

  raises_apart : (past : List Entry) (k : Kind) (x : Entry) (p : ℕ) → Unwoken plan t now k x
      → member t (roles_of plan p) ≡ true → raises_in plan past p (of_kind k x) k ≡ []
  raises_apart past kind.Raise x p w m = passed _ _ _ (place_apart x.place p w m)
  raises_apart past kind.PutFault x p w m =
      ap (λ b. cond (b && not (has_handled past p x.by)) (fault_of plan p ∷ []) []) (place_apart x.place p w m)
  raises_apart past kind.Leave x p w m = ap (λ b. cond (b && (x.mark == 1)) (x.arg ∷ []) []) (at_apart (parent plan x.place) p w m)
  raises_apart past _ x p w m = refl

  halts_apart : (past : List Entry) (k : Kind) (x : Entry) (p : ℕ) → Unwoken plan t now k x → member t (roles_of plan p) ≡ true
      → is_in kind.Inform p (of_kind k x) ≡ false → halts_in plan past p (of_kind k x) k ≡ false
  halts_apart past kind.Raise x p w m off = place_apart x.place p w m
  halts_apart past kind.Inform x p w m off = off
  halts_apart past kind.PutFault x p w m off = ap (λ b. b && not (has_handled past p x.by)) (place_apart x.place p w m)
  halts_apart past kind.Leave x p w m off = ap (λ b. b && (x.mark == 1)) (at_apart (parent plan x.place) p w m)
  halts_apart past _ x p w m off = refl

  -- who is in p afterwards, where nobody arrives there, was in it before
  inside_before : (k : Kind) (x : Entry) (p : ℕ) (own : Bool) (was : Option ℕ) → Unwoken plan t now k x
      → member t (roles_of plan p) ≡ true → is_in kind.Arrive p (of_kind k x) ≡ false
      → is_at (inside_after plan k x.place own was) p ≡ true → is_at was p ≡ true
  inside_before kind.Arrive x p true was w m off h = absurd (both_ways _ off h)
  inside_before kind.Arrive x p false was w m off h = h
  inside_before kind.Withdraw x p true was w m off h = absurd (both_ways _ (at_apart (parent plan x.place) p w m) h)
  inside_before kind.Withdraw x p false was w m off h = h
  inside_before kind.Leave x p true was w m off h = absurd (both_ways _ (at_apart (parent plan x.place) p w m) h)
  inside_before kind.Leave x p false was w m off h = h
  inside_before _ x p own was w m off h = h

-- ---- one entry, and somebody else who has none

module _ (plan : Plan) (playable : IsPlayable plan) (past : List Entry) (legal : LegalPast plan past) (e : Entry)
    (may : MayFollow plan past e) (t : ℕ) (other : (e.by == t) ≡ false) (unwoken : wakes plan (e ∷ past) e t ≡ false)
    (silent : HasNoEntry plan past t) where
  -- ---- what is t's own

  own_not : (k : Kind) (p : ℕ) → is_by k p t e ≡ false
  own_not k p = and_right (is_in k p e) _ other

  had_same : (k : Kind) (p : ℕ) → has_by k (e ∷ past) p t ≡ has_by k past p t
  had_same k p = λ i. own_not k p i || has_by k past p t

  handled_same : (p : ℕ) → exception_handled (e ∷ past) p t ≡ exception_handled past p t
  handled_same p = λ i. cond (own_not kind.Handle p i) (Some e.arg) (exception_handled past p t)

  position_same : (p : ℕ) → position plan (e ∷ past) p t ≡ position plan past p t
  position_same p =
      let still : (advances plan past p e e.kind && (e.by == t)) ≡ false = and_right _ _ other in
      (λ i. cond (own_not kind.Handle p i) zero (cond (still i) (suc (position plan past p t)) (position plan past p t)))

  register_same : (p : ℕ) → register plan (e ∷ past) p t ≡ register plan past p t
  register_same p =
      let still : (gives_value e.kind && ((e.place == p) && (e.by == t))) ≡ false =
      and_right (gives_value e.kind) _ (and_right (e.place == p) _ other) in
      (λ i. cond (own_not kind.Handle p i) (pos 0) (cond (still i) e.value (register plan past p t)))

  step_same : (p : ℕ) → next_step plan (e ∷ past) p t ≡ next_step plan past p t
  step_same p = λ i. slice_get (program_in plan p t (handled_same p i)).steps (position_same p i)

  raise_same : (p : ℕ) → next_raise plan (e ∷ past) p t ≡ next_raise plan past p t
  raise_same p = λ i. raise_of (step_same p i) (register_same p i)

  refused_same : (p : ℕ) → was_refused_in_handler (e ∷ past) p t ≡ was_refused_in_handler past p t
  refused_same p =
      λ i. cond (own_not kind.Handle p i) false
      (cond (own_not kind.PutFault p i) (has_by kind.Handle past p t) (was_refused_in_handler past p t))

  breaks_same : (p : ℕ) → breaks_off plan (e ∷ past) p t ≡ breaks_off plan past p t
  breaks_same p = λ i. refused_same p i || not (is_none (raise_same p i))

  inside_same : inside plan (e ∷ past) t ≡ inside plan past t
  inside_same = ap (λ own. inside_after plan e.kind e.place own (inside plan past t)) other
      ∙ others_stay plan e.kind e.place (inside plan past t)

  own_halted : (p : ℕ) → is_halted plan (e ∷ past) p t ≡ is_halted plan past p t
  own_halted p = let still = and_right (halts_in plan past p e e.kind) _ other in (λ i. still i || is_halted plan past p t)

  play_same : next_play plan (e ∷ past) t ≡ next_play plan past t
  play_same = λ i. first_not (λ p. had_same kind.Arrive p i) (plays_of plan t)

  -- ---- places in which t has a role

  raised_same : (p : ℕ) → member t (roles_of plan p) ≡ true → exceptions_raised plan (e ∷ past) p ≡ exceptions_raised plan past p
  raised_same p m = λ i. raises_apart plan t (e ∷ past) past e.kind e p unwoken m i ++ exceptions_raised plan past p

  hot_same : (p : ℕ) → member t (roles_of plan p) ≡ true → is_raised plan (e ∷ past) p ≡ is_raised plan past p
  hot_same p m = λ i. not (is_empty (raised_same p m i))

  doom_same : (p : ℕ) → member t (roles_of plan p) ≡ true → is_doomed plan (e ∷ past) p ≡ is_doomed plan past p
  doom_same p m =
      any_same (λ q. is_raised plan (e ∷ past) q) (λ q. is_raised plan past q) (around plan p)
      (λ q r. hot_same q (playable.tree.roles_in q p t r m))

  all_halted_same : (p : ℕ) → member t (roles_of plan p) ≡ true → is_in kind.Inform p e ≡ false
      → all_are_halted plan (e ∷ past) p ≡ all_are_halted plan past p
  all_halted_same p m apart =
      let still = halts_apart plan t (e ∷ past) past e.kind e p unwoken m apart in
      (λ i. list_all (λ r. (still i && (e.by == r)) || is_halted plan past p r) (roles_of plan p))

  not_all_aborted : (p : ℕ) → member t (roles_of plan p) ≡ true → all_have_aborted plan past p ≡ false
      → all_have_aborted plan (e ∷ past) p ≡ false
  not_all_aborted p m off = elim (aborts_apart plan t (e ∷ past) e.kind e p unwoken m) [
    | inl apart ↦ (λ i. list_all (λ r. (apart i && (e.by == r)) || has_aborted past p r) (roles_of plan p)) ∙ off
    | inr still ↦ still
  ]

  together_before : (p : ℕ) → member t (roles_of plan p) ≡ true → all_are_inside plan (e ∷ past) p ≡ true
      → all_are_inside plan past p ≡ true
  together_before p m w = elim (arrives_apart plan t (e ∷ past) e.kind e p unwoken m) [
    | inl apart ↦
        all_up (is_inside plan (e ∷ past) p) (is_inside plan past p) (roles_of plan p)
        (λ r. inside_before plan t (e ∷ past) e.kind e p (e.by == r) (inside plan past r) unwoken m apart) w
    | inr still ↦ absurd (both_ways _ still w)
  ]

  -- ---- places in which no verdict is given

  verdict_same : (p r : ℕ) → is_in kind.Verdict p e ≡ false → verdict_of (e ∷ past) p r ≡ verdict_of past p r
  verdict_same p r apart = λ i. cond (apart i && (e.by == r)) (Some (verdict_at e)) (verdict_of past p r)

  wants_same : (p : ℕ) → is_in kind.Verdict p e ≡ false → wants_undo plan (e ∷ past) p ≡ wants_undo plan past p
  wants_same p apart = λ i. list_any (λ r. is_undo (verdict_same p r apart i)) (roles_of plan p)

  signals_same : (p : ℕ) → is_in kind.Verdict p e ≡ false → (rs : List ℕ) → signals (e ∷ past) p rs ≡ signals past p rs
  signals_same p apart [] = refl
  signals_same p apart (r ∷ rs) = let rest = signals_same p apart rs in (λ i. signal_in (verdict_same p r apart i) ++ rest i)

  -- ---- the place that t is in

  module _ (p : ℕ) (here : inside plan past t ≡ Some p) (role : member t (roles_of plan p) ≡ true) where
    -- what any of its roles may do, t may do
    start_apart_by : (k : Kind) (x : Entry) → Row k plan past (of_kind k x) → is_in kind.Start p (of_kind k x) ≡ false
    start_apart_by kind.Start x h = false_from_ne_true _ (λ s.
        let own : Entry = record x { kind = kind.Start; by = t } in
        silent own refl (record {
          here = here ∙ ap Some (sym (eqb-true x.place p s));
          waits = h.waits;
          spared = h.spared;
          together = h.together;
          ready = h.ready;
          plain = record { arg = h.plain.arg; mark = h.plain.mark; value = h.plain.value };
        }))
    start_apart_by _ x h = refl

    resolve_apart_by : (k : Kind) (x : Entry) → Row k plan past (of_kind k x) → is_in kind.Resolve p (of_kind k x) ≡ false
    resolve_apart_by kind.Resolve x h = false_from_ne_true _ (λ s.
        let own : Entry = record x { kind = kind.Resolve; by = t } in
        silent own refl (record {
          here = here ∙ ap Some (sym (eqb-true x.place p s));
          when = h.when;
          together = h.together;
          fresh = h.fresh;
          least = h.least;
          mark = h.mark;
          value = h.value;
        }))
    resolve_apart_by _ x h = refl

    undo_apart_by : (k : Kind) (x : Entry) → Row k plan past (of_kind k x) → is_in kind.Undo p (of_kind k x) ≡ false
    undo_apart_by kind.Undo x h = false_from_ne_true _ (λ s.
        let own : Entry = record x { kind = kind.Undo; by = t } in
        silent own refl (record {
          here = here ∙ ap Some (sym (eqb-true x.place p s));
          when = h.when;
          agreed = h.agreed;
          plain = record { arg = h.plain.arg; mark = h.plain.mark; value = h.plain.value };
        }))
    undo_apart_by _ x h = refl

    -- the end of p wakes t, which has a role in the place round p, if there is one
    role_around : (q : ℕ) → parent plan p ≡ Some q → member t (roles_of plan q) ≡ true
    role_around q u = playable.tree.roles_in q p t (parent_round plan playable.tree p q u) role

    round_wakes : (o : Option ℕ) → parent plan p ≡ o → is_none o || has_role_in plan t o ≡ true
    round_wakes None u = refl
    round_wakes (Some q) u = role_around q u

    end_apart_by : (k : Kind) (x : Entry) → Unwoken plan t (e ∷ past) k x → is_in kind.End p (of_kind k x) ≡ false
    end_apart_by kind.End x w = false_from_ne_true _ (λ s.
        both_ways _ w (subst (λ a. is_none (parent plan a) || has_role_in plan t (parent plan a) ≡ true) (sym (eqb-true x.place p s))
        (round_wakes (parent plan p) refl)))
    end_apart_by _ x w = refl

    start_apart : is_in kind.Start p e ≡ false
    start_apart = start_apart_by e.kind e may

    started_same : has_started (e ∷ past) p ≡ has_started past p
    started_same = λ i. start_apart i || has_started past p

    ended_same : has_ended (e ∷ past) p ≡ has_ended past p
    ended_same = let off = end_apart_by e.kind e unwoken in (λ i. off i || has_ended past p)

    undoing_same : is_undoing (e ∷ past) p ≡ is_undoing past p
    undoing_same = let off = undo_apart_by e.kind e may in (λ i. off i || is_undoing past p)

    resolve_apart : is_in kind.Resolve p e ≡ false
    resolve_apart = resolve_apart_by e.kind e may

    resolved_same : exception_resolved (e ∷ past) p ≡ exception_resolved past p
    resolved_same = λ i. cond (resolve_apart i) (Some e.arg) (exception_resolved past p)

    given_same : (r : ℕ) → is_by kind.Verdict p r e ≡ false → has_given plan (e ∷ past) p r ≡ has_given plan past p r
    given_same r apart =
        λ i. cond (hot_same p role i)
        (cond (resolve_apart i) false (cond (apart i) (has kind.Resolve past p) (has_given_after past p r)))
        (apart i || has_by kind.Verdict past p r)

    own_given : has_given plan (e ∷ past) p t ≡ has_given plan past p t
    own_given = given_same t (own_not kind.Verdict p)

    all_given_same : is_in kind.Verdict p e ≡ false → all_have_given plan (e ∷ past) p ≡ all_have_given plan past p
    all_given_same apart = λ i. list_all (λ r. given_same r (λ j. apart j && (e.by == r)) i) (roles_of plan p)

    agreed_same : is_in kind.Verdict p e ≡ false → due_agreed plan (e ∷ past) p t ≡ due_agreed plan past p t
    agreed_same apart =
        λ i. cond (not (all_given_same apart i)) None
        (cond (wants_same p apart i) (Some (plainly kind.Undo p t)) (due_end plan p t (signals_same p apart (roles_of plan p) i)))

    -- ---- objects that are there

    -- an object that goes over to p is its own, and p started earlier; or a place right inside p ended, which wakes t
    held_before : (k : Kind) (x : Entry) (o : ℕ) (was : Option ℕ) → is_in kind.Start p (of_kind k x) ≡ false
        → Unwoken plan t (e ∷ past) k x → same_option (holder_after plan k x.place o was) (Some p) ≡ true
        → same_option was (Some p) ≡ true
    held_before kind.Start x o was s w h = by_use (uses plan x.place o) h
      where
        by_use : (b : Bool) → same_option (cond b (Some x.place) was) (Some p) ≡ true → same_option was (Some p) ≡ true
        by_use true h = absurd (both_ways _ s h)
        by_use false h = h
    held_before kind.End x o was s w h = by_use (uses plan x.place o) h
      where
        by_use : (b : Bool) → same_option (cond b (parent plan x.place) was) (Some p) ≡ true → same_option was (Some p) ≡ true
        by_use true h =
            absurd (both_ways _ (same_apart plan t (e ∷ past) (parent plan x.place) p (or_parts (is_none (parent plan x.place)) _ w).1 role) h)
        by_use false h = h
    held_before _ x o was s w h = h

    not_held : (o : ℕ) → same_option (holder_of plan past o) (Some p) ≡ false → same_option (holder_of plan (e ∷ past) o) (Some p) ≡ false
    not_held o off = false_from_ne_true _ (λ w. both_ways _ off (held_before e.kind e o (holder_of plan past o) start_apart unwoken w))

    -- the place round p started before t came to p
    round_started : (x : ℕ) → same_option (Some x) (parent plan p) ≡ true → has_started past x ≡ true
    round_started x h = by_parent (parent plan p) refl h
      where
        by_parent : (o : Option ℕ) → parent plan p ≡ o → same_option (Some x) o ≡ true → has_started past x ≡ true
        by_parent None u h = absurd (false≢true h)
        by_parent (Some q) u h =
            let busy = busy_inside plan playable.tree past legal t q p here (parent_round plan playable.tree p q u) in
            subst (λ a. has_started past a ≡ true) (sym (eqb-true x q h)) (going_parts past q busy.goes).started

    -- what the end of a place gives back to the place round p, or makes free where p is a play, wakes t
    gives_nothing : (o : Option ℕ) → is_none o || has_role_in plan t o ≡ false → same_option o (parent plan p) ≡ true → ⊥
    gives_nothing o w h = by_parent (parent plan p) refl h
      where
        free : (a : Option ℕ) → is_none a ≡ false → same_option a None ≡ true → ⊥
        free None off h = both_ways _ off refl
        free (Some x) off h = false≢true h

        by_parent : (u : Option ℕ) → parent plan p ≡ u → same_option o u ≡ true → ⊥
        by_parent None u h = free o (or_parts (is_none o) _ w).0 h
        by_parent (Some q) u h = both_ways _ (same_apart plan t (e ∷ past) o q (or_parts (is_none o) _ w).1 (role_around q u)) h

    ready_before : (k : Kind) (x : Entry) (o : ℕ) (was : Option ℕ) → Row k plan past (of_kind k x)
        → Unwoken plan t (e ∷ past) k x → same_option (holder_after plan k x.place o was) (parent plan p) ≡ true
        → same_option was (parent plan p) ≡ true
    ready_before kind.Start x o was row w h = by_use (uses plan x.place o) h
      where
        by_use : (b : Bool) → same_option (cond b (Some x.place) was) (parent plan p) ≡ true → same_option was (parent plan p) ≡ true
        by_use true h = absurd (both_ways _ row.waits (round_started x.place h))
        by_use false h = h
    ready_before kind.End x o was row w h = by_use (uses plan x.place o) h
      where
        by_use : (b : Bool) → same_option (cond b (parent plan x.place) was) (parent plan p) ≡ true → same_option was (parent plan p) ≡ true
        by_use true h = absurd (gives_nothing (parent plan x.place) w h)
        by_use false h = h
    ready_before _ x o was row w h = h

    ready_then : objects_are_ready plan (e ∷ past) p ≡ true → objects_are_ready plan past p ≡ true
    ready_then =
        all_up (λ o. same_option (holder_of plan (e ∷ past) o) (parent plan p)) (λ o. same_option (holder_of plan past o) (parent plan p))
        (objects_of plan p) (λ o. ready_before e.kind e o (holder_of plan past o) may unwoken)

    -- ---- what was due to t stays none

    held_on : (o : ℕ) (y z : Entry) → due_held plan past p o y ≡ None → due_held plan (e ∷ past) p o z ≡ None
    held_on o y z d = passed _ _ _ (not_held o (failed _ y d))

    step_on : (s : Option Step) → due_step plan past p t s ≡ None → due_step plan (e ∷ past) p t s ≡ None
    step_on None d = absurd cc
    step_on (Some (step.Read o)) d = held_on o _ _ d
    step_on (Some (step.Put o v)) d = held_on o _ _ d
    step_on (Some (step.Add o v)) d = held_on o _ _ d
    step_on (Some (step.Work k)) d = absurd cc
    step_on (Some (step.Check a b x)) d = absurd cc
    step_on (Some (step.Raise x)) d = refl
    step_on (Some (step.Enter k)) d = refl

    forward_on : (s : Option Step) → due_forward plan past p t s ≡ None → due_forward plan (e ∷ past) p t s ≡ None
    forward_on None d = step_on None d
    forward_on (Some (step.Read o)) d = step_on (Some (step.Read o)) d
    forward_on (Some (step.Put o v)) d = step_on (Some (step.Put o v)) d
    forward_on (Some (step.Add o v)) d = step_on (Some (step.Add o v)) d
    forward_on (Some (step.Work k)) d = step_on (Some (step.Work k)) d
    forward_on (Some (step.Check a b x)) d = step_on (Some (step.Check a b x)) d
    forward_on (Some (step.Raise x)) d = refl
    forward_on (Some (step.Enter k)) d =
        (λ i. due_arrival t (first_not (λ c. had_same kind.Arrive c i) (alternates_of plan p k))) ∙ d

    body_on : (x : Option ℕ) → due_body plan past p t x ≡ None → due_body plan (e ∷ past) p t x ≡ None
    body_on (Some x) d = absurd cc
    body_on None d =
        ap (due_forward plan (e ∷ past) p t) (step_same p) ∙ forward_on (next_step plan past p t) d

    agreed_on : due_agreed plan past p t ≡ None → due_agreed plan (e ∷ past) p t ≡ None
    agreed_on d = elim (says_apart plan t (e ∷ past) e.kind e p unwoken role) [
      | inl apart ↦ agreed_same apart ∙ d
      | inr still ↦ not_taken _ _ _ still
    ]

    calm_on : due_calm plan past p t ≡ None → due_calm plan (e ∷ past) p t ≡ None
    calm_on d = elim (cases_Bool (has_given plan past p t)) [
      | inl g ↦ taken _ _ _ (own_given ∙ g) ∙ agreed_on (sym (taken _ _ _ g) ∙ d)
      | inr g ↦
          passed _ _ _ (own_given ∙ g) ∙ ap (due_body plan (e ∷ past) p t) (raise_same p)
          ∙ body_on (next_raise plan past p t) (sym (passed _ _ _ g) ∙ d)
    ]

    handler_on : due_handler plan past p t ≡ None → due_handler plan (e ∷ past) p t ≡ None
    handler_on d =
        let parts = skipped (breaks_off plan past p t) _ _ d in
        passed _ _ _ (breaks_same p ∙ parts.0) ∙ ap (due_step plan (e ∷ past) p t) (step_same p)
        ∙ step_on (next_step plan past p t) parts.1

    resolved_on : (x : ℕ) → due_resolved plan past p t x ≡ None → due_resolved plan (e ∷ past) p t x ≡ None
    resolved_on x d = elim (cases_Bool (has_given plan past p t)) [
      | inl g ↦ taken _ _ _ (own_given ∙ g) ∙ agreed_on (sym (taken _ _ _ g) ∙ d)
      | inr g ↦ passed _ _ _ (own_given ∙ g) ∙ by_handler (cases_Bool (has_handled past p t)) (sym (passed _ _ _ g) ∙ d)
    ]
      where
        by_handler : (has_handled past p t ≡ true) ⊎ (has_handled past p t ≡ false)
            → cond (has_handled past p t) (due_handler plan past p t) (due_answer plan p t x) ≡ None
            → cond (has_handled (e ∷ past) p t) (due_handler plan (e ∷ past) p t) (due_answer plan p t x) ≡ None
        by_handler (inl h) d = taken _ _ _ (had_same kind.Handle p ∙ h) ∙ handler_on (sym (taken _ _ _ h) ∙ d)
        by_handler (inr h) d = passed _ _ _ (had_same kind.Handle p ∙ h) ∙ sym (passed _ _ _ h) ∙ d

    halted_on : (x : Option ℕ) → due_halted plan past p t x ≡ None → due_halted plan (e ∷ past) p t x ≡ None
    halted_on (Some x) d = resolved_on x d
    halted_on None d = elim (informs_apart plan t (e ∷ past) e.kind e p unwoken role) [
      | inl apart ↦
          (λ i. cond (all_halted_same p role apart i) (due_resolve p t (least_of (internal_of plan p) (raised_same p role i))) None) ∙ d
      | inr still ↦ passed _ _ _ still
    ]

    runs : (x : Option ℕ) → due_running p t x ≡ None → ⊥
    runs None d = cc
    runs (Some x) d = cc

    hot_on : due_hot plan past p t ≡ None → due_hot plan (e ∷ past) p t ≡ None
    hot_on d = elim (cases_Bool (is_halted plan past p t)) [
      | inl h ↦
          not_passed _ _ _ (own_halted p ∙ h) ∙ ap (due_halted plan (e ∷ past) p t) resolved_same
          ∙ halted_on (exception_resolved past p) (sym (not_passed _ _ _ h) ∙ d)
      | inr h ↦ absurd (runs (next_raise plan past p t) (sym (not_taken _ _ _ h) ∙ d))
    ]

    doomed_on : due_doomed plan past p t ≡ None → due_doomed plan (e ∷ past) p t ≡ None
    doomed_on d = elim (cases_Bool (has_aborted past p t)) [
      | inl a ↦
          taken _ _ _ (had_same kind.Abort p ∙ a)
          ∙ passed _ _ _ (not_all_aborted p role (failed _ _ (sym (taken _ _ _ a) ∙ d)))
      | inr a ↦
          let apart = failed _ _ (sym (passed _ _ _ a) ∙ d) in
          passed _ _ _ (had_same kind.Abort p ∙ a)
          ∙ passed _ _ _ (false_from_ne_true _ (λ w. both_ways _ apart (together_before p role w)))
    ]

    waiting_on : due_waiting plan past p t ≡ None → due_waiting plan (e ∷ past) p t ≡ None
    waiting_on d =
        let parts = skipped (is_doomed plan past p) _ _ d in
        let off = failed (all_are_inside plan past p && objects_are_ready plan past p) _ parts.1 in
        passed _ _ _ (doom_same p role ∙ parts.0)
        ∙ passed _ _ _ (false_from_ne_true (all_are_inside plan (e ∷ past) p && objects_are_ready plan (e ∷ past) p) (λ w.
        let both = and_parts (all_are_inside plan (e ∷ past) p) _ w in
        both_ways _ off (and_from _ _ (together_before p role both.0) (ready_then both.1))))

    inside_on : due_inside plan past p t ≡ None → due_inside plan (e ∷ past) p t ≡ None
    inside_on d = by_phase (phase_of plan past p) parts.1
      where
        parts : (has_ended past p ≡ false) × (cond (has_started past p) (due_live plan past p t) (due_waiting plan past p t) ≡ None)
        parts = skipped (has_ended past p) _ _ d

        started_on : has_started past p ≡ true → due_live plan (e ∷ past) p t ≡ None → due_inside plan (e ∷ past) p t ≡ None
        started_on s l = passed _ _ _ (ended_same ∙ parts.0) ∙ taken _ _ _ (started_same ∙ s) ∙ l

        restores : (o : Option ℕ) → due_restore plan past p t o ≡ None → ⊥
        restores None d = cc
        restores (Some o) d = cc

        by_phase : Phase plan past p → cond (has_started past p) (due_live plan past p t) (due_waiting plan past p t) ≡ None
            → due_inside plan (e ∷ past) p t ≡ None
        by_phase (at_end f) d = absurd (both_ways _ parts.0 f)
        by_phase (at_wait f s) d =
            passed _ _ _ (ended_same ∙ f) ∙ passed _ _ _ (started_same ∙ s) ∙ waiting_on (sym (passed _ _ _ s) ∙ d)
        by_phase (at_undo f s u) d =
            absurd (restores (next_restore plan past p) (sym (taken _ _ _ u) ∙ sym (taken _ _ _ s) ∙ d))
        by_phase (at_doom f s u b) d =
            started_on s (passed _ _ _ (undoing_same ∙ u) ∙ taken _ _ _ (doom_same p role ∙ b)
            ∙ doomed_on (sym (taken _ _ _ b) ∙ sym (passed _ _ _ u) ∙ sym (taken _ _ _ s) ∙ d))
        by_phase (at_hot f s u b r) d =
            started_on s (passed _ _ _ (undoing_same ∙ u) ∙ passed _ _ _ (doom_same p role ∙ b) ∙ taken _ _ _ (hot_same p role ∙ r)
            ∙ hot_on (sym (taken _ _ _ r) ∙ sym (passed _ _ _ b) ∙ sym (passed _ _ _ u) ∙ sym (taken _ _ _ s) ∙ d))
        by_phase (at_calm f s u b r) d =
            started_on s (passed _ _ _ (undoing_same ∙ u) ∙ passed _ _ _ (doom_same p role ∙ b) ∙ passed _ _ _ (hot_same p role ∙ r)
            ∙ calm_on (sym (passed _ _ _ r) ∙ sym (passed _ _ _ b) ∙ sym (passed _ _ _ u) ∙ sym (taken _ _ _ s) ∙ d))

  due_on : due_of plan past t ≡ None → due_of plan (e ∷ past) t ≡ None
  due_on d = ap (due_at plan (e ∷ past) t) inside_same ∙ by_place (inside plan past t) refl d
    where
      by_place : (o : Option ℕ) → inside plan past t ≡ o → due_at plan past t o ≡ None → due_at plan (e ∷ past) t o ≡ None
      by_place None w d = ap (due_arrival t) play_same ∙ d
      by_place (Some p) w d = inside_on p w (role_inside plan playable.tree past legal t p w) d

-- to whom the rules give nothing
nothing_due : (plan : Plan) (past : List Entry) (t : ℕ) → DueIsRight plan past → HasNoEntry plan past t → due_of plan past t ≡ None
nothing_due plan past t right silent = by_due (due_of plan past t) refl
  where
    by_due : (o : Option Entry) → due_of plan past t ≡ o → o ≡ None
    by_due None d = refl
    by_due (Some e) d = let may = right.may t e d in absurd (silent e may.1 may.0)

pub sleeps_on : (plan : Plan) → IsPlayable plan → Holds DueIsRight plan → Holds SleepsOn plan
sleeps_on plan playable right past legal e t may other unwoken silent f own k =
    let still = due_on plan playable past legal e may t other unwoken silent (nothing_due plan past t (right past legal) silent) in
    some_apart (sym still ∙ ap (due_of plan (e ∷ past)) (sym own) ∙ (right (e ∷ past) (legal, may)).only f k)
