-- Reaction law: what the device refused is raised, handled or told outside, or the effects of the place aren't kept.
use Rattle.std.proofs.Common.{◌≡◌, ℕ, ◌==◌, ◌<◌, Bool, true, false, cond, ◌&&◌, ◌||◌, List, [], ◌∷◌, ◌++◌, Option, Some, None, refl, sym, ap, ◌∙◌, subst, arith, inl, inr, MatchBool}
use Rattle.std.proofs.lemmas.Bool.{and_parts, or_cases, or_left, or_right, or_from, eqb-true, eq-eqb, false≢true, cases_Bool, not-true, false_from_ne_true, both_ways, MatchBool-at_true, cond-false}
use Rattle.caa_base.specs.declared.written.entry.Entry.{Entry}
use Rattle.caa_base.specs.declared.written.entry.Kind.{Kind}
use Rattle.caa_base.specs.declared.written.entry.Kind.TheVariants as kind
use Rattle.caa_base.specs.declared.written.entry.Outcome.TheVariants as outcome
use Rattle.place_plan.specs.Plans.PlanValue.{Plan}
use Rattle.caa_base.specs.Written.Lists.{member}
use Rattle.place_plan.specs.Plans.Places.{around, parent, roles_of, nest_of, fault_of}
use Rattle.place_plan.specs.RulesOfJournals.Entries.{is_of, is_in, is_by, has, has_by, newest}
use Rattle.place_plan.specs.RulesOfJournals.Whereabouts.{outcome_at, inside, has_ended, is_undoing, is_left_in_silence}
use Rattle.place_plan.specs.RulesOfJournals.Raising.{raises_in, exceptions_raised, has_handled, is_doomed}
use Rattle.place_plan.specs.RulesOfJournals.Objects.{has_failed}
use Rattle.place_plan.specs.RulesOfJournals.Roles.{is_handling, was_refused_in_handler}
use Rattle.place_plan.specs.RulesOfJournals.Rules.{Row, MayEnd, MayLeave, EndsUndone, EndsAgreed, Names, mapped_by_outcome, outcome_mapped, is_deaf, exception_carried}
use Rattle.place_plan.specs.RulesOfJournals.Journals.{LegalPast}
use Rattle.journal_laws.specs.Laws.{Holds, Splits, ReactionLaw, keeps_effects, is_kept_mark}
use Rattle.journal_laws.proofs.Playable.{IsPlayable}
use Rattle.journal_laws.proofs.Core.{Core}
use Rattle.caa_base.proofs.ListLemmas.{chosen}
use Rattle.place_plan.proofs.OnJournals.EntryKinds.{of_kind, both_same}
use Rattle.journal_laws.proofs.InnerFirst.{legal_rest, doom_after, started_filled, round_round}
use Rattle.journal_laws.proofs.Tree.{in_within}
use Rattle.journal_laws.proofs.Busy.{doom_stays, not_ending}
use Rattle.journal_laws.proofs.Raised.{busy_inside, parent_round}
use Rattle.journal_laws.proofs.Innermost.{stays_within}
use Rattle.journal_laws.proofs.Lives.{live_parts}
use Rattle.journal_laws.proofs.Phases.{going_parts}
use Rattle.journal_laws.proofs.Holding.{undoing_started, end_live}
use Rattle.journal_laws.proofs.Arrivals.{whereabouts, came, withdrew, whole}
use Rattle.journal_laws.proofs.Outcome.{newest_any, undone_marks, below_two}
use Rattle.journal_laws.proofs.Effects.{newest_split, any_newest, any_later, any_implied}
use Rattle.journal_laws.proofs.Makers.{maker_role}
use Rattle.journal_laws.proofs.Resolution.{given_after}
use Rattle.journal_laws.proofs.Covered.{covered, kept_agreed, nobody_asks, refused_asks, handled_raised}

-- ---- lists

in_longer : (x : ℕ) (xs ys : List ℕ) → member x ys ≡ true → member x (xs ++ ys) ≡ true
in_longer x [] ys m = m
in_longer x (y ∷ xs) ys m = or_right _ _ (in_longer x xs ys m)

-- what was raised stays raised
raised_later : (plan : Plan) (p x : ℕ) (later past : List Entry) → member x (exceptions_raised plan past p) ≡ true
    → member x (exceptions_raised plan (later ++ past) p) ≡ true
raised_later plan p x [] past m = m
raised_later plan p x (e ∷ later) past m =
    in_longer x (raises_in plan (later ++ past) p e e.kind) (exceptions_raised plan (later ++ past) p)
    (raised_later plan p x later past m)

-- a place that keeps its effects has ended
kept_ended : (past : List Entry) (p : ℕ) → keeps_effects past p ≡ true → has_ended past p ≡ true
kept_ended past p k = by_end (newest (is_in kind.End p) past) refl k
  where
    by_end : (o : Option Entry) → newest (is_in kind.End p) past ≡ o → is_kept_mark o ≡ true → has_ended past p ≡ true
    by_end None w k = absurd (false≢true k)
    by_end (Some f) w k = newest_any (is_in kind.End p) past f w

-- ---- one entry

-- a put that is refused is one in a handler, or raises the fault of its action
fault_by : (plan : Plan) (past : List Entry) (k : Kind) (e : Entry) (p : ℕ) → is_in kind.PutFault p (of_kind k e) ≡ true
    → (has_handled past p e.by ≡ true → was_refused_in_handler (of_kind k e ∷ past) p e.by ≡ true)
    × (has_handled past p e.by ≡ false → member (fault_of plan p) (exceptions_raised plan (of_kind k e ∷ past) p) ≡ true)
fault_by plan past kind.PutFault e p is = (
  λ f. rw (is, eq-eqb e.by e.by refl) f,
  λ f. rw (is, f) (or_left _ _ (eq-eqb (fault_of plan p) (fault_of plan p) refl)),
)
fault_by plan past _ e p is = absurd (false≢true is)

-- what is carried out of a place that failed
failure_carried : (plan : Plan) (past : List Entry) (c p t : ℕ) (f : Entry) → parent plan c ≡ Some p → is_doomed plan past p ≡ false
    → newest (is_in kind.End c) past ≡ Some f → f.mark ≡ 4 → exception_carried plan past c t ≡ Some (nest_of plan c).failure
failure_carried plan past c p t f up spared w mark =
    let deaf : is_deaf plan past (parent plan c) ≡ false = subst (λ o. is_deaf plan past o ≡ false) (sym up) spared in
    let loud : is_left_in_silence plan past c ≡ false = rw (w, mark) refl in
    let how : outcome_at f ≡ outcome.Failed = rw mark refl in
    cond-false (is_deaf plan past (parent plan c) || is_left_in_silence plan past c) _ _ (or_from _ _ deaf loud)
    ∙ ap (λ o. outcome_mapped plan c o (newest (is_by kind.Abort c t) past)) w
    ∙ ap (mapped_by_outcome plan c (newest (is_by kind.Abort c t) past)) how

-- who leaves such a place raises its failure outside
told_by : (plan : Plan) (past : List Entry) (k : Kind) (e : Entry) (c p : ℕ) (f : Entry) → Row k plan past (of_kind k e)
    → is_in kind.Leave c (of_kind k e) ≡ true → parent plan c ≡ Some p → is_doomed plan past p ≡ false
    → newest (is_in kind.End c) past ≡ Some f → f.mark ≡ 4
    → member (nest_of plan c).failure (exceptions_raised plan (of_kind k e ∷ past) p) ≡ true
told_by plan past kind.Leave e c p f h is up spared w mark =
    let same = eqb-true e.place c is in
    let carries : exception_carried plan past e.place e.by ≡ Some (nest_of plan c).failure =
    subst (λ a. exception_carried plan past a e.by ≡ Some (nest_of plan c).failure) (sym same)
    (failure_carried plan past c p e.by f up spared w mark) in
    let names = subst (Names (of_kind kind.Leave e)) carries h.carries in
    let out : parent plan e.place ≡ Some p = subst (λ a. parent plan a ≡ Some p) (sym same) up in
    let one : (e.mark == 1) ≡ true = eq-eqb e.mark 1 names.0 in
    rw (out, eq-eqb p p refl, one) (or_left _ _ (eq-eqb e.arg (nest_of plan c).failure names.1))
told_by plan past _ e c p f h is up spared w mark = absurd (false≢true is)

leave_row : (plan : Plan) (past : List Entry) (k : Kind) (e : Entry) (c : ℕ) → Row k plan past (of_kind k e)
    → is_in kind.Leave c (of_kind k e) ≡ true → MayLeave plan past (of_kind kind.Leave e) × (e.place ≡ c)
leave_row plan past kind.Leave e c h w = (h, eqb-true e.place c w)
leave_row plan past _ e c h w = absurd (false≢true w)

module _ (plan : Plan) (playable : IsPlayable plan) (core : Holds Core plan) where
  -- ---- puts

  -- a handler that was broken off by a refused put stays so
  refused_on : (past : List Entry) (k : Kind) (e : Entry) (p t : ℕ) → Row k plan past (of_kind k e)
      → has_handled past p t ≡ true → was_refused_in_handler past p t ≡ true
      → was_refused_in_handler (of_kind k e ∷ past) p t ≡ true
  refused_on past kind.Handle e p t h f w = elim (cases_Bool ((e.place == p) && (e.by == t))) [
    | inl x ↦
        let same = both_same e.place p e.by t x in
        let fresh : has_handled past p t ≡ false =
        subst (λ a. has_handled past p a ≡ false) same.1 (subst (λ a. has_handled past a e.by ≡ false) same.0 h.fresh) in
        absurd (both_ways _ fresh f)
    | inr x ↦ rw x w
  ]
  refused_on past kind.PutFault e p t h f w = elim (cases_Bool ((e.place == p) && (e.by == t))) [
    | inl x ↦ rw x f
    | inr x ↦ rw x w
  ]
  refused_on past _ e p t h f w = w

  refused_later : (later past : List Entry) (p t : ℕ) → LegalPast plan (later ++ past) → has_handled past p t ≡ true
      → was_refused_in_handler past p t ≡ true → was_refused_in_handler (later ++ past) p t ≡ true
  refused_later [] past p t legal f w = w
  refused_later (e ∷ later) past p t legal f w =
      refused_on (later ++ past) e.kind e p t legal.1 (any_later (is_by kind.Handle p t) later past f)
      (refused_later later past p t legal.0 f w)

  -- a place that keeps its effects has no put that was refused in a handler
  none_refused : (past later before : List Entry) (e : Entry) (p : ℕ) → LegalPast plan past → Splits past later e before
      → is_in kind.PutFault p e ≡ true → keeps_effects past p ≡ true → has_handled before p e.by ≡ false
  none_refused past later before e p legal split is k =
      let whole = subst (LegalPast plan) split legal in
      let here = legal_rest plan later (e ∷ before) whole in
      let agreed = kept_agreed plan playable core past legal p k in
      let role : member e.by (roles_of plan p) ≡ true =
      subst (λ a. member e.by (roles_of plan a) ≡ true) (eqb-true e.place p (and_parts (is_of kind.PutFault e) (e.place == p) is).1)
      (maker_role plan playable.tree before e here.0 here.1) in
      false_from_ne_true _ (λ f.
      let began : has_handled (e ∷ before) p e.by ≡ true = or_right _ _ f in
      let refused : was_refused_in_handler past p e.by ≡ true =
      subst (λ es. was_refused_in_handler es p e.by ≡ true) (sym split)
      (refused_later later (e ∷ before) p e.by whole began ((fault_by plan before e.kind e p is).0 f)) in
      let handled : has_handled past p e.by ≡ true =
      subst (λ es. has_handled es p e.by ≡ true) (sym split) (any_later (is_by kind.Handle p e.by) later (e ∷ before) began) in
      let raised = handled_raised plan playable core past legal p e.by handled in
      let given = given_after plan playable core past p e.by agreed.0 raised role in
      let done : is_handling past p e.by ≡ false = not-true _ (sym ((core past legal).says.handler p e.by handled) ∙ given) in
      nobody_asks plan playable core past p e.by agreed.1 role
      (refused_asks plan playable core past legal p e.by refused done))

  fault_raised : (past later before : List Entry) (e : Entry) (p : ℕ) → Splits past later e before
      → is_in kind.PutFault p e ≡ true → has_handled before p e.by ≡ false
      → member (fault_of plan p) (exceptions_raised plan past p) ≡ true
  fault_raised past later before e p split is f =
      subst (λ es. member (fault_of plan p) (exceptions_raised plan es p) ≡ true) (sym split)
      (raised_later plan p (fault_of plan p) later (e ∷ before) ((fault_by plan before e.kind e p is).1 f))

  -- ---- restores

  -- where a restore was refused, an undo has begun
  failed_undoing : (past : List Entry) → LegalPast plan past → (p : ℕ) → has_failed past p ≡ true → is_undoing past p ≡ true
  failed_undoing past legal p bad =
      (core past legal).tries.undone p
      (any_implied (λ e. is_in kind.Restore p e && (e.mark == 1)) (is_in kind.Restore p) past
      (λ e w. (and_parts (is_in kind.Restore p e) (e.mark == 1) w).0) bad)

  failed_by : (past : List Entry) (k : Kind) (e : Entry) (p : ℕ) (f : Entry) → LegalPast plan past
      → (has_failed past p ≡ true → newest (is_in kind.End p) past ≡ Some f → f.mark ≡ 4)
      → Row k plan past (of_kind k e) → has_failed (of_kind k e ∷ past) p ≡ true
      → newest (is_in kind.End p) (of_kind k e ∷ past) ≡ Some f → f.mark ≡ 4
  failed_by past kind.End e p f legal ih h bad w = elim (chosen (e.place == p) (Some (of_kind kind.End e)) _ (Some f) w) [
    | inl x ↦
        let same : of_kind kind.End e ≡ f = cc in
        let own : has_failed past e.place ≡ true = subst (λ a. has_failed past a ≡ true) (sym (eqb-true e.place p x.0)) bad in
        let ends : EndsUndone plan past (of_kind kind.End e) =
        MatchBool-at_true _ _ (failed_undoing past legal e.place own) h.how in
        subst (λ (g : Entry). g.mark ≡ 4) same
        (ends.mark ∙ ap (λ b. cond b 4 (cond (has kind.Abort past e.place) 3 2)) own)
    | inr x ↦ ih bad x.1
  ]
  failed_by past kind.Restore e p f legal ih h bad w = elim (or_cases ((e.place == p) && (e.mark == 1)) (has_failed past p) bad) [
    | inl x ↦
        let same = eqb-true e.place p (and_parts (e.place == p) (e.mark == 1) x).0 in
        absurd (both_ways _ (subst (λ a. has_ended past a ≡ false) same h.lasts) (newest_any (is_in kind.End p) past f w))
    | inr x ↦ ih x w
  ]
  failed_by past _ e p f legal ih h bad w = ih bad w

  -- a place in which a restore was refused ends failed
  ends_failed : (past : List Entry) → LegalPast plan past → (p : ℕ) (f : Entry) → has_failed past p ≡ true
      → newest (is_in kind.End p) past ≡ Some f → f.mark ≡ 4
  ends_failed [] h p f bad w = absurd (false≢true bad)
  ends_failed (e ∷ past) h p f bad w = failed_by past e.kind e p f h.0 (ends_failed past h.0 p f) h.1 bad w

  -- ---- what is told outside

  tells : (past later before : List Entry) (e f : Entry) (c p : ℕ) → LegalPast plan past → Splits past later e before
      → is_in kind.Leave c e ≡ true → parent plan c ≡ Some p → is_doomed plan before p ≡ false
      → newest (is_in kind.End c) before ≡ Some f → f.mark ≡ 4
      → member (nest_of plan c).failure (exceptions_raised plan past p) ≡ true
  tells past later before e f c p legal split is up spared w mark =
      let here = legal_rest plan later (e ∷ before) (subst (LegalPast plan) split legal) in
      subst (λ es. member (nest_of plan c).failure (exceptions_raised plan es p) ≡ true) (sym split)
      (raised_later plan p (nest_of plan c).failure later (e ∷ before)
      (told_by plan before e.kind e c p f here.1 is up spared w mark))

  -- the End of a place stays its newest
  end_stays_by : (past : List Entry) (k : Kind) (e : Entry) (c : ℕ) (f : Entry) → LegalPast plan past → Row k plan past (of_kind k e)
      → newest (is_in kind.End c) past ≡ Some f → newest (is_in kind.End c) (of_kind k e ∷ past) ≡ Some f
  end_stays_by past kind.End e c f legal h w =
      let apart : (e.place == c) ≡ false =
      false_from_ne_true _ (λ x.
      let lasts = (live_parts e.place past (end_live plan playable.tree past (of_kind kind.End e) legal h)).1 in
      both_ways _ (subst (λ a. has_ended past a ≡ false) (eqb-true e.place c x) lasts) (newest_any (is_in kind.End c) past f w)) in
      rw apart w
  end_stays_by past _ e c f legal h w = w

  end_stays : (later past : List Entry) (c : ℕ) (f : Entry) → LegalPast plan (later ++ past)
      → newest (is_in kind.End c) past ≡ Some f → newest (is_in kind.End c) (later ++ past) ≡ Some f
  end_stays [] past c f legal w = w
  end_stays (e ∷ later) past c f legal w =
      end_stays_by (later ++ past) e.kind e c f legal.0 legal.1 (end_stays later past c f legal.0 w)

  -- once somebody has left a place in which a restore was refused, its failure is raised outside
  failure_raised : (past : List Entry) (c p t : ℕ) → LegalPast plan past → parent plan c ≡ Some p → is_doomed plan past p ≡ false
      → has_failed past c ≡ true → has_by kind.Leave past c t ≡ true
      → member (nest_of plan c).failure (exceptions_raised plan past p) ≡ true
  failure_raised past c p t legal up spared bad left =
      let one = any_newest (is_by kind.Leave c t) past left in
      let s = newest_split (is_by kind.Leave c t) past one.0 one.1 in
      let e = one.0 in
      let whole : LegalPast plan (s.later ++ e ∷ s.before) = subst (LegalPast plan) s.split legal in
      let here = legal_rest plan s.later (e ∷ s.before) whole in
      let is : is_in kind.Leave c e ≡ true = (and_parts (is_in kind.Leave c e) (e.by == t) s.passes).0 in
      let row = leave_row plan s.before e.kind e c here.1 is in
      let end = any_newest (is_in kind.End c) s.before (subst (λ a. has_ended s.before a ≡ true) row.1 row.0.when) in
      let at_last : newest (is_in kind.End c) past ≡ Some end.0 =
      subst (λ es. newest (is_in kind.End c) es ≡ Some end.0) (sym s.split)
      (end_stays s.later (e ∷ s.before) c end.0 whole (end_stays_by s.before e.kind e c end.0 here.0 here.1 end.1)) in
      let spared_before : is_doomed plan s.before p ≡ false =
      false_from_ne_true _ (λ d. both_ways _ spared
      (subst (λ es. is_doomed plan es p ≡ true) (sym s.split)
      (doom_after plan p s.later (e ∷ s.before) (doom_stays plan p e s.before d)))) in
      tells past s.later s.before e end.0 c p legal s.split is up spared_before end.1 (ends_failed past legal c end.0 bad at_last)

  -- before a place ends, somebody has left each place right inside it in which a restore was refused
  left_failed : (past : List Entry) (e : Entry) (c : ℕ) → LegalPast plan past → MayEnd plan past e → parent plan c ≡ Some e.place
      → has_failed past c ≡ true → (t : ℕ) × (has_by kind.Leave past c t ≡ true)
  left_failed past e c legal h up bad =
      let started = undoing_started plan playable.tree past legal c (failed_undoing past legal c bad) in
      let some = started_filled plan playable.tree past legal c started in
      let arrived = whole plan playable.tree past legal c some.0 started some.1 in
      elim (whereabouts _ _ _ _ (came plan playable.tree past legal c some.0) arrived) [
        | inl s ↦
            absurd (still some.0 (inside plan past some.0) refl (sym (stays_within plan playable.tree past legal some.0 c) ∙ s))
        | inr (inl l) ↦ (some.0, l)
        | inr (inr d) ↦ absurd (both_ways _ (withdrew plan playable.tree past legal c some.0 d).1 started)
      ]
    where
      outer : member e.place (around plan c) ≡ true
      outer = parent_round plan playable.tree c e.place up

      still : (t : ℕ) (o : Option ℕ) → inside plan past t ≡ o → in_within plan o c ≡ true → ⊥
      still t None w d = false≢true d
      still t (Some r) w d =
          let round : member e.place (around plan r) ≡ true =
          elim (or_cases (r == c) (member c (around plan r)) d) [
            | inl x ↦ subst (λ a. member e.place (around plan a) ≡ true) (sym (eqb-true r c x)) outer
            | inr x ↦ round_round plan playable.tree c e.place r (around plan r) refl x outer
          ] in
          not_ending plan playable.tree e.place t past e (busy_inside plan playable.tree past legal t e.place r w round) refl h

  -- a place that ends and keeps its effects isn't doomed
  kept_spared : (past : List Entry) (e : Entry) → MayEnd plan past e → is_kept_mark (Some e) ≡ true → is_doomed plan past e.place ≡ false
  kept_spared past e h k = by_undo (is_undoing past e.place) h.how
    where
      low : e.mark < 2
      low = below_two e.mark k

      by_undo : (b : Bool) → MatchBool b (EndsUndone plan past e) (EndsAgreed plan past e) → is_doomed plan past e.place ≡ false
      by_undo true ends = absurd (elim (undone_marks past e.place e.mark ends.mark) [
        | inl (inl x) ↦ omega (arith, low)
        | inl (inr x) ↦ omega (arith, low)
        | inr x ↦ omega (arith, low, x.0)
      ])
      by_undo false ends = ends.spared

  inner_by : (past : List Entry) (k : Kind) (e : Entry) (c p : ℕ) → LegalPast plan past → parent plan c ≡ Some p
      → (has_failed past c ≡ true → keeps_effects past p ≡ true
      → member (nest_of plan c).failure (exceptions_raised plan past p) ≡ true) → Row k plan past (of_kind k e)
      → has_failed (of_kind k e ∷ past) c ≡ true → keeps_effects (of_kind k e ∷ past) p ≡ true
      → member (nest_of plan c).failure (exceptions_raised plan (of_kind k e ∷ past) p) ≡ true
  inner_by past kind.End e c p legal up ih h bad kept = elim (cases_Bool (e.place == p)) [
    | inl x ↦
        let same = eqb-true e.place p x in
        let left = left_failed past (of_kind kind.End e) c legal h (up ∙ ap Some (sym same)) bad in
        let spared = kept_spared past (of_kind kind.End e) h (own x kept) in
        failure_raised past c p left.0 legal up (subst (λ a. is_doomed plan past a ≡ false) same spared) bad left.1
    | inr x ↦ ih bad (other x kept)
  ]
    where
      own : (e.place == p) ≡ true → keeps_effects (of_kind kind.End e ∷ past) p ≡ true → is_kept_mark (Some (of_kind kind.End e)) ≡ true
      own x k = rw x at k

      other : (e.place == p) ≡ false → keeps_effects (of_kind kind.End e ∷ past) p ≡ true → keeps_effects past p ≡ true
      other x k = rw x at k
  inner_by past kind.Restore e c p legal up ih h bad kept = elim (or_cases ((e.place == c) && (e.mark == 1)) (has_failed past c) bad) [
    | inl x ↦
        let same = eqb-true e.place c (and_parts (e.place == c) (e.mark == 1) x).0 in
        let outer : member p (around plan e.place) ≡ true =
        subst (λ a. member p (around plan a) ≡ true) (sym same) (parent_round plan playable.tree c p up) in
        let busy = busy_inside plan playable.tree past legal e.by p e.place h.here outer in
        absurd (both_ways _ (going_parts past p busy.goes).lasts (kept_ended past p kept))
    | inr x ↦ ih x kept
  ]
  inner_by past k e c p legal up ih h bad kept =
      in_longer (nest_of plan c).failure (raises_in plan past p (of_kind k e) k) (exceptions_raised plan past p) (ih bad kept)

  -- a place that keeps its effects over a failure inside it has had it raised
  inner_raised : (past : List Entry) (c p : ℕ) → LegalPast plan past → parent plan c ≡ Some p → has_failed past c ≡ true
      → keeps_effects past p ≡ true → member (nest_of plan c).failure (exceptions_raised plan past p) ≡ true
  inner_raised [] c p h up bad k = absurd (false≢true bad)
  inner_raised (e ∷ past) c p h up bad k = inner_by past e.kind e c p h.0 up (inner_raised past c p h.0 up) h.1 bad k

  pub reaction_law : Holds ReactionLaw plan
  reaction_law past legal = record {
    raised = λ p x k m. covered plan playable core past legal p x k m;
    refused = λ p later before e split is k.
        let fresh = none_refused past later before e p legal split is k in
        (fresh, covered plan playable core past legal p (fault_of plan p) k (fault_raised past later before e p split is fresh));
    failed = λ p f bad w. ends_failed past legal p f bad w;
    told = λ c p later before e f split is up spared w mark. tells past later before e f c p legal split is up spared w mark;
    inner = λ c p up bad k.
        covered plan playable core past legal p (nest_of plan c).failure k (inner_raised past c p legal up bad k);
  }
