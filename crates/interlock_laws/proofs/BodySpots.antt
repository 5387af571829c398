-- In a place that isn't resolved each role stands where its steps and its uses have brought it.
use Rattle.std.proofs.Common.{◌≡◌, ℕ, ◌==◌, Bool, true, false, not, cond, ◌&&◌, ◌||◌, List, [], ◌∷◌, ◌++◌, Some, None, Option, suc, refl, sym, ap, ◌∙◌, subst, subst₂, inl, inr, MatchBool}
use Rattle.std.specs.List.{list_any}
use Rattle.std.proofs.lemmas.Bool.{and_parts, and_from, and_right, and_left, or_cases, or_left, or_right, eqb-true, eq-eqb, false≢true, not-true, not-false, not_from_false, cond-true, cond-false, or_from, cases_Bool, both_ways, false_from_ne_true}
use Rattle.caa_base.specs.declared.written.entry.Entry.{Entry}
use Rattle.caa_base.specs.declared.written.entry.Kind.{Kind}
use Rattle.caa_base.specs.declared.written.entry.Kind.TheVariants as kind
use Rattle.caa_base.specs.declared.written.entry.Outcome.TheVariants as outcome
use Rattle.caa_base.specs.Written.Marks.{outcome_of_mark}
use Rattle.caa_base.specs.Written.Lists.{is_at, member}
use Rattle.place_plan.specs.Plans.PlanValue.{Plan}
use Rattle.place_plan.specs.Plans.Places.{parent, roles_of, fault_of}
use Rattle.place_plan.specs.RulesOfJournals.Entries.{is_in, is_by, has, newest}
use Rattle.place_plan.specs.RulesOfJournals.Whereabouts.{inside, stays, outcome_at, has_ended, is_undoing, is_left_in_silence}
use Rattle.place_plan.specs.RulesOfJournals.Raising.{has_handled, carries_into, is_raised, is_doomed, is_calm, is_halted, exception_resolved}
use Rattle.place_plan.specs.RulesOfJournals.Objects.{has_failed}
use Rattle.place_plan.specs.RulesOfJournals.Roles.{advances, position, is_able, is_undo, verdict_at, signals}
use Rattle.place_plan.specs.RulesOfJournals.Rules.{Row, MayFollow, MayArrive, MayPut, MayRaise, MayWithdraw, MayLeave, MayEnd, EndsUndone, EndsAgreed, SignalsLeast, Names, is_deaf, exception_carried, mapped_by_outcome}
use Rattle.place_plan.specs.RulesOfJournals.Journals.{LegalPast}
use Rattle.journal_laws.specs.Laws.{Holds}
use Rattle.journal_laws.proofs.Playable.{IsPlayable}
use Rattle.journal_laws.proofs.Core.{Core}
use Rattle.caa_base.proofs.ListLemmas.{at_same, same_at}
use Rattle.place_plan.proofs.OnJournals.EntryKinds.{of_kind, both_same}
use Rattle.journal_laws.proofs.Arrivals.{around_parent, begins_play, next_has, fresh, arrives_with_role, enters_use, inside_stays}
use Rattle.journal_laws.proofs.Busy.{abort_doomed, doom_stays, raised_stays}
use Rattle.journal_laws.proofs.Holding.{end_live, ended_started}
use Rattle.journal_laws.proofs.Lives.{live_parts}
use Rattle.journal_laws.proofs.Options.{some_apart}
use Rattle.journal_laws.proofs.Phases.{calm_open, open_either}
use Rattle.journal_laws.proofs.Raised.{plain_calm, and_more}
use Rattle.journal_laws.proofs.Said.{has_maker}
use Rattle.journal_laws.proofs.Tree.{arrives_in}
use Rattle.reach_laws.proofs.CameOut.{able_calm}
use Rattle.reach_laws.proofs.Standing.{carried_by, carried_on, nobody_handles}
use Rattle.interlock_laws.specs.Spots.{body_at, quiet_at, stepped, raising, refused, back_from, out_of, spot_of, behind, told, raised_by}
use Rattle.interlock_laws.specs.SpotLaws.{is_over}
use Rattle.interlock_laws.proofs.SpotSteps.{body_from, said_same, unresolved_before, unresolved_spot, raising_told, listed, is_silent, out_aloud, out_silent, out_quiet, silent_mark, nothing_raised, unhalted}
use Rattle.interlock_laws.proofs.StayedIn.{staying_role, staying_one, not_further, live_staying, staying_away}

-- ---- tests

cond_same : {A : Type 0} (b : Bool) (x : A) → cond b x x ≡ x
cond_same true x = refl
cond_same false x = refl

module _ (plan : Plan) (playable : IsPlayable plan) (core : Holds Core plan) where
  -- t stays in no place right inside p
  abbrev pub IsBack : List Entry → ℕ → ℕ → Type 0
  IsBack past p t = (c : ℕ) → parent plan c ≡ Some p → stays past c t ≡ false

  -- something is raised in p, or round it
  abbrev is_stirred : List Entry → ℕ → Bool
  is_stirred past p = is_raised plan past p || is_doomed plan past p

  -- how the spot of t in p tells of its steps, of what it has raised, and of the use that it is in
  pub record Standing (past : List Entry) (p t : ℕ) : Type 0 where
    pub back : IsBack past p t → behind (spot_of plan past p t) ≡ position plan past p t
    pub raised : IsBack past p t → is_doomed plan past p ≡ false → raised_by plan past p t ≡ told (spot_of plan past p t)
    pub further : (c : ℕ) → parent plan c ≡ Some p → stays past c t ≡ true → is_over plan past c ≡ false
        → (j : ℕ) × (spot_of plan past p t ≡ body_at (position plan past p t) j)
    pub aloud : (c : ℕ) → parent plan c ≡ Some p → stays past c t ≡ true → is_over plan past c ≡ true
        → (behind (spot_of plan past p t) ≡ suc (position plan past p t))
        × (told (spot_of plan past p t) ≡ listed (carried_by plan playable core past c t))
    pub quiet : (i : ℕ) → spot_of plan past p t ≡ quiet_at i → is_stirred past p ≡ true

  stirred_stays : (past : List Entry) (e : Entry) (p : ℕ) → is_stirred past p ≡ true → is_stirred (e ∷ past) p ≡ true
  stirred_stays past e p h = elim (or_cases (is_raised plan past p) (is_doomed plan past p) h) [
    | inl x ↦ or_left _ _ (raised_stays plan p e past x)
    | inr x ↦ or_right _ _ (doom_stays plan p e past x)
  ]

  -- a place that isn't stirred is in no way
  unstirred : (past : List Entry) (p : ℕ) → is_raised plan past p ≡ false → is_doomed plan past p ≡ false → is_stirred past p ≡ true → ⊥
  unstirred past p r d h = elim (or_cases (is_raised plan past p) (is_doomed plan past p) h) [
    | inl x ↦ both_ways _ r x
    | inr x ↦ both_ways _ d x
  ]

  spared_before : (past : List Entry) (e : Entry) (p : ℕ) → is_doomed plan (e ∷ past) p ≡ false → is_doomed plan past p ≡ false
  spared_before past e p h = false_from_ne_true _ (λ d. both_ways _ h (doom_stays plan p e past d))

  -- ---- an entry that changes nothing of all this

  pub record IsKept (past : List Entry) (e : Entry) (p t : ℕ) : Type 0 where
    pub spot : spot_of plan (e ∷ past) p t ≡ spot_of plan past p t
    pub place : position plan (e ∷ past) p t ≡ position plan past p t
    pub there : (c : ℕ) → parent plan c ≡ Some p → stays (e ∷ past) c t ≡ stays past c t
    pub raises : raised_by plan (e ∷ past) p t ≡ raised_by plan past p t
    pub over : (c : ℕ) → parent plan c ≡ Some p → stays past c t ≡ true → is_over plan (e ∷ past) c ≡ is_over plan past c

  kept_on : (past : List Entry) (e : Entry) (p t : ℕ) → LegalPast plan past → MayFollow plan past e → IsKept past e p t
      → Standing past p t → Standing (e ∷ past) p t
  kept_on past e p t legal h k was = record {
    back = λ b. ap behind k.spot ∙ was.back (λ c up. sym (k.there c up) ∙ b c up) ∙ sym k.place;
    raised = λ b d. k.raises ∙ was.raised (λ c up. sym (k.there c up) ∙ b c up) (spared_before past e p d) ∙ sym (ap told k.spot);
    further = λ c up s f.
        let in_c = sym (k.there c up) ∙ s in
        let found = was.further c up in_c (sym (k.over c up in_c) ∙ f) in
        (found.0, k.spot ∙ found.1 ∙ ap (λ n. body_at n found.0) (sym k.place));
    aloud = λ c up s f.
        let in_c = sym (k.there c up) ∙ s in
        let over : is_over plan past c ≡ true = sym (k.over c up in_c) ∙ f in
        let found = was.aloud c up in_c over in
        let ended = (and_parts (has_ended past c) (not (is_left_in_silence plan past c)) over).0 in (
          ap behind k.spot ∙ found.0 ∙ ap suc (sym k.place),
          ap told k.spot ∙ found.1 ∙ ap listed (sym (carried_on plan playable core past e.kind e c t legal h ended)),
        );
    quiet = λ i e'. stirred_stays past e p (was.quiet i (sym k.spot ∙ e'));
  }

  -- ---- who is inside p after an entry

  at_place : (now : List Entry) (p t : ℕ) → IsBack now p t → behind (spot_of plan now p t) ≡ position plan now p t
      → (is_doomed plan now p ≡ false → raised_by plan now p t ≡ told (spot_of plan now p t))
      → ((i : ℕ) → spot_of plan now p t ≡ quiet_at i → is_stirred now p ≡ true) → Standing now p t
  at_place now p t b n r q = record {
    back = λ w. n;
    raised = λ w d. r d;
    further = λ c up s f. absurd (both_ways _ (b c up) s);
    aloud = λ c up s f. absurd (both_ways _ (b c up) s);
    quiet = q;
  }

  pub inside_back : (past : List Entry) → LegalPast plan past → (p t : ℕ) → inside plan past t ≡ Some p → IsBack past p t
  inside_back past legal p t here c up = not_further plan playable.tree past legal p c t here up

  -- who is inside a place where nothing is raised, nor round it, is in its body
  pub calm_spot : (past : List Entry) → LegalPast plan past → (p t : ℕ) → Standing past p t → exception_resolved past p ≡ None
      → inside plan past t ≡ Some p → is_raised plan past p ≡ false → is_doomed plan past p ≡ false
      → (j : ℕ) × (spot_of plan past p t ≡ body_at (position plan past p t) j)
  calm_spot past legal p t was none here r d =
      let b = inside_back past legal p t here in
      let empty = unhalted plan past p t (plain_calm plan past p t (core past legal).raises r).0 in
      body_from (spot_of plan past p t) (position plan past p t) (unresolved_spot plan past p t none) (was.back b)
      (sym (was.raised b d) ∙ empty) (λ i e. unstirred past p r d (was.quiet i e))

  -- who is able in a place that isn't resolved is in its body
  pub able_spot : (past : List Entry) → LegalPast plan past → (p t : ℕ) → Standing past p t → exception_resolved past p ≡ None
      → inside plan past t ≡ Some p → is_able plan past p t ≡ true
      → ((j : ℕ) × (spot_of plan past p t ≡ body_at (position plan past p t) j)) × (raised_by plan past p t ≡ [])
  able_spot past legal p t was none here able =
      let calm =
      calm_open plan past p
      (able_calm plan playable core past p t able (nobody_handles plan playable core past legal p t none)) in
      let found = calm_spot past legal p t was none here calm.1 calm.0.spared in
      (found, was.raised (inside_back past legal p t here) calm.0.spared ∙ ap told found.1)

  -- ---- steps of a body

  step_on : (past : List Entry) (e : Entry) (p t : ℕ) → LegalPast plan past → MayFollow plan past e → Standing past p t
      → exception_resolved past p ≡ None → inside plan past e.by ≡ Some e.place → is_able plan past e.place e.by ≡ true
      → spot_of plan (e ∷ past) p t ≡ cond ((e.place == p) && (e.by == t)) (stepped (spot_of plan past p t)) (spot_of plan past p t)
      → position plan (e ∷ past) p t ≡ cond ((e.place == p) && (e.by == t)) (suc (position plan past p t)) (position plan past p t)
      → ((c : ℕ) → stays (e ∷ past) c t ≡ stays past c t) → raised_by plan (e ∷ past) p t ≡ raised_by plan past p t
      → ((c : ℕ) → is_over plan (e ∷ past) c ≡ is_over plan past c) → Standing (e ∷ past) p t
  step_on past e p t legal h was none here able spot place there raises over = elim (cases_Bool ((e.place == p) && (e.by == t))) [
    | inl x ↦
        let same = both_same e.place p e.by t x in
        let inside_p : inside plan past t ≡ Some p = subst₂ (λ a b. inside plan past b ≡ Some a) same.0 same.1 here in
        let found = able_spot past legal p t was none inside_p (subst₂ (λ a b. is_able plan past a b ≡ true) same.0 same.1 able) in
        let now : spot_of plan (e ∷ past) p t ≡ body_at (suc (position plan past p t)) 0 = rw x at spot ∙ ap stepped found.0.1 in
        let further : position plan (e ∷ past) p t ≡ suc (position plan past p t) = rw x at place in
        at_place (e ∷ past) p t (λ c up. there c ∙ inside_back past legal p t inside_p c up) (ap behind now ∙ sym further)
        (λ d. raises ∙ found.1 ∙ sym (ap told now)) (λ i q. absurd (let apart = sym now ∙ q in cc))
    | inr x ↦
        kept_on past e p t legal h (record {
          spot = rw x at spot;
          place = rw x at place;
          there = λ c up. there c;
          raises = raises;
          over = λ c up s. over c;
        }) was
  ]

  -- ---- raises

  -- t, which was inside p and has raised nothing there, raises y by its step
  raise_now : (past : List Entry) (e : Entry) (p t y : ℕ) → LegalPast plan past → Standing past p t → inside plan past t ≡ Some p
      → exception_resolved past p ≡ None → is_doomed plan past p ≡ false → is_halted plan past p t ≡ false
      → spot_of plan (e ∷ past) p t ≡ raising y (spot_of plan past p t) → position plan (e ∷ past) p t ≡ position plan past p t
      → ((c : ℕ) → stays (e ∷ past) c t ≡ stays past c t)
      → raised_by plan (e ∷ past) p t ≡ (y ∷ raised_by plan past p t) → Standing (e ∷ past) p t
  raise_now past e p t y legal was here none spared running spot place there raises =
      let b = inside_back past legal p t here in
      let empty = unhalted plan past p t running in
      let now =
      raising_told y (spot_of plan past p t) (unresolved_spot plan past p t none) (sym (was.raised b spared) ∙ empty) in
      at_place (e ∷ past) p t (λ c up. there c ∙ b c up) (ap behind spot ∙ now.0 ∙ was.back b ∙ sym place)
      (λ d. raises ∙ ap (λ ys. y ∷ ys) empty ∙ sym now.1 ∙ sym (ap told spot)) (λ i q. absurd (now.2 i (sym spot ∙ q)))

  -- ---- coming and going

  -- t arrives right inside p
  arrives_inside : (past : List Entry) (e : Entry) (p : ℕ) → LegalPast plan past → MayArrive plan past e → parent plan e.place ≡ Some p
      → (inside plan past e.by ≡ Some p) × (is_calm plan past p ≡ true)
  arrives_inside past e p legal h up = by_place (inside plan past e.by) refl
    where
      by_place : (o : Option ℕ) → inside plan past e.by ≡ o → (inside plan past e.by ≡ Some p) × (is_calm plan past p ≡ true)
      by_place None w =
          let next = begins_play plan past e h w in
          let top = playable.tree.tops e.place (next_has plan past e.by e.place next).0 in
          let round = around_parent plan playable.tree p e.place up in
          absurd cc
      by_place (Some q) w =
          let led = (arrives_in plan playable.tree past e q h w).0 in
          let round = around_parent plan playable.tree p e.place up in
          let same : q ≡ p = cc in
          let calm = (enters_use plan past e q h w).1.calm in
          (w ∙ ap Some same, subst (λ a. is_calm plan past a ≡ true) same calm)

  -- nobody has come to an end of the place that t arrives in
  pub arrives_before_end : (past : List Entry) (e : Entry) → LegalPast plan past → MayArrive plan past e → is_over plan past e.place ≡ false
  arrives_before_end past e legal h = and_left (has_ended past e.place) _ (false_from_ne_true _ (λ ended.
      both_ways _ (fresh plan past e h)
      ((core past legal).visits.whole e.place e.by (ended_started plan playable.tree past legal e.place ended)
      (arrives_with_role plan playable.tree past e h))))

  -- another place than the one that t comes to, or goes out of
  other_place : (d p c : ℕ) → is_at (parent plan d) p ≡ false → parent plan c ≡ Some p → (d == c) ≡ false
  other_place d p c n up = false_from_ne_true _ (λ x.
      both_ways _ n (same_at (parent plan d) p (ap (parent plan) (eqb-true d c x) ∙ up)))

  inside_now : (past : List Entry) (e : Entry) (p : ℕ) → parent plan e.place ≡ Some p
      → cond (e.by == e.by) (parent plan e.place) (inside plan past e.by) ≡ Some p
  inside_now past e p up = rw (eq-eqb e.by e.by refl) up

  -- t comes right inside p
  arrive_now : (past : List Entry) (e : Entry) (p : ℕ) → LegalPast plan past → MayArrive plan past (of_kind kind.Arrive e)
      → parent plan e.place ≡ Some p → exception_resolved past p ≡ None → Standing past p e.by
      → Standing (of_kind kind.Arrive e ∷ past) p e.by
  arrive_now past e p legal h up none was =
      let from = arrives_inside past (of_kind kind.Arrive e) p legal h up in
      let calm = calm_open plan past p from.1 in
      let found = calm_spot past legal p e.by was none from.0 calm.1 calm.0.spared in
      let in_it : stays (of_kind kind.Arrive e ∷ past) e.place e.by ≡ true = rw (eq-eqb e.place e.place refl, eq-eqb e.by e.by refl) refl in
      record {
        back = λ b. absurd (both_ways _ (b e.place up) in_it);
        raised = λ b d. absurd (both_ways _ (b e.place up) in_it);
        further = λ c up_c s f. found;
        aloud = λ c up_c s over. elim (cases_Bool (e.place == c)) [
          | inl x ↦
              absurd (both_ways _ (arrives_before_end past (of_kind kind.Arrive e) legal h)
              (subst (λ a. is_over plan past a ≡ true) (sym (eqb-true e.place c x)) over))
          | inr x ↦ absurd (both_ways _ (not_further plan playable.tree past legal p c e.by from.0 up_c) (rw x at s))
        ];
        quiet = λ i q. stirred_stays past (of_kind kind.Arrive e) p (was.quiet i q);
      }

  -- t goes out of a place of p that never starts
  withdraw_now : (past : List Entry) (e : Entry) (p : ℕ) → LegalPast plan past → MayWithdraw plan past (of_kind kind.Withdraw e)
      → parent plan e.place ≡ Some p → Standing past p e.by → Standing (of_kind kind.Withdraw e ∷ past) p e.by
  withdraw_now past e p legal h up was =
      let in_it = inside_stays plan playable.tree past legal e.place e.by h.here in
      let before_end : is_over plan past e.place ≡ false = and_left (has_ended past e.place) _ (false_from_ne_true _ (λ ended.
      both_ways _ h.waits (ended_started plan playable.tree past legal e.place ended))) in
      let found = was.further e.place up in_it before_end in
      let empty = unhalted plan past p e.by (staying_away plan playable.tree past legal p e.place e.by (core past legal) up in_it).0 in
      at_place (of_kind kind.Withdraw e ∷ past) p e.by
      (inside_back (of_kind kind.Withdraw e ∷ past) (legal, h) p e.by (inside_now past e p up)) (ap behind found.1)
      (λ d. nothing_raised (e.by == e.by) (raised_by plan past p e.by) ∙ empty ∙ sym (ap told found.1))
      (λ i q. absurd (let apart = sym found.1 ∙ q in cc))

  -- what a leave raises in the place round is what it names
  raises_named : (e : Entry) (p : ℕ) → parent plan e.place ≡ Some p → (o : Option ℕ) → Names e o
      → cond (carries_into plan p e) (e.arg ∷ []) [] ≡ listed o
  raises_named e p up None names =
      let bare : (e.mark == 1) ≡ false = rw names.0 refl in
      rw (and_right (is_at (parent plan e.place) p) (e.mark == 1) bare) refl
  raises_named e p up (Some y) names =
      let at : is_at (parent plan e.place) p ≡ true = same_at (parent plan e.place) p up in
      let naming : (e.mark == 1) ≡ true = rw names.0 refl in
      rw (at, naming, names.1) refl

  leave_raises : (past : List Entry) (e : Entry) (p : ℕ) → LegalPast plan past → MayLeave plan past (of_kind kind.Leave e)
      → parent plan e.place ≡ Some p → raised_by plan past p e.by ≡ []
      → raised_by plan (of_kind kind.Leave e ∷ past) p e.by ≡ listed (exception_carried plan past e.place e.by)
  leave_raises past e p legal h up empty =
      let now = raises_named (of_kind kind.Leave e) p up (exception_carried plan past e.place e.by) h.carries in
      rw (eq-eqb e.by e.by refl, empty) (listed_alone (exception_carried plan past e.place e.by) (cond (carries_into plan p e) (e.arg ∷ []) []) now)
    where
      listed_alone : (o : Option ℕ) (xs : List ℕ) → xs ≡ listed o → (xs ++ []) ≡ listed o
      listed_alone None xs w = ap (λ ys. ys ++ []) w
      listed_alone (Some y) xs w = ap (λ ys. ys ++ []) w

  leave_in_silence : (past : List Entry) (e : Entry) (p : ℕ) → LegalPast plan past → MayLeave plan past (of_kind kind.Leave e)
      → parent plan e.place ≡ Some p → is_left_in_silence plan past e.place ≡ true → Standing past p e.by
      → Standing (of_kind kind.Leave e ∷ past) p e.by
  leave_in_silence past e p legal h up silent was =
      let in_it = inside_stays plan playable.tree past legal e.place e.by h.here in
      let untold : is_over plan past e.place ≡ false = and_right (has_ended past e.place) (not (is_left_in_silence plan past e.place)) (rw silent refl) in
      let found = was.further e.place up in_it untold in
      let empty = unhalted plan past p e.by (staying_away plan playable.tree past legal p e.place e.by (core past legal) up in_it).0 in
      let nothing : exception_carried plan past e.place e.by ≡ None =
      cond-true (is_deaf plan past (parent plan e.place) || is_left_in_silence plan past e.place) _ _ (or_right _ _ silent) in
      at_place (of_kind kind.Leave e ∷ past) p e.by
      (inside_back (of_kind kind.Leave e ∷ past) (legal, h) p e.by (inside_now past e p up))
      (ap behind found.1 ∙ sym (rw (and_right (is_at (parent plan e.place) p) (not (is_left_in_silence plan past e.place)) (rw silent refl)) refl))
      (λ d. leave_raises past e p legal h up empty ∙ ap listed nothing ∙ sym (ap told found.1))
      (λ i q. absurd (let apart = sym found.1 ∙ q in cc))

  leave_aloud : (past : List Entry) (e : Entry) (p : ℕ) → LegalPast plan past → MayLeave plan past (of_kind kind.Leave e)
      → parent plan e.place ≡ Some p → is_left_in_silence plan past e.place ≡ false → Standing past p e.by
      → Standing (of_kind kind.Leave e ∷ past) p e.by
  leave_aloud past e p legal h up loud was =
      let in_it = inside_stays plan playable.tree past legal e.place e.by h.here in
      let over : is_over plan past e.place ≡ true =
      and_from (has_ended past e.place) (not (is_left_in_silence plan past e.place)) h.when (not_from_false _ loud) in
      let found = was.aloud e.place up in_it over in
      let empty = unhalted plan past p e.by (staying_away plan playable.tree past legal p e.place e.by (core past legal) up in_it).0 in
      let at : is_at (parent plan e.place) p ≡ true = same_at (parent plan e.place) p up in
      at_place (of_kind kind.Leave e ∷ past) p e.by
      (inside_back (of_kind kind.Leave e ∷ past) (legal, h) p e.by (inside_now past e p up))
      (found.0 ∙ sym (rw (at, loud, eq-eqb e.by e.by refl) refl))
      (λ d.
      let hears : is_deaf plan past (parent plan e.place) ≡ false = subst (λ o. is_deaf plan past o ≡ false) (sym up) (spared_before past (of_kind kind.Leave e) p d) in
      let carried : exception_carried plan past e.place e.by ≡ carried_by plan playable core past e.place e.by =
      cond-false (is_deaf plan past (parent plan e.place) || is_left_in_silence plan past e.place) _ _
      (or_from (is_deaf plan past (parent plan e.place)) (is_left_in_silence plan past e.place) hears loud) in
      leave_raises past e p legal h up empty ∙ ap listed carried ∙ sym found.1)
      (λ i q. stirred_stays past (of_kind kind.Leave e) p (was.quiet i q))

  -- ---- the end of a use

  aborted_mark : (m x : ℕ) → outcome_of_mark m x ≡ outcome.Aborted → (m == 3) ≡ true
  aborted_mark m x h = by_tests (m == 0) (m == 1) (m == 2) (m == 3) h
    where
      by_tests : (a b c d : Bool)
          → cond a outcome.Commit (cond b (outcome.Signal x) (cond c outcome.Undone (cond d outcome.Aborted outcome.Failed))) ≡ outcome.Aborted
          → d ≡ true
      by_tests true b c d w = absurd cc
      by_tests false true c d w = absurd cc
      by_tests false false true d w = absurd cc
      by_tests false false false true w = refl
      by_tests false false false false w = absurd cc

  -- where a place ends aborted somebody has given up in it
  aborted_gave_up : (past : List Entry) (e : Entry) → MayEnd plan past e → outcome_at e ≡ outcome.Aborted → has kind.Abort past e.place ≡ true
  aborted_gave_up past e h how = by_undo (is_undoing past e.place) h.how
    where
      three : (e.mark == 3) ≡ true
      three = aborted_mark e.mark e.arg how

      by_marks : (f a : Bool) → e.mark ≡ cond f 4 (cond a 3 2) → a ≡ true
      by_marks true a w = absurd (false≢true (rw w at three))
      by_marks false true w = refl
      by_marks false false w = absurd (false≢true (rw w at three))

      by_signals : (xs : List ℕ) → SignalsLeast plan e xs → has kind.Abort past e.place ≡ true
      by_signals [] w = absurd (false≢true (rw w.0 at three))
      by_signals (x ∷ xs) w = absurd (false≢true (rw w.0 at three))

      by_undo : (b : Bool) → MatchBool b (EndsUndone plan past e) (EndsAgreed plan past e) → has kind.Abort past e.place ≡ true
      by_undo true w = by_marks (has_failed past e.place) (has kind.Abort past e.place) w.mark
      by_undo false w = by_signals (signals past e.place (roles_of plan e.place)) w.outcome

  -- and then something is raised in the place round, or round that
  given_up_stirred : (past : List Entry) (c p : ℕ) → LegalPast plan past → parent plan c ≡ Some p → has kind.Abort past c ≡ true
      → is_stirred past p ≡ true
  given_up_stirred past c p legal up gave =
      let some = has_maker kind.Abort c past gave in
      subst (λ qs. list_any (λ q. is_raised plan past q) qs ≡ true) (around_parent plan playable.tree p c up)
      (abort_doomed plan playable.tree past legal c some.0 some.1)

  end_now : (past : List Entry) (e : Entry) (p t : ℕ) → LegalPast plan past → MayEnd plan past (of_kind kind.End e)
      → (is_at (parent plan e.place) p && member t (roles_of plan e.place)) ≡ true → Standing past p t
      → Standing (of_kind kind.End e ∷ past) p t
  end_now past e p t legal h own was =
      let parts = and_parts (is_at (parent plan e.place) p) (member t (roles_of plan e.place)) own in
      let up = at_same (parent plan e.place) p parts.0 in
      let live = live_parts e.place past (end_live plan playable.tree past (of_kind kind.End e) legal h) in
      let in_it = live_staying plan playable.tree past legal e.place t parts.1 live.0 live.1 in
      let found = was.further e.place up in_it (and_left (has_ended past e.place) _ live.1) in
      let abort = newest (is_by kind.Abort e.place t) past in
      let how = outcome_at (of_kind kind.End e) in
      let spot : spot_of plan (of_kind kind.End e ∷ past) p t ≡ out_of plan e.place abort (position plan past p t) found.0 how =
      rw own (ap (back_from plan e.place abort how) found.1) in
      let silence : is_left_in_silence plan (of_kind kind.End e ∷ past) e.place ≡ is_silent plan e.place how =
      rw (eq-eqb e.place e.place refl) (sym (silent_mark plan e.place e.mark e.arg)) in
      let over : is_over plan (of_kind kind.End e ∷ past) e.place ≡ not (is_silent plan e.place how) =
      rw (silence, eq-eqb e.place e.place refl) refl in
      let carried : carried_by plan playable core (of_kind kind.End e ∷ past) e.place t ≡ mapped_by_outcome plan e.place abort how =
      rw (eq-eqb e.place e.place refl) refl in
      let there : stays (of_kind kind.End e ∷ past) e.place t ≡ true =
      cond_same ((e.place == e.place) && (e.by == t)) (stays past e.place t) ∙ in_it in
      let one : (c : ℕ) → parent plan c ≡ Some p → stays (of_kind kind.End e ∷ past) c t ≡ true → e.place ≡ c =
      λ c up_c s. staying_one plan playable.tree past legal p e.place c t up up_c in_it
      (sym (cond_same ((e.place == c) && (e.by == t)) (stays past c t)) ∙ s) in
      record {
        back = λ b. absurd (both_ways _ (b e.place up) there);
        raised = λ b d. absurd (both_ways _ (b e.place up) there);
        further = λ c up_c s f.
            let same = one c up_c s in
            let untold : is_over plan (of_kind kind.End e ∷ past) e.place ≡ false =
            subst (λ a. is_over plan (of_kind kind.End e ∷ past) a ≡ false) (sym same) f in (
              suc found.0,
              spot ∙ out_silent plan e.place abort (position plan past p t) found.0 how
                  (not-false _ (sym over ∙ untold)),
            );
        aloud = λ c up_c s f.
            let same = one c up_c s in
            let told_now : is_over plan (of_kind kind.End e ∷ past) e.place ≡ true =
            subst (λ a. is_over plan (of_kind kind.End e ∷ past) a ≡ true) (sym same) f in
            let out = out_aloud plan e.place abort (position plan past p t) found.0 how (not-true _ (sym over ∙ told_now)) in (
              ap behind spot ∙ out.0,
              ap told spot ∙ out.1 ∙ ap listed (sym carried)
                  ∙ ap (λ a. listed (carried_by plan playable core (of_kind kind.End e ∷ past) a t)) same,
            );
        quiet = λ i q.
            let aborted = out_quiet plan e.place abort (position plan past p t) found.0 i how (sym spot ∙ q) in
            stirred_stays past (of_kind kind.End e) p
            (given_up_stirred past e.place p legal up (aborted_gave_up past (of_kind kind.End e) h aborted));
      }

  -- ---- all kinds

  -- what is raised by its maker in its place
  raised_here : (a b : Bool) (x : ℕ) (ys : List ℕ) → (a && b) ≡ true → (cond b (cond a (x ∷ []) []) [] ++ ys) ≡ x ∷ ys
  raised_here true true x ys h = refl
  raised_here true false x ys h = absurd (false≢true h)
  raised_here false b x ys h = absurd (false≢true h)

  raised_elsewhere : (a b : Bool) (x : ℕ) (ys : List ℕ) → (a && b) ≡ false → (cond b (cond a (x ∷ []) []) [] ++ ys) ≡ ys
  raised_elsewhere true true x ys h = absurd (false≢true (sym h))
  raised_elsewhere false true x ys h = refl
  raised_elsewhere a false x ys h = refl

  one_or_same : {A : Type 0} (b : Bool) (x y : A) → x ≡ y → cond b x y ≡ y
  one_or_same true x y h = h
  one_or_same false x y h = refl

  raise_own : (past : List Entry) (e : Entry) (p t : ℕ) → LegalPast plan past → MayRaise plan past (of_kind kind.Raise e)
      → exception_resolved past p ≡ None → ((e.place == p) && (e.by == t)) ≡ true → Standing past p t
      → Standing (of_kind kind.Raise e ∷ past) p t
  raise_own past e p t legal h none x was =
      let same = both_same e.place p e.by t x in
      let spared : is_doomed plan past p ≡ false = subst (λ a. is_doomed plan past a ≡ false) same.0 (open_either plan past e.place h.when).spared in
      raise_now past (of_kind kind.Raise e) p t e.arg legal was (subst₂ (λ a b. inside plan past b ≡ Some a) same.0 same.1 h.here) none spared
      (subst₂ (λ a b. is_halted plan past a b ≡ false) same.0 same.1 h.running) (rw x refl) refl
      (λ c. cond_same ((e.place == c) && (e.by == t)) (stays past c t)) (raised_here (e.place == p) (e.by == t) e.arg _ x)

  fault_own : (past : List Entry) (e : Entry) (p t : ℕ) → LegalPast plan past → MayPut plan past (of_kind kind.PutFault e)
      → exception_resolved past p ≡ None → ((e.place == p) && (e.by == t)) ≡ true → Standing past p t
      → Standing (of_kind kind.PutFault e ∷ past) p t
  fault_own past e p t legal h none x was =
      let same = both_same e.place p e.by t x in
      let here : inside plan past t ≡ Some p = subst₂ (λ a b. inside plan past b ≡ Some a) same.0 same.1 h.here in
      let able : is_able plan past p t ≡ true = subst₂ (λ a b. is_able plan past a b ≡ true) same.0 same.1 h.can in
      let unhandled = nobody_handles plan playable core past legal p in
      let calm = calm_open plan past p (able_calm plan playable core past p t able (unhandled t none)) in
      let found = (able_spot past legal p t was none here able).0 in
      let own : (((e.place == p) && not (has_handled past p e.by)) && (e.by == t)) ≡ true =
      and_from ((e.place == p) && not (has_handled past p e.by)) (e.by == t)
      (and_from (e.place == p) (not (has_handled past p e.by)) (eq-eqb e.place p same.0) (not_from_false _ (unhandled e.by none)))
      (eq-eqb e.by t same.1) in
      raise_now past (of_kind kind.PutFault e) p t (fault_of plan p) legal was here none calm.0.spared
      (plain_calm plan past p t (core past legal).raises calm.1).0
      (rw x (ap (refused (fault_of plan p)) found.1 ∙ sym (ap (raising (fault_of plan p)) found.1))) refl
      (λ c. cond_same ((e.place == c) && (e.by == t)) (stays past c t))
      (raised_here ((e.place == p) && not (has_handled past p e.by)) (e.by == t) (fault_of plan p) _ own)

  standing_by : (past : List Entry) (k : Kind) (e : Entry) (p t : ℕ) → LegalPast plan past → Row k plan past (of_kind k e)
      → exception_resolved past p ≡ None → is_in kind.Resolve p (of_kind k e) ≡ false → Standing past p t
      → Standing (of_kind k e ∷ past) p t
  standing_by past kind.Read e p t legal h none n was =
      step_on past (of_kind kind.Read e) p t legal h was none h.here h.can refl refl
      (λ c. cond_same ((e.place == c) && (e.by == t)) (stays past c t)) (nothing_raised (e.by == t) _) (λ c. refl)
  standing_by past kind.Work e p t legal h none n was =
      step_on past (of_kind kind.Work e) p t legal h was none h.here h.can refl refl
      (λ c. cond_same ((e.place == c) && (e.by == t)) (stays past c t)) (nothing_raised (e.by == t) _) (λ c. refl)
  standing_by past kind.Write e p t legal h none n was =
      step_on past (of_kind kind.Write e) p t legal h was none h.here h.can refl refl
      (λ c. cond_same ((e.place == c) && (e.by == t)) (stays past c t)) (nothing_raised (e.by == t) _) (λ c. refl)
  standing_by past kind.Check e p t legal h none n was =
      step_on past (of_kind kind.Check e) p t legal h was none h.here h.can refl refl
      (λ c. cond_same ((e.place == c) && (e.by == t)) (stays past c t)) (nothing_raised (e.by == t) _) (λ c. refl)
  standing_by past kind.PutFault e p t legal h none n was = elim (cases_Bool ((e.place == p) && (e.by == t))) [
    | inl x ↦ fault_own past e p t legal h none x was
    | inr x ↦
        kept_on past (of_kind kind.PutFault e) p t legal h (record {
          spot = rw x refl;
          place = refl;
          there = λ c up. cond_same ((e.place == c) && (e.by == t)) (stays past c t);
          raises =
              raised_elsewhere ((e.place == p) && not (has_handled past p e.by)) (e.by == t) (fault_of plan p) _
              (and_more (e.place == p) (not (has_handled past p e.by)) (e.by == t) x);
          over = λ c up s. refl;
        }) was
  ]
  standing_by past kind.Raise e p t legal h none n was = elim (cases_Bool ((e.place == p) && (e.by == t))) [
    | inl x ↦ raise_own past e p t legal h none x was
    | inr x ↦
        kept_on past (of_kind kind.Raise e) p t legal h (record {
          spot = rw x refl;
          place = refl;
          there = λ c up. cond_same ((e.place == c) && (e.by == t)) (stays past c t);
          raises = raised_elsewhere (e.place == p) (e.by == t) e.arg _ x;
          over = λ c up s. refl;
        }) was
  ]
  standing_by past kind.Verdict e p t legal h none n was =
      kept_on past (of_kind kind.Verdict e) p t legal h (record {
        spot =
            one_or_same ((e.place == p) && (e.by == t)) _ (spot_of plan past p t)
            (said_same (is_undo (Some (verdict_at (of_kind kind.Verdict e)))) (spot_of plan past p t) (unresolved_spot plan past p t none));
        place = refl;
        there = λ c up. cond_same ((e.place == c) && (e.by == t)) (stays past c t);
        raises = nothing_raised (e.by == t) _;
        over = λ c up s. refl;
      }) was
  standing_by past kind.Resolve e p t legal h none n was =
      kept_on past (of_kind kind.Resolve e) p t legal h (record {
        spot = rw n refl;
        place = refl;
        there = λ c up. cond_same ((e.place == c) && (e.by == t)) (stays past c t);
        raises = nothing_raised (e.by == t) _;
        over = λ c up s. refl;
      }) was
  standing_by past kind.Handle e p t legal h none n was =
      let apart : ((e.place == p) && (e.by == t)) ≡ false = false_from_ne_true _ (λ x.
      let same = both_same e.place p e.by t x in
      some_apart (sym none ∙ subst (λ a. exception_resolved past a ≡ Some e.arg) same.0 h.resolution)) in
      kept_on past (of_kind kind.Handle e) p t legal h (record {
        spot = refl;
        place = rw apart refl;
        there = λ c up. cond_same ((e.place == c) && (e.by == t)) (stays past c t);
        raises = nothing_raised (e.by == t) _;
        over = λ c up s. refl;
      }) was
  standing_by past kind.Arrive e p t legal h none n was = elim (cases_Bool (e.by == t)) [
    | inr y ↦
        kept_on past (of_kind kind.Arrive e) p t legal h (record {
          spot = refl;
          place = refl;
          there = λ c up. rw (and_right (e.place == c) (e.by == t) y) refl;
          raises = nothing_raised (e.by == t) _;
          over = λ c up s. refl;
        }) was
    | inl y ↦ elim (cases_Bool (is_at (parent plan e.place) p)) [
      | inl z ↦
          subst (λ a. Standing (of_kind kind.Arrive e ∷ past) p a) (eqb-true e.by t y)
          (arrive_now past e p legal h (at_same (parent plan e.place) p z) none
          (subst (λ a. Standing past p a) (sym (eqb-true e.by t y)) was))
      | inr z ↦
          kept_on past (of_kind kind.Arrive e) p t legal h (record {
            spot = refl;
            place = refl;
            there = λ c up. rw (and_left (e.place == c) (e.by == t) (other_place e.place p c z up)) refl;
            raises = nothing_raised (e.by == t) _;
            over = λ c up s. refl;
          }) was
    ]
  ]
  standing_by past kind.Withdraw e p t legal h none n was = elim (cases_Bool (e.by == t)) [
    | inr y ↦
        kept_on past (of_kind kind.Withdraw e) p t legal h (record {
          spot = refl;
          place = refl;
          there = λ c up. rw (and_right (e.place == c) (e.by == t) y) refl;
          raises = nothing_raised (e.by == t) _;
          over = λ c up s. refl;
        }) was
    | inl y ↦ elim (cases_Bool (is_at (parent plan e.place) p)) [
      | inl z ↦
          subst (λ a. Standing (of_kind kind.Withdraw e ∷ past) p a) (eqb-true e.by t y)
          (withdraw_now past e p legal h (at_same (parent plan e.place) p z)
          (subst (λ a. Standing past p a) (sym (eqb-true e.by t y)) was))
      | inr z ↦
          kept_on past (of_kind kind.Withdraw e) p t legal h (record {
            spot = refl;
            place = refl;
            there = λ c up. rw (and_left (e.place == c) (e.by == t) (other_place e.place p c z up)) refl;
            raises = nothing_raised (e.by == t) _;
            over = λ c up s. refl;
          }) was
    ]
  ]
  standing_by past kind.Leave e p t legal h none n was = elim (cases_Bool (e.by == t)) [
    | inr y ↦
        kept_on past (of_kind kind.Leave e) p t legal h (record {
          spot = refl;
          place = rw (and_right (advances plan past p e kind.Leave) (e.by == t) y) refl;
          there = λ c up. rw (and_right (e.place == c) (e.by == t) y) refl;
          raises = raised_elsewhere (carries_into plan p e) (e.by == t) e.arg _ (and_right (carries_into plan p e) (e.by == t) y);
          over = λ c up s. refl;
        }) was
    | inl y ↦ elim (cases_Bool (is_at (parent plan e.place) p)) [
      | inl z ↦
          let up = at_same (parent plan e.place) p z in
          let before : Standing past p e.by = subst (λ a. Standing past p a) (sym (eqb-true e.by t y)) was in
          subst (λ a. Standing (of_kind kind.Leave e ∷ past) p a) (eqb-true e.by t y)
          (elim (cases_Bool (is_left_in_silence plan past e.place)) [
            | inl q ↦ leave_in_silence past e p legal h up q before
            | inr q ↦ leave_aloud past e p legal h up q before
          ])
      | inr z ↦
          let nowhere : carries_into plan p e ≡ false = and_left (is_at (parent plan e.place) p) (e.mark == 1) z in
          let still : advances plan past p e kind.Leave ≡ false =
          and_left (is_at (parent plan e.place) p) (not (is_left_in_silence plan past e.place)) z in
          kept_on past (of_kind kind.Leave e) p t legal h (record {
            spot = refl;
            place = rw (and_left (advances plan past p e kind.Leave) (e.by == t) still) refl;
            there = λ c up. rw (and_left (e.place == c) (e.by == t) (other_place e.place p c z up)) refl;
            raises = raised_elsewhere (carries_into plan p e) (e.by == t) e.arg _ (and_left (carries_into plan p e) (e.by == t) nowhere);
            over = λ c up s. refl;
          }) was
    ]
  ]
  standing_by past kind.End e p t legal h none n was =
      elim (cases_Bool (is_at (parent plan e.place) p && member t (roles_of plan e.place))) [
        | inl x ↦ end_now past e p t legal h x was
        | inr x ↦
            kept_on past (of_kind kind.End e) p t legal h (record {
              spot = rw x refl;
              place = refl;
              there = λ c up. cond_same ((e.place == c) && (e.by == t)) (stays past c t);
              raises = nothing_raised (e.by == t) _;
              over = λ c up s.
                  let apart : (e.place == c) ≡ false = false_from_ne_true _ (λ z.
                  let same = eqb-true e.place c z in
                  both_ways _ x (and_from (is_at (parent plan e.place) p) (member t (roles_of plan e.place))
                  (same_at (parent plan e.place) p (ap (parent plan) same ∙ up))
                  (subst (λ a. member t (roles_of plan a) ≡ true) (sym same) (staying_role plan playable.tree past legal c t s)))) in
                  rw apart refl;
            }) was
      ]
  standing_by past k e p t legal h none n was =
      kept_on past (of_kind k e) p t legal h (record {
        spot = refl;
        place = refl;
        there = λ c up. cond_same ((e.place == c) && (e.by == t)) (stays past c t);
        raises = nothing_raised (e.by == t) _;
        over = λ c up s. refl;
      }) was

  pub standing : (past : List Entry) → LegalPast plan past → (p t : ℕ) → exception_resolved past p ≡ None → Standing past p t
  standing [] legal p t w = record {
    back = λ b. refl;
    raised = λ b d. refl;
    further = λ c up s f. absurd (false≢true s);
    aloud = λ c up s f. absurd (false≢true s);
    quiet = λ i q. absurd cc;
  }
  standing (e ∷ past) legal p t w =
      let before = unresolved_before past e p w in
      standing_by past e.kind e p t legal.0 legal.1 before.1 before.0 (standing past legal.0 p t before.1)
