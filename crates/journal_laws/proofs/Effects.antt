-- Effect law: in a complete journal an object that no restore failed for holds what the kept places alone leave.
use Rattle.std.proofs.Common.{◌≡◌, ℕ, ◌==◌, ◌<◌, ◌⊎◌, Bool, true, false, not, cond, ◌&&◌, ◌||◌, List, [], ◌∷◌, ◌++◌, Option, Some, None, refl, sym, ap, ◌∙◌, subst, arith, inl, inr, count_by, append_assoc, MatchBool}
use Rattle.std.specs.List.{list_any, list_all}
use Rattle.std.proofs.lemmas.List.Folds.{list_any-append}
use Rattle.std.proofs.lemmas.Bool.{and_parts, and_from, and_cases, not_from_true, not_from_false, or_cases, or_left, or_right, or_parts, eqb-true, cases_eq, eq-eqb, false≢true, cases_Bool, false_from_ne_true, true_from_ne_false, both_ways}
use Rattle.caa_base.specs.declared.written.entry.Entry.{Entry}
use Rattle.caa_base.specs.declared.written.entry.Kind.{Kind}
use Rattle.caa_base.specs.declared.written.entry.Kind.TheVariants as kind
use Rattle.place_plan.specs.Plans.PlanValue.{Plan}
use Rattle.caa_base.specs.Written.Lists.{member}
use Rattle.place_plan.specs.Plans.Places.{around, roles_of, uses, is_within}
use Rattle.place_plan.specs.RulesOfJournals.Entries.{code_of, is_of, is_in, has, newest}
use Rattle.place_plan.specs.RulesOfJournals.Whereabouts.{has_started, has_ended, is_undoing, is_live}
use Rattle.place_plan.specs.RulesOfJournals.Objects.{restores, writes, holder_of, is_within_any, places_undone, value_outside}
use Rattle.place_plan.specs.RulesOfJournals.Roles.{signals}
use Rattle.place_plan.specs.RulesOfJournals.Rules.{Row, MayPut, MayEnd, EndsUndone, EndsAgreed}
use Rattle.place_plan.specs.RulesOfJournals.Journals.{LegalPast, AllOver}
use Rattle.journal_laws.specs.Laws.{Holds, EffectLaw, RestoresFit, Splits, is_restore, is_kept_mark, keeps_effects, is_kept, last_write, has_failed_restore}
use Rattle.journal_laws.proofs.Playable.{IsPlayable}
use Rattle.caa_base.proofs.ListLemmas.{chosen, all_at}
use Rattle.place_plan.proofs.OnJournals.EntryKinds.{of_kind}
use Rattle.place_plan.proofs.OnJournals.LatestValues.{restores_round}
use Rattle.journal_laws.proofs.Tree.{in_within, live_within}
use Rattle.journal_laws.proofs.Phases.{going_parts}
use Rattle.journal_laws.proofs.Holding.{live_uses, holds_within}
use Rattle.journal_laws.proofs.Raised.{and_more}
use Rattle.journal_laws.proofs.InnerFirst.{legal_rest, started_filled}
use Rattle.journal_laws.proofs.Tried.{count_next, tries}
use Rattle.journal_laws.proofs.Outcome.{outcomes, counted_any, undone_marks, agreed_mark, zero_or_one}
use Rattle.journal_laws.proofs.Makers.{put_going}
use Rattle.journal_laws.proofs.Over.{over_outside}
use Rattle.journal_laws.proofs.Exit.{end_row}

-- ---- lists

-- what stands in a past, and passes the test
pub record Stands (test : Entry → Bool) (past : List Entry) (e : Entry) : Type 0 where
  pub later : List Entry
  pub before : List Entry
  pub split : Splits past later e before
  pub passes : test e ≡ true

split_deeper : (test : Entry → Bool) (past : List Entry) (e f : Entry) → Stands test past f → Stands test (e ∷ past) f
split_deeper test past e f s = record { later = e ∷ s.later; before = s.before; split = ap (λ es. e ∷ es) s.split; passes = s.passes }

pub newest_split : (test : Entry → Bool) (past : List Entry) (f : Entry) → newest test past ≡ Some f → Stands test past f
newest_split test [] f w = absurd cc
newest_split test (e ∷ past) f w =
    elim (chosen (test e) (Some e) (newest test past) (Some f) w) [
      | inl x ↦
          let same : e ≡ f = cc in
          record { later = []; before = past; split = ap (λ g. g ∷ past) same; passes = subst (λ g. test g ≡ true) same x.0 }
      | inr x ↦ split_deeper test past e f (newest_split test past f x.1)
    ]

-- one that passes is the newest of some
pub any_newest : (test : Entry → Bool) (past : List Entry) → list_any test past ≡ true → (f : Entry) × (newest test past ≡ Some f)
any_newest test [] w = absurd (false≢true w)
any_newest test (e ∷ past) w =
    elim (cases_Bool (test e)) [
      | inl x ↦ (e, rw x refl)
      | inr x ↦ let more = any_newest test past (rw x at w) in (more.0, rw x more.1)
    ]

-- one that fails where not all pass
fails_one : (test : ℕ → Bool) (xs : List ℕ) → list_all test xs ≡ false → (x : ℕ) × (member x xs ≡ true) × (test x ≡ false)
fails_one test [] h = absurd (false≢true (sym h))
fails_one test (x ∷ xs) h =
    elim (and_cases (test x) (list_all test xs) h) [
      | inl w ↦ (x, or_left _ _ (eq-eqb x x refl), w)
      | inr w ↦ let more = fails_one test xs w in (more.0, or_right _ _ more.1, more.2)
    ]

-- what is implied by a test passes where it does
pub any_implied : (test other : Entry → Bool) (es : List Entry) → ((e : Entry) → test e ≡ true → other e ≡ true)
    → list_any test es ≡ true → list_any other es ≡ true
any_implied test other [] h w = w
any_implied test other (e ∷ es) h w =
    elim (or_cases (test e) (list_any test es) w) [
      | inl x ↦ or_left _ _ (h e x)
      | inr x ↦ or_right _ _
          (any_implied test other es h x)
    ]

-- ---- the value without what was undone

-- these are the places that have restored o in these entries
abbrev AreUndone : Plan → ℕ → List Entry → List ℕ → Type 0
AreUndone plan o later us = (p : ℕ) → is_within_any plan p us ≡ list_any (restores_round plan o p) later

undone_more : (plan : Plan) (o : ℕ) (later : List Entry) (e : Entry) (us : List ℕ) → AreUndone plan o later us
    → AreUndone plan o (later ++ e ∷ []) (places_undone o e us)
undone_more plan o later e us h p = by_test (restores o e) refl ∙ sym (list_any-append (restores_round plan o p) later (e ∷ []))
  where
    turned : (b c : Bool) → b || c ≡ (c || (b || false))
    turned true true = refl
    turned true false = refl
    turned false true = refl
    turned false false = refl

    same : (c : Bool) → c ≡ (c || (false || false))
    same true = refl
    same false = refl

    by_test : (b : Bool) → restores o e ≡ b
        → is_within_any plan p (cond b (e.place ∷ us) us)
        ≡ (list_any (restores_round plan o p) later || ((b && is_within plan p e.place) || false))
    by_test true w = rw (h p) (turned (is_within plan p e.place) (list_any (restores_round plan o p) later))
    by_test false w = h p ∙ same (list_any (restores_round plan o p) later)

-- the value is that of the last write that passes a test, where a write passes as long as no later restore undoes it
value_tested : (plan : Plan) (o : ℕ) (test : Entry → Bool) (past : List Entry)
    → ((later before : List Entry) (e : Entry) → Splits past later e before → writes o e ≡ true
    → test e ≡ not (list_any (restores_round plan o e.place) later)) → (later rest : List Entry) (us : List ℕ)
    → past ≡ later ++ rest → AreUndone plan o later us → value_outside plan rest o us ≡ last_write plan rest o test
value_tested plan o test past decides later [] us split undone = refl
value_tested plan o test past decides later (e ∷ rest) us split undone =
    by_write (writes o e) refl
    (value_tested plan o test past decides (later ++ e ∷ []) rest (places_undone o e us)
    (split ∙ sym (append_assoc later (e ∷ []) rest)) (undone_more plan o later e us undone))
  where
    by_write : (b : Bool) → writes o e ≡ b
        → value_outside plan rest o (places_undone o e us) ≡ last_write plan rest o test
        → cond (b && not (is_within_any plan e.place us)) e.value (value_outside plan rest o (places_undone o e us))
        ≡ cond (b && test e) e.value (last_write plan rest o test)
    by_write true w ih = rw (decides later rest e split w, undone e.place, ih) refl
    by_write false w ih = ih

-- a place within which o was restored
restored_within : (plan : Plan) (o p : ℕ) (es : List Entry) → list_any (restores_round plan o p) es ≡ true
    → (q : ℕ) × (is_within plan p q ≡ true) × (has kind.Restore es q ≡ true)
restored_within plan o p [] w = absurd (false≢true w)
restored_within plan o p (e ∷ es) w =
    elim (or_cases (restores_round plan o p e) (list_any (restores_round plan o p) es) w) [
      | inl x ↦
          let parts = and_parts (restores o e) (is_within plan p e.place) x in
          let own = and_parts (is_of kind.Restore e) ((e.arg == o) && (e.mark == 0)) parts.0 in
          (e.place, parts.1, or_left _ _ (and_from (is_of kind.Restore e) (e.place == e.place) own.0 (eq-eqb e.place e.place refl)))
      | inr x ↦ let more = restored_within plan o p es x in (more.0, more.1, or_right _ _ more.2)
    ]

-- a restore of o in q, where p is within q, restores o in p or round p
restore_round : (plan : Plan) (o p q : ℕ) (e : Entry) → is_within plan p q ≡ true → is_restore q o 0 e ≡ true
    → restores_round plan o p e ≡ true
restore_round plan o p q e w h =
    let parts = and_parts (is_in kind.Restore q e) ((e.arg == o) && (e.mark == 0)) h in
    let own = and_parts (is_of kind.Restore e) (e.place == q) parts.0 in
    and_from _ _ (and_from _ _ own.0 parts.1) (subst (λ a. is_within plan p a ≡ true) (sym (eqb-true e.place q own.1)) w)

-- no entry writes and restores
not_both : (q o mark : ℕ) (e : Entry) → writes o e ≡ true → is_restore q o mark e ≡ true → ⊥
not_both q o mark e w h =
    let a = eqb-true 5 (code_of e.kind) (and_parts (is_of kind.Write e) (e.arg == o) w).0 in
    let b =
    eqb-true 15 (code_of e.kind)
    (and_parts (is_of kind.Restore e) (e.place == q)
    (and_parts (is_in kind.Restore q e) ((e.arg == o) && (e.mark == mark)) h).0).0 in
    omega arith

-- where no restore of o failed, none of a place did
none_failed : (past : List Entry) (q o : ℕ) → has_failed_restore past o ≡ false → count_by (is_restore q o 1) past ≡ 0
none_failed [] q o h = refl
none_failed (e ∷ past) q o h =
    let parts = or_parts (is_of kind.Restore e && ((e.arg == o) && (e.mark == 1))) (has_failed_restore past o) h in
    rw (
      count_next (is_restore q o 1) e past,
      and_more (is_of kind.Restore e) (e.place == q) ((e.arg == o) && (e.mark == 1)) parts.0,
    )
    (omega (arith, none_failed past q o parts.1))

pub any_later : (test : Entry → Bool) (later before : List Entry) → list_any test before ≡ true → list_any test (later ++ before) ≡ true
any_later test later before h = rw (list_any-append test later before) (or_right _ _ h)

-- what writes keeps the row of a write
write_row : (plan : Plan) (past : List Entry) (k : Kind) (e : Entry) (o : ℕ) → Row k plan past (of_kind k e)
    → writes o (of_kind k e) ≡ true → MayPut plan past (of_kind kind.Write e) × (e.arg ≡ o)
write_row plan past kind.Write e o h w = (h, eqb-true e.arg o w)
write_row plan past _ e o h w = absurd (false≢true w)

-- ---- what a write comes to

kept_marked : (mark : ℕ) → mark < 2 → (mark == 0) || (mark == 1) ≡ true
kept_marked mark l = elim (cases_eq mark 0) [ inl x ↦ or_left _ _ (eq-eqb mark 0 x) | inr x ↦ or_right _ _ (eq-eqb mark 1 (omega arith)) ]

-- the marks of an End
abbrev Marks : ℕ → Type 0
Marks mark = (mark < 2) ⊎ (((mark ≡ 2) ⊎ (mark ≡ 3)) ⊎ (mark ≡ 4))

end_marks : (plan : Plan) (past : List Entry) (e : Entry) → MayEnd plan past e → Marks e.mark
end_marks plan past e h = by_undo (is_undoing past e.place) h.how
  where
    by_undo : (b : Bool) → MatchBool b (EndsUndone plan past e) (EndsAgreed plan past e) → Marks e.mark
    by_undo true h = elim (undone_marks past e.place e.mark h.mark) [ inl x ↦ inr (inl x) | inr x ↦ inr (inr x.0) ]
    by_undo false h = inl (agreed_mark plan e (signals past e.place (roles_of plan e.place)) h.outcome)

ended_marks : (plan : Plan) (past : List Entry) (q : ℕ) (f : Entry) → LegalPast plan past
    → newest (is_in kind.End q) past ≡ Some f → Marks f.mark
ended_marks plan past q f legal w =
    let s = newest_split (is_in kind.End q) past f w in
    let here = legal_rest plan s.later (f ∷ s.before) (subst (LegalPast plan) s.split legal) in
    end_marks plan s.before (of_kind kind.End f) (end_row plan s.before f.kind f q here.1 s.passes).0

module _ (plan : Plan) (playable : IsPlayable plan) where
  -- in a complete journal, what has started has ended
  pub all_ended : (past : List Entry) → LegalPast plan past → AllOver plan past → (q : ℕ) → has_started past q ≡ true
      → has_ended past q ≡ true
  all_ended past legal over q s = true_from_ne_false _ (λ lasts.
      let some = started_filled plan playable.tree past legal q s in
      let out = over_outside plan playable past legal some.0 (over some.0 (playable.known q some.0 some.1)) in
      let deep : in_within plan None q ≡ true =
      subst (λ o. in_within plan o q ≡ true) out
      (live_within plan playable.tree past legal some.0 q some.1 s lasts) in
      false≢true deep)

  -- each place round the holder of an object uses it, as the holder does
  uses_round : (past : List Entry) (e : Entry) (o q : ℕ) → LegalPast plan past → holder_of plan past o ≡ Some e.place
      → is_within plan e.place q ≡ true → uses plan q o ≡ true
  uses_round past e o q legal held w =
      let at : live_uses plan o past q ≡ is_within plan e.place q =
      holds_within plan playable.tree past legal o q ∙ ap (λ x. in_within plan x q) held in
      (and_parts (is_live past q) (uses plan q o) (at ∙ w)).1

  -- a place round a write that ended otherwise than by commit or signal restored the object, after the write
  undone_after : (past later before : List Entry) (e : Entry) (o q : ℕ) → LegalPast plan past → AllOver plan past
      → has_failed_restore past o ≡ false → Splits past later e before → writes o e ≡ true
      → is_within plan e.place q ≡ true → is_kept_mark (newest (is_in kind.End q) past) ≡ false
      → list_any (restores_round plan o e.place) later ≡ true
  undone_after past later before e o q legal over whole split w round lost =
      let here = legal_rest plan later (e ∷ before) (subst (LegalPast plan) split legal) in
      let put = write_row plan before e.kind e o here.1 w in
      let goes = going_parts before q (put_going plan playable.tree before (of_kind kind.Write e) q here.0 put.0 round) in
      let started : has_started past q ≡ true =
      subst (λ es. has_started es q ≡ true) (sym split)
      (any_later (is_in kind.Start q) later (e ∷ before) (or_right _ _ goes.started)) in
      let ended = any_newest (is_in kind.End q) past (all_ended past legal over q started) in
      let used =
      uses_round before (of_kind kind.Write e) o q here.0
      (subst (λ a. holder_of plan before a ≡ Some e.place) put.1 put.0.holds) round in
      let fits = outcomes plan past legal q ended.0 ended.1 in
      let restored =
      well_restored ended.0 fits used (subst (λ x. is_kept_mark x ≡ false) ended.1 lost)
      (ended_marks plan past q ended.0 legal ended.1) in
      any_implied (is_restore q o 0) (restores_round plan o e.place) later (λ f. restore_round plan o e.place q f round)
      (in_later goes.kept here.0 (list_any-append (is_restore q o 0) later (e ∷ before))
      (subst (λ es. list_any (is_restore q o 0) es ≡ true) split restored))
    where
      well_restored : (f : Entry) → RestoresFit plan past q f.mark → uses plan q o ≡ true
          → is_kept_mark (Some f) ≡ false → Marks f.mark → list_any (is_restore q o 0) past ≡ true
      well_restored f fits used lost (inl low) = absurd (both_ways _ lost (kept_marked f.mark low))
      well_restored f fits used lost (inr (inl well)) = fits.undone well o used
      well_restored f fits used lost (inr (inr bad)) =
          counted_any (is_restore q o 0) past (λ z. omega (arith, z, none_failed past q o whole, fits.tried bad o used))

      in_later : is_undoing before q ≡ false → LegalPast plan before
          → list_any (is_restore q o 0) (later ++ e ∷ before)
          ≡ (list_any (is_restore q o 0) later || list_any (is_restore q o 0) (e ∷ before))
          → list_any (is_restore q o 0) (later ++ e ∷ before) ≡ true → list_any (is_restore q o 0) later ≡ true
      in_later calm legal parts h =
          elim (or_cases (list_any (is_restore q o 0) later) (list_any (is_restore q o 0) (e ∷ before)) (sym parts ∙ h)) [
            | inl x ↦ x
            | inr x ↦ elim (or_cases (is_restore q o 0 e) (list_any (is_restore q o 0) before) x) [
              | inl y ↦ absurd (not_both q o 0 e w y)
              | inr y ↦
                  absurd (both_ways _ calm
                  ((tries plan before legal).undone q
                  (any_implied (is_restore q o 0) (is_in kind.Restore q) before
                  (λ f z. (and_parts (is_in kind.Restore q f) ((f.arg == o) && (f.mark == 0)) z).0) y)))
            ]
          ]

  -- a kept place has restored nothing
  kept_whole : (past : List Entry) (q : ℕ) (f : Option Entry) → LegalPast plan past → newest (is_in kind.End q) past ≡ f
      → is_kept_mark f ≡ true → has kind.Restore past q ≡ false
  kept_whole past q None legal w k = absurd (false≢true k)
  kept_whole past q (Some f) legal w k = (outcomes plan past legal q f w).kept (zero_or_one f.mark k)

  -- a write is kept as long as no later restore undoes it
  kept_or_undone : (past : List Entry) (o : ℕ) → LegalPast plan past → AllOver plan past
      → has_failed_restore past o ≡ false → (later before : List Entry) (e : Entry) → Splits past later e before
      → writes o e ≡ true → is_kept plan past e.place ≡ not (list_any (restores_round plan o e.place) later)
  kept_or_undone past o legal over whole later before e split w = elim (cases_Bool (is_kept plan past e.place)) [
    | inl k ↦ k ∙ sym (not_from_false _ (false_from_ne_true _ (λ r.
        let found = restored_within plan o e.place later r in
        let kept = all_at (keeps_effects past) (e.place ∷ around plan e.place) found.0 k found.1 in
        let there : has kind.Restore past found.0 ≡ true =
        subst (λ es. has kind.Restore es found.0 ≡ true) (sym split)
        (rw (list_any-append (is_in kind.Restore found.0) later (e ∷ before)) (or_left _ _ found.2)) in
        both_ways _ (kept_whole past found.0 (newest (is_in kind.End found.0) past) legal refl kept) there)))
    | inr k ↦
        let lost = fails_one (keeps_effects past) (e.place ∷ around plan e.place) k in
        k ∙ sym (not_from_true _ (undone_after past later before e o lost.0 legal over whole split w lost.1 lost.2))
  ]

  effect : (past : List Entry) → LegalPast plan past → EffectLaw plan past
  effect past legal over o whole =
      value_tested plan o (λ e. is_kept plan past e.place) past (kept_or_undone past o legal over whole) [] past [] refl
      (λ p. refl)

-- effect law
pub effects : (plan : Plan) → IsPlayable plan → Holds EffectLaw plan
effects plan playable past legal = effect plan playable past legal
