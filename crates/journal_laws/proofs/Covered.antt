-- What was raised in a place whose effects are kept was handled by each of its roles, with what covers it.
use Rattle.std.proofs.Common.{◌≡◌, ℕ, ◌==◌, ◌<◌, Bool, true, false, not, cond, ◌&&◌, ◌||◌, List, [], ◌∷◌, Option, Some, None, refl, sym, subst, arith, inl, inr, MatchOption}
use Rattle.std.specs.List.{list_any}
use Rattle.std.proofs.lemmas.Bool.{and_parts, and_from, or_cases, or_parts, eqb-true, false≢true, cases_Bool, true_from_ne_false, both_ways, MatchBool-at_true}
use Rattle.cover_table.specs.Cover.{covers}
use Rattle.caa_base.specs.declared.written.entry.Entry.{Entry}
use Rattle.caa_base.specs.declared.written.entry.Kind.{Kind}
use Rattle.caa_base.specs.declared.written.entry.Kind.TheVariants as kind
use Rattle.caa_base.specs.declared.written.entry.Verdict.TheVariants as verdict
use Rattle.place_plan.specs.Plans.PlanValue.{Plan}
use Rattle.caa_base.specs.Written.Lists.{member, is_empty}
use Rattle.place_plan.specs.Plans.Places.{roles_of, internal_of}
use Rattle.place_plan.specs.RulesOfJournals.Entries.{is_in, is_by, newest}
use Rattle.place_plan.specs.RulesOfJournals.Whereabouts.{has_ended, is_undoing}
use Rattle.place_plan.specs.RulesOfJournals.Raising.{has_handled, exceptions_raised, is_raised, is_calm, is_hot}
use Rattle.place_plan.specs.RulesOfJournals.Roles.{has_given, has_given_after, all_have_given, is_handling, was_refused_in_handler, is_in_handler, is_able, verdict_of, is_undo, wants_undo}
use Rattle.place_plan.specs.RulesOfJournals.Rules.{Row, EndsUndone, SaysVerdict, verdict_due}
use Rattle.place_plan.specs.RulesOfJournals.Journals.{LegalPast}
use Rattle.journal_laws.specs.Laws.{Holds, is_kept_mark, keeps_effects, IsCovered}
use Rattle.journal_laws.proofs.Playable.{IsPlayable}
use Rattle.journal_laws.proofs.Core.{Core}
use Rattle.caa_base.proofs.ListLemmas.{all_at, chosen}
use Rattle.place_plan.proofs.OnJournals.EntryKinds.{of_kind, both_same}
use Rattle.journal_laws.proofs.Newest.{stands_newest}
use Rattle.journal_laws.proofs.Phases.{going_parts, calm_open, not_calm}
use Rattle.journal_laws.proofs.Raised.{plain_calm}
use Rattle.journal_laws.proofs.Said.{unhandled_undo}
use Rattle.journal_laws.proofs.Outcome.{newest_any, undone_marks, below_two}
use Rattle.journal_laws.proofs.Versions.{any_at}
use Rattle.journal_laws.proofs.Resolution.{newest_says, given_after}
use Rattle.journal_laws.proofs.Effects.{any_implied}

-- ---- lists

-- a list that has a member isn't empty
filled_by : (xs : List ℕ) (x : ℕ) → member x xs ≡ true → not (is_empty xs) ≡ true
filled_by [] x m = absurd (false≢true m)
filled_by (y ∷ ys) x m = refl

-- a put that was refused in a handler finds the handler begun
refused_handled : (p t : ℕ) (past : List Entry) → was_refused_in_handler past p t ≡ true → has_handled past p t ≡ true
refused_handled p t [] h = absurd (false≢true h)
refused_handled p t (e ∷ past) h = by_tests (is_by kind.Handle p t e) (is_by kind.PutFault p t e) h (refused_handled p t past)
  where
    by_tests : (b c : Bool) → cond b false (cond c (has_handled past p t) (was_refused_in_handler past p t)) ≡ true
        → (was_refused_in_handler past p t ≡ true → has_handled past p t ≡ true) → b || has_handled past p t ≡ true
    by_tests true c h ih = absurd (false≢true h)
    by_tests false true h ih = h
    by_tests false false h ih = ih h

-- ---- who asks for undo

-- in a raised place the verdict of whose handler was broken off by a refused put is undo
refused_undo : (plan : Plan) (past : List Entry) (p t : ℕ) (e : Entry) → is_raised plan past p ≡ true
    → has_handled past p t ≡ true → was_refused_in_handler past p t ≡ true
    → MatchOption (verdict_due plan past p t) ⊥ (SaysVerdict e) → e.mark ≡ 2
refused_undo plan past p t e r f w h =
    by_tests (is_hot plan past p) (is_handling past p t) (rw (not_calm plan past p r, f, w) at h)
  where
    by_tests : (b c : Bool) → MatchOption (cond (not b) None (cond c (Some verdict.Undo) None)) ⊥ (SaysVerdict e) → e.mark ≡ 2
    by_tests false c h = elim h [ ]
    by_tests true false h = elim h [ ]
    by_tests true true h = h.0

module _ (plan : Plan) (playable : IsPlayable plan) (core : Holds Core plan) where
  -- who gave its verdict after the Resolve without a handler asks for undo
  unhandled_by : (past : List Entry) (k : Kind) (e : Entry) (p t : ℕ) → LegalPast plan past
      → (has_given_after past p t ≡ true → has_handled past p t ≡ false → is_undo (verdict_of past p t) ≡ true)
      → Row k plan past (of_kind k e) → has_given_after (of_kind k e ∷ past) p t ≡ true
      → has_handled (of_kind k e ∷ past) p t ≡ false → is_undo (verdict_of (of_kind k e ∷ past) p t) ≡ true
  unhandled_by past kind.Verdict e p t legal ih h w f = elim (chosen ((e.place == p) && (e.by == t)) _ _ _ w) [
    | inl y ↦
        let same = both_same e.place p e.by t y.0 in
        let some = stands_newest (is_in kind.Resolve p) past y.1 in
        let due : MatchOption (verdict_due plan past p t) ⊥ (SaysVerdict (of_kind kind.Verdict e)) =
        subst (λ a. MatchOption (verdict_due plan past p a) ⊥ (SaysVerdict (of_kind kind.Verdict e))) same.1
        (subst (λ a. MatchOption (verdict_due plan past a e.by) ⊥ (SaysVerdict (of_kind kind.Verdict e))) same.0 h.due) in
        let r = ((core past legal).raises.resolves p some.0 some.1).1 in
        rw (y.0, (unhandled_undo plan past p t some.0 (of_kind kind.Verdict e) r f some.1 due).1) refl
    | inr y ↦ rw y.0 (ih y.1 f)
  ]
  unhandled_by past kind.Handle e p t legal ih h w f = ih w (or_parts _ _ f).1
  unhandled_by past kind.Resolve e p t legal ih h w f = elim (chosen (e.place == p) _ _ _ w) [
    | inl y ↦ absurd (false≢true y.1)
    | inr y ↦ ih y.1 f
  ]
  unhandled_by past _ e p t legal ih h w f = ih w f

  unhandled_asks : (past : List Entry) → LegalPast plan past → (p t : ℕ) → has_given_after past p t ≡ true
      → has_handled past p t ≡ false → is_undo (verdict_of past p t) ≡ true
  unhandled_asks [] h p t w f = absurd (false≢true w)
  unhandled_asks (e ∷ past) h p t w f = unhandled_by past e.kind e p t h.0 (unhandled_asks past h.0 p t) h.1 w f

  -- where somebody handles, something was raised
  pub handled_raised : (past : List Entry) → LegalPast plan past → (p t : ℕ) → has_handled past p t ≡ true → is_raised plan past p ≡ true
  handled_raised past legal p t f =
      true_from_ne_false _ (λ r. both_ways _ (plain_calm plan past p t (core past legal).raises r).1 f)

  -- who is able where it has begun its handler is in it
  able_handling : (past : List Entry) → LegalPast plan past → (p t : ℕ) → has_handled past p t ≡ true
      → is_able plan past p t ≡ true → is_handling past p t ≡ true
  able_handling past legal p t f able_to =
      elim (or_cases (is_calm plan past p && not (has_given plan past p t)) (is_hot plan past p && is_in_handler past p t) able_to) [
        | inl x ↦
            absurd (both_ways _ (calm_open plan past p (and_parts (is_calm plan past p) _ x).0).1 (handled_raised past legal p t f))
        | inr x ↦
            (and_parts (is_handling past p t) (not (was_refused_in_handler past p t))
            (and_parts (is_hot plan past p) (is_in_handler past p t) x).1).0
      ]

  -- whoever was refused a put in its handler, and is no longer in that, asks for undo
  refused_by : (past : List Entry) (k : Kind) (e : Entry) (p t : ℕ) → LegalPast plan past
      → (was_refused_in_handler past p t ≡ true → is_handling past p t ≡ false → is_undo (verdict_of past p t) ≡ true)
      → Row k plan past (of_kind k e) → was_refused_in_handler (of_kind k e ∷ past) p t ≡ true
      → is_handling (of_kind k e ∷ past) p t ≡ false → is_undo (verdict_of (of_kind k e ∷ past) p t) ≡ true
  refused_by past kind.Verdict e p t legal ih h w f = elim (cases_Bool ((e.place == p) && (e.by == t))) [
    | inl y ↦
        let same = both_same e.place p e.by t y in
        let due : MatchOption (verdict_due plan past p t) ⊥ (SaysVerdict (of_kind kind.Verdict e)) =
        subst (λ a. MatchOption (verdict_due plan past p a) ⊥ (SaysVerdict (of_kind kind.Verdict e))) same.1
        (subst (λ a. MatchOption (verdict_due plan past a e.by) ⊥ (SaysVerdict (of_kind kind.Verdict e))) same.0 h.due) in
        let handled = refused_handled p t past w in
        let r = handled_raised past legal p t handled in
        rw (y, refused_undo plan past p t (of_kind kind.Verdict e) r handled w due) refl
    | inr y ↦ rw y (ih w (rest y f))
  ]
    where
      rest : ((e.place == p) && (e.by == t)) ≡ false → is_handling (of_kind kind.Verdict e ∷ past) p t ≡ false
          → is_handling past p t ≡ false
      rest y f = rw y at f
  refused_by past kind.PutFault e p t legal ih h w f = elim (chosen ((e.place == p) && (e.by == t)) _ _ _ w) [
    | inl y ↦
        let same = both_same e.place p e.by t y.0 in
        let able_to : is_able plan past p t ≡ true =
        subst (λ a. is_able plan past p a ≡ true) same.1 (subst (λ a. is_able plan past a e.by ≡ true) same.0 h.can) in
        absurd (both_ways _ f (able_handling past legal p t y.1 able_to))
    | inr y ↦ ih y.1 f
  ]
  refused_by past kind.Handle e p t legal ih h w f = elim (chosen ((e.place == p) && (e.by == t)) _ _ _ w) [
    | inl y ↦ absurd (false≢true y.1)
    | inr y ↦ ih y.1 (rest y.0 f)
  ]
    where
      rest : ((e.place == p) && (e.by == t)) ≡ false → is_handling (of_kind kind.Handle e ∷ past) p t ≡ false
          → is_handling past p t ≡ false
      rest y f = rw y at f
  refused_by past _ e p t legal ih h w f = ih w f

  pub refused_asks : (past : List Entry) → LegalPast plan past → (p t : ℕ) → was_refused_in_handler past p t ≡ true
      → is_handling past p t ≡ false → is_undo (verdict_of past p t) ≡ true
  refused_asks [] h p t w f = absurd (false≢true w)
  refused_asks (e ∷ past) h p t w f = refused_by past e.kind e p t h.0 (refused_asks past h.0 p t) h.1 w f

  -- ---- where effects are kept

  -- an undo ends by none of the marks that keep effects
  undone_by : (past : List Entry) (k : Kind) (e : Entry) (p : ℕ) (f : Entry)
      → (newest (is_in kind.End p) past ≡ Some f → is_undoing past p ≡ true → f.mark < 2 → ⊥)
      → Row k plan past (of_kind k e) → newest (is_in kind.End p) (of_kind k e ∷ past) ≡ Some f
      → is_undoing (of_kind k e ∷ past) p ≡ true → f.mark < 2 → ⊥
  undone_by past kind.End e p f ih h w u l = elim (chosen (e.place == p) (Some (of_kind kind.End e)) _ (Some f) w) [
    | inl x ↦
        let same : of_kind kind.End e ≡ f = cc in
        let undoing : is_undoing past e.place ≡ true = subst (λ a. is_undoing past a ≡ true) (sym (eqb-true e.place p x.0)) u in
        high (MatchBool-at_true _ _ undoing h.how) (subst (λ (g : Entry). g.mark < 2) (sym same) l)
    | inr x ↦ ih x.1 u l
  ]
    where
      high : EndsUndone plan past (of_kind kind.End e) → e.mark < 2 → ⊥
      high h l = elim (undone_marks past e.place e.mark h.mark) [
        | inl (inl x) ↦ omega arith
        | inl (inr x) ↦ omega arith
        | inr x ↦ omega (arith, x.0)
      ]
  undone_by past kind.Undo e p f ih h w u l = elim (or_cases (e.place == p) (is_undoing past p) u) [
    | inl x ↦
        both_ways _ (subst (λ a. has_ended past a ≡ false) (eqb-true e.place p x) (going_parts past e.place h.when).lasts)
        (newest_any (is_in kind.End p) past f w)
    | inr x ↦ ih w x l
  ]
  undone_by past _ e p f ih h w u l = ih w u l

  undone_high : (past : List Entry) → LegalPast plan past → (p : ℕ) (f : Entry) → newest (is_in kind.End p) past ≡ Some f
      → is_undoing past p ≡ true → f.mark < 2 → ⊥
  undone_high [] h p f w u l = false≢true u
  undone_high (e ∷ past) h p f w u l = undone_by past e.kind e p f (undone_high past h.0 p f) h.1 w u l

  -- a place keeps its effects where all have agreed, and none asked for undo
  pub kept_agreed : (past : List Entry) → LegalPast plan past → (p : ℕ) → keeps_effects past p ≡ true
      → (all_have_given plan past p ≡ true) × (wants_undo plan past p ≡ false)
  kept_agreed past legal p k = by_end (newest (is_in kind.End p) past) refl k
    where
      by_end : (o : Option Entry) → newest (is_in kind.End p) past ≡ o → is_kept_mark o ≡ true
          → (all_have_given plan past p ≡ true) × (wants_undo plan past p ≡ false)
      by_end None w k = absurd (false≢true k)
      by_end (Some f) w k = elim ((core past legal).says.ended p (newest_any (is_in kind.End p) past f w)) [
        | inl u ↦ absurd (undone_high past legal p f w u (below_two f.mark k))
        | inr s ↦ (s.1, s.2)
      ]

  -- where none asked for undo, no role did
  pub nobody_asks : (past : List Entry) (p t : ℕ) → wants_undo plan past p ≡ false → member t (roles_of plan p) ≡ true
      → is_undo (verdict_of past p t) ≡ true → ⊥
  nobody_asks past p t none m asks = both_ways _ none (any_at (λ a. is_undo (verdict_of past p a)) (roles_of plan p) t m asks)

  -- who handled something in p handled what covers each exception raised there
  handled_covers : (past : List Entry) → LegalPast plan past → (p t x : ℕ) → member x (exceptions_raised plan past p) ≡ true
      → has_handled past p t ≡ true
      → list_any (λ e. is_by kind.Handle p t e && covers (internal_of plan p) e.arg x) past ≡ true
  handled_covers past legal p t x m f =
      let some = stands_newest (is_by kind.Handle p t) past f in
      let resolution = ((core past legal).raises.handles p t some.0 some.1).0 in
      let least = ((core past legal).raises.resolves p some.0 resolution).2 in
      let over : covers (internal_of plan p) some.0 x ≡ true =
      all_at (covers (internal_of plan p) some.0) (exceptions_raised plan past p) x least.above m in
      any_implied (λ e. is_by kind.Handle p t e && (e.arg == some.0))
      (λ e. is_by kind.Handle p t e && covers (internal_of plan p) e.arg x) past
      (λ e w. let parts = and_parts (is_by kind.Handle p t e) (e.arg == some.0) w in
      and_from (is_by kind.Handle p t e) _ parts.0
      (subst (λ a. covers (internal_of plan p) a x ≡ true) (sym (eqb-true e.arg some.0 parts.1)) over))
      (newest_says (is_by kind.Handle p t) past some.0 some.1)

  -- what was raised in a place that keeps its effects was handled by each role
  pub covered : (past : List Entry) → LegalPast plan past → (p x : ℕ) → keeps_effects past p ≡ true
      → member x (exceptions_raised plan past p) ≡ true → IsCovered plan past p x
  covered past legal p x k m t role =
      let agreed = kept_agreed past legal p k in
      let r : is_raised plan past p ≡ true = filled_by (exceptions_raised plan past p) x m in
      let given = given_after plan playable core past p t agreed.0 r role in
      handled_covers past legal p t x m
      (true_from_ne_false _ (λ f. nobody_asks past p t agreed.1 role (unhandled_asks past legal p t given f)))
