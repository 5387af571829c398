-- In a place that is resolved each role stands in its handler, or where that was broken off.
use Rattle.std.proofs.Common.{◌≡◌, ℕ, ◌==◌, Bool, true, false, not, cond, ◌&&◌, ◌||◌, List, [], ◌∷◌, Some, None, Option, suc, refl, sym, ap, ◌∙◌, subst, subst₂, inl, inr, is_none, MatchOption}
use Rattle.std.proofs.lemmas.Bool.{and_parts, or_cases, eqb-true, false≢true, not-true, cases_Bool, both_ways, false_from_ne_true}
use Rattle.caa_base.specs.declared.written.entry.Entry.{Entry}
use Rattle.caa_base.specs.declared.written.entry.Kind.{Kind}
use Rattle.caa_base.specs.declared.written.entry.Kind.TheVariants as kind
use Rattle.caa_base.specs.declared.written.entry.Verdict.{Verdict}
use Rattle.place_plan.specs.declared.drafts.draft_rows.Program.{Program}
use Rattle.caa_base.specs.Written.Lists.{is_at, member}
use Rattle.place_plan.specs.Plans.PlanValue.{Plan}
use Rattle.place_plan.specs.Plans.Places.{parent, roles_of, handler_of, fault_of}
use Rattle.place_plan.specs.RulesOfJournals.Entries.{is_by, newest}
use Rattle.place_plan.specs.RulesOfJournals.Whereabouts.{inside, outcome_at}
use Rattle.place_plan.specs.RulesOfJournals.Raising.{has_handled, is_raised, is_calm, is_hot, exception_resolved}
use Rattle.place_plan.specs.RulesOfJournals.Roles.{advances, position, is_able, is_in_handler, is_handling, was_refused_in_handler, has_given, verdict_at, verdict_of, is_undo}
use Rattle.place_plan.specs.RulesOfJournals.Rules.{Row, SaysVerdict, handler_verdict, verdict_due}
use Rattle.place_plan.specs.RulesOfJournals.Journals.{LegalPast}
use Rattle.journal_laws.specs.Laws.{Holds}
use Rattle.journal_laws.proofs.Playable.{IsPlayable}
use Rattle.journal_laws.proofs.Core.{Core}
use Rattle.place_plan.proofs.OnJournals.EntryKinds.{of_kind, both_same}
use Rattle.journal_laws.proofs.Newest.{handling_handled}
use Rattle.journal_laws.proofs.Options.{some_apart, some_same}
use Rattle.journal_laws.proofs.Phases.{not_calm}
use Rattle.journal_laws.proofs.Raised.{parent_round}
use Rattle.journal_laws.proofs.Recovering.{handled_resolved}
use Rattle.journal_laws.proofs.Said.{unhandled_undo}
use Rattle.journal_laws.proofs.Uses.{steps_out}
use Rattle.interlock_laws.specs.Spots.{Spot, handler_at, broken_at, stepped, raising, refused, said, resolved_to, back_from, spot_of}
use Rattle.interlock_laws.specs.SpotLaws.{is_broken_off, handler_spot}

-- ---- what entries make of the spots of a place that is resolved: `handled`, `broken` and `n` tell of the handler of a role, `to` of
-- the spot that it has before

abbrev spot_in : Bool → Bool → ℕ → ℕ → Spot → Spot
spot_in handled broken x n to = cond handled (cond broken (broken_at x) (handler_at x n)) to

step_made : (b handled broken : Bool) (x n : ℕ) (to s : Spot) → (b ≡ true → (handled ≡ true) × (broken ≡ false))
    → s ≡ spot_in handled broken x n to → cond b (stepped s) s ≡ spot_in handled broken x (cond b (suc n) n) to
step_made false handled broken x n to s own h = h
step_made true false broken x n to s own h = absurd (false≢true (own refl).0)
step_made true true true x n to s own h = absurd (false≢true (sym (own refl).1))
step_made true true false x n to s own h = ap stepped h

put_refused : (b handled was other : Bool) (x n y : ℕ) (to s : Spot) → (b ≡ true → handled ≡ true)
    → s ≡ spot_in handled (was || other) x n to → cond b (refused y s) s ≡ spot_in handled (cond b handled was || other) x n to
put_refused false handled was other x n y to s own h = h
put_refused true false was other x n y to s own h = absurd (false≢true (own refl))
put_refused true true true other x n y to s own h = ap (refused y) h
put_refused true true false true x n y to s own h = ap (refused y) h
put_refused true true false false x n y to s own h = ap (refused y) h

verdict_given : (b handled taken handling : Bool) (x n : ℕ) (to s : Spot) (v : Verdict) (old : Option Verdict)
    → (b ≡ true → handled ≡ true → handling ≡ true) → (b ≡ true → handled ≡ false → to ≡ broken_at x)
    → s ≡ spot_in handled (taken || (not handling && is_undo old)) x n to
    → cond b (said (is_undo (Some v)) s) s
    ≡ spot_in handled (taken || (not (cond b false handling) && is_undo (cond b (Some v) old))) x n to
verdict_given false handled taken handling x n to s v old own bare h = h
verdict_given true false taken handling x n to s v old own bare h = by_undo (is_undo (Some v)) (h ∙ bare refl refl) ∙ sym (bare refl refl)
  where
    by_undo : (undo : Bool) → s ≡ broken_at x → said undo s ≡ broken_at x
    by_undo true e = ap (said true) e
    by_undo false e = ap (said false) e
verdict_given true true taken false x n to s v old own bare h = absurd (false≢true (own refl refl))
verdict_given true true true true x n to s v old own bare h = by_undo (is_undo (Some v)) h
  where
    by_undo : (undo : Bool) → s ≡ broken_at x → said undo s ≡ broken_at x
    by_undo true e = ap (said true) e
    by_undo false e = ap (said false) e
verdict_given true true false true x n to s v old own bare h = by_undo (is_undo (Some v)) h
  where
    by_undo : (undo : Bool) → s ≡ handler_at x n → said undo s ≡ cond undo (broken_at x) (handler_at x n)
    by_undo true e = ap (said true) e
    by_undo false e = ap (said false) e

-- a role begins its handler, before the first step of which it stands already
handler_begun : (b handled was handling undo : Bool) (x n : ℕ) (to s : Spot) → (b ≡ true → (handled ≡ false) × (to ≡ handler_at x 0))
    → s ≡ spot_in handled (was || (not handling && undo)) x n to
    → s ≡ spot_in (b || handled) (cond b false was || (not (cond b true handling) && undo)) x (cond b 0 n) to
handler_begun false handled was handling undo x n to s own h = h
handler_begun true true was handling undo x n to s own h = absurd (false≢true (sym (own refl).0))
handler_begun true false was handling undo x n to s own h = h ∙ (own refl).1

-- who has begun no handler moves elsewhere
moved : (b handled broken : Bool) (x n : ℕ) (to s : Spot) → (b ≡ true → handled ≡ false) → s ≡ spot_in handled broken x n to
    → s ≡ spot_in handled broken x (cond b (suc n) n) to
moved false handled broken x n to s own h = h
moved true true broken x n to s own h = absurd (false≢true (sym (own refl)))
moved true false broken x n to s own h = h

-- what changes no spot of a handler changes none of these
kept_by : (f : Spot → Spot) (b handled broken : Bool) (x n : ℕ) (o : Option Program) (s : Spot)
    → ((i : ℕ) → f (handler_at x i) ≡ handler_at x i) → f (broken_at x) ≡ broken_at x
    → s ≡ spot_in handled broken x n (resolved_to x o) → cond b (f s) s ≡ spot_in handled broken x n (resolved_to x o)
kept_by f false handled broken x n o s hs bs h = h
kept_by f true true true x n o s hs bs h = ap f h ∙ bs
kept_by f true true false x n o s hs bs h = ap f h ∙ hs n
kept_by f true false broken x n None s hs bs h = ap f h ∙ bs
kept_by f true false broken x n (Some program) s hs bs h = ap f h ∙ hs 0

-- ---- handlers that are there, and that aren't

has_program : (x : ℕ) (o : Option Program) → is_none o ≡ false → resolved_to x o ≡ handler_at x 0
has_program x None h = absurd (false≢true (sym h))
has_program x (Some program) h = refl

has_no_program : (x : ℕ) (o : Option Program) → is_none o ≡ true → resolved_to x o ≡ broken_at x
has_no_program x None h = refl
has_no_program x (Some program) h = absurd (false≢true h)

-- in a hot place who has begun a handler gives its verdict out of it
due_handling : (plan : Plan) (past : List Entry) (p t : ℕ) (e : Entry) → is_raised plan past p ≡ true → has_handled past p t ≡ true
    → MatchOption (verdict_due plan past p t) ⊥ (SaysVerdict e) → is_handling past p t ≡ true
due_handling plan past p t e raised handled due =
    by_tests (is_hot plan past p) (is_handling past p t) (handler_verdict plan past p t)
    (rw (not_calm plan past p raised, handled) at due)
  where
    by_tests : (b c : Bool) (v : Option Verdict) → MatchOption (cond (not b) None (cond c v None)) ⊥ (SaysVerdict e) → c ≡ true
    by_tests false c v h = elim h [ ]
    by_tests true true v h = refl
    by_tests true false v h = elim h [ ]

module _ (plan : Plan) (playable : IsPlayable plan) (core : Holds Core plan) where
  -- ---- in a place that is resolved

  module _ (past : List Entry) (legal : LegalPast plan past) (p t x : ℕ) (resolution : exception_resolved past p ≡ Some x) where
    raised_there : is_raised plan past p ≡ true
    raised_there = ((core past legal).raises.resolves p x resolution).1

    -- who is able goes through its handler
    able_handles : is_able plan past p t ≡ true → (has_handled past p t ≡ true) × (is_broken_off past p t ≡ false)
    able_handles able =
        elim (or_cases (is_calm plan past p && not (has_given plan past p t)) (is_hot plan past p && is_in_handler past p t) able) [
          | inl w ↦ absurd (both_ways _ (not_calm plan past p raised_there) (and_parts (is_calm plan past p) _ w).0)
          | inr w ↦
              let parts =
              and_parts (is_handling past p t) (not (was_refused_in_handler past p t))
              (and_parts (is_hot plan past p) (is_in_handler past p t) w).1 in
              (handling_handled p t past parts.0, rw (not-true _ parts.1, parts.0) refl)
        ]

    -- who is in a place right inside has begun no handler
    further_unhandled : (c : ℕ) → parent plan c ≡ Some p → inside plan past t ≡ Some c → has_handled past p t ≡ false
    further_unhandled c up here = ((core past legal).raises.away p t c here (parent_round plan playable.tree c p up)).1

  abbrev Stands : List Entry → ℕ → ℕ → ℕ → Type 0
  Stands past p t x = spot_of plan past p t ≡ handler_spot plan past p t x

  step_by : (past : List Entry) (e : Entry) (p t x : ℕ) → LegalPast plan past → exception_resolved past p ≡ Some x
      → is_able plan past e.place e.by ≡ true → Stands past p t x
      → cond ((e.place == p) && (e.by == t)) (stepped (spot_of plan past p t)) (spot_of plan past p t)
      ≡ spot_in (has_handled past p t) (is_broken_off past p t) x
      (cond ((e.place == p) && (e.by == t)) (suc (position plan past p t)) (position plan past p t)) (resolved_to x (handler_of plan p t x))
  step_by past e p t x legal w able was =
      step_made ((e.place == p) && (e.by == t)) (has_handled past p t) (is_broken_off past p t) x (position plan past p t)
      (resolved_to x (handler_of plan p t x)) (spot_of plan past p t) (λ y.
      let same = both_same e.place p e.by t y in
      able_handles past legal p t x w (subst₂ (λ a b. is_able plan past a b ≡ true) same.0 same.1 able)) was

  resolved_by : (past : List Entry) (k : Kind) (e : Entry) (p t x : ℕ) → LegalPast plan past
      → (exception_resolved past p ≡ Some x → Stands past p t x) → Row k plan past (of_kind k e)
      → exception_resolved (of_kind k e ∷ past) p ≡ Some x → Stands (of_kind k e ∷ past) p t x
  resolved_by past kind.Read e p t x legal ih h w = step_by past e p t x legal w h.can (ih w)
  resolved_by past kind.Work e p t x legal ih h w = step_by past e p t x legal w h.can (ih w)
  resolved_by past kind.Write e p t x legal ih h w = step_by past e p t x legal w h.can (ih w)
  resolved_by past kind.Check e p t x legal ih h w = step_by past e p t x legal w h.can (ih w)
  resolved_by past kind.PutFault e p t x legal ih h w =
      put_refused ((e.place == p) && (e.by == t)) (has_handled past p t) (was_refused_in_handler past p t)
      (not (is_handling past p t) && is_undo (verdict_of past p t)) x (position plan past p t) (fault_of plan p)
      (resolved_to x (handler_of plan p t x)) (spot_of plan past p t) (λ y.
      let same = both_same e.place p e.by t y in
      (able_handles past legal p t x w (subst₂ (λ a b. is_able plan past a b ≡ true) same.0 same.1 h.can)).0) (ih w)
  resolved_by past kind.Verdict e p t x legal ih h w =
      verdict_given ((e.place == p) && (e.by == t)) (has_handled past p t) (was_refused_in_handler past p t) (is_handling past p t) x
      (position plan past p t) (resolved_to x (handler_of plan p t x)) (spot_of plan past p t) (verdict_at (of_kind kind.Verdict e))
      (verdict_of past p t)
      (λ y handled. due_handling plan past p t (of_kind kind.Verdict e) (raised_there past legal p t x w) handled (due y))
      (λ y unhandled. has_no_program x (handler_of plan p t x)
      (unhandled_undo plan past p t x (of_kind kind.Verdict e) (raised_there past legal p t x w) unhandled w (due y)).0) (ih w)
    where
      due : ((e.place == p) && (e.by == t)) ≡ true → MatchOption (verdict_due plan past p t) ⊥ (SaysVerdict (of_kind kind.Verdict e))
      due y =
          let same = both_same e.place p e.by t y in
          subst₂ (λ a b. MatchOption (verdict_due plan past a b) ⊥ (SaysVerdict (of_kind kind.Verdict e))) same.0 same.1 h.due
  resolved_by past kind.Handle e p t x legal ih h w =
      handler_begun ((e.place == p) && (e.by == t)) (has_handled past p t) (was_refused_in_handler past p t) (is_handling past p t)
      (is_undo (verdict_of past p t)) x (position plan past p t) (resolved_to x (handler_of plan p t x)) (spot_of plan past p t)
      (λ y.
      let same = both_same e.place p e.by t y in
      let named : e.arg ≡ x = some_same (sym (subst (λ a. exception_resolved past a ≡ Some e.arg) same.0 h.resolution) ∙ w) in (
        subst₂ (λ a b. has_handled past a b ≡ false) same.0 same.1 h.fresh,
        has_program x (handler_of plan p t x)
            (subst (λ z. is_none (handler_of plan p t z) ≡ false) named
            (subst₂ (λ a b. is_none (handler_of plan a b e.arg) ≡ false) same.0 same.1 h.able_to)),
      )) (ih w)
  resolved_by past kind.Leave e p t x legal ih h w =
      moved (advances plan past p e kind.Leave && (e.by == t)) (has_handled past p t) (is_broken_off past p t) x (position plan past p t)
      (resolved_to x (handler_of plan p t x)) (spot_of plan past p t) (λ y.
      let parts = and_parts (advances plan past p e kind.Leave) (e.by == t) y in
      further_unhandled past legal p t x w e.place (steps_out plan past e p parts.0).0
      (subst (λ a. inside plan past a ≡ Some e.place) (eqb-true e.by t parts.1) h.here)) (ih w)
  resolved_by past kind.Resolve e p t x legal ih h w = elim (cases_Bool (e.place == p)) [
    | inl y ↦
        let named : e.arg ≡ x = some_same (rw y at w) in
        let fresh : exception_resolved past p ≡ None = subst (λ a. exception_resolved past a ≡ None) (eqb-true e.place p y) h.fresh in
        let unhandled : has_handled past p t ≡ false = false_from_ne_true _ (λ handled.
        some_apart (sym fresh ∙ (handled_resolved plan playable core past legal p t handled).1)) in
        rw (y, unhandled, named) refl
    | inr y ↦ rw y (ih (rw y at w))
  ]
  resolved_by past kind.Raise e p t x legal ih h w =
      kept_by (raising e.arg) ((e.place == p) && (e.by == t)) (has_handled past p t) (is_broken_off past p t) x (position plan past p t)
      (handler_of plan p t x) (spot_of plan past p t) (λ i. refl) refl (ih w)
  resolved_by past kind.End e p t x legal ih h w =
      kept_by (back_from plan e.place (newest (is_by kind.Abort e.place t) past) (outcome_at (of_kind kind.End e)))
      (is_at (parent plan e.place) p && member t (roles_of plan e.place)) (has_handled past p t) (is_broken_off past p t) x
      (position plan past p t) (handler_of plan p t x) (spot_of plan past p t) (λ i. refl) refl (ih w)
  resolved_by past _ e p t x legal ih h w = ih w

  -- in a place that is resolved each role stands in its handler, or where that was broken off
  pub resolved_spot : (past : List Entry) → LegalPast plan past → (p t x : ℕ) → exception_resolved past p ≡ Some x
      → spot_of plan past p t ≡ handler_spot plan past p t x
  resolved_spot [] h p t x w = absurd (some_apart w)
  resolved_spot (e ∷ past) h p t x w = resolved_by past e.kind e p t x h.0 (resolved_spot past h.0 p t x) h.1 w
