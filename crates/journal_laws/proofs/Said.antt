-- What the roles have said: in their handlers, without one, before an undo and before an end.
use Rattle.std.proofs.Common.{◌≡◌, ℕ, ◌==◌, Bool, true, false, not, cond, ◌&&◌, ◌⊎◌, List, [], ◌∷◌, Some, None, refl, sym, ap, ◌∙◌, subst, inl, inr, MatchBool, MatchOption, is_none}
use Rattle.std.proofs.lemmas.Bool.{and_from, and_left, and_right, or_cases, or_left, or_right, or_parts, eqb-true, eq-eqb, false≢true, not_from_true, cases_Bool, false_from_ne_true, both_ways}
use Rattle.caa_base.specs.declared.written.entry.Entry.{Entry}
use Rattle.caa_base.specs.declared.written.entry.Kind.{Kind}
use Rattle.caa_base.specs.declared.written.entry.Kind.TheVariants as kind
use Rattle.caa_base.specs.declared.written.entry.Verdict.TheVariants as verdict
use Rattle.place_plan.specs.Plans.PlanValue.{Plan}
use Rattle.place_plan.specs.Plans.Places.{handler_of}
use Rattle.place_plan.specs.RulesOfJournals.Entries.{is_in, is_by, has, has_by}
use Rattle.place_plan.specs.RulesOfJournals.Whereabouts.{has_started, has_ended, is_undoing, is_live, is_going}
use Rattle.place_plan.specs.RulesOfJournals.Raising.{has_handled, is_raised, is_doomed, is_hot, exception_resolved}
use Rattle.place_plan.specs.RulesOfJournals.Roles.{has_given_after, has_given, all_have_given, is_handling, wants_undo, all_have_aborted}
use Rattle.place_plan.specs.RulesOfJournals.Rules.{Row, MayFollow, SaysVerdict, verdict_due, AskForUndo, EndsUndone, EndsAgreed}
use Rattle.place_plan.specs.RulesOfJournals.Journals.{LegalPast}
use Rattle.journal_laws.specs.Laws.{AskedForUndo}
use Rattle.journal_laws.proofs.Playable.{IsTree}
use Rattle.journal_laws.proofs.Core.{Raises}
use Rattle.place_plan.proofs.OnJournals.EntryKinds.{of_kind, both_same}
use Rattle.caa_base.proofs.ListLemmas.{chosen}
use Rattle.journal_laws.proofs.Busy.{abort_doomed}
use Rattle.journal_laws.proofs.Newest.{newest_stands, stands_newest}
use Rattle.journal_laws.proofs.Phases.{not_calm}
use Rattle.journal_laws.proofs.Options.{some_apart, some_same}
use Rattle.journal_laws.proofs.Raised.{raises}
use Rattle.journal_laws.proofs.Frozen.{frozen, frozen_given, frozen_wants, unaborted, no_abort, stopped_shut}

-- ---- verdicts

-- t has no handler for what p is resolved to, and asked for undo
abbrev pub NoHandler : Plan → List Entry → ℕ → ℕ → Type 0
NoHandler plan past p t = (x : ℕ) × (exception_resolved past p ≡ Some x) × (is_none (handler_of plan p t x) ≡ true) × AskedForUndo past p t

-- in a raised place the verdict of who handles nothing is the undo of who has no handler
pub unhandled_undo : (plan : Plan) (past : List Entry) (p t x : ℕ) (e : Entry) → is_raised plan past p ≡ true
    → has_handled past p t ≡ false → exception_resolved past p ≡ Some x
    → MatchOption (verdict_due plan past p t) ⊥ (SaysVerdict e)
    → (is_none (handler_of plan p t x) ≡ true) × (e.mark ≡ 2)
unhandled_undo plan past p t x e r f w h =
    by_tests (is_hot plan past p) (has_given plan past p t) (is_none (handler_of plan p t x))
    (rw (not_calm plan past p r, f, w) at h)
  where
    by_tests : (b c d : Bool)
        → MatchOption (cond (not b) None (cond c None (cond d (Some verdict.Undo) None))) ⊥ (SaysVerdict e)
        → (d ≡ true) × (e.mark ≡ 2)
    by_tests false c d h = elim h [ ]
    by_tests true true d h = elim h [ ]
    by_tests true false false h = elim h [ ]
    by_tests true false true h = (refl, h.0)

-- what stands in a past stands in a longer one
asked_down : (past : List Entry) (e : Entry) (p t : ℕ) → AskedForUndo past p t → AskedForUndo (e ∷ past) p t
asked_down past e p t a =
    record {
      later = e ∷ a.later;
      entry = a.entry;
      before = a.before;
      stands = ap (λ xs. e ∷ xs) a.stands;
      own = a.own;
      undo = a.undo;
      resolution = a.resolution;
    }

none_down : (plan : Plan) (past : List Entry) (e : Entry) (p t : ℕ)
    → exception_resolved (e ∷ past) p ≡ exception_resolved past p → NoHandler plan past p t
    → NoHandler plan (e ∷ past) p t
none_down plan past e p t same n = (n.0, same ∙ n.1, n.2, asked_down past e p t n.3)

-- an entry in a place has a maker
pub has_maker : (k : Kind) (p : ℕ) (past : List Entry) → has k past p ≡ true → (t : ℕ) × (has_by k past p t ≡ true)
has_maker k p [] h = absurd (false≢true h)
has_maker k p (e ∷ past) h = elim (or_cases (is_in k p e) (has k past p) h) [
  | inl x ↦ (e.by, or_left (is_by k p e.by e) _ (and_from (is_in k p e) _ x (eq-eqb e.by e.by refl)))
  | inr x ↦ let ih = has_maker k p past x in (ih.0, or_right _ _ ih.1)
]

-- nobody gave up in p, all gave their verdicts, and whether one asks for undo
abbrev pub HaveSaid : Plan → List Entry → ℕ → Bool → Type 0
HaveSaid plan past p undo = (has kind.Abort past p ≡ false) × (all_have_given plan past p ≡ true) × (wants_undo plan past p ≡ undo)

module _ (plan : Plan) (tree : IsTree plan) where
  -- ---- who has said something without a handler

  other_by : (past : List Entry) (k : Kind) (e : Entry) (p t : ℕ) → Raises plan past
      → (has_given_after past p t ≡ true → has_handled past p t ≡ false → NoHandler plan past p t)
      → Row k plan past (of_kind k e) → has_given_after (of_kind k e ∷ past) p t ≡ true
      → has_handled (of_kind k e ∷ past) p t ≡ false → NoHandler plan (of_kind k e ∷ past) p t
  other_by past kind.Verdict e p t core ih h w f =
      elim (chosen ((e.place == p) && (e.by == t)) _ _ _ w) [
        | inl y ↦
            let same = both_same e.place p e.by t y.0 in
            let some = stands_newest (is_in kind.Resolve p) past y.1 in
            let due : MatchOption (verdict_due plan past p t) ⊥ (SaysVerdict (of_kind kind.Verdict e)) =
            subst (λ a. MatchOption (verdict_due plan past p a) ⊥ (SaysVerdict (of_kind kind.Verdict e))) same.1
            (subst (λ a. MatchOption (verdict_due plan past a e.by) ⊥ (SaysVerdict (of_kind kind.Verdict e))) same.0
            h.due) in
            let says = unhandled_undo plan past p t some.0 (of_kind kind.Verdict e) (core.resolves p some.0 some.1).1 f some.1 due in (
              some.0,
              some.1,
              says.0,
              record {
                later = [];
                entry = of_kind kind.Verdict e;
                before = past;
                stands = refl;
                own = y.0;
                undo = says.1;
                resolution = y.1;
              },
            )
        | inr y ↦ none_down plan past (of_kind kind.Verdict e) p t refl (ih y.1 f)
      ]
  other_by past kind.Handle e p t core ih h w f = none_down plan past (of_kind kind.Handle e) p t refl (ih w (or_parts _ _ f).1)
  other_by past kind.Resolve e p t core ih h w f =
      elim (chosen (e.place == p) _ _ _ w) [
        | inl y ↦ absurd (false≢true y.1)
        | inr y ↦ none_down plan past (of_kind kind.Resolve e) p t (rw y.0 refl) (ih y.1 f)
      ]
  other_by past k e p t core ih h w f = none_down plan past (of_kind k e) p t refl (ih w f)

  -- who gave its verdict after the Resolve without a handler asked for undo
  pub said_other : (past : List Entry) → LegalPast plan past → (p t : ℕ) → has_given_after past p t ≡ true
      → has_handled past p t ≡ false → NoHandler plan past p t
  said_other [] h p t w f = absurd (false≢true w)
  said_other (e ∷ past) h p t w f = other_by past e.kind e p t (raises plan tree past h.0) (said_other past h.0 p t) h.1 w f

  -- ---- who has begun its handler

  handler_by : (past : List Entry) (k : Kind) (e : Entry) (p t : ℕ) → LegalPast plan past → Raises plan past
      → (has_handled past p t ≡ true → has_given_after past p t ≡ not (is_handling past p t))
      → Row k plan past (of_kind k e) → has_handled (of_kind k e ∷ past) p t ≡ true
      → has_given_after (of_kind k e ∷ past) p t ≡ not (is_handling (of_kind k e ∷ past) p t)
  handler_by past kind.Handle e p t legal core ih h w =
      elim (cases_Bool ((e.place == p) && (e.by == t))) [
        | inl y ↦
            let same = both_same e.place p e.by t y in
            let fresh : has_handled past p t ≡ false =
            subst (λ a. has_handled past p a ≡ false) same.1
            (subst (λ a. has_handled past a e.by ≡ false) same.0 h.fresh) in
            rw y (false_from_ne_true _ (λ g.
            let n = said_other past legal p t g fresh in
            let resolution : exception_resolved past p ≡ Some e.arg =
            subst (λ a. exception_resolved past a ≡ Some e.arg) same.0 h.resolution in
            let one : n.0 ≡ e.arg = some_same ((sym n.1) ∙ resolution) in
            let none : is_none (handler_of plan e.place e.by e.arg) ≡ true = rw (same.0, same.1, ← one) n.2 in
            both_ways _ h.able_to none))
        | inr y ↦ rw y (ih (rest y w))
      ]
    where
      rest : ((e.place == p) && (e.by == t)) ≡ false → has_handled (of_kind kind.Handle e ∷ past) p t ≡ true → has_handled past p t ≡ true
      rest y w = rw y at w
  handler_by past kind.Verdict e p t legal core ih h w =
      elim (cases_Bool ((e.place == p) && (e.by == t))) [
        | inl y ↦
            let some = stands_newest (is_by kind.Handle p t) past w in
            rw y (newest_stands (is_in kind.Resolve p) past some.0 (core.handles p t some.0 some.1).0)
        | inr y ↦ rw y (ih w)
      ]
  handler_by past kind.Resolve e p t legal core ih h w =
      let some = stands_newest (is_by kind.Handle p t) past w in
      let apart : (e.place == p) ≡ false = false_from_ne_true _ (λ y.
      let fresh : exception_resolved past p ≡ None = subst (λ a. exception_resolved past a ≡ None) (eqb-true e.place p y) h.fresh in
      some_apart ((sym fresh) ∙ (core.handles p t some.0 some.1).0)) in
      rw apart (ih w)
  handler_by past _ e p t legal core ih h w = ih w

  -- who began its handler has given its verdict once it is no longer in it
  pub said_handler : (past : List Entry) → LegalPast plan past → (p t : ℕ) → has_handled past p t ≡ true
      → has_given_after past p t ≡ not (is_handling past p t)
  said_handler [] h p t w = absurd (false≢true w)
  said_handler (e ∷ past) h p t w = handler_by past e.kind e p t h.0 (raises plan tree past h.0) (said_handler past h.0 p t) h.1 w

  -- ---- how a place came to be undone, and to its end

  -- nobody gives up in a place that isn't doomed
  pub no_aborts : (past : List Entry) → LegalPast plan past → (p : ℕ) → is_doomed plan past p ≡ false → has kind.Abort past p ≡ false
  no_aborts past legal p spared =
      false_from_ne_true _ (λ w. let some = has_maker kind.Abort p past w in both_ways _ spared
      (abort_doomed plan tree past legal p some.0 some.1))

  said_stays : (past : List Entry) (e : Entry) (p : ℕ) (undo : Bool) → LegalPast plan past → is_going past p ≡ false
      → MayFollow plan past e → HaveSaid plan past p undo → HaveSaid plan (e ∷ past) p undo
  said_stays past e p undo legal stopped h s =
      let f = frozen plan tree past legal e p (stopped_shut plan tree past legal p stopped) h in
      (no_abort plan tree past legal e p stopped h ∙ s.0, frozen_given plan past e p f ∙ s.1, frozen_wants plan past e p f ∙ s.2)

  pub undoing_stopped : (past : List Entry) (p : ℕ) → is_undoing past p ≡ true → is_going past p ≡ false
  undoing_stopped past p w = and_right (is_live past p) (not (is_undoing past p)) (not_from_true _ w)

  pub ended_stopped : (past : List Entry) (p : ℕ) → has_ended past p ≡ true → is_going past p ≡ false
  ended_stopped past p w = and_left (is_live past p) _ (and_right (has_started past p) (not (has_ended past p)) (not_from_true _ w))

  undone_stays : (past : List Entry) (e : Entry) (p : ℕ) → LegalPast plan past → is_undoing past p ≡ true
      → MayFollow plan past e → (all_have_aborted plan past p ≡ true) ⊎ HaveSaid plan past p true
      → (all_have_aborted plan (e ∷ past) p ≡ true) ⊎ HaveSaid plan (e ∷ past) p true
  undone_stays past e p legal w h was = elim was [
    | inl a ↦ inl (unaborted plan tree past legal e p (undoing_stopped past p w) h ∙ a)
    | inr s ↦ inr (said_stays past e p true legal (undoing_stopped past p w) h s)
  ]

  undoing_by : (past : List Entry) (k : Kind) (e : Entry) (p : ℕ) → LegalPast plan past
      → (is_undoing past p ≡ true → (all_have_aborted plan past p ≡ true) ⊎ HaveSaid plan past p true)
      → Row k plan past (of_kind k e) → is_undoing (of_kind k e ∷ past) p ≡ true
      → (all_have_aborted plan (of_kind k e ∷ past) p ≡ true) ⊎ HaveSaid plan (of_kind k e ∷ past) p true
  undoing_by past kind.Undo e p legal ih h w =
      elim (or_cases (e.place == p) (is_undoing past p) w) [
        | inl y ↦
            subst (λ a. (all_have_aborted plan past a ≡ true) ⊎ HaveSaid plan past a true) (eqb-true e.place p y)
            (agreed (all_have_aborted plan past e.place) h.agreed)
        | inr y ↦ undone_stays past (of_kind kind.Undo e) p legal y h (ih y)
      ]
    where
      agreed : (b : Bool) → MatchBool b (Unit {0}) (AskForUndo plan past e.place) → (b ≡ true) ⊎ HaveSaid plan past e.place true
      agreed true a = inl refl
      agreed false a = inr (no_aborts past legal e.place a.spared, a.agreed, a.wanted)
  undoing_by past k e p legal ih h w = undone_stays past (of_kind k e) p legal w h (ih w)

  -- a place is undone where all have given up, or have agreed and one asked for it
  pub said_undoing : (past : List Entry) → LegalPast plan past → (p : ℕ) → is_undoing past p ≡ true
      → (all_have_aborted plan past p ≡ true) ⊎ HaveSaid plan past p true
  said_undoing [] h p w = absurd (false≢true w)
  said_undoing (e ∷ past) h p w = undoing_by past e.kind e p h.0 (said_undoing past h.0 p) h.1 w

  end_stays : (past : List Entry) (e : Entry) (p : ℕ) → LegalPast plan past → has_ended past p ≡ true
      → MayFollow plan past e → (is_undoing past p ≡ true) ⊎ HaveSaid plan past p false
      → (is_undoing (e ∷ past) p ≡ true) ⊎ HaveSaid plan (e ∷ past) p false
  end_stays past e p legal w h was = elim was [
    | inl u ↦ inl (or_right _ _ u)
    | inr s ↦ inr (said_stays past e p false legal (ended_stopped past p w) h s)
  ]

  ended_by : (past : List Entry) (k : Kind) (e : Entry) (p : ℕ) → LegalPast plan past
      → (has_ended past p ≡ true → (is_undoing past p ≡ true) ⊎ HaveSaid plan past p false)
      → Row k plan past (of_kind k e) → has_ended (of_kind k e ∷ past) p ≡ true
      → (is_undoing (of_kind k e ∷ past) p ≡ true) ⊎ HaveSaid plan (of_kind k e ∷ past) p false
  ended_by past kind.End e p legal ih h w =
      elim (or_cases (e.place == p) (has_ended past p) w) [
        | inl y ↦
            subst (λ a. (is_undoing past a ≡ true) ⊎ HaveSaid plan past a false) (eqb-true e.place p y)
            (ends (is_undoing past e.place) h.how)
        | inr y ↦ end_stays past (of_kind kind.End e) p legal y h (ih y)
      ]
    where
      ends : (b : Bool) → MatchBool b (EndsUndone plan past (of_kind kind.End e))
          (EndsAgreed plan past (of_kind kind.End e)) → (b ≡ true) ⊎ HaveSaid plan past e.place false
      ends true a = inl refl
      ends false a = inr (no_aborts past legal e.place a.spared, a.agreed, a.kept)
  ended_by past k e p legal ih h w = end_stays past (of_kind k e) p legal w h (ih w)

  -- a place ends after its undo, or where all have agreed and none asked for it
  pub said_ended : (past : List Entry) → LegalPast plan past → (p : ℕ) → has_ended past p ≡ true
      → (is_undoing past p ≡ true) ⊎ HaveSaid plan past p false
  said_ended [] h p w = absurd (false≢true w)
  said_ended (e ∷ past) h p w = ended_by past e.kind e p h.0 (said_ended past h.0 p) h.1 w
