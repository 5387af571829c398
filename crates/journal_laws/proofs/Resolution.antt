-- Resolution law: what is handled is the least cover of all that was raised, and the roles of a place that ended without aborts
-- have answered.
use Rattle.std.proofs.Common.{◌≡◌, ℕ, ◌==◌, Bool, true, false, cond, ◌&&◌, ◌||◌, List, [], ◌∷◌, ◌++◌, Some, None, refl, sym, ◌∙◌, subst, inl, inr, is_none}
use Rattle.std.specs.List.{list_any}
use Rattle.std.proofs.lemmas.Bool.{and_from, or_left, eqb-true, eq-eqb, cases_Bool, false_from_ne_true, both_ways}
use Rattle.caa_base.specs.declared.written.entry.Entry.{Entry}
use Rattle.caa_base.specs.declared.written.entry.Kind.{Kind}
use Rattle.caa_base.specs.declared.written.entry.Kind.TheVariants as kind
use Rattle.place_plan.specs.Plans.PlanValue.{Plan}
use Rattle.caa_base.specs.Written.Lists.{member}
use Rattle.place_plan.specs.Plans.Places.{roles_of, handler_of}
use Rattle.place_plan.specs.RulesOfJournals.Entries.{is_in, is_by, has}
use Rattle.place_plan.specs.RulesOfJournals.Whereabouts.{has_ended}
use Rattle.place_plan.specs.RulesOfJournals.Raising.{is_raised, newest_arg, exception_resolved, exception_handled, has_handled}
use Rattle.place_plan.specs.RulesOfJournals.Roles.{has_given_after, has_given, all_have_given, has_aborted}
use Rattle.place_plan.specs.RulesOfJournals.Rules.{Row}
use Rattle.place_plan.specs.RulesOfJournals.Journals.{LegalPast}
use Rattle.journal_laws.specs.Laws.{Holds, Splits, HandlesLeast, Answered, IsAnswered, ResolutionLaw}
use Rattle.journal_laws.proofs.Playable.{IsPlayable}
use Rattle.journal_laws.proofs.Core.{Core}
use Rattle.caa_base.proofs.ListLemmas.{all_at}
use Rattle.place_plan.proofs.OnJournals.EntryKinds.{of_kind}
use Rattle.journal_laws.proofs.InnerFirst.{legal_rest, started_filled}
use Rattle.journal_laws.proofs.Holding.{ended_started}
use Rattle.journal_laws.proofs.Arrivals.{one_has}
use Rattle.journal_laws.proofs.Newest.{stands_newest, given_resolved}
use Rattle.journal_laws.proofs.Options.{some_apart, some_same}

-- ---- the resolved exception stays

resolved_on : (plan : Plan) (past : List Entry) (k : Kind) (e : Entry) (p x : ℕ) → Row k plan past (of_kind k e)
    → exception_resolved past p ≡ Some x → exception_resolved (of_kind k e ∷ past) p ≡ Some x
resolved_on plan past kind.Resolve e p x h w =
    let apart : (e.place == p) ≡ false =
    false_from_ne_true _ (λ y. some_apart
    ((sym (subst (λ a. exception_resolved past a ≡ None) (eqb-true e.place p y) h.fresh)) ∙ w)) in
    rw apart w
resolved_on plan past _ e p x h w = w

pub resolved_later : (plan : Plan) (later before : List Entry) (p x : ℕ) → LegalPast plan (later ++ before)
    → exception_resolved before p ≡ Some x → exception_resolved (later ++ before) p ≡ Some x
resolved_later plan [] before p x legal w = w
resolved_later plan (e ∷ later) before p x legal w =
    resolved_on plan (later ++ before) e.kind e p x legal.1 (resolved_later plan later before p x legal.0 w)

-- ---- lists alone

-- the newest entry that passes a test says its exception
pub newest_says : (test : Entry → Bool) (past : List Entry) (x : ℕ) → newest_arg test past ≡ Some x
    → list_any (λ e. test e && (e.arg == x)) past ≡ true
newest_says test [] x h = absurd (some_apart h)
newest_says test (e ∷ past) x h = by_test (test e) h (newest_says test past x)
  where
    by_test : (b : Bool) → cond b (Some e.arg) (newest_arg test past) ≡ Some x
        → (newest_arg test past ≡ Some x → list_any (λ e. test e && (e.arg == x)) past ≡ true)
        → (b && (e.arg == x)) || list_any (λ e. test e && (e.arg == x)) past ≡ true
    by_test true h ih = or_left _ _ (eq-eqb e.arg x (some_same h))
    by_test false h ih = ih h

module _ (plan : Plan) (playable : IsPlayable plan) (core : Holds Core plan) where
  -- ---- what is handled

  -- who handles in p handles what p is resolved to at last
  handled_last : (past later before : List Entry) (e : Entry) (p : ℕ) → LegalPast plan past → Splits past later e before
      → is_in kind.Handle p e ≡ true → exception_resolved past p ≡ Some e.arg
  handled_last past later before e p legal split own =
      let whole : LegalPast plan (later ++ e ∷ before) = subst (LegalPast plan) split legal in
      let rest = legal_rest plan later (e ∷ before) whole in
      let made : is_by kind.Handle p e.by e ≡ true = and_from (is_in kind.Handle p e) _ own (eq-eqb e.by e.by refl) in
      let handled : exception_handled (e ∷ before) p e.by ≡ Some e.arg = rw made refl in
      subst (λ xs. exception_resolved xs p ≡ Some e.arg) (sym split)
      (resolved_later plan later (e ∷ before) p e.arg whole
      ((core (e ∷ before) rest).raises.handles p e.by e.arg handled).0)

  handles_least : (past : List Entry) (p : ℕ) → LegalPast plan past → HandlesLeast plan past p
  handles_least past p legal = record {
    least = λ later before e split own. ((core past legal).raises.resolves p e.arg (handled_last past later before e p legal split own)).2;
    one =
        λ later before later' before' e f split split' own own'. some_same
        ((sym (handled_last past later before e p legal split own))
        ∙ handled_last past later' before' f p legal split' own');
  }

  -- ---- what is answered

  -- in a place that ended without aborts all have given their verdicts
  all_said : (past : List Entry) (p : ℕ) → LegalPast plan past → has_ended past p ≡ true → has kind.Abort past p ≡ false
      → all_have_given plan past p ≡ true
  all_said past p legal w a = elim ((core past legal).says.ended p w) [
    | inr s ↦ s.1
    | inl u ↦ elim ((core past legal).says.undoing p u) [
      | inr s ↦ s.1
      | inl x ↦
          let some = started_filled plan playable.tree past legal p (ended_started plan playable.tree past legal p w) in
          absurd (both_ways _ a (one_has kind.Abort past p some.0 (all_at (has_aborted past p) (roles_of plan p) some.0 x some.1)))
    ]
  ]

  pub given_after : (past : List Entry) (p t : ℕ) → all_have_given plan past p ≡ true → is_raised plan past p ≡ true
      → member t (roles_of plan p) ≡ true → has_given_after past p t ≡ true
  given_after past p t all r m = rw r at (all_at (has_given plan past p) (roles_of plan p) t all m)

  answers : (past : List Entry) (p x t : ℕ) → LegalPast plan past → exception_resolved past p ≡ Some x
      → has_given_after past p t ≡ true → Answered plan past p x t
  answers past p x t legal w g = elim (cases_Bool (has_handled past p t)) [
    | inl f ↦
        let some = stands_newest (is_by kind.Handle p t) past f in
        let one : some.0 ≡ x = some_same ((sym ((core past legal).raises.handles p t some.0 some.1).0) ∙ w) in
        inl (newest_says (is_by kind.Handle p t) past x (subst (λ y. exception_handled past p t ≡ Some y) one some.1))
    | inr f ↦
        let n = (core past legal).says.other p t g f in
        let one : n.0 ≡ x = some_same ((sym n.1) ∙ w) in
        inr (subst (λ y. is_none (handler_of plan p t y) ≡ true) one n.2, n.3)
  ]

  answered : (past : List Entry) (p : ℕ) → LegalPast plan past → has_ended past p ≡ true → has kind.Abort past p ≡ false
      → is_raised plan past p ≡ true → IsAnswered plan past p
  answered past p legal w a r =
      let all = all_said past p legal w a in
      let some = started_filled plan playable.tree past legal p (ended_started plan playable.tree past legal p w) in
      let resolution = stands_newest (is_in kind.Resolve p) past (given_resolved p some.0 past (given_after past p some.0 all r some.1)) in
      record {
        exception = resolution.0;
        resolution = resolution.1;
        each = λ t m. answers past p resolution.0 t legal resolution.1 (given_after past p t all r m);
      }

  pub resolution_law : Holds ResolutionLaw plan
  resolution_law past legal = record { handles = λ p. handles_least past p legal; answered = λ p. answered past p legal }
