-- Which verdicts count, after one entry more: all are dropped as something is raised in the place for the first time.
use Rattle.std.proofs.Common.{◌≡◌, ◌∙◌, ℕ, ◌==◌, Bool, true, false, not, cond, ◌&&◌, ◌||◌, List, [], ◌∷◌, ◌++◌, Option, Some, None, MatchOption, refl, sym, subst, inl, inr}
use Rattle.std.proofs.lemmas.Bool.{cases_Bool, eqb-true, both_ways, false_from_ne_true}
use Rattle.caa_base.specs.declared.written.entry.Entry.{Entry}
use Rattle.caa_base.specs.declared.written.entry.Kind.{Kind}
use Rattle.caa_base.specs.declared.written.entry.Kind.TheVariants as kind
use Rattle.caa_base.specs.Written.Lists.{is_empty}
use Rattle.place_plan.specs.Plans.PlanValue.{Plan}
use Rattle.place_plan.specs.RulesOfJournals.Entries.{has, has_by, is_by, is_in}
use Rattle.place_plan.specs.RulesOfJournals.Raising.{raises_in, exceptions_raised, is_raised, is_hot, has_handled, exception_resolved}
use Rattle.place_plan.specs.RulesOfJournals.Roles.{has_given, has_given_after, is_handling}
use Rattle.place_plan.specs.RulesOfJournals.Rules.{Row, SaysVerdict, verdict_due, handler_verdict, unhandled_verdict}
use Rattle.place_plan.specs.RulesOfJournals.Journals.{LegalPast}
use Rattle.place_plan.proofs.OnJournals.EntryKinds.{of_kind, both_same}
use Rattle.journal_laws.proofs.Playable.{IsTree}
use Rattle.journal_laws.proofs.Raised.{raises}
use Rattle.journal_laws.proofs.Newest.{newest_stands, stands_newest, given_resolved}
use Rattle.journal_laws.proofs.Phases.{not_calm}

-- the entry raises something in p, and nothing was raised there
abbrev pub raises_first : Plan → List Entry → ℕ → Entry → Kind → Bool
raises_first plan past p e k = not (is_empty (raises_in plan past p e k)) && not (is_raised plan past p)

module _ (plan : Plan) (tree : IsTree plan) (past : List Entry) (legal : LegalPast plan past) where
  -- where nothing is raised, no verdict was given after a resolution
  none_after : (p t : ℕ) → is_raised plan past p ≡ false → has_given_after past p t ≡ false
  none_after p t calm = false_from_ne_true _ (λ w.
      let some = stands_newest (is_in kind.Resolve p) past (given_resolved p t past w) in
      both_ways _ calm ((raises plan tree past legal).resolves p some.0 some.1).1)

  -- nor before one
  none_before : (p t : ℕ) → exception_resolved past p ≡ None → has_given_after past p t ≡ false
  none_before p t fresh = false_from_ne_true _ (λ w.
      let some = stands_newest (is_in kind.Resolve p) past (given_resolved p t past w) in
      let both : None ≡ Some some.0 = sym fresh ∙ some.1 in cc)

  -- a verdict in a raised place comes after its resolution
  verdict_resolved : (p t : ℕ) (e : Entry) → is_raised plan past p ≡ true
      → MatchOption (verdict_due plan past p t) ⊥ (SaysVerdict e) → has kind.Resolve past p ≡ true
  verdict_resolved p t e raised due =
      by_tests (is_hot plan past p) (has_handled past p t) refl (has_given plan past p t) (exception_resolved past p) refl
      (rw (not_calm plan past p raised) at due)
    where
      by_tests : (hot handled : Bool) → has_handled past p t ≡ handled → (given : Bool) (o : Option ℕ)
          → exception_resolved past p ≡ o
          → MatchOption
          (cond (not hot) None (cond handled (cond (is_handling past p t) (handler_verdict plan past p t) None)
          (cond given None (unhandled_verdict plan p t o))))
          ⊥ (SaysVerdict e)
          → has kind.Resolve past p ≡ true
      by_tests false handled h given o r due = absurd due
      by_tests true true h given o r due =
          let some = stands_newest (is_by kind.Handle p t) past h in
          newest_stands (is_in kind.Resolve p) past some.0 ((raises plan tree past legal).handles p t some.0 some.1).0
      by_tests true false h true o r due = absurd due
      by_tests true false h false None r due = absurd due
      by_tests true false h false (Some x) r due = newest_stands (is_in kind.Resolve p) past x r

  -- ---- one entry more

  -- what a raising entry does, told by what it raises
  by_raised : (p t : ℕ) (xs : List ℕ)
      → cond (not (is_empty (xs ++ exceptions_raised plan past p))) (has_given_after past p t) (has_by kind.Verdict past p t) ≡
      cond (not (is_empty xs) && not (is_raised plan past p)) false (has_given plan past p t)
  by_raised p t [] = refl
  by_raised p t (x ∷ xs) = elim (cases_Bool (is_raised plan past p)) [
    | inl up ↦ rw up refl
    | inr calm ↦ rw (calm, none_after p t calm) refl
  ]

  pub given_next : (k : Kind) (e : Entry) (p t : ℕ) → Row k plan past (of_kind k e)
      → has_given plan (of_kind k e ∷ past) p t ≡ cond (raises_first plan past p (of_kind k e) k) false
      (is_by kind.Verdict p t (of_kind k e) || has_given plan past p t)
  given_next kind.Raise e p t h = by_raised p t (raises_in plan past p (of_kind kind.Raise e) kind.Raise)
  given_next kind.PutFault e p t h = by_raised p t (raises_in plan past p (of_kind kind.PutFault e) kind.PutFault)
  given_next kind.Leave e p t h = by_raised p t (raises_in plan past p (of_kind kind.Leave e) kind.Leave)
  given_next kind.Resolve e p t h = elim (cases_Bool (e.place == p)) [
    | inr apart ↦ rw apart refl
    | inl same ↦
        let fresh : exception_resolved past p ≡ None =
        subst (λ q. exception_resolved past q ≡ None) (eqb-true e.place p same) h.fresh in
        rw (same, none_before p t fresh) refl
  ]
  given_next kind.Verdict e p t h = elim (cases_Bool ((e.place == p) && (e.by == t))) [
    | inr apart ↦ rw apart refl
    | inl own ↦
        let same = both_same e.place p e.by t own in
        let due : MatchOption (verdict_due plan past p t) ⊥ (SaysVerdict (of_kind kind.Verdict e)) =
        subst (λ u. MatchOption (verdict_due plan past p u) ⊥ (SaysVerdict (of_kind kind.Verdict e))) same.1
        (subst (λ q. MatchOption (verdict_due plan past q e.by) ⊥ (SaysVerdict (of_kind kind.Verdict e))) same.0 h.due) in
        elim (cases_Bool (is_raised plan past p)) [
          | inl up ↦ rw (own, up, verdict_resolved p t (of_kind kind.Verdict e) up due) refl
          | inr calm ↦ rw (own, calm) refl
        ]
  ]
  given_next _ e p t h = refl
