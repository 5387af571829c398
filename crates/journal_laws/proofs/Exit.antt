-- A place ends once, after each of its roles has given its verdict or given up, and then it is only left.
use Rattle.std.proofs.Common.{◌≡◌, ℕ, Bool, true, false, ◌||◌, List, [], ◌∷◌, ◌++◌, refl, sym, subst, inl, inr, ◌⊎◌, append_assoc, MatchBool}
use Rattle.std.proofs.lemmas.Bool.{or_left, or_right, eqb-true, false≢true, false_from_ne_true, true_from_ne_false, both_ways}
use Rattle.caa_base.specs.declared.written.entry.Entry.{Entry}
use Rattle.caa_base.specs.declared.written.entry.Kind.{Kind}
use Rattle.caa_base.specs.declared.written.entry.Kind.TheVariants as kind
use Rattle.place_plan.specs.Plans.PlanValue.{Plan}
use Rattle.caa_base.specs.Written.Lists.{member}
use Rattle.place_plan.specs.Plans.Places.{roles_of}
use Rattle.place_plan.specs.RulesOfJournals.Entries.{is_in, has, has_by}
use Rattle.place_plan.specs.RulesOfJournals.Whereabouts.{has_ended, is_undoing}
use Rattle.place_plan.specs.RulesOfJournals.Roles.{has_given, all_have_given, wants_undo, has_aborted, all_have_aborted}
use Rattle.place_plan.specs.RulesOfJournals.Rules.{Row, MayEnd, EndsUndone, EndsAgreed}
use Rattle.place_plan.specs.RulesOfJournals.Journals.{LegalPast}
use Rattle.journal_laws.specs.Laws.{Holds, Splits, ExitLaw}
use Rattle.journal_laws.proofs.Playable.{IsPlayable}
use Rattle.journal_laws.proofs.Core.{Core}
use Rattle.caa_base.proofs.ListLemmas.{all_at}
use Rattle.place_plan.proofs.OnJournals.EntryKinds.{of_kind}
use Rattle.journal_laws.proofs.Lives.{live_parts}
use Rattle.journal_laws.proofs.Busy.{not_given}
use Rattle.journal_laws.proofs.InnerFirst.{legal_rest}
use Rattle.journal_laws.proofs.Holding.{ended_started, end_live}
use Rattle.journal_laws.proofs.Phases.{going_parts}
use Rattle.journal_laws.proofs.Frozen.{open_by}
use Rattle.journal_laws.proofs.Arrivals.{fresh, arrives_with_role}

-- what has ended has ended ever after
ended_after : (p : ℕ) (later past : List Entry) → has_ended past p ≡ true → has_ended (later ++ past) p ≡ true
ended_after p [] past h = h
ended_after p (e ∷ later) past h = or_right _ _ (ended_after p later past h)

-- an End of p
pub end_row : (plan : Plan) (past : List Entry) (k : Kind) (e : Entry) (p : ℕ) → Row k plan past (of_kind k e)
    → is_in kind.End p (of_kind k e) ≡ true → MayEnd plan past (of_kind kind.End e) × (e.place ≡ p)
end_row plan past kind.End e p h w = (h, eqb-true e.place p w)
end_row plan past _ e p h w = absurd (false≢true w)

-- who has given its verdict has a verdict
given_verdict : (plan : Plan) (past : List Entry) (p t : ℕ) → has_given plan past p t ≡ true → has_by kind.Verdict past p t ≡ true
given_verdict plan past p t g = true_from_ne_false _ (λ v. both_ways _ (not_given plan p t past v) g)

module _ (plan : Plan) (playable : IsPlayable plan) (core : Holds Core plan) where
  -- what has ended is only left
  only_left_by : (past : List Entry) (k : Kind) (e : Entry) → LegalPast plan past → Row k plan past (of_kind k e)
      → has_ended past e.place ≡ true → k ≡ kind.Leave
  only_left_by past kind.Arrive e legal h f =
      let role = arrives_with_role plan playable.tree past (of_kind kind.Arrive e) h in
      absurd (both_ways _ (fresh plan past (of_kind kind.Arrive e) h)
      ((core past legal).visits.whole e.place e.by (ended_started plan playable.tree past legal e.place f) role))
  only_left_by past kind.Withdraw e legal h f = absurd (both_ways _ h.waits (ended_started plan playable.tree past legal e.place f))
  only_left_by past kind.Start e legal h f = absurd (both_ways _ h.waits (ended_started plan playable.tree past legal e.place f))
  only_left_by past kind.Abort e legal h f = absurd (both_ways _ (going_parts past e.place h.when).lasts f)
  only_left_by past kind.Undo e legal h f = absurd (both_ways _ (going_parts past e.place h.when).lasts f)
  only_left_by past kind.Restore e legal h f = absurd (both_ways _ h.lasts f)
  only_left_by past kind.End e legal h f =
      absurd (both_ways _ (live_parts e.place past (end_live plan playable.tree past (of_kind kind.End e) legal h)).1 f)
  only_left_by past kind.Leave e legal h f = refl
  only_left_by past k e legal h f = absurd (both_ways _ (open_by plan past k e h refl).lasts f)

  -- each role of a place that ends has given its verdict or given up
  has_said : (past : List Entry) (e : Entry) → LegalPast plan past → MayEnd plan past e → (t : ℕ)
      → member t (roles_of plan e.place) ≡ true
      → has_by kind.Verdict past e.place t || has_by kind.Abort past e.place t ≡ true
  has_said past e legal h t m = by_undo (is_undoing past e.place) refl h.how
    where
      given : all_have_given plan past e.place ≡ true → has_by kind.Verdict past e.place t || has_by kind.Abort past e.place t ≡ true
      given g = or_left _ _ (given_verdict plan past e.place t (all_at (has_given plan past e.place) (roles_of plan e.place) t g m))

      undone : (all_have_aborted plan past e.place ≡ true)
          ⊎ ((has kind.Abort past e.place ≡ false) × (all_have_given plan past e.place ≡ true)
          × (wants_undo plan past e.place ≡ true))
          → has_by kind.Verdict past e.place t || has_by kind.Abort past e.place t ≡ true
      undone (inl a) = or_right _ _ (all_at (has_aborted past e.place) (roles_of plan e.place) t a m)
      undone (inr a) = given a.1

      by_undo : (b : Bool) → is_undoing past e.place ≡ b → MatchBool b (EndsUndone plan past e) (EndsAgreed plan past e)
          → has_by kind.Verdict past e.place t || has_by kind.Abort past e.place t ≡ true
      by_undo true u how = undone ((core past legal).says.undoing e.place u)
      by_undo false u how = given how.agreed

  -- after the End of p, p is only left
  left_later : (later before : List Entry) (e : Entry) (p : ℕ) → is_in kind.End p e ≡ true
      → LegalPast plan (later ++ e ∷ before) → (later' before' : List Entry) (f : Entry) → Splits later later' f before'
      → f.place ≡ p → f.kind ≡ kind.Leave
  left_later later before e p is whole later' before' f within at =
      let parted : LegalPast plan ((later' ++ f ∷ before') ++ e ∷ before) = subst (λ l. LegalPast plan (l ++ e ∷ before)) within whole in
      let joined : LegalPast plan (later' ++ f ∷ (before' ++ e ∷ before)) = rw append_assoc at parted in
      let here = legal_rest plan later' (f ∷ (before' ++ e ∷ before)) joined in
      let over_there : has_ended (before' ++ e ∷ before) p ≡ true = ended_after p before' (e ∷ before) (or_left _ _ is) in
      only_left_by (before' ++ e ∷ before) f.kind f here.0 here.1
      (subst (λ a. has_ended (before' ++ e ∷ before) a ≡ true) (sym at) over_there)

  ends_once : (past : List Entry) → LegalPast plan past → ExitLaw plan past
  ends_once past legal p later before e split is =
      let all : LegalPast plan (later ++ e ∷ before) = subst (LegalPast plan) split legal in
      let here = legal_rest plan later (e ∷ before) all in
      let found = end_row plan before e.kind e p here.1 is in
      let first : has_ended before p ≡ false =
      subst (λ a. has_ended before a ≡ false) found.1
      (live_parts e.place before (end_live plan playable.tree before (of_kind kind.End e) here.0 found.0)).1 in
      record {
        only_left = left_later later before e p is all;
        first = first;
        together = false_from_ne_true _ (λ w. both_ways _ first ((core before here.0).visits.left p w));
        each =
            λ t m. subst (λ a. has_by kind.Verdict before a t || has_by kind.Abort before a t ≡ true) found.1
            (has_said before (of_kind kind.End e) here.0 found.0 t
            (subst (λ a. member t (roles_of plan a) ≡ true) (sym found.1) m));
      }

  -- exit law
  pub exits : Holds ExitLaw plan
  exits past legal = ends_once past legal
