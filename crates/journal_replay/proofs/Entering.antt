-- Which alternate is entered: the first that hasn't ended. One is left for whoever comes to a use, and handlers come to none.
use Rattle.std.proofs.Common.{◌≡◌, ◌∙◌, ℕ, ◌==◌, Bool, true, false, List, [], ◌∷◌, Option, Some, None, IsSome, slice_get, rules, refl, sym, subst, ap}
use Rattle.std.proofs.lemmas.Bool.{eq-eqb, or_left, or_right}
use Rattle.caa_base.specs.declared.written.entry.Entry.{Entry}
use Rattle.caa_base.specs.declared.written.entry.Kind.TheVariants as kind
use Rattle.caa_base.specs.Written.Lists.{member, first_not, first_of}
use Rattle.place_plan.specs.declared.drafts.draft_rows.Step.{Step}
use Rattle.place_plan.specs.declared.drafts.draft_rows.Step.TheVariants as step
use Rattle.place_plan.specs.Plans.PlanValue.{Plan}
use Rattle.place_plan.specs.Plans.Places.{parent, alternates_of}
use Rattle.place_plan.specs.RulesOfJournals.Entries.{is_by, has_by}
use Rattle.place_plan.specs.RulesOfJournals.Whereabouts.{inside, has_ended}
use Rattle.place_plan.specs.RulesOfJournals.Raising.{has_handled, is_calm, exception_handled}
use Rattle.place_plan.specs.RulesOfJournals.Roles.{program_in, next_step, position}
use Rattle.place_plan.specs.RulesOfJournals.Journals.{LegalPast}
use Rattle.journal_laws.proofs.Playable.{IsPlayable}
use Rattle.journal_laws.proofs.Arrivals.{settled, left_ended, whole}
use Rattle.journal_laws.proofs.Holding.{ended_started}
use Rattle.journal_laws.proofs.Newest.{stands_newest}
use Rattle.journal_laws.proofs.Room.{room}
use Rattle.journal_replay.specs.inner.Deciding.{enters}

-- tests that agree on a list find the same
pub same_first : (f g : ℕ → Bool) (xs : List ℕ) → ((x : ℕ) → member x xs ≡ true → f x ≡ g x) → first_not f xs ≡ first_not g xs
same_first f g [] h = refl
same_first f g (x ∷ xs) h = by_test (f x) refl (same_first f g xs (λ y m. h y (or_right (x == y) _ m)))
  where
    here : f x ≡ g x
    here = h x (or_left (x == x) _ (eq-eqb x x refl))

    by_test : (b : Bool) → f x ≡ b → first_not f xs ≡ first_not g xs → first_not f (x ∷ xs) ≡ first_not g (x ∷ xs)
    by_test true w later = rw (w, sym here ∙ w) later
    by_test false w later = rw (w, sym here ∙ w) refl

pub same_tests : (a b : Bool) → (a ≡ true → b ≡ true) → (b ≡ true → a ≡ true) → a ≡ b
same_tests true b there back = sym (there refl)
same_tests false true there back = back refl
same_tests false false there back = refl

module _ (plan : Plan) (playable : IsPlayable plan) where
  -- who is in a calm place, at the step that enters a use, has arrived in just those of its alternates that have ended
  pub entered_first : (past : List Entry) → LegalPast plan past → (p t k : ℕ) → inside plan past t ≡ Some p
      → is_calm plan past p ≡ true → next_step plan past p t ≡ Some (step.Enter k)
      → first_not (λ c. has_by kind.Arrive past c t) (alternates_of plan p k) ≡ first_not (has_ended past)
      (alternates_of plan p k)
  entered_first past legal p t k here calm next =
      same_first (λ c. has_by kind.Arrive past c t) (has_ended past) (alternates_of plan p k) (λ c m.
      let into : parent plan c ≡ Some p = ap first_of (playable.placed p k c m).0 in
      let role = (playable.tree.enters p t (exception_handled past p t) (position plan past p t) k next c m).1 in
      same_tests (has_by kind.Arrive past c t) (has_ended past c)
      (λ came. left_ended plan playable.tree past legal c t (settled plan playable.tree past legal p c t here calm into came))
      (λ ended. whole plan playable.tree past legal c t (ended_started plan playable.tree past legal c ended) role))

  -- and one is left
  pub entered_there : (past : List Entry) → LegalPast plan past → (p t k : ℕ) → inside plan past t ≡ Some p
      → is_calm plan past p ≡ true → next_step plan past p t ≡ Some (step.Enter k)
      → (o : Option ℕ) → o ≡ first_not (has_ended past) (alternates_of plan p k) → IsSome o
  entered_there past legal p t k here calm next None h =
      absurd (room plan playable past legal p t k here calm next (entered_first past legal p t k here calm next ∙ sym h))
  entered_there past legal p t k here calm next (Some q) h = search rules

  -- a handler enters nowhere
  pub handler_stays : (past : List Entry) (p t : ℕ) → has_handled past p t ≡ true → enters (next_step plan past p t) ≡ false
  handler_stays past p t handled = by_step (next_step plan past p t) refl
    where
      by_step : (s : Option Step) → next_step plan past p t ≡ s → enters s ≡ false
      by_step (Some (step.Enter k)) n =
          let some = stands_newest (is_by kind.Handle p t) past handled in
          absurd (playable.plain p t some.0 (position plan past p t) k
          (subst (λ o. slice_get (program_in plan p t o).steps (position plan past p t) ≡ Some (step.Enter k)) some.1 n))
      by_step s n = refl
