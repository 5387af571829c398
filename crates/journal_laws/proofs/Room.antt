-- A use has room: who is at its enter step finds an alternate in which it has not arrived. And once somebody has left a use
-- aloud, the alternates in which anybody has arrived have ended.
use Rattle.std.proofs.Common.{◌≡◌, ℕ, ◌==◌, Bool, true, false, not, cond, List, [], ◌∷◌, Some, None, refl, sym, ap, ◌∙◌, subst, arith, suc, inl, inr, is_none}
use Rattle.std.proofs.lemmas.Bool.{and_parts, eqb-true, cases_order, false≢true, false_from_ne_true, both_ways}
use Rattle.caa_base.specs.declared.written.entry.Entry.{Entry}
use Rattle.caa_base.specs.declared.written.entry.Kind.TheVariants as kind
use Rattle.place_plan.specs.declared.drafts.draft_rows.Step.TheVariants as step
use Rattle.place_plan.specs.Plans.PlanValue.{Plan}
use Rattle.caa_base.specs.Written.Lists.{is_empty, first_of, next_after, last_or, last_of}
use Rattle.caa_base.specs.inner.Lists.{Rises}
use Rattle.place_plan.specs.Plans.Places.{parent, alternates_of, nest_number, next_in, next_alternate}
use Rattle.place_plan.specs.RulesOfJournals.Entries.{has_by, is_in, newest}
use Rattle.place_plan.specs.RulesOfJournals.Whereabouts.{inside, has_ended, is_undone, is_left_in_silence}
use Rattle.place_plan.specs.RulesOfJournals.Raising.{has_handled, is_calm}
use Rattle.place_plan.specs.RulesOfJournals.Roles.{position, next_step}
use Rattle.place_plan.specs.RulesOfJournals.Rules.{place_entered}
use Rattle.place_plan.specs.RulesOfJournals.Journals.{LegalPast}
use Rattle.journal_laws.proofs.Playable.{IsPlayable}
use Rattle.caa_base.proofs.ListLemmas.{first_not_none, last_member, member_above}
use Rattle.journal_laws.proofs.Arrivals.{left_arrived, left_ended, settled}
use Rattle.journal_laws.proofs.Uses.{AtStep, body_step, calm_unhandled, not_passed, uses_kept}

-- ---- the last of a row

-- after the last of rising numbers none comes
last_next : (low : ℕ) (xs : List ℕ) (z : ℕ) → Rises low xs → last_of xs ≡ Some z → next_after z xs ≡ None
last_next low [] z r h = refl
last_next low (x ∷ []) z r h = only (x == z)
  where
    only : (b : Bool) → cond b (first_of []) (next_after z []) ≡ None
    only true = refl
    only false = refl
last_next low (x ∷ (y ∷ ys)) z r h =
    let later : last_of (y ∷ ys) ≡ Some z = h in
    let below = member_above (suc x) (y ∷ ys) z r.1 (last_member (y ∷ ys) z later) in
    let other : (x == z) ≡ false = false_from_ne_true _ (λ e. omega (arith, eqb-true x z e)) in
    rw other (last_next (suc x) (y ∷ ys) z r.1 later)

some_last : (xs : List ℕ) → is_empty xs ≡ false → (z : ℕ) × (last_of xs ≡ Some z)
some_last [] h = absurd cc
some_last (x ∷ xs) h = (last_or x xs, refl)

module _ (plan : Plan) (playable : IsPlayable plan) (past : List Entry) (legal : LegalPast plan past) where
  -- ---- room for who is at the enter step

  -- the last alternate of a use is never left in silence
  last_aloud : (p z k : ℕ) → parent plan z ≡ Some p → nest_number plan z ≡ k → last_of (alternates_of plan p k) ≡ Some z
      → is_left_in_silence plan past z ≡ true → ⊥
  last_aloud p z k up own last silent =
      let none : next_alternate plan z ≡ None =
      ap (next_in plan z) up ∙ ap (λ a. next_after z (alternates_of plan p a)) own
      ∙ last_next 0 (alternates_of plan p k) z (playable.in_row p k) last in
      let some = (and_parts (is_undone (newest (is_in kind.End z) past)) (not (is_none (next_alternate plan z))) silent).1 in
      false≢true (subst (λ o. not (is_none o) ≡ true) none some)

  -- who is at an enter step in a calm place has a place to go to
  pub room : (p t k : ℕ) → inside plan past t ≡ Some p → is_calm plan past p ≡ true
      → next_step plan past p t ≡ Some (step.Enter k) → place_entered plan past p t (Some (step.Enter k)) ≡ None → ⊥
  room p t k w calm next none =
      let unhandled = calm_unhandled plan playable past legal p t calm in
      let last =
      some_last (alternates_of plan p k)
      (playable.offers p t (position plan past p t) k (sym (body_step plan past p t unhandled) ∙ next)) in
      let z = last.0 in
      let m = last_member (alternates_of plan p k) z last.1 in
      let fits = playable.placed p k z m in
      let up : parent plan z ≡ Some p = ap first_of fits.0 in
      let came = first_not_none (λ c. has_by kind.Arrive past c t) (alternates_of plan p k) z none m in
      let gone = settled plan playable.tree past legal p z t w calm up came in
      by_step z unhandled up fits.1 last.1 gone ((uses_kept plan playable past legal).at_step p z t up came unhandled)
    where
      by_step : (z : ℕ) → has_handled past p t ≡ false → parent plan z ≡ Some p → nest_number plan z ≡ k
          → last_of (alternates_of plan p k) ≡ Some z → has_by kind.Leave past z t ≡ true → AtStep plan past p z t → ⊥
      by_step z unhandled up own last gone (inl x) = not_passed plan playable past p t k unhandled next (rw own at x.1)
      by_step z unhandled up own last gone (inr x) = last_aloud p z k up own last (x.1 gone)

  -- ---- a use that is used up

  -- once somebody has left a place of a use aloud, each place of it in which anybody has arrived has ended
  pub used_up : (p c r u v : ℕ) → parent plan c ≡ Some p → parent plan r ≡ Some p
      → nest_number plan c ≡ nest_number plan r → has_by kind.Leave past c u ≡ true
      → is_left_in_silence plan past c ≡ false → has_by kind.Arrive past r v ≡ true → has_ended past r ≡ true
  used_up p c r u v up_c up_r one l aloud came =
      let kept = uses_kept plan playable past legal in
      elim (cases_order c r) [
        | inl same ↦ subst (λ a. has_ended past a ≡ true) same (left_ended plan playable.tree past legal c u l)
        | inr (inl below) ↦ absurd (both_ways _ aloud (kept.turn p c r v up_c up_r one below came).1)
        | inr (inr above) ↦
            let before = kept.turn p r c u up_r up_c (sym one) above (left_arrived plan playable.tree past legal c u l) in
            left_ended plan playable.tree past legal r u before.0
      ]
