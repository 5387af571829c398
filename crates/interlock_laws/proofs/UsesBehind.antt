-- A role has a use behind it just where the use is over.
use Rattle.std.proofs.Common.{◌≡◌, ℕ, ◌==◌, nat_lt, Bool, true, false, not, cond, ◌&&◌, List, [], ◌∷◌, Some, None, slice_get, suc, refl, sym, ap, ◌∙◌, subst, subst₂, inl, inr, arith}
use Rattle.std.specs.List.{list_any}
use Rattle.std.proofs.lemmas.Bool.{and_parts, and_from, and_left, or_left, or_right, eqb-true, eq-eqb, false≢true, lt-ltb, le-ltb, cases_Bool, cases_order, both_ways, false_from_ne_true}
use Rattle.caa_base.specs.declared.written.entry.Entry.{Entry}
use Rattle.caa_base.specs.declared.written.entry.Kind.{Kind}
use Rattle.caa_base.specs.declared.written.entry.Kind.TheVariants as kind
use Rattle.caa_base.specs.Written.Lists.{is_at, member}
use Rattle.place_plan.specs.declared.drafts.draft_rows.Step.TheVariants as step
use Rattle.place_plan.specs.Plans.PlanValue.{Plan}
use Rattle.place_plan.specs.Plans.Places.{parent, roles_of, alternates_of, nest_number, body_of, fault_of}
use Rattle.place_plan.specs.RulesOfJournals.Entries.{is_in, is_by, newest, has_by}
use Rattle.place_plan.specs.RulesOfJournals.Whereabouts.{inside, outcome_at, has_ended, is_left_in_silence}
use Rattle.place_plan.specs.RulesOfJournals.Raising.{has_handled, exception_resolved}
use Rattle.place_plan.specs.RulesOfJournals.Roles.{position, next_step, is_able, is_undo, verdict_at}
use Rattle.place_plan.specs.RulesOfJournals.Rules.{Row, MayEnd}
use Rattle.place_plan.specs.RulesOfJournals.Journals.{LegalPast}
use Rattle.journal_laws.specs.Laws.{Holds}
use Rattle.journal_laws.proofs.Playable.{IsPlayable}
use Rattle.journal_laws.proofs.Core.{Core}
use Rattle.caa_base.proofs.ListLemmas.{at_same, same_at}
use Rattle.place_plan.proofs.OnJournals.EntryKinds.{of_kind, both_same}
use Rattle.journal_laws.proofs.Arrivals.{left_ended}
use Rattle.journal_laws.proofs.Holding.{end_live}
use Rattle.journal_laws.proofs.Lives.{live_parts}
use Rattle.journal_laws.proofs.Uses.{AtStep, body_step, enters_nowhere, put_stays, check_stays}
use Rattle.reach_laws.proofs.CameOut.{use_up, one_enter}
use Rattle.reach_laws.proofs.ListsAlone.{any_at}
use Rattle.reach_laws.proofs.Standing.{nobody_handles}
use Rattle.interlock_laws.specs.Spots.{Spot, body_at, raised_at, quiet_at, handler_at, broken_at, stepped, raising, refused, back_from, out_of, spot_of, behind}
use Rattle.interlock_laws.specs.SpotLaws.{is_over, is_use_over, UsesAreOver}
use Rattle.interlock_laws.proofs.SpotSteps.{said_same, unresolved_before, unresolved_spot, is_silent, out_aloud, out_silent, silent_mark}
use Rattle.interlock_laws.proofs.StayedIn.{live_staying}
use Rattle.interlock_laws.proofs.BodySpots.{able_spot, standing}

-- ---- tests

-- what two tests say alike of each member, they say alike of some
any_alike : (f g : ℕ → Bool) (xs : List ℕ) → ((x : ℕ) → member x xs ≡ true → f x ≡ g x) → list_any f xs ≡ list_any g xs
any_alike f g [] h = refl
any_alike f g (x ∷ xs) h =
    let first = h x (or_left _ _ (eq-eqb x x refl)) in
    let rest = any_alike f g xs (λ y m. h y (or_right _ _ m)) in
    cc

-- what is below the next number, and isn't this one, is below this one
below_suc : (n m : ℕ) → (n ≡ m → ⊥) → nat_lt n (suc m) ≡ nat_lt n m
below_suc n m other = elim (cases_order n m) [
  | inl same ↦ absurd (other same)
  | inr (inl below) ↦ lt-ltb n (suc m) (omega arith) ∙ sym (lt-ltb n m below)
  | inr (inr above) ↦ le-ltb n (suc m) (omega arith) ∙ sym (le-ltb n m (omega arith))
]

raising_behind : (y : ℕ) (s : Spot) → behind (raising y s) ≡ behind s
raising_behind y (body_at i j) = refl
raising_behind y (raised_at cause z) = refl
raising_behind y (quiet_at i) = refl
raising_behind y (handler_at x i) = refl
raising_behind y (broken_at x) = refl

refused_behind : (y : ℕ) (s : Spot) → behind (refused y s) ≡ behind s
refused_behind y (body_at i j) = refl
refused_behind y (raised_at cause z) = refl
refused_behind y (quiet_at i) = refl
refused_behind y (handler_at x i) = refl
refused_behind y (broken_at x) = refl

same_behind : (b : Bool) (s u : Spot) → behind s ≡ behind u → behind (cond b s u) ≡ behind u
same_behind true s u h = h
same_behind false s u h = refl

module _ (plan : Plan) (playable : IsPlayable plan) (core : Holds Core plan) where
  -- t has each use that it enters in p behind it just where the use is over
  abbrev pub Behind : List Entry → ℕ → ℕ → Type 0
  Behind past p t =
      (n k : ℕ) → slice_get (body_of plan p t).steps n ≡ Some (step.Enter k)
      → is_use_over plan past p k ≡ nat_lt n (behind (spot_of plan past p t))

  -- ---- steps of a body

  step_behind : (past : List Entry) (e : Entry) (p t : ℕ) → LegalPast plan past → exception_resolved past p ≡ None
      → inside plan past e.by ≡ Some e.place → is_able plan past e.place e.by ≡ true
      → enters_nowhere (next_step plan past e.place e.by) ≡ true → Behind past p t → (n k : ℕ)
      → slice_get (body_of plan p t).steps n ≡ Some (step.Enter k)
      → is_use_over plan past p k
      ≡ nat_lt n (behind (cond ((e.place == p) && (e.by == t)) (stepped (spot_of plan past p t)) (spot_of plan past p t)))
  step_behind past e p t legal none here able nowhere was n k enters = elim (cases_Bool ((e.place == p) && (e.by == t))) [
    | inl x ↦
        let same = both_same e.place p e.by t x in
        let found =
        (able_spot plan playable core past legal p t (standing plan playable core past legal p t none) none
        (subst₂ (λ a b. inside plan past b ≡ Some a) same.0 same.1 here)
        (subst₂ (λ a b. is_able plan past a b ≡ true) same.0 same.1 able)).0 in
        let next : enters_nowhere (slice_get (body_of plan p t).steps (position plan past p t)) ≡ true =
        subst (λ s. enters_nowhere s ≡ true) (body_step plan past p t (nobody_handles plan playable core past legal p t none))
        (subst₂ (λ a b. enters_nowhere (next_step plan past a b) ≡ true) same.0 same.1 nowhere) in
        let other : n ≡ position plan past p t → ⊥ =
        λ at. false≢true (subst (λ s. enters_nowhere s ≡ true) (ap (slice_get (body_of plan p t).steps) (sym at) ∙ enters) next) in
        was n k enters ∙ ap (λ s. nat_lt n (behind s)) found.1 ∙ sym (below_suc n (position plan past p t) other)
        ∙ sym (ap (λ s. nat_lt n (behind (stepped s))) found.1) ∙ rw x refl
    | inr x ↦ rw x (was n k enters)
  ]

  -- ---- the end of a use

  -- where the place that ends is of no other use, those are as they were
  over_apart : (past : List Entry) (e : Entry) (p k : ℕ) → (member e.place (alternates_of plan p k) ≡ true → ⊥)
      → is_use_over plan (of_kind kind.End e ∷ past) p k ≡ is_use_over plan past p k
  over_apart past e p k away =
      any_alike (is_over plan (of_kind kind.End e ∷ past)) (is_over plan past) (alternates_of plan p k) (λ c m.
      let apart : (e.place == c) ≡ false = false_from_ne_true _ (λ x.
      away (subst (λ a. member a (alternates_of plan p k) ≡ true) (sym (eqb-true e.place c x)) m)) in
      rw apart refl)

  -- and so are all where it is left in silence
  over_silent : (past : List Entry) (e : Entry) (p k : ℕ) → is_over plan past e.place ≡ false
      → is_over plan (of_kind kind.End e ∷ past) e.place ≡ false
      → is_use_over plan (of_kind kind.End e ∷ past) p k ≡ is_use_over plan past p k
  over_silent past e p k before now =
      any_alike (is_over plan (of_kind kind.End e ∷ past)) (is_over plan past) (alternates_of plan p k) (λ c m.
      elim (cases_Bool (e.place == c)) [
        | inl x ↦
            let same = eqb-true e.place c x in
            subst (λ a. is_over plan (of_kind kind.End e ∷ past) a ≡ is_over plan past a) same (now ∙ sym before)
        | inr x ↦ rw x refl
      ])

  -- who has a role in a live place of a use of p is at the step that enters it
  pub at_enter_step : (past : List Entry) (c p t : ℕ) → LegalPast plan past → exception_resolved past p ≡ None → parent plan c ≡ Some p
      → has_by kind.Arrive past c t ≡ true → has_ended past c ≡ false
      → slice_get (body_of plan p t).steps (position plan past p t) ≡ Some (step.Enter (nest_number plan c))
  at_enter_step past c p t legal none up came lasts = by_step ((core past legal).visits.at_step p c t up came unhandled)
    where
      unhandled : has_handled past p t ≡ false
      unhandled = nobody_handles plan playable core past legal p t none

      by_step : AtStep plan past p c t
          → slice_get (body_of plan p t).steps (position plan past p t) ≡ Some (step.Enter (nest_number plan c))
      by_step (inl x) = absurd (both_ways _ lasts (left_ended plan playable.tree past legal c t x.0))
      by_step (inr x) = sym (body_step plan past p t unhandled) ∙ x.0

  end_behind : (past : List Entry) (e : Entry) (p t : ℕ) → LegalPast plan past → MayEnd plan past (of_kind kind.End e)
      → exception_resolved past p ≡ None → (is_at (parent plan e.place) p && member t (roles_of plan e.place)) ≡ true → Behind past p t
      → Behind (of_kind kind.End e ∷ past) p t
  end_behind past e p t legal h none own was n k enters =
      let parts = and_parts (is_at (parent plan e.place) p) (member t (roles_of plan e.place)) own in
      let up = at_same (parent plan e.place) p parts.0 in
      let live = live_parts e.place past (end_live plan playable.tree past (of_kind kind.End e) legal h) in
      let in_it = live_staying plan playable.tree past legal e.place t parts.1 live.0 live.1 in
      let before : is_over plan past e.place ≡ false = and_left (has_ended past e.place) (not (is_left_in_silence plan past e.place)) live.1 in
      let found = (standing plan playable core past legal p t none).further e.place up in_it before in
      let abort = newest (is_by kind.Abort e.place t) past in
      let how = outcome_at (of_kind kind.End e) in
      let spot : spot_of plan (of_kind kind.End e ∷ past) p t ≡ out_of plan e.place abort (position plan past p t) found.0 how =
      rw own (ap (back_from plan e.place abort how) found.1) in
      let over : is_over plan (of_kind kind.End e ∷ past) e.place ≡ not (is_silent plan e.place how) =
      rw (eq-eqb e.place e.place refl) (ap not (sym (silent_mark plan e.place e.mark e.arg))) in
      let entered =
      at_enter_step past e.place p t legal none up ((core past legal).visits.whole e.place t live.0 parts.1) live.1 in
      elim (cases_Bool (is_silent plan e.place how)) [
        | inl s ↦
            let now : is_over plan (of_kind kind.End e ∷ past) e.place ≡ false = over ∙ ap not s in
            over_silent past e p k before now ∙ was n k enters ∙ ap (λ u. nat_lt n (behind u)) found.1
            ∙ sym (ap (λ u. nat_lt n (behind u)) (spot ∙ out_silent plan e.place abort (position plan past p t) found.0 how s))
        | inr s ↦
            let further : behind (spot_of plan (of_kind kind.End e ∷ past) p t) ≡ suc (position plan past p t) =
            ap behind spot ∙ (out_aloud plan e.place abort (position plan past p t) found.0 how s).0 in
            elim (cases_Bool (nest_number plan e.place == k)) [
              | inl x ↦
                  let same = eqb-true (nest_number plan e.place) k x in
                  let here : n ≡ position plan past p t =
                  one_enter plan playable core p t n (position plan past p t) k enters (entered ∙ ap (λ a. Some (step.Enter a)) same) in
                  any_at (is_over plan (of_kind kind.End e ∷ past)) (alternates_of plan p k) e.place
                  (subst (λ a. member e.place (alternates_of plan p a) ≡ true) same (playable.back p e.place up)) (over ∙ ap not s)
                  ∙ sym (lt-ltb n (suc (position plan past p t)) (omega (arith, here))) ∙ ap (nat_lt n) (sym further)
              | inr x ↦
                  let away : member e.place (alternates_of plan p k) ≡ true → ⊥ =
                  λ m. both_ways _ x (eq-eqb (nest_number plan e.place) k (playable.placed p k e.place m).1) in
                  let other : n ≡ position plan past p t → ⊥ =
                  λ at. let one : Some (step.Enter k) ≡ Some (step.Enter (nest_number plan e.place)) =
                  sym enters ∙ ap (slice_get (body_of plan p t).steps) at ∙ entered in
                  let same : k ≡ nest_number plan e.place = cc in both_ways _ x (eq-eqb (nest_number plan e.place) k (sym same)) in
                  over_apart past e p k away ∙ was n k enters ∙ ap (λ u. nat_lt n (behind u)) found.1
                  ∙ sym (below_suc n (position plan past p t) other) ∙ ap (nat_lt n) (sym further)
            ]
      ]

  -- ---- all kinds

  behind_by : (past : List Entry) (k : Kind) (e : Entry) (p t : ℕ) → LegalPast plan past → Row k plan past (of_kind k e)
      → exception_resolved past p ≡ None → is_in kind.Resolve p (of_kind k e) ≡ false → Behind past p t
      → Behind (of_kind k e ∷ past) p t
  behind_by past kind.Read e p t legal h none u was = step_behind past e p t legal none h.here h.can (rw h.reads refl) was
  behind_by past kind.Work e p t legal h none u was = step_behind past e p t legal none h.here h.can (rw h.works refl) was
  behind_by past kind.Write e p t legal h none u was = step_behind past e p t legal none h.here h.can (put_stays _ _ _ h.puts) was
  behind_by past kind.Check e p t legal h none u was = step_behind past e p t legal none h.here h.can (check_stays _ h.checks) was
  behind_by past kind.PutFault e p t legal h none u was = λ n k enters.
      was n k enters
      ∙ ap (nat_lt n) (sym (same_behind ((e.place == p) && (e.by == t)) _ (spot_of plan past p t)
      (refused_behind (fault_of plan p) (spot_of plan past p t))))
  behind_by past kind.Raise e p t legal h none u was = λ n k enters.
      was n k enters
      ∙ ap (nat_lt n) (sym (same_behind ((e.place == p) && (e.by == t)) _ (spot_of plan past p t)
      (raising_behind e.arg (spot_of plan past p t))))
  behind_by past kind.Verdict e p t legal h none u was = λ n k enters.
      was n k enters
      ∙ ap (nat_lt n) (sym (same_behind ((e.place == p) && (e.by == t)) _ (spot_of plan past p t)
      (ap behind (said_same (is_undo (Some (verdict_at (of_kind kind.Verdict e)))) (spot_of plan past p t)
      (unresolved_spot plan past p t none)))))
  behind_by past kind.Resolve e p t legal h none u was = λ n k enters. rw u (was n k enters)
  behind_by past kind.End e p t legal h none u was =
      elim (cases_Bool (is_at (parent plan e.place) p && member t (roles_of plan e.place))) [
        | inl x ↦ end_behind past e p t legal h none x was
        | inr x ↦ λ n k enters.
            let away : member e.place (alternates_of plan p k) ≡ true → ⊥ =
            λ m. both_ways _ x (and_from (is_at (parent plan e.place) p) (member t (roles_of plan e.place))
            (same_at (parent plan e.place) p (use_up plan playable core p k e.place m))
            (playable.tree.enters p t None n k enters e.place m).1) in
            rw x (over_apart past e p k away ∙ was n k enters)
      ]
  behind_by past _ e p t legal h none u was = was

  uses_behind : (past : List Entry) → LegalPast plan past → (p t : ℕ) → exception_resolved past p ≡ None → Behind past p t
  uses_behind [] legal p t none = λ n k enters.
      any_alike (is_over plan []) (λ c. false) (alternates_of plan p k) (λ c m. refl) ∙ none_any (alternates_of plan p k)
      ∙ sym (le-ltb n 0 (omega arith))
    where
      none_any : (xs : List ℕ) → list_any (λ c. false) xs ≡ false
      none_any [] = refl
      none_any (x ∷ xs) = none_any xs
  uses_behind (e ∷ past) legal p t none =
      let before = unresolved_before past e p none in
      behind_by past e.kind e p t legal.0 legal.1 before.1 before.0 (uses_behind past legal.0 p t before.1)

  pub uses_are_over : Holds UsesAreOver plan
  uses_are_over past legal p t n k none enters = uses_behind past legal p t none n k enters
