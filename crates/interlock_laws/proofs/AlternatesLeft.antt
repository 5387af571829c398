-- Who is at a step that enters a use is at the alternate behind all that were left in silence.
use Rattle.std.proofs.Common.{◌≡◌, ℕ, ◌==◌, ◌+◌, ◌<◌, ◌⊎◌, Bool, true, false, not, cond, ◌&&◌, List, [], ◌∷◌, Some, None, Option, slice_get, count_by, suc, refl, sym, ap, ◌∙◌, subst, subst₂, inl, inr, arith, is_none}
use Rattle.std.proofs.lemmas.List.Sums.{sum_by-cons}
use Rattle.std.proofs.lemmas.Bool.{and_parts, and_from, and_left, or_left, or_right, or_cases, eqb-true, eq-eqb, false≢true, cases_Bool, both_ways, false_from_ne_true}
use Rattle.caa_base.specs.declared.written.entry.Entry.{Entry}
use Rattle.caa_base.specs.declared.written.entry.Kind.{Kind}
use Rattle.caa_base.specs.declared.written.entry.Kind.TheVariants as kind
use Rattle.caa_base.specs.declared.written.entry.Outcome.{Outcome}
use Rattle.caa_base.specs.declared.written.entry.Outcome.TheVariants as outcome
use Rattle.caa_base.specs.Written.Lists.{is_at, member}
use Rattle.caa_base.specs.inner.Lists.{Rises}
use Rattle.place_plan.specs.declared.drafts.draft_rows.Step.TheVariants as step
use Rattle.place_plan.specs.Plans.PlanValue.{Plan}
use Rattle.place_plan.specs.Plans.Places.{parent, roles_of, next_alternate, alternates_of, nest_number, nest_of, body_of, fault_of}
use Rattle.place_plan.specs.RulesOfJournals.Entries.{is_in, is_by, newest}
use Rattle.place_plan.specs.RulesOfJournals.Whereabouts.{inside, outcome_at, has_ended, is_left_in_silence}
use Rattle.place_plan.specs.RulesOfJournals.Raising.{has_handled, exception_resolved}
use Rattle.place_plan.specs.RulesOfJournals.Roles.{position, is_able, is_undo, verdict_at}
use Rattle.place_plan.specs.RulesOfJournals.Rules.{Row, MayEnd, abort_mapped}
use Rattle.place_plan.specs.RulesOfJournals.Journals.{LegalPast}
use Rattle.journal_laws.specs.Laws.{Holds}
use Rattle.journal_laws.proofs.Playable.{IsPlayable}
use Rattle.journal_laws.proofs.Core.{Core}
use Rattle.caa_base.proofs.ListLemmas.{at_same, same_at, member_above}
use Rattle.place_plan.proofs.OnJournals.EntryKinds.{of_kind, both_same}
use Rattle.journal_laws.proofs.Holding.{end_live, ended_started}
use Rattle.journal_laws.proofs.Lives.{live_parts}
use Rattle.journal_laws.proofs.Silence.{silent_ended}
use Rattle.journal_laws.proofs.Uses.{AtStep, body_step}
use Rattle.reach_laws.proofs.CameOut.{use_up, one_enter}
use Rattle.reach_laws.proofs.Standing.{nobody_handles}
use Rattle.interlock_laws.specs.Spots.{whole_use, Spot, body_at, raised_at, quiet_at, handler_at, broken_at, stepped, raising, refused, said, back_from, out_of, out_of_abort, spot_of}
use Rattle.interlock_laws.specs.SpotLaws.{AlternatesAreLeft}
use Rattle.interlock_laws.proofs.SpotSteps.{unresolved_before, is_silent, silent_mark}
use Rattle.interlock_laws.proofs.StayedIn.{live_staying}
use Rattle.interlock_laws.proofs.BodySpots.{able_spot, standing}
use Rattle.interlock_laws.proofs.UsesBehind.{at_enter_step}

-- ---- counts

count_more : (test : ℕ → Bool) (x : ℕ) (xs : List ℕ) → count_by test (x ∷ xs) ≡ cond (test x) 1 0 + count_by test xs
count_more test x xs = sum_by-cons (λ y. cond (test y) 1 0) x xs

count_none : (test : ℕ → Bool) (xs : List ℕ) → ((x : ℕ) → member x xs ≡ true → test x ≡ false) → count_by test xs ≡ 0
count_none test [] h = refl
count_none test (x ∷ xs) h =
    let rest = count_none test xs (λ y m. h y (or_right _ _ m)) in
    rw (count_more test x xs, h x (or_left _ _ (eq-eqb x x refl)), rest) refl

-- tests that say the same of each member are passed by as many
count_alike : (f g : ℕ → Bool) (xs : List ℕ) → ((x : ℕ) → member x xs ≡ true → f x ≡ g x) → count_by f xs ≡ count_by g xs
count_alike f g [] h = refl
count_alike f g (x ∷ xs) h =
    let rest = count_alike f g xs (λ y m. h y (or_right _ _ m)) in
    rw (count_more f x xs, count_more g x xs, h x (or_left _ _ (eq-eqb x x refl)), rest) refl

-- one member more passes
count_one_more : (f g : ℕ → Bool) (low : ℕ) (xs : List ℕ) (c : ℕ) → Rises low xs → member c xs ≡ true → f c ≡ true → g c ≡ false
    → ((x : ℕ) → (c ≡ x → ⊥) → f x ≡ g x) → count_by f xs ≡ suc (count_by g xs)
count_one_more f g low [] c r m now before others = absurd (false≢true m)
count_one_more f g low (x ∷ xs) c r m now before others = elim (cases_Bool (x == c)) [
  | inl w ↦
      let same = eqb-true x c w in
      let here : f x ≡ true = subst (λ y. f y ≡ true) (sym same) now in
      let there : g x ≡ false = subst (λ y. g y ≡ false) (sym same) before in
      let rest : count_by f xs ≡ count_by g xs = count_alike f g xs (λ y n. others y (λ e.
      let above = member_above (suc x) xs y r.1 n in absurd (omega (arith, e, same)))) in
      rw (count_more f x xs, count_more g x xs, here, there, rest) (omega arith)
  | inr w ↦
      let apart : c ≡ x → ⊥ = λ e. both_ways _ w (eq-eqb x c (sym e)) in
      let later : member c xs ≡ true = elim (or_cases (x == c) (member c xs) m) [ inl e ↦ absurd (both_ways _ w e) | inr e ↦ e ] in
      let rest = count_one_more f g (suc x) xs c r.1 later now before others in
      rw (count_more f x xs, count_more g x xs, others x apart, rest) (omega arith)
]

-- ---- spots in bodies

raising_body : (y i j : ℕ) (s : Spot) → raising y s ≡ body_at i j → s ≡ body_at i j
raising_body y i j (body_at n m) e = absurd cc
raising_body y i j (raised_at cause z) e = e
raising_body y i j (quiet_at n) e = absurd cc
raising_body y i j (handler_at x n) e = e
raising_body y i j (broken_at x) e = e

refused_body : (y i j : ℕ) (s : Spot) → refused y s ≡ body_at i j → s ≡ body_at i j
refused_body y i j (body_at n m) e = absurd cc
refused_body y i j (raised_at cause z) e = e
refused_body y i j (quiet_at n) e = e
refused_body y i j (handler_at x n) e = absurd cc
refused_body y i j (broken_at x) e = e

said_body : (undo : Bool) (i j : ℕ) (s : Spot) → said undo s ≡ body_at i j → s ≡ body_at i j
said_body true i j (body_at n m) e = e
said_body true i j (raised_at cause z) e = e
said_body true i j (quiet_at n) e = e
said_body true i j (handler_at x n) e = absurd cc
said_body true i j (broken_at x) e = e
said_body false i j s e = e

was_body : (f : Spot → Spot) (b : Bool) (s : Spot) (i j : ℕ) → (f s ≡ body_at i j → s ≡ body_at i j) → cond b (f s) s ≡ body_at i j
    → s ≡ body_at i j
was_body f true s i j h e = h e
was_body f false s i j h e = e

-- who comes out of a use into its body has it behind it, or goes to the next alternate
out_body : (plan : Plan) (c : ℕ) (abort : Option Entry) (n m i j : ℕ) (how : Outcome) → out_of plan c abort n m how ≡ body_at i j
    → ((i ≡ suc n) × (j ≡ 0)) ⊎ ((i ≡ n) × (j ≡ suc m) × (is_silent plan c how ≡ true))
out_body plan c abort n m i j outcome.Commit e = inl (cc, cc)
out_body plan c abort n m i j (outcome.Signal x) e = absurd cc
out_body plan c abort n m i j outcome.Undone e = by_next (is_none (next_alternate plan c)) e
  where
    by_next : (b : Bool) → cond b (raised_at (whole_use n) (nest_of plan c).undo) (body_at n (suc m)) ≡ body_at i j
        → ((i ≡ suc n) × (j ≡ 0)) ⊎ ((i ≡ n) × (j ≡ suc m) × (not b ≡ true))
    by_next true w = absurd cc
    by_next false w = inr (cc, cc, refl)
out_body plan c abort n m i j outcome.Aborted e = by_name (abort_mapped plan c abort) e
  where
    by_name : (o : Option ℕ) → out_of_abort n o ≡ body_at i j
        → ((i ≡ suc n) × (j ≡ 0)) ⊎ ((i ≡ n) × (j ≡ suc m) × (false ≡ true))
    by_name None w = absurd cc
    by_name (Some y) w = absurd cc
out_body plan c abort n m i j outcome.Failed e = absurd cc

module _ (plan : Plan) (playable : IsPlayable plan) (core : Holds Core plan) where
  abbrev left_count : List Entry → ℕ → ℕ → ℕ
  left_count past p k = count_by (is_left_in_silence plan past) (alternates_of plan p k)

  abbrev AtAlternate : List Entry → ℕ → ℕ → Type 0
  AtAlternate past p t =
      (i j k : ℕ) → slice_get (body_of plan p t).steps i ≡ Some (step.Enter k) → spot_of plan past p t ≡ body_at i j
      → j ≡ left_count past p k

  -- no place of a use that t comes to by a later step has been left in silence
  not_come : (past : List Entry) → LegalPast plan past → (p t n k c : ℕ) → exception_resolved past p ≡ None
      → position plan past p t < n → slice_get (body_of plan p t).steps n ≡ Some (step.Enter k)
      → member c (alternates_of plan p k) ≡ true → is_left_in_silence plan past c ≡ false
  not_come past legal p t n k c none below enters m = false_from_ne_true _ (λ silent.
      let role = (playable.tree.enters p t None n k enters c m).1 in
      let came =
      (core past legal).visits.whole c t (ended_started plan playable.tree past legal c (silent_ended plan past c silent)) role in
      by_step ((core past legal).visits.at_step p c t (use_up plan playable core p k c m) came unhandled))
    where
      unhandled : has_handled past p t ≡ false
      unhandled = nobody_handles plan playable core past legal p t none

      at_use : slice_get (body_of plan p t).steps n ≡ Some (step.Enter (nest_number plan c))
      at_use = enters ∙ ap (λ a. Some (step.Enter a)) (sym (playable.placed p k c m).1)

      by_step : AtStep plan past p c t → ⊥
      by_step (inl (l, (i, passed, entered))) =
          let same = one_enter plan playable core p t i n (nest_number plan c) entered at_use in omega arith
      by_step (inr x) =
          let here = sym (body_step plan past p t unhandled) ∙ x.0 in
          let same = one_enter plan playable core p t (position plan past p t) n (nest_number plan c) here at_use in omega arith

  step_left : (past : List Entry) (e : Entry) (p t : ℕ) → LegalPast plan past → exception_resolved past p ≡ None
      → inside plan past e.by ≡ Some e.place → is_able plan past e.place e.by ≡ true → AtAlternate past p t → (i j k : ℕ)
      → slice_get (body_of plan p t).steps i ≡ Some (step.Enter k)
      → cond ((e.place == p) && (e.by == t)) (stepped (spot_of plan past p t)) (spot_of plan past p t) ≡ body_at i j
      → j ≡ left_count past p k
  step_left past e p t legal none here able was i j k enters at = elim (cases_Bool ((e.place == p) && (e.by == t))) [
    | inl x ↦
        let same = both_same e.place p e.by t x in
        let found =
        (able_spot plan playable core past legal p t (standing plan playable core past legal p t none) none
        (subst₂ (λ a b. inside plan past b ≡ Some a) same.0 same.1 here)
        (subst₂ (λ a b. is_able plan past a b ≡ true) same.0 same.1 able)).0 in
        let now : body_at (suc (position plan past p t)) 0 ≡ body_at i j = sym (ap stepped found.1) ∙ rw x at at in
        let index : suc (position plan past p t) ≡ i = cc in
        let turn : 0 ≡ j = cc in
        sym turn ∙ sym (count_none (is_left_in_silence plan past) (alternates_of plan p k) (λ c m.
        not_come past legal p t i k c none (omega arith) enters m))
    | inr x ↦ was i j k enters (rw x at at)
  ]

  -- the places of another use than that of the one that ends are left as before
  left_apart : (past : List Entry) (e : Entry) (p k : ℕ) → (member e.place (alternates_of plan p k) ≡ true → ⊥)
      → left_count (of_kind kind.End e ∷ past) p k ≡ left_count past p k
  left_apart past e p k away =
      count_alike (is_left_in_silence plan (of_kind kind.End e ∷ past)) (is_left_in_silence plan past) (alternates_of plan p k) (λ c m.
      let apart : (e.place == c) ≡ false = false_from_ne_true _ (λ x.
      away (subst (λ a. member a (alternates_of plan p k) ≡ true) (sym (eqb-true e.place c x)) m)) in
      rw apart refl)

  end_left : (past : List Entry) (e : Entry) (p t : ℕ) → LegalPast plan past → MayEnd plan past (of_kind kind.End e)
      → exception_resolved past p ≡ None → (is_at (parent plan e.place) p && member t (roles_of plan e.place)) ≡ true
      → AtAlternate past p t → AtAlternate (of_kind kind.End e ∷ past) p t
  end_left past e p t legal h none own was i j k enters at =
      let parts = and_parts (is_at (parent plan e.place) p) (member t (roles_of plan e.place)) own in
      let up = at_same (parent plan e.place) p parts.0 in
      let live = live_parts e.place past (end_live plan playable.tree past (of_kind kind.End e) legal h) in
      let in_it = live_staying plan playable.tree past legal e.place t parts.1 live.0 live.1 in
      let found =
      (standing plan playable core past legal p t none).further e.place up in_it
      (and_left (has_ended past e.place) (not (is_left_in_silence plan past e.place)) live.1) in
      let abort = newest (is_by kind.Abort e.place t) past in
      let how = outcome_at (of_kind kind.End e) in
      let spot : out_of plan e.place abort (position plan past p t) found.0 how ≡ body_at i j =
      sym (ap (back_from plan e.place abort how) found.1) ∙ rw own at at in
      let entered =
      at_enter_step plan playable core past e.place p t legal none up ((core past legal).visits.whole e.place t live.0 parts.1) live.1 in
      elim (out_body plan e.place abort (position plan past p t) found.0 i j how spot) [
        | inl x ↦
            let away : member e.place (alternates_of plan p k) ≡ true → ⊥ =
            λ m. let same =
            one_enter plan playable core p t (position plan past p t) i k
            (entered ∙ ap (λ a. Some (step.Enter a)) (playable.placed p k e.place m).1) enters in
            omega (arith, x.0) in
            x.1 ∙ sym (left_apart past e p k away ∙ count_none (is_left_in_silence plan past) (alternates_of plan p k) (λ c m.
            not_come past legal p t i k c none (omega (arith, x.0)) enters m))
        | inr x ↦
            let here : slice_get (body_of plan p t).steps (position plan past p t) ≡ Some (step.Enter k) =
            ap (slice_get (body_of plan p t).steps) (sym x.0) ∙ enters in
            let one : Some (step.Enter (nest_number plan e.place)) ≡ Some (step.Enter k) = sym entered ∙ here in
            let same : nest_number plan e.place ≡ k = cc in
            let m : member e.place (alternates_of plan p k) ≡ true =
            subst (λ a. member e.place (alternates_of plan p a) ≡ true) same (playable.back p e.place up) in
            let before : is_left_in_silence plan past e.place ≡ false = false_from_ne_true _ (λ silent.
            both_ways _ live.1 (silent_ended plan past e.place silent)) in
            let now : is_left_in_silence plan (of_kind kind.End e ∷ past) e.place ≡ true =
            rw (eq-eqb e.place e.place refl) (sym (silent_mark plan e.place e.mark e.arg) ∙ x.2) in
            let more : left_count (of_kind kind.End e ∷ past) p k ≡ suc (left_count past p k) =
            count_one_more (is_left_in_silence plan (of_kind kind.End e ∷ past)) (is_left_in_silence plan past) 0
            (alternates_of plan p k) e.place (playable.in_row p k) m now before (λ c other.
            let apart : (e.place == c) ≡ false = false_from_ne_true _ (λ w. other (eqb-true e.place c w)) in rw apart refl) in
            x.1 ∙ ap suc (was (position plan past p t) found.0 k here found.1) ∙ sym more
      ]

  left_by : (past : List Entry) (k : Kind) (e : Entry) (p t : ℕ) → LegalPast plan past → Row k plan past (of_kind k e)
      → exception_resolved past p ≡ None → is_in kind.Resolve p (of_kind k e) ≡ false → AtAlternate past p t
      → AtAlternate (of_kind k e ∷ past) p t
  left_by past kind.Read e p t legal h none u was = step_left past e p t legal none h.here h.can was
  left_by past kind.Work e p t legal h none u was = step_left past e p t legal none h.here h.can was
  left_by past kind.Write e p t legal h none u was = step_left past e p t legal none h.here h.can was
  left_by past kind.Check e p t legal h none u was = step_left past e p t legal none h.here h.can was
  left_by past kind.PutFault e p t legal h none u was = λ i j k enters at.
      was i j k enters (was_body (refused (fault_of plan p)) ((e.place == p) && (e.by == t)) (spot_of plan past p t) i j
      (refused_body (fault_of plan p) i j (spot_of plan past p t)) at)
  left_by past kind.Raise e p t legal h none u was = λ i j k enters at.
      was i j k enters (was_body (raising e.arg) ((e.place == p) && (e.by == t)) (spot_of plan past p t) i j
      (raising_body e.arg i j (spot_of plan past p t)) at)
  left_by past kind.Verdict e p t legal h none u was = λ i j k enters at.
      let undo = is_undo (Some (verdict_at (of_kind kind.Verdict e))) in
      was i j k enters (was_body (said undo) ((e.place == p) && (e.by == t)) (spot_of plan past p t) i j
      (said_body undo i j (spot_of plan past p t)) at)
  left_by past kind.Resolve e p t legal h none u was = λ i j k enters at. was i j k enters (rw u at at)
  left_by past kind.End e p t legal h none u was =
      elim (cases_Bool (is_at (parent plan e.place) p && member t (roles_of plan e.place))) [
        | inl x ↦ end_left past e p t legal h none x was
        | inr x ↦ λ i j k enters at.
            let away : member e.place (alternates_of plan p k) ≡ true → ⊥ =
            λ m. both_ways _ x (and_from (is_at (parent plan e.place) p) (member t (roles_of plan e.place))
            (same_at (parent plan e.place) p (use_up plan playable core p k e.place m))
            (playable.tree.enters p t None i k enters e.place m).1) in
            was i j k enters (rw x at at) ∙ sym (left_apart past e p k away)
      ]
  left_by past _ e p t legal h none u was = was

  at_alternate : (past : List Entry) → LegalPast plan past → (p t : ℕ) → exception_resolved past p ≡ None → AtAlternate past p t
  at_alternate [] legal p t none = λ i j k enters at.
      let turn : 0 ≡ j = cc in
      sym turn ∙ sym (count_none (is_left_in_silence plan []) (alternates_of plan p k) (λ c m. refl))
  at_alternate (e ∷ past) legal p t none =
      let before = unresolved_before past e p none in
      left_by past e.kind e p t legal.0 legal.1 before.1 before.0 (at_alternate past legal.0 p t before.1)

  pub alternates_are_left : Holds AlternatesAreLeft plan
  alternates_are_left past legal p t i j k none enters at = at_alternate past legal p t none i j k enters at
