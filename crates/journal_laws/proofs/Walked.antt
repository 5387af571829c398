-- How many steps a role makes: no more than its body has, and one handler.
use Rattle.std.proofs.Common.{◌≡◌, ℕ, ℤ, ◌==◌, ◌<◌, ◌≤◌, ◌+◌, Bool, true, false, not, cond, ◌&&◌, List, [], ◌∷◌, Option, Some, None, refl, ap, subst, subst₂, arith, suc, zero, length, inl, inr, slice_get, is_none}
use Rattle.std.proofs.lemmas.Bool.{and_parts, and_from, or_parts, eq-eqb, false≢true, not-true, cases_Bool, both_ways}
use Rattle.std.proofs.lemmas.Option.{slice_get_within}
use Rattle.caa_base.specs.declared.written.entry.Entry.{Entry}
use Rattle.caa_base.specs.declared.written.entry.Kind.{Kind}
use Rattle.caa_base.specs.declared.written.entry.Kind.TheVariants as kind
use Rattle.place_plan.specs.declared.drafts.draft_rows.Step.{Step}
use Rattle.place_plan.specs.Plans.PlanValue.{Plan}
use Rattle.caa_base.specs.Written.Lists.{is_at}
use Rattle.caa_base.specs.inner.Lists.{one_if}
use Rattle.place_plan.specs.Plans.Places.{parent, action_at, body_of}
use Rattle.place_plan.specs.RulesOfJournals.Entries.{is_by}
use Rattle.place_plan.specs.RulesOfJournals.Whereabouts.{is_left_in_silence}
use Rattle.place_plan.specs.RulesOfJournals.Raising.{has_handled, exception_handled}
use Rattle.place_plan.specs.RulesOfJournals.Roles.{advances, position, program_in, program_of, next_step}
use Rattle.place_plan.specs.RulesOfJournals.Rules.{Row, MayLeave, is_check, put_of}
use Rattle.place_plan.specs.RulesOfJournals.Journals.{LegalPast}
use Rattle.place_plan.specs.Plans.Bound.{longest_body, longest_handler}
use Rattle.journal_laws.specs.Laws.{Holds}
use Rattle.journal_laws.proofs.Playable.{IsPlayable}
use Rattle.journal_laws.proofs.Core.{Core}
use Rattle.caa_base.proofs.ListLemmas.{at_same}
use Rattle.place_plan.proofs.OnJournals.EntryKinds.{of_kind, both_same}
use Rattle.journal_laws.proofs.Newest.{stands_newest, newest_none}
use Rattle.journal_laws.proofs.Raised.{parent_round}
use Rattle.journal_laws.proofs.Arrivals.{inside_arrived, inside_not_left}
use Rattle.journal_laws.proofs.Costs.{walked, body_within, handler_within}

-- ---- steps

step_within : (xs : List Step) (n : ℕ) → is_none (slice_get xs n) ≡ false → n < length xs
step_within xs n h = by_step (slice_get xs n) refl h
  where
    by_step : (s : Option Step) → slice_get xs n ≡ s → is_none s ≡ false → n < length xs
    by_step None e h = absurd cc
    by_step (Some s) e h = slice_get_within xs n s e

put_stands : (s : Option Step) (r : ℤ) (x : ℕ × ℤ) → put_of s r ≡ Some x → is_none s ≡ false
put_stands None r x h = absurd cc
put_stands (Some s) r x h = refl

check_stands : (s : Option Step) → is_check s ≡ true → is_none s ≡ false
check_stands None h = absurd (false≢true h)
check_stands (Some s) h = refl

next_within : (b : Bool) (m n : ℕ) → m ≤ n → (b ≡ true → m < n) → cond b (suc m) m ≤ n
next_within true m n l h = h refl
next_within false m n l h = l

next_both : (b : Bool) (m k n : ℕ) → m ≤ k + n → one_if b + m ≤ k + cond b (suc n) n
next_both true m k n h = omega arith
next_both false m k n h = omega arith

module _ (plan : Plan) (playable : IsPlayable plan) (core : Holds Core plan) where
  -- ---- the position

  -- t has not come to the end of its program where it has a next step
  stepped : (past : List Entry) (q u p t : ℕ) → ((q == p) && (u == t)) ≡ true
      → is_none (next_step plan past q u) ≡ false → position plan past p t < length (program_of plan past p t).steps
  stepped past q u p t w n =
      let same = both_same q p u t w in
      subst₂ (λ a b. position plan past a b < length (program_of plan past a b).steps) same.0 same.1
      (step_within (program_of plan past q u).steps (position plan past q u) n)

  -- who leaves a place aloud is at an enter step in the place round it
  leaves_at_step : (past : List Entry) (e : Entry) (p : ℕ) → LegalPast plan past → MayLeave plan past e
      → parent plan e.place ≡ Some p → is_left_in_silence plan past e.place ≡ false
      → is_none (next_step plan past p e.by) ≡ false
  leaves_at_step past e p legal h up aloud =
      let c : Core plan past = core past legal in
      let away = c.raises.away p e.by e.place h.here (parent_round plan playable.tree e.place p up) in
      elim (c.visits.at_step p e.place e.by up (inside_arrived plan playable.tree past legal e.place e.by h.here) away.1) [
        | inl x ↦ absurd (both_ways _ (inside_not_left plan playable.tree past legal e.place e.by h.here) x.0)
        | inr x ↦ rw x.0 refl
      ]

  left_step : (past : List Entry) (e : Entry) (p t : ℕ) → LegalPast plan past → MayLeave plan past e
      → ((is_at (parent plan e.place) p && not (is_left_in_silence plan past e.place)) && (e.by == t)) ≡ true
      → position plan past p t < length (program_of plan past p t).steps
  left_step past e p t legal h w =
      let own = and_parts (is_at (parent plan e.place) p && not (is_left_in_silence plan past e.place)) (e.by == t) w in
      let parts = and_parts (is_at (parent plan e.place) p) (not (is_left_in_silence plan past e.place)) own.0 in
      stepped past p e.by p t (and_from (p == p) (e.by == t) (eq-eqb p p refl) own.1)
      (leaves_at_step past e p legal h (at_same (parent plan e.place) p parts.0) (not-true _ parts.1))

  position_within_by : (past : List Entry) (k : Kind) (e : Entry) (p t : ℕ) → LegalPast plan past
      → position plan past p t ≤ length (program_of plan past p t).steps → Row k plan past (of_kind k e)
      → position plan (of_kind k e ∷ past) p t ≤ length (program_of plan (of_kind k e ∷ past) p t).steps
  position_within_by past kind.Handle e p t legal ih h = by_own ((e.place == p) && (e.by == t))
    where
      by_own : (b : Bool) → cond b zero (position plan past p t) ≤ length
          (program_in plan p t (cond b (Some e.arg) (exception_handled past p t))).steps
      by_own true = omega arith
      by_own false = ih
  position_within_by past kind.Read e p t legal ih h = next_within _ _ _ ih (λ w. stepped past e.place e.by p t w (rw h.reads refl))
  position_within_by past kind.Work e p t legal ih h = next_within _ _ _ ih (λ w. stepped past e.place e.by p t w (rw h.works refl))
  position_within_by past kind.Write e p t legal ih h =
      next_within _ _ _ ih (λ w. stepped past e.place e.by p t w (put_stands _ _ _ h.puts))
  position_within_by past kind.Check e p t legal ih h =
      next_within _ _ _ ih (λ w. stepped past e.place e.by p t w (check_stands _ h.checks))
  position_within_by past kind.Leave e p t legal ih h = next_within _ _ _ ih (λ w. left_step past (of_kind kind.Leave e) p t legal h w)
  position_within_by past _ e p t legal ih h = ih

  -- t is nowhere past the end of the program that it goes through
  pub position_within : (past : List Entry) → LegalPast plan past → (p t : ℕ)
      → position plan past p t ≤ length (program_of plan past p t).steps
  position_within [] h p t = omega arith
  position_within (e ∷ past) h p t = position_within_by past e.kind e p t h.0 (position_within past h.0 p t) h.1

  -- ---- the steps of the body and of the handler together

  -- who has begun no handler has walked to its position
  body_walked : (past : List Entry) (p t : ℕ) → has_handled past p t ≡ false → walked plan past p t ≤ position plan past p t
  body_walked [] p t f = omega arith
  body_walked (e ∷ past) p t f =
      let parts = or_parts (is_by kind.Handle p t e) (has_handled past p t) f in
      let more : one_if (advances plan past p e e.kind && (e.by == t)) + walked plan past p t ≤ 0 + cond
      (advances plan past p e e.kind && (e.by == t)) (suc (position plan past p t)) (position plan past p t) =
      next_both (advances plan past p e e.kind && (e.by == t)) (walked plan past p t) 0 (position plan past p t)
      (omega (arith, body_walked past p t parts.1)) in
      rw parts.0 (omega arith)

  body_of_unhandled : (past : List Entry) (p t : ℕ) → has_handled past p t ≡ false → program_of plan past p t ≡ body_of plan p t
  body_of_unhandled past p t f = ap (program_in plan p t) (newest_none (is_by kind.Handle p t) past f)

  both_walked_by : (past : List Entry) (k : Kind) (e : Entry) (p t : ℕ) → LegalPast plan past
      → walked plan past p t ≤ length (body_of plan p t).steps + position plan past p t → Row k plan past (of_kind k e)
      → walked plan (of_kind k e ∷ past) p t ≤ length (body_of plan p t).steps + position plan (of_kind k e ∷ past) p t
  both_walked_by past kind.Handle e p t legal ih h = elim (cases_Bool ((e.place == p) && (e.by == t))) [
    | inl x ↦
        let same = both_same e.place p e.by t x in
        let before : has_handled past p t ≡ false = subst₂ (λ a b. has_handled past a b ≡ false) same.0 same.1 h.fresh in
        let there : position plan past p t ≤ length (body_of plan p t).steps =
        subst (λ program. position plan past p t ≤ length program.steps) (body_of_unhandled past p t before)
        (position_within past legal p t) in
        rw x (omega (arith, there, body_walked past p t before))
    | inr x ↦ rw x (omega arith)
  ]
  both_walked_by past kind.Read e p t legal ih h = next_both _ _ _ _ ih
  both_walked_by past kind.Work e p t legal ih h = next_both _ _ _ _ ih
  both_walked_by past kind.Write e p t legal ih h = next_both _ _ _ _ ih
  both_walked_by past kind.Check e p t legal ih h = next_both _ _ _ _ ih
  both_walked_by past kind.Leave e p t legal ih h = next_both _ _ _ _ ih
  both_walked_by past _ e p t legal ih h = omega arith

  both_walked : (past : List Entry) → LegalPast plan past → (p t : ℕ)
      → walked plan past p t ≤ length (body_of plan p t).steps + position plan past p t
  both_walked [] h p t = omega arith
  both_walked (e ∷ past) h p t = both_walked_by past e.kind e p t h.0 (both_walked past h.0 p t) h.1

  -- no role makes more steps in a place than the longest body and the longest handler have
  pub walked_within : (past : List Entry) → LegalPast plan past → (p t : ℕ)
      → walked plan past p t ≤ longest_body (action_at plan p).roles + longest_handler (action_at plan p).roles
  walked_within past legal p t = elim (cases_Bool (has_handled past p t)) [
    | inl f ↦
        let some = stands_newest (is_by kind.Handle p t) past f in
        let there : position plan past p t ≤ length (program_in plan p t (Some some.0)).steps =
        subst (λ o. position plan past p t ≤ length (program_in plan p t o).steps) some.1
        (position_within past legal p t) in
        omega (arith, there, both_walked past legal p t, body_within plan p t, handler_within plan p t some.0)
    | inr f ↦
        let there : position plan past p t ≤ length (body_of plan p t).steps =
        subst (λ program. position plan past p t ≤ length program.steps) (body_of_unhandled past p t f)
        (position_within past legal p t) in
        omega (arith, there, body_walked past p t f, body_within plan p t)
  ]
