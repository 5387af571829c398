-- Where a role is in its nested uses: it is at the enter step of a use until it has left one of the alternates aloud, and it
-- comes to an alternate only once it has left all earlier ones in silence.
use Rattle.std.proofs.Common.{◌≡◌, ℕ, ℤ, ◌==◌, ◌<◌, Bool, true, false, not, cond, ◌&&◌, ◌||◌, List, [], ◌∷◌, Some, None, Option, refl, sym, ap, ◌∙◌, subst, subst₂, arith, suc, slice_get, inl, inr, ◌⊎◌}
use Rattle.std.proofs.lemmas.Bool.{and_parts, and_from, or_cases, or_left, or_right, or_parts, eqb-true, eq-eqb, false≢true, cases_Bool, cases_order, cases_lt, both_ways, not-true, true_from_ne_false, not_from_false}
use Rattle.caa_base.specs.declared.written.entry.Entry.{Entry}
use Rattle.caa_base.specs.declared.written.entry.Kind.{Kind}
use Rattle.caa_base.specs.declared.written.entry.Kind.TheVariants as kind
use Rattle.place_plan.specs.declared.drafts.draft_rows.Step.{Step}
use Rattle.place_plan.specs.declared.drafts.draft_rows.Step.TheVariants as step
use Rattle.place_plan.specs.Plans.PlanValue.{Plan}
use Rattle.caa_base.specs.Written.Lists.{member, is_at}
use Rattle.place_plan.specs.Plans.Places.{parent, alternates_of, nest_number, body_of}
use Rattle.place_plan.specs.RulesOfJournals.Entries.{is_by, has_by}
use Rattle.place_plan.specs.RulesOfJournals.Whereabouts.{inside, is_left_in_silence}
use Rattle.place_plan.specs.RulesOfJournals.Raising.{has_handled, is_calm}
use Rattle.place_plan.specs.RulesOfJournals.Roles.{advances, program_in, program_of, position, next_step}
use Rattle.place_plan.specs.RulesOfJournals.Rules.{Row, MayArrive, put_of, is_check}
use Rattle.place_plan.specs.RulesOfJournals.Journals.{LegalPast}
use Rattle.journal_laws.specs.Laws.{Holds}
use Rattle.journal_laws.proofs.Playable.{IsPlayable}
use Rattle.journal_laws.proofs.Core.{PassedEnter}
use Rattle.caa_base.proofs.ListLemmas.{at_same, same_at, first_not_fails, first_not_before}
use Rattle.place_plan.proofs.OnJournals.EntryKinds.{of_kind, both_same, from_both}
use Rattle.journal_laws.proofs.Newest.{newest_none}
use Rattle.journal_laws.proofs.Phases.{calm_open}
use Rattle.journal_laws.proofs.Raised.{plain_calm, raises}
use Rattle.journal_laws.proofs.Silence.{silent_ended, silence_stays}
use Rattle.journal_laws.proofs.Arrivals.{enters_use, begins_play, next_has, fresh, not_arrived, inside_arrived, inside_not_left, left_ended, around_parent, settled}

-- ---- what a step tells

-- the step enters no use
abbrev pub enters_nowhere : Option Step → Bool
enters_nowhere (Some (step.Enter k)) = false
enters_nowhere _ = true

pub put_stays : (s : Option Step) (r : ℤ) (x : ℕ × ℤ) → put_of s r ≡ Some x → enters_nowhere s ≡ true
put_stays None r x h = absurd cc
put_stays (Some (step.Enter k)) r x h = absurd cc
put_stays (Some (step.Read a)) r x h = refl
put_stays (Some (step.Put a b)) r x h = refl
put_stays (Some (step.Add a b)) r x h = refl
put_stays (Some (step.Work a)) r x h = refl
put_stays (Some (step.Check a b c)) r x h = refl
put_stays (Some (step.Raise a)) r x h = refl

pub check_stays : (s : Option Step) → is_check s ≡ true → enters_nowhere s ≡ true
check_stays None h = absurd (false≢true h)
check_stays (Some (step.Enter k)) h = absurd (false≢true h)
check_stays (Some (step.Read a)) h = refl
check_stays (Some (step.Put a b)) h = refl
check_stays (Some (step.Add a b)) h = refl
check_stays (Some (step.Work a)) h = refl
check_stays (Some (step.Check a b c)) h = refl
check_stays (Some (step.Raise a)) h = refl

-- who has begun no handler makes the steps of its body
pub body_step : (plan : Plan) (past : List Entry) (p t : ℕ) → has_handled past p t ≡ false
    → next_step plan past p t ≡ slice_get (body_of plan p t).steps (position plan past p t)
body_step plan past p t h =
    ap (λ o. slice_get (program_in plan p t o).steps (position plan past p t))
    (newest_none (is_by kind.Handle p t) past h)

-- who leaves a place right inside p with a step goes out of it aloud
pub steps_out : (plan : Plan) (past : List Entry) (e : Entry) (p : ℕ) → advances plan past p e kind.Leave ≡ true
    → (parent plan e.place ≡ Some p) × (is_left_in_silence plan past e.place ≡ false)
steps_out plan past e p h =
    let parts = and_parts (is_at (parent plan e.place) p) (not (is_left_in_silence plan past e.place)) h in
    (at_same _ p parts.0, not-true _ parts.1)

-- ---- what is kept of uses

-- t has left the place and passed the enter step of its use, or is at that step; if it has left, then in silence
abbrev pub AtStep : Plan → List Entry → ℕ → ℕ → ℕ → Type 0
AtStep plan past p c t =
    ((has_by kind.Leave past c t ≡ true) × PassedEnter plan p t (nest_number plan c) (position plan past p t))
    ⊎ ((next_step plan past p t ≡ Some (step.Enter (nest_number plan c)))
    × (has_by kind.Leave past c t ≡ true → is_left_in_silence plan past c ≡ true))

-- t has left an alternate of the use aloud
abbrev pub LeftAloud : Plan → List Entry → ℕ → ℕ → ℕ → Type 0
LeftAloud plan past p t k =
    (c : ℕ) × (member c (alternates_of plan p k) ≡ true) × (has_by kind.Leave past c t ≡ true)
    × (is_left_in_silence plan past c ≡ false)

-- three facts of visits, which are proved together
pub record Uses (plan : Plan) (past : List Entry) : Type 0 where
  pub at_step : (p c t : ℕ) → parent plan c ≡ Some p → has_by kind.Arrive past c t ≡ true → has_handled past p t ≡ false
      → AtStep plan past p c t
  pub turn : (p c d t : ℕ) → parent plan c ≡ Some p → parent plan d ≡ Some p → nest_number plan c ≡ nest_number plan d
      → c < d → has_by kind.Arrive past d t ≡ true
      → (has_by kind.Leave past c t ≡ true) × (is_left_in_silence plan past c ≡ true)
  pub passed : (p t n k : ℕ) → has_handled past p t ≡ false → n < position plan past p t
      → slice_get (body_of plan p t).steps n ≡ Some (step.Enter k) → LeftAloud plan past p t k

module _ (plan : Plan) (playable : IsPlayable plan) where
  -- ---- in the turn of its use

  -- nobody handles in a calm place
  pub calm_unhandled : (past : List Entry) → LegalPast plan past → (p t : ℕ) → is_calm plan past p ≡ true → has_handled past p t ≡ false
  calm_unhandled past legal p t calm = (plain_calm plan past p t (raises plan playable.tree past legal) (calm_open plan past p calm).1).1

  -- who is at an enter step has not passed it
  pub not_passed : (past : List Entry) (p t k : ℕ) → has_handled past p t ≡ false
      → next_step plan past p t ≡ Some (step.Enter k) → PassedEnter plan p t k (position plan past p t) → ⊥
  not_passed past p t k w next (n, below, entered) =
      let now = sym (body_step plan past p t w) ∙ next in
      let rises = playable.in_order p t n (position plan past p t) k k below entered now in
      omega arith

  -- t, which arrived in place d from inside p, has left each earlier place of the use in silence
  arrived_in_turn : (past : List Entry) (e : Entry) → LegalPast plan past → Uses plan past → MayArrive plan past e
      → (p c q : ℕ) → parent plan c ≡ Some p → parent plan e.place ≡ Some p
      → nest_number plan c ≡ nest_number plan e.place → c < e.place → inside plan past e.by ≡ Some q
      → (has_by kind.Leave past c e.by ≡ true) × (is_left_in_silence plan past c ≡ true)
  arrived_in_turn past e legal kept h p c q up_c up_d same_use below w =
      let enters = enters_use plan past e q h w in
      let k = enters.0 in
      let fits =
      playable.placed q k e.place
      (first_not_fails (λ a. has_by kind.Arrive past a e.by) (alternates_of plan q k) e.place enters.1.first).1 in
      let round = around_parent plan playable.tree p e.place up_d in
      let same : q ≡ p = cc in
      let its_use : nest_number plan c ≡ k = same_use ∙ fits.1 in
      let place : member c (alternates_of plan q k) ≡ true =
      subst₂ (λ a b. member c (alternates_of plan a b) ≡ true) (sym same) its_use (playable.back p c up_c) in
      let came : has_by kind.Arrive past c e.by ≡ true =
      first_not_before (λ a. has_by kind.Arrive past a e.by) 0 (alternates_of plan q k) c e.place
      (playable.in_row q k) enters.1.first place below in
      let up : parent plan c ≡ Some q = up_c ∙ ap Some (sym same) in
      let gone = settled plan playable.tree past legal q c e.by w enters.1.calm up came in
      let unhandled = calm_unhandled past legal q e.by enters.1.calm in (
        gone,
        by_step unhandled
            (subst (λ a. next_step plan past q e.by ≡ Some (step.Enter a)) (sym its_use) enters.1.next) gone
            (kept.at_step q c e.by up came unhandled),
      )
    where
      by_step : has_handled past q e.by ≡ false → next_step plan past q e.by ≡ Some (step.Enter (nest_number plan c))
          → has_by kind.Leave past c e.by ≡ true → AtStep plan past q c e.by → is_left_in_silence plan past c ≡ true
      by_step unhandled next gone (inl x) = absurd (not_passed past q e.by (nest_number plan c) unhandled next x.1)
      by_step unhandled next gone (inr x) = x.1 gone

  turn_by : (past : List Entry) (k : Kind) (e : Entry) → LegalPast plan past → Uses plan past
      → Row k plan past (of_kind k e) → (p c d t : ℕ) → parent plan c ≡ Some p → parent plan d ≡ Some p
      → nest_number plan c ≡ nest_number plan d → c < d → has_by kind.Arrive (of_kind k e ∷ past) d t ≡ true
      → (has_by kind.Leave (of_kind k e ∷ past) c t ≡ true) × (is_left_in_silence plan (of_kind k e ∷ past) c ≡ true)
  turn_by past kind.Arrive e legal kept h p c d t up_c up_d same_use below w =
      elim (or_cases ((e.place == d) && (e.by == t)) (has_by kind.Arrive past d t) w) [
        | inl x ↦ let same = both_same e.place d e.by t x in
            subst (λ a. (has_by kind.Leave past c a ≡ true) × (is_left_in_silence plan past c ≡ true)) same.1
            (by_place (subst (λ a. parent plan a ≡ Some p) (sym same.0) up_d)
            (same_use ∙ ap (nest_number plan) (sym same.0)) (rw same.0 below) (inside plan past e.by) refl)
        | inr x ↦ kept.turn p c d t up_c up_d same_use below x
      ]
    where
      by_place : parent plan e.place ≡ Some p → nest_number plan c ≡ nest_number plan e.place → c < e.place
          → (o : Option ℕ) → inside plan past e.by ≡ o
          → (has_by kind.Leave past c e.by ≡ true) × (is_left_in_silence plan past c ≡ true)
      by_place up same_use below None w =
          let next = begins_play plan past (of_kind kind.Arrive e) h w in
          let top = playable.tree.tops e.place (next_has plan past e.by e.place next).0 in
          let round = around_parent plan playable.tree p e.place up in
          absurd cc
      by_place up same_use below (Some q) w = arrived_in_turn past (of_kind kind.Arrive e) legal kept h p c q up_c up same_use below w
  turn_by past kind.Leave e legal kept h p c d t up_c up_d same_use below w = let was =
      kept.turn p c d t up_c up_d same_use below w in (or_right _ _ was.0, was.1)
  turn_by past kind.End e legal kept h p c d t up_c up_d same_use below w =
      let was = kept.turn p c d t up_c up_d same_use below w in
      (was.0, silence_stays plan playable.tree past (of_kind kind.End e) c legal h (silent_ended plan past c was.1) ∙ was.1)
  turn_by past _ e legal kept h p c d t up_c up_d same_use below w = kept.turn p c d t up_c up_d same_use below w

  -- ---- at the enter step of its use

  -- the same, where m is the position of t in p, and l and s tell whether it has left c and how c is left
  abbrev AtPosition : List Entry → ℕ → ℕ → ℕ → ℕ → Bool → Bool → Type 0
  AtPosition past p c t m l s =
      ((l ≡ true) × PassedEnter plan p t (nest_number plan c) m)
      ⊎ ((slice_get (program_of plan past p t).steps m ≡ Some (step.Enter (nest_number plan c)))
      × (l ≡ true → s ≡ true))

  at_step_arrives : (past : List Entry) (e : Entry) → LegalPast plan past → MayArrive plan past e → (p : ℕ)
      → parent plan e.place ≡ Some p → AtStep plan past p e.place e.by
  at_step_arrives past e legal h p up = by_place (inside plan past e.by) refl
    where
      by_place : (o : Option ℕ) → inside plan past e.by ≡ o → AtStep plan past p e.place e.by
      by_place None w =
          let next = begins_play plan past e h w in
          let top = playable.tree.tops e.place (next_has plan past e.by e.place next).0 in
          let round = around_parent plan playable.tree p e.place up in
          absurd cc
      by_place (Some q) w =
          let enters = enters_use plan past e q h w in
          let fits =
          playable.placed q enters.0 e.place
          (first_not_fails (λ a. has_by kind.Arrive past a e.by)
          (alternates_of plan q enters.0) e.place enters.1.first).1 in
          let round = around_parent plan playable.tree p e.place up in
          let same : q ≡ p = cc in
          let next : next_step plan past p e.by ≡ Some (step.Enter (nest_number plan e.place)) =
          subst₂ (λ a b. next_step plan past a e.by ≡ Some (step.Enter b)) same (sym fits.1) enters.1.next in
          inr (next, λ l. absurd (both_ways _ (not_arrived plan playable.tree past legal e.place e.by (fresh plan past e h)).0 l))

  -- a step that enters nothing leaves a passed enter step passed
  stepped : (past : List Entry) (e : Entry) (p c t : ℕ) → enters_nowhere (next_step plan past e.place e.by) ≡ true
      → AtStep plan past p c t
      → AtPosition past p c t (cond ((e.place == p) && (e.by == t)) (suc (position plan past p t))
      (position plan past p t)) (has_by kind.Leave past c t) (is_left_in_silence plan past c)
  stepped past e p c t stays kept = elim (cases_Bool ((e.place == p) && (e.by == t))) [
    | inl x ↦ rw x (own kept (both_same e.place p e.by t x))
    | inr x ↦ rw x kept
  ]
    where
      own : AtStep plan past p c t → (e.place ≡ p) × (e.by ≡ t)
          → AtPosition past p c t (suc (position plan past p t)) (has_by kind.Leave past c t)
          (is_left_in_silence plan past c)
      own (inl (l, (n, below, entered))) same = inl (l, (n, omega arith, entered))
      own (inr w) same =
          let next : next_step plan past e.place e.by ≡ Some (step.Enter (nest_number plan c)) =
          subst₂ (λ a b. next_step plan past a b ≡ Some (step.Enter (nest_number plan c))) (sym same.0)
          (sym same.1) w.0 in
          absurd (false≢true (subst (λ s. enters_nowhere s ≡ true) next stays))

  -- a leave that is no step of t in p is one out of another place, or in silence
  left_still : (past : List Entry) (e : Entry) (p c t : ℕ) → LegalPast plan past → inside plan past e.by ≡ Some e.place
      → parent plan c ≡ Some p → (advances plan past p e kind.Leave && (e.by == t)) ≡ false → AtStep plan past p c t
      → AtPosition past p c t (position plan past p t) (((e.place == c) && (e.by == t)) || has_by kind.Leave past c t)
      (is_left_in_silence plan past c)
  left_still past e p c t legal here up still kept = elim (cases_Bool ((e.place == c) && (e.by == t))) [
    | inl x ↦ rw x (own kept (both_same e.place c e.by t x))
    | inr x ↦ rw x kept
  ]
    where
      own : AtStep plan past p c t → (e.place ≡ c) × (e.by ≡ t)
          → AtPosition past p c t (position plan past p t) true (is_left_in_silence plan past c)
      own (inl (l, passed)) same =
          absurd (both_ways _ (inside_not_left plan playable.tree past legal c t
          (subst₂ (λ a b. inside plan past b ≡ Some a) same.0 same.1 here)) l)
      own (inr w) same = inr (
        w.0,
        λ l. true_from_ne_false _ (λ aloud.
            let turned : is_left_in_silence plan past e.place ≡ false =
            subst (λ a. is_left_in_silence plan past a ≡ false) (sym same.0) aloud in
            let out : is_at (parent plan e.place) p ≡ true = same_at _ p (ap (parent plan) same.0 ∙ up) in
            both_ways _ still (and_from _ _ (and_from _ _ out (not_from_false _ turned)) (eq-eqb e.by t same.1))),
      )

  -- who leaves another place of p aloud passes the enter step of that place's use
  left_aloud : (past : List Entry) (e : Entry) (p c t : ℕ) → LegalPast plan past → Uses plan past
      → inside plan past t ≡ Some e.place → parent plan e.place ≡ Some p → parent plan c ≡ Some p
      → has_handled past p t ≡ false → (e.place ≡ c → ⊥) → has_by kind.Arrive past c t ≡ true → AtStep plan past p c t
      → (has_by kind.Leave past c t ≡ true) × PassedEnter plan p t (nest_number plan c) (suc (position plan past p t))
  left_aloud past e p c t legal kept here up_d up_c unhandled other came (inl (l, (n, below, entered))) = (l, (n, omega arith, entered))
  left_aloud past e p c t legal kept here up_d up_c unhandled other came (inr w) = by_step (kept.at_step p e.place t up_d came_d unhandled)
    where
      came_d : has_by kind.Arrive past e.place t ≡ true
      came_d = inside_arrived plan playable.tree past legal e.place t here

      not_left : has_by kind.Leave past e.place t ≡ true → ⊥
      not_left l = both_ways _ (inside_not_left plan playable.tree past legal e.place t here) l

      passed : PassedEnter plan p t (nest_number plan c) (suc (position plan past p t))
      passed = (position plan past p t, omega arith, sym (body_step plan past p t unhandled) ∙ w.0)

      by_step : AtStep plan past p e.place t
          → (has_by kind.Leave past c t ≡ true)
          × PassedEnter plan p t (nest_number plan c) (suc (position plan past p t))
      by_step (inl x) = absurd (not_left x.0)
      by_step (inr x) =
          let one : nest_number plan c ≡ nest_number plan e.place = cc in
          elim (cases_order c e.place) [
            | inl same ↦ absurd (other (sym same))
            | inr (inl below) ↦ ((kept.turn p c e.place t up_c up_d one below came_d).0, passed)
            | inr (inr above) ↦ absurd (not_left (kept.turn p e.place c t up_d up_c (sym one) above came).0)
          ]

  at_step_leaves : (past : List Entry) (e : Entry) (p c t : ℕ) → LegalPast plan past → Uses plan past
      → inside plan past e.by ≡ Some e.place → parent plan c ≡ Some p → has_by kind.Arrive past c t ≡ true
      → has_handled past p t ≡ false
      → AtPosition past p c t (cond (advances plan past p e kind.Leave && (e.by == t)) (suc (position plan past p t))
      (position plan past p t)) (((e.place == c) && (e.by == t)) || has_by kind.Leave past c t)
      (is_left_in_silence plan past c)
  at_step_leaves past e p c t legal kept here up came unhandled = elim (cases_Bool (advances plan past p e kind.Leave && (e.by == t))) [
    | inl x ↦ rw x (aloud x)
    | inr x ↦ rw x (left_still past e p c t legal here up x (kept.at_step p c t up came unhandled))
  ]
    where
      aloud : (advances plan past p e kind.Leave && (e.by == t)) ≡ true
          → AtPosition past p c t (suc (position plan past p t))
          (((e.place == c) && (e.by == t)) || has_by kind.Leave past c t) (is_left_in_silence plan past c)
      aloud x =
          let parts = and_parts (advances plan past p e kind.Leave) (e.by == t) x in
          let out = (steps_out plan past e p parts.0).0 in
          let own : e.by ≡ t = eqb-true e.by t parts.1 in
          let there : inside plan past t ≡ Some e.place = subst (λ a. inside plan past a ≡ Some e.place) own here in
          elim (cases_Bool (e.place == c)) [
            | inl z ↦
                inl (
                  or_left _ _ (and_from _ _ z parts.1),
                  itself out own (eqb-true e.place c z) (kept.at_step p c t up came unhandled),
                )
            | inr z ↦
                let passes =
                left_aloud past e p c t legal kept there out up unhandled
                (λ same. both_ways _ z (eq-eqb e.place c same)) came (kept.at_step p c t up came unhandled) in
                inl (or_right _ _ passes.0, passes.1)
          ]
        where
          itself : parent plan e.place ≡ Some p → e.by ≡ t → e.place ≡ c → AtStep plan past p c t
              → PassedEnter plan p t (nest_number plan c) (suc (position plan past p t))
          itself out own same (inl (l, passed)) =
              absurd (both_ways _ (inside_not_left plan playable.tree past legal c t
              (subst₂ (λ a b. inside plan past b ≡ Some a) same own here)) l)
          itself out own same (inr w) = (position plan past p t, omega arith, sym (body_step plan past p t unhandled) ∙ w.0)

  at_step_by : (past : List Entry) (k : Kind) (e : Entry) → LegalPast plan past → Uses plan past
      → Row k plan past (of_kind k e) → (p c t : ℕ) → parent plan c ≡ Some p
      → has_by kind.Arrive (of_kind k e ∷ past) c t ≡ true → has_handled (of_kind k e ∷ past) p t ≡ false
      → AtStep plan (of_kind k e ∷ past) p c t
  at_step_by past kind.Arrive e legal kept h p c t up came w =
      elim (or_cases ((e.place == c) && (e.by == t)) (has_by kind.Arrive past c t) came) [
        | inl x ↦ let same = both_same e.place c e.by t x in
            subst₂ (λ a b. AtStep plan past p a b) same.0 same.1
            (at_step_arrives past (of_kind kind.Arrive e) legal h p
            (subst (λ a. parent plan a ≡ Some p) (sym same.0) up))
        | inr x ↦ kept.at_step p c t up x w
      ]
  at_step_by past kind.Leave e legal kept h p c t up came w = at_step_leaves past e p c t legal kept h.here up came w
  at_step_by past kind.Handle e legal kept h p c t up came w =
      let parts = or_parts ((e.place == p) && (e.by == t)) (has_handled past p t) w in
      rw parts.0 (kept.at_step p c t up came parts.1)
  at_step_by past kind.Read e legal kept h p c t up came w = stepped past e p c t (rw h.reads refl) (kept.at_step p c t up came w)
  at_step_by past kind.Work e legal kept h p c t up came w = stepped past e p c t (rw h.works refl) (kept.at_step p c t up came w)
  at_step_by past kind.Write e legal kept h p c t up came w = stepped past e p c t (put_stays _ _ _ h.puts) (kept.at_step p c t up came w)
  at_step_by past kind.Check e legal kept h p c t up came w = stepped past e p c t (check_stays _ h.checks) (kept.at_step p c t up came w)
  at_step_by past kind.End e legal kept h p c t up came w = by_step (kept.at_step p c t up came w)
    where
      by_step : AtStep plan past p c t → AtStep plan (of_kind kind.End e ∷ past) p c t
      by_step (inl x) = inl x
      by_step (inr x) =
          inr (
            x.0,
            λ l. silence_stays plan playable.tree past (of_kind kind.End e) c legal h
                (left_ended plan playable.tree past legal c t l) ∙ x.1 l,
          )
  at_step_by past _ e legal kept h p c t up came w = kept.at_step p c t up came w

  -- ---- past the enter step of a use

  -- a position before the next one lies before this one, or is it
  below_next : (n m : ℕ) → n < suc m → (n < m) ⊎ (n ≡ m)
  below_next n m l = elim (cases_lt n m) [ inl x ↦ inl x | inr x ↦ inr (omega arith) ]

  passed_step : (past : List Entry) (e : Entry) (p t n k : ℕ) → Uses plan past
      → enters_nowhere (next_step plan past e.place e.by) ≡ true → has_handled past p t ≡ false
      → n < cond ((e.place == p) && (e.by == t)) (suc (position plan past p t)) (position plan past p t)
      → slice_get (body_of plan p t).steps n ≡ Some (step.Enter k) → LeftAloud plan past p t k
  passed_step past e p t n k kept stays w below entered = elim (cases_Bool ((e.place == p) && (e.by == t))) [
    | inl x ↦ elim (below_next n (position plan past p t) (rw x at below)) [
      | inl l ↦ kept.passed p t n k w l entered
      | inr l ↦
          let same = both_same e.place p e.by t x in
          let next : next_step plan past e.place e.by ≡ Some (step.Enter k) =
          subst₂ (λ a b. next_step plan past a b ≡ Some (step.Enter k)) (sym same.0) (sym same.1)
          (body_step plan past p t w ∙ ap (slice_get (body_of plan p t).steps) (sym l) ∙ entered) in
          absurd (false≢true (subst (λ s. enters_nowhere s ≡ true) next stays))
    ]
    | inr x ↦ kept.passed p t n k w (rw x at below) entered
  ]

  passed_leaves : (past : List Entry) (e : Entry) (p t n k : ℕ) → LegalPast plan past → Uses plan past
      → inside plan past e.by ≡ Some e.place → has_handled past p t ≡ false
      → n < cond (advances plan past p e kind.Leave && (e.by == t)) (suc (position plan past p t))
      (position plan past p t) → slice_get (body_of plan p t).steps n ≡ Some (step.Enter k)
      → LeftAloud plan (of_kind kind.Leave e ∷ past) p t k
  passed_leaves past e p t n k legal kept here w below entered = elim (cases_Bool (advances plan past p e kind.Leave && (e.by == t))) [
    | inl x ↦ elim (below_next n (position plan past p t) (rw x at below)) [
      | inl l ↦ older (kept.passed p t n k w l entered)
      | inr l ↦ newest_left l x
    ]
    | inr x ↦ older (kept.passed p t n k w (rw x at below) entered)
  ]
    where
      older : LeftAloud plan past p t k → LeftAloud plan (of_kind kind.Leave e ∷ past) p t k
      older (c, m, l, s) = (c, m, or_right _ _ l, s)

      newest_left : n ≡ position plan past p t → (advances plan past p e kind.Leave && (e.by == t)) ≡ true
          → LeftAloud plan (of_kind kind.Leave e ∷ past) p t k
      newest_left l x =
          let parts = and_parts (advances plan past p e kind.Leave) (e.by == t) x in
          let aloud = steps_out plan past e p parts.0 in
          let out = aloud.0 in
          let there : inside plan past t ≡ Some e.place = subst (λ a. inside plan past a ≡ Some e.place) (eqb-true e.by t parts.1) here in (
            e.place,
            subst (λ a. member e.place (alternates_of plan p a) ≡ true)
                (its_use there (kept.at_step p e.place t out
                (inside_arrived plan playable.tree past legal e.place t there) w)) (playable.back p e.place out),
            or_left _ _ (from_both e.place e.place e.by t refl (eqb-true e.by t parts.1)),
            aloud.1,
          )
        where
          its_use : inside plan past t ≡ Some e.place → AtStep plan past p e.place t → nest_number plan e.place ≡ k
          its_use there (inl y) = absurd (both_ways _ (inside_not_left plan playable.tree past legal e.place t there) y.0)
          its_use there (inr y) =
              let next : next_step plan past p t ≡ Some (step.Enter k) =
              body_step plan past p t w ∙ ap (slice_get (body_of plan p t).steps) (sym l) ∙ entered in
              cc

  passed_by : (past : List Entry) (k : Kind) (e : Entry) → LegalPast plan past → Uses plan past
      → Row k plan past (of_kind k e) → (p t n j : ℕ) → has_handled (of_kind k e ∷ past) p t ≡ false
      → n < position plan (of_kind k e ∷ past) p t → slice_get (body_of plan p t).steps n ≡ Some (step.Enter j)
      → LeftAloud plan (of_kind k e ∷ past) p t j
  passed_by past kind.Leave e legal kept h p t n j w below entered = passed_leaves past e p t n j legal kept h.here w below entered
  passed_by past kind.Handle e legal kept h p t n j w below entered =
      let parts = or_parts ((e.place == p) && (e.by == t)) (has_handled past p t) w in
      kept.passed p t n j parts.1 (rw parts.0 at below) entered
  passed_by past kind.Read e legal kept h p t n j w below entered = passed_step past e p t n j kept (rw h.reads refl) w below entered
  passed_by past kind.Work e legal kept h p t n j w below entered = passed_step past e p t n j kept (rw h.works refl) w below entered
  passed_by past kind.Write e legal kept h p t n j w below entered =
      passed_step past e p t n j kept (put_stays _ _ _ h.puts) w below entered
  passed_by past kind.Check e legal kept h p t n j w below entered =
      passed_step past e p t n j kept (check_stays _ h.checks) w below entered
  passed_by past kind.End e legal kept h p t n j w below entered = still (kept.passed p t n j w below entered)
    where
      still : LeftAloud plan past p t j → LeftAloud plan (of_kind kind.End e ∷ past) p t j
      still (c, m, l, s) = (
        c,
        m,
        l,
        silence_stays plan playable.tree past (of_kind kind.End e) c legal h
            (left_ended plan playable.tree past legal c t l) ∙ s,
      )
  passed_by past _ e legal kept h p t n j w below entered = kept.passed p t n j w below entered

  pub uses_kept : Holds Uses plan
  uses_kept [] h = record {
    at_step = λ p c t up came w. absurd (false≢true came);
    turn = λ p c d t up_c up_d same_use below came. absurd (false≢true came);
    passed = λ p t n k w below entered. absurd (omega arith);
  }
  uses_kept (e ∷ past) h =
      let kept = uses_kept past h.0 in
      record {
        at_step = at_step_by past e.kind e h.0 kept h.1;
        turn = turn_by past e.kind e h.0 kept h.1;
        passed = passed_by past e.kind e h.0 kept h.1;
      }
