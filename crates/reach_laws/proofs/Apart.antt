-- Of two sources that exclude each other only one has raised something in a place that isn't resolved, and that nothing round it dooms.
use Rattle.std.proofs.Common.{◌≡◌, ℕ, ◌==◌, ◌<◌, ◌⊎◌, true, false, ◌≤◌, ◌&&◌, List, [], ◌∷◌, Some, None, length, slice_index_or, slice_get, suc, sym, ap, ◌∙◌, subst, subst₂, arith, inl, inr}
use Rattle.std.proofs.lemmas.Bool.{or_cases, or_left, or_right, eq-eqb, false≢true, cases_order, both_ways, false_from_ne_true, and_from}
use Rattle.caa_base.specs.declared.written.entry.Entry.{Entry}
use Rattle.caa_base.specs.declared.written.entry.Kind.{Kind}
use Rattle.caa_base.specs.declared.written.entry.Kind.TheVariants as kind
use Rattle.caa_base.specs.Written.Lists.{member, index_of}
use Rattle.place_plan.specs.declared.drafts.draft_rows.ActionRow.{ActionRow}
use Rattle.place_plan.specs.declared.drafts.draft_rows.Step.TheVariants as step
use Rattle.place_plan.specs.Plans.PlanValue.{Plan}
use Rattle.place_plan.specs.Plans.Places.{parent, action_at, roles_of, role_row, body_of, alternates_of, nest_number, no_role}
use Rattle.place_plan.specs.RulesOfJournals.Entries.{is_by, has, has_by}
use Rattle.place_plan.specs.RulesOfJournals.Whereabouts.{has_started, is_left_in_silence}
use Rattle.place_plan.specs.RulesOfJournals.Raising.{has_handled, is_doomed, exception_resolved}
use Rattle.place_plan.specs.RulesOfJournals.Roles.{position}
use Rattle.place_plan.specs.RulesOfJournals.Rules.{MayFollow, is_deaf, exception_carried}
use Rattle.place_plan.specs.RulesOfJournals.Journals.{LegalPast}
use Rattle.journal_laws.specs.Laws.{Holds}
use Rattle.journal_laws.proofs.Playable.{IsPlayable}
use Rattle.journal_laws.proofs.Core.{Core}
use Rattle.place_plan.proofs.OnJournals.EntryKinds.{of_kind, both_same}
use Rattle.place_plan.proofs.OnPlans.Casts.{member_at}
use Rattle.place_plan.proofs.OnPlans.Passing.{past_end, below_or_not}
use Rattle.journal_laws.proofs.Arrivals.{left_ended, one_has}
use Rattle.journal_laws.proofs.Busy.{doom_stays}
use Rattle.journal_laws.proofs.EnterSteps.{player_at}
use Rattle.journal_laws.proofs.Holding.{ended_started}
use Rattle.journal_laws.proofs.Options.{some_same}
use Rattle.journal_laws.proofs.Silence.{silence_stays}
use Rattle.journal_laws.proofs.Uses.{AtStep, body_step}
use Rattle.reach_laws.specs.ReachedSteps.{reached, can_raise, is_enter}
use Rattle.reach_laws.specs.CanCome.{action_of, step_in, Source, step_of_role, nested_use, given_up_use, stands_at, IsBefore, in_body, through, is_right_behind, is_given_up, Excludes, itself, or_given_up, earlier, CanBeRaised, by_step, by_itself}
use Rattle.reach_laws.specs.Reach.{action_number}
use Rattle.reach_laws.proofs.StepsReached.{reached_there, enter_is, raises_one}
use Rattle.reach_laws.proofs.CameOut.{has_carried, CameOut, use_up, one_enter, one_aloud, in_order}
use Rattle.reach_laws.proofs.Standing.{alike, IsHaltedAt, IsLeftWith, carried_by, Stands, carried_on, nobody_handles}
use Rattle.reach_laws.proofs.Planned.{IsPlanned}
use Rattle.reach_laws.proofs.RoleRows.{index_at, row_played}

-- one step raises one exception
one_raise : (plan : Plan) (a r i y z : ℕ) → CanBeRaised plan a (step_of_role r i) y → CanBeRaised plan a (step_of_role r i) z → y ≡ z
one_raise plan a r i y z (by_itself _ _ _ (by_step _ _ _ _ s here raises)) (by_itself _ _ _ (by_step _ _ _ _ u there also)) =
    raises_one (action_of plan a).fault y z s raises
    (subst (λ v. can_raise (action_of plan a).fault z v ≡ true) (some_same (sym there ∙ here)) also)

module _ (plan : Plan) (playable : IsPlayable plan) (core : Holds Core plan) (planned : IsPlanned plan) where
  -- ---- what has to be carried out

  -- where the End of c means y for t in the place round it, which isn't doomed, t carries it there as it leaves
  must_carry : (past : List Entry) → LegalPast plan past → (p c t y : ℕ) → parent plan c ≡ Some p → is_doomed plan past p ≡ false
      → has_by kind.Leave past c t ≡ true → is_left_in_silence plan past c ≡ false → carried_by plan playable core past c t ≡ Some y
      → has_carried past c t ≡ true
  must_carry [] legal p c t y up spared left aloud mapped = absurd (false≢true left)
  must_carry (e ∷ past) legal p c t y up spared left aloud mapped =
      elim (or_cases (is_by kind.Leave c t e) (has_by kind.Leave past c t) left) [
        | inl x ↦ by_kind e.kind e legal.1 x aloud mapped
        | inr x ↦
            let ended = left_ended plan playable.tree past legal.0 c t x in
            or_right _ _ (must_carry past legal.0 p c t y up spared_before x
            (sym (silence_stays plan playable.tree past e c legal.0 legal.1 ended) ∙ aloud)
            (sym (carried_on plan playable core past e.kind e c t legal.0 legal.1 ended) ∙ mapped))
      ]
    where
      spared_before : is_doomed plan past p ≡ false
      spared_before = false_from_ne_true _ (λ doom. both_ways _ spared (doom_stays plan p e past doom))

      by_kind : (k : Kind) (f : Entry) → MayFollow plan past (of_kind k f) → is_by kind.Leave c t (of_kind k f) ≡ true
          → is_left_in_silence plan (of_kind k f ∷ past) c ≡ false → carried_by plan playable core (of_kind k f ∷ past) c t ≡ Some y
          → has_carried (of_kind k f ∷ past) c t ≡ true
      by_kind kind.Leave f h x aloud mapped =
          let same = both_same f.place c f.by t x in
          let deaf : is_deaf plan past (parent plan f.place) ≡ false =
          subst (λ o. is_deaf plan past o ≡ false) (sym (ap (parent plan) same.0 ∙ up)) spared_before in
          let loud : is_left_in_silence plan past f.place ≡ false =
          subst (λ a. is_left_in_silence plan past a ≡ false) (sym same.0) aloud in
          let carried : exception_carried plan past f.place f.by ≡ Some y =
          rw (deaf, loud) (subst₂ (λ a b. carried_by plan playable core past a b ≡ Some y) (sym same.0) (sym same.1) mapped) in
          or_left _ _ (and_from ((f.place == c) && (f.by == t)) (f.mark == 1) x
          (eq-eqb f.mark 1 (rw carried at h.carries).0))
      by_kind _ f h x aloud mapped = absurd (false≢true x)

  module _ (past : List Entry) (legal : LegalPast plan past) (p some : ℕ) (one : member some (roles_of plan p) ≡ true)
      (open_yet : exception_resolved past p ≡ None) where
    abbrev act : ActionRow
    act = action_of plan (action_number plan p)

    same_act : action_at plan p ≡ act
    same_act = planned.actions p some one

    unhandled : (t : ℕ) → has_handled past p t ≡ false
    unhandled t = nobody_handles plan playable core past legal p t open_yet

    -- ---- who plays a role

    same_player : (t u : ℕ) → member t (roles_of plan p) ≡ true → member u (roles_of plan p) ≡ true
        → index_of t (roles_of plan p) ≡ index_of u (roles_of plan p) → t ≡ u
    same_player t u m n same =
        sym (player_at (roles_of plan p) t m) ∙ ap (λ i. slice_index_or (roles_of plan p) i 0) same ∙ player_at (roles_of plan p) u n

    -- t plays the role r, and the step i of its body enters the use k
    record Enters (r i k t : ℕ) : Type 0 where
      pub role : member t (roles_of plan p) ≡ true
      pub number : index_of t (roles_of plan p) ≡ r
      pub there : slice_get (body_of plan p t).steps i ≡ Some (step.Enter k)

    enters_at : (r i k : ℕ) → is_enter k (step_in act r i) ≡ true → (t : ℕ) × Enters r i k t
    enters_at r i k h = elim (below_or_not r (length (roles_of plan p))) [
      | inl below ↦
          let t = slice_index_or (roles_of plan p) r 0 in
          let found = enter_is k (step_in act r i) h in
          let row : role_row plan p t ≡ slice_index_or act.roles r no_role =
          row_played plan planned p r below ∙ ap (λ (a : ActionRow). slice_index_or a.roles r no_role) same_act in (
            t,
            record {
              role = member_at (roles_of plan p) r 0 below;
              number = index_at plan planned p r below;
              there =
                  subst (λ row. slice_get row.body.steps i ≡ Some (step.Enter k)) (sym row)
                  (reached_there (slice_index_or act.roles r no_role).body.steps i (step.Enter k) found);
            },
          )
      | inr above ↦
          let beyond : length act.roles ≤ r =
          subst (λ (a : ActionRow). length a.roles ≤ r) same_act (let many = planned.many p in omega arith) in
          absurd (false≢true (subst (λ row. is_enter k (slice_get (reached row.body.steps) i) ≡ true)
          (past_end act.roles r no_role beyond) h))
    ]

    -- ---- what is over

    -- t has left a place of the use k aloud, with nothing to carry
    pub record WentOut (k t : ℕ) : Type 0 where
      pub place : ℕ
      pub of_use : member place (alternates_of plan p k) ≡ true
      pub left : has_by kind.Leave past place t ≡ true
      pub aloud : is_left_in_silence plan past place ≡ false
      pub empty : has_carried past place t ≡ false

    -- somebody has come out of the use so, and before something was raised, or now stands right behind it
    abbrev pub OverUse : ℕ → Source → Type 0
    OverUse k t =
        ((u : ℕ) × CameOut plan playable core past p u k)
        ⊎ ((is_right_behind act (given_up_use k) t ≡ true) × ((u : ℕ) × WentOut k u))

    -- the source s is over, where somebody has come to t, which it is before
    abbrev pub Over : Source → Source → Type 0
    Over (step_of_role r i) t =
        (u : ℕ) × (member u (roles_of plan p) ≡ true) × (index_of u (roles_of plan p) ≡ r) × (i < position plan past p u)
    Over (nested_use k) t = OverUse k t
    Over (given_up_use k) t = OverUse k t

    -- a place of the use k has started
    pub record HasBegun (k c : ℕ) : Type 0 where
      pub up : parent plan c ≡ Some p
      pub number : nest_number plan c ≡ k
      pub started : has_started past c ≡ true

    -- somebody was halted at the step, or a place of the use has started
    abbrev pub IsCome : Source → Type 0
    IsCome (step_of_role r i) = (t : ℕ) × IsHaltedAt plan playable core past p r i t
    IsCome (nested_use k) = (c : ℕ) × HasBegun k c
    IsCome (given_up_use k) = (c : ℕ) × HasBegun k c

    -- ---- before a step at which somebody was halted

    use_over_step : (k r i q j t : ℕ) → i < j → is_enter k (step_in act r i) ≡ true → r ≡ q
        → IsHaltedAt plan playable core past p q j t → OverUse k (step_of_role q j)
    use_over_step k r i q j t below enters same at =
        let found = enters_at r i k enters in
        let mine : found.0 ≡ t = same_player found.0 t found.1.role at.role (found.1.number ∙ same ∙ sym at.number) in
        let there : slice_get (body_of plan p t).steps i ≡ Some (step.Enter k) =
        subst (λ u. slice_get (body_of plan p u).steps i ≡ Some (step.Enter k)) mine found.1.there in
        elim (cases_order (suc i) j) [
          | inl next ↦
              let out = (core past legal).visits.passed p t i k (unhandled t) (let here = at.there in omega arith) there in
              inr (
                subst₂ (λ a b. is_right_behind act (given_up_use k) (step_of_role a b) ≡ true) same next enters,
                (
                  t,
                  record {
                    place = out.0;
                    of_use = out.1;
                    left = out.2;
                    aloud = out.3;
                    empty = at.empty out.0 (use_up plan playable core p k out.0 out.1);
                  },
                ),
              )
          | inr (inl further) ↦
              inl (t, (in_order plan playable core past legal).passed p t i k (unhandled t) (let here = at.there in omega arith) there)
          | inr (inr above) ↦ absurd (omega arith)
        ]

    over_step : (s : Source) (r i q j t : ℕ) → i < j → stands_at act r i s ≡ true → r ≡ q
        → IsHaltedAt plan playable core past p q j t → Over s (step_of_role q j)
    over_step (step_of_role l m) r i q j t below at_i same at =
        let place = both_same l r m i at_i in
        (t, at.role, at.number ∙ sym same ∙ sym place.0, (let here = at.there in let index = place.1 in omega arith))
    over_step (nested_use k) r i q j t below at_i same at = use_over_step k r i q j t below at_i same at
    over_step (given_up_use k) r i q j t below at_i same at = use_over_step k r i q j t below at_i same at

    -- ---- before a use of which a place has started

    -- who plays the role r has come to the step j, which enters the use
    record HasCome (r j c t : ℕ) : Type 0 where
      pub role : member t (roles_of plan p) ≡ true
      pub number : index_of t (roles_of plan p) ≡ r
      pub there : slice_get (body_of plan p t).steps j ≡ Some (step.Enter (nest_number plan c))
      pub came : has_by kind.Arrive past c t ≡ true

    has_come : (r j k c : ℕ) → is_enter k (step_in act r j) ≡ true → HasBegun k c → (t : ℕ) × HasCome r j c t
    has_come r j k c enters begun =
        let found = enters_at r j k enters in
        let known : member c (alternates_of plan p k) ≡ true =
        subst (λ n. member c (alternates_of plan p n) ≡ true) begun.number (playable.back p c begun.up) in
        let plays = (playable.tree.enters p found.0 None j k found.1.there c known).1 in (
          found.0,
          record {
            role = found.1.role;
            number = found.1.number;
            there = found.1.there ∙ ap (λ n. Some (step.Enter n)) (sym begun.number);
            came = (core past legal).visits.whole c found.0 begun.started plays;
          },
        )

    -- it has passed each earlier step
    come_to : (r j c t : ℕ) → parent plan c ≡ Some p → HasCome r j c t → (i : ℕ) → i < j → i < position plan past p t
    come_to r j c t up come i below = by_step ((core past legal).visits.at_step p c t up come.came (unhandled t))
      where
        by_step : AtStep plan past p c t → i < position plan past p t
        by_step (inl (l, (n, further, entered))) =
            let same = one_enter plan playable core p t n j (nest_number plan c) entered come.there in omega arith
        by_step (inr w) =
            let here = sym (body_step plan past p t (unhandled t)) ∙ w.0 in
            let same = one_enter plan playable core p t (position plan past p t) j (nest_number plan c) here come.there in omega arith

    use_over_use : (k r i j l c : ℕ) (t : Source) → i < j → is_enter k (step_in act r i) ≡ true → is_enter l (step_in act r j) ≡ true
        → HasBegun l c → OverUse k t
    use_over_use k r i j l c t below at_i at_j begun =
        let found = enters_at r i k at_i in
        let come = has_come r j l c at_j begun in
        let mine : found.0 ≡ come.0 =
        same_player found.0 come.0 found.1.role come.1.role (found.1.number ∙ sym come.1.number) in
        inl (
          come.0,
          (in_order plan playable core past legal).arrived p c come.0 i j k begun.up come.1.came come.1.there below
              (subst (λ u. slice_get (body_of plan p u).steps i ≡ Some (step.Enter k)) mine found.1.there),
        )

    over_use : (s t : Source) (r i j l c : ℕ) → i < j → stands_at act r i s ≡ true → is_enter l (step_in act r j) ≡ true
        → HasBegun l c → Over s t
    over_use (step_of_role q m) t r i j l c below at_i at_j begun =
        let place = both_same q r m i at_i in
        let come = has_come r j l c at_j begun in (
          come.0,
          come.1.role,
          come.1.number ∙ sym place.0,
          come_to r j c come.0 begun.up come.1 m (let index = place.1 in omega arith),
        )
    over_use (nested_use k) t r i j l c below at_i at_j begun = use_over_use k r i j l c t below at_i at_j begun
    over_use (given_up_use k) t r i j l c below at_i at_j begun = use_over_use k r i j l c t below at_i at_j begun

    -- ---- before anything that somebody has come to

    over_in_body : (s t : Source) (r i j : ℕ) → i < j → stands_at act r i s ≡ true → stands_at act r j t ≡ true → IsCome t → Over s t
    over_in_body s (step_of_role q m) r i j below at_i at_j (t, at) =
        let place = both_same q r m j at_j in
        over_step s r i q m t (let index = place.1 in omega arith) at_i (sym place.0) at
    over_in_body s (nested_use l) r i j below at_i at_j (c, begun) = over_use s (nested_use l) r i j l c below at_i at_j begun
    over_in_body s (given_up_use l) r i j below at_i at_j (c, begun) = over_use s (given_up_use l) r i j l c below at_i at_j begun

    -- a use that somebody has come out of has begun
    out_begun : (k c t : ℕ) → member c (alternates_of plan p k) ≡ true → has_by kind.Leave past c t ≡ true → HasBegun k c
    out_begun k c t known left = record {
      up = use_up plan playable core p k c known;
      number = (playable.placed p k c known).1;
      started = ended_started plan playable.tree past legal c (left_ended plan playable.tree past legal c t left);
    }

    over_begun : (k : ℕ) (t : Source) → OverUse k t → (c : ℕ) × HasBegun k c
    over_begun k t (inl (u, out)) = (out.place, out_begun k out.place u out.of_use out.left)
    over_begun k t (inr (right, (u, out))) = (out.place, out_begun k out.place u out.of_use out.left)

    further_use : (k l : ℕ) (t : Source) → OverUse k (nested_use l) → OverUse k t
    further_use k l t (inl out) = inl out
    further_use k l t (inr (right, out)) = absurd (false≢true right)

    -- what is before a use that is before t is over before t
    further : (s t : Source) (k : ℕ) → Over s (nested_use k) → Over s t
    further (step_of_role r i) t k over = over
    further (nested_use j) t k over = further_use j k t over
    further (given_up_use j) t k over = further_use j k t over

    pub is_over : (s t : Source) → IsBefore act s t → IsCome t → Over s t
    is_over s t (in_body _ _ r i j below at_i at_j) come = over_in_body s t r i j below at_i at_j come
    is_over s t (through _ _ k first second) come =
        further s t k (is_over s (nested_use k) first (over_begun k t (is_over (nested_use k) t second come)))

    -- ---- what is over hasn't raised

    -- the place that t went out of is the one that y was carried out of
    one_out : (k y c w t : ℕ) → IsLeftWith plan playable core past p k y c w → (out : WentOut k t) → out.place ≡ c
    one_out k y c w t with_y out =
        one_aloud plan playable core past legal p out.place c (use_up plan playable core p k out.place out.of_use) with_y.up
        ((playable.placed p k out.place out.of_use).1 ∙ sym with_y.number) (one_has kind.Leave past out.place t out.left) with_y.left
        out.aloud with_y.aloud

    abbrev plain_out : (k t : ℕ) → CameOut plan playable core past p t k → WentOut k t
    plain_out k t out =
        record { place = out.place; of_use = out.of_use; left = out.left; aloud = out.aloud; empty = out.empty }

    -- so t would have carried y
    not_out : (k y c w t : ℕ) → is_doomed plan past p ≡ false → IsLeftWith plan playable core past p k y c w → WentOut k t
        → carried_by plan playable core past c t ≡ Some y → ⊥
    not_out k y c w t spared with_y out mapped =
        let same = one_out k y c w t with_y out in
        both_ways _ out.empty (must_carry past legal p out.place t y (use_up plan playable core p k out.place out.of_use) spared out.left
        out.aloud (subst (λ a. carried_by plan playable core past a t ≡ Some y) (sym same) mapped))

    pub not_over : (s t : Source) (y : ℕ) → is_doomed plan past p ≡ false → Stands plan playable core past p s y → Over s t
        → is_right_behind act s t ≡ false → ⊥
    not_over (step_of_role r i) t y spared (u, at) (w, role, number, below) far =
        let same : w ≡ u = same_player w u role at.role (number ∙ sym at.number) in
        let here : position plan past p w ≡ i = ap (position plan past p) same ∙ at.there in
        omega arith
    not_over (nested_use k) t y spared (c, w, with_y, all) (inl (u, out)) far = not_out k y c w u spared with_y (plain_out k u out) (all u)
    not_over (nested_use k) t y spared (c, w, with_y, all) (inr (right, (u, out))) far = not_out k y c w u spared with_y out (all u)
    not_over (given_up_use k) t y spared (c, w, with_y) (inl (u, out)) far =
        let same = one_out k y c w u with_y (plain_out k u out) in
        not_out k y c w u spared with_y (plain_out k u out)
        (alike plan playable core past c u w (subst (λ a. has kind.Abort past a ≡ false) same out.spared) ∙ with_y.mapped)
    not_over (given_up_use k) t y spared (c, w, with_y) (inr (right, out)) far = both_ways _ far right

    -- ---- two sources

    use_begun : (k y c w : ℕ) → IsLeftWith plan playable core past p k y c w → HasBegun k c
    use_begun k y c w with_y = record {
      up = with_y.up;
      number = with_y.number;
      started = ended_started plan playable.tree past legal c ((core past legal).visits.left c with_y.left);
    }

    pub is_come : (s : Source) (y : ℕ) → Stands plan playable core past p s y → IsCome s
    is_come (step_of_role r i) y at = at
    is_come (nested_use k) y (c, w, with_y, all) = (c, use_begun k y c w with_y)
    is_come (given_up_use k) y (c, w, with_y) = (c, use_begun k y c w with_y)

    -- what one carries out of a use that all carry y out of is y
    one_use : (k y z c d v w : ℕ) → IsLeftWith plan playable core past p k y c v → ((u : ℕ) → carried_by plan playable core past c u ≡ Some y)
        → IsLeftWith plan playable core past p k z d w → y ≡ z
    one_use k y z c d v w with_y all with_z =
        let same =
        one_aloud plan playable core past legal p d c with_z.up with_y.up (with_z.number ∙ sym with_y.number) with_z.left with_y.left
        with_z.aloud with_y.aloud in
        some_same (sym (all w) ∙ subst (λ a. carried_by plan playable core past a w ≡ Some z) same with_z.mapped)

    one_source : (s : Source) (y z : ℕ) → is_given_up s ≡ false → CanBeRaised plan (action_number plan p) s y
        → CanBeRaised plan (action_number plan p) s z → Stands plan playable core past p s y → Stands plan playable core past p s z → y ≡ z
    one_source (step_of_role r i) y z kept can also at there = one_raise plan (action_number plan p) r i y z can also
    one_source (nested_use k) y z kept can also (c, v, with_y, all) (d, w, with_z, too) = one_use k y z c d v w with_y all with_z
    one_source (given_up_use k) y z kept can also at there = absurd (false≢true (sym kept))

    use_or_given_up : (k y z : ℕ) → Stands plan playable core past p (nested_use k) y → Stands plan playable core past p (given_up_use k) z
        → y ≡ z
    use_or_given_up k y z (c, v, with_y, all) (d, w, with_z) = one_use k y z c d v w with_y all with_z

    pub apart : (s t : Source) (y z : ℕ) → is_doomed plan past p ≡ false → CanBeRaised plan (action_number plan p) s y
        → CanBeRaised plan (action_number plan p) t z → Stands plan playable core past p s y → Stands plan playable core past p t z
        → (y ≡ z → ⊥) → Excludes act s t → ⊥
    apart s t y z spared can also at there other (itself _ kept) = other (one_source s y z kept can also at there)
    apart s t y z spared can also at there other (or_given_up k) = other (use_or_given_up k y z at there)
    apart s t y z spared can also at there other (earlier _ _ before far) =
        not_over s t y spared at (is_over s t before (is_come t z there)) far
