-- Which uses a role has come out of with nothing to carry, while nothing was raised: whatever has to be over before the step or the use
-- that somebody has come to.
use Rattle.std.proofs.Common.{◌≡◌, ℕ, ◌==◌, ◌<◌, Bool, true, false, not, cond, ◌&&◌, ◌||◌, List, [], ◌∷◌, Some, None, Option, slice_get, suc, refl, sym, ap, ◌∙◌, subst, subst₂, arith, inl, inr}
use Rattle.std.specs.List.{list_any}
use Rattle.std.proofs.lemmas.Bool.{and_parts, and_from, or_cases, or_left, or_right, or_parts, eqb-true, eq-eqb, false≢true, cases_Bool, cases_order, both_ways, false_from_ne_true}
use Rattle.caa_base.specs.declared.written.entry.Entry.{Entry}
use Rattle.caa_base.specs.declared.written.entry.Kind.{Kind}
use Rattle.caa_base.specs.declared.written.entry.Kind.TheVariants as kind
use Rattle.caa_base.specs.Written.Lists.{member, first_of, is_at}
use Rattle.place_plan.specs.declared.drafts.draft_rows.Step.TheVariants as step
use Rattle.place_plan.specs.Plans.PlanValue.{Plan}
use Rattle.place_plan.specs.Plans.Places.{parent, alternates_of, nest_number, body_of}
use Rattle.place_plan.specs.RulesOfJournals.Entries.{is_by, has, has_by}
use Rattle.place_plan.specs.RulesOfJournals.Whereabouts.{inside, is_left_in_silence}
use Rattle.place_plan.specs.RulesOfJournals.Raising.{has_handled, carries_into, is_raised, is_doomed, is_calm, is_hot, is_halted}
use Rattle.place_plan.specs.RulesOfJournals.Roles.{advances, position, next_step, is_able, is_in_handler, is_handling, has_given}
use Rattle.place_plan.specs.RulesOfJournals.Rules.{Row, MayArrive}
use Rattle.place_plan.specs.RulesOfJournals.Journals.{LegalPast}
use Rattle.journal_laws.specs.Laws.{Holds}
use Rattle.journal_laws.proofs.Playable.{IsPlayable}
use Rattle.journal_laws.proofs.Core.{Core}
use Rattle.caa_base.proofs.ListLemmas.{same_at, first_not_fails}
use Rattle.place_plan.proofs.OnJournals.EntryKinds.{of_kind, both_same}
use Rattle.journal_laws.proofs.Arrivals.{around_parent, inside_arrived, inside_not_left, left_ended, left_arrived, begins_play, enters_use, next_has}
use Rattle.journal_laws.proofs.Busy.{abort_doomed}
use Rattle.journal_laws.proofs.Frozen.{no_abort}
use Rattle.journal_laws.proofs.Newest.{handling_handled}
use Rattle.journal_laws.proofs.Phases.{calm_open}
use Rattle.journal_laws.proofs.Raised.{plain_calm}
use Rattle.journal_laws.proofs.Said.{has_maker, ended_stopped}
use Rattle.journal_laws.proofs.Silence.{silence_stays}
use Rattle.journal_laws.proofs.Uses.{body_step, calm_unhandled, steps_out}
use Rattle.reach_laws.proofs.Unpassed.{at_enter}

-- t has carried an exception out of c
abbrev pub has_carried : List Entry → ℕ → ℕ → Bool
has_carried past c t = list_any (λ e. is_by kind.Leave c t e && (e.mark == 1)) past

module _ (plan : Plan) (playable : IsPlayable plan) (core : Holds Core plan) where
  -- t has left a place of the use k of p aloud, with nothing to carry, and nobody gave up there
  pub record CameOut (past : List Entry) (p t k : ℕ) : Type 0 where
    pub place : ℕ
    pub of_use : member place (alternates_of plan p k) ≡ true
    pub left : has_by kind.Leave past place t ≡ true
    pub aloud : is_left_in_silence plan past place ≡ false
    pub spared : has kind.Abort past place ≡ false
    pub empty : has_carried past place t ≡ false

  -- ---- what is carried out

  -- whoever carries something into p is halted there
  carried_halts : (past : List Entry) (p c t : ℕ) → parent plan c ≡ Some p → has_carried past c t ≡ true → is_halted plan past p t ≡ true
  carried_halts [] p c t up h = absurd (false≢true h)
  carried_halts (e ∷ past) p c t up h =
      elim (or_cases (is_by kind.Leave c t e && (e.mark == 1)) (has_carried past c t) h) [
        | inl x ↦ by_kind e.kind e x
        | inr x ↦ or_right _ _ (carried_halts past p c t up x)
      ]
    where
      by_kind : (k : Kind) (f : Entry) → (is_by kind.Leave c t (of_kind k f) && (f.mark == 1)) ≡ true
          → is_halted plan (of_kind k f ∷ past) p t ≡ true
      by_kind kind.Leave f x =
          let parts = and_parts ((f.place == c) && (f.by == t)) (f.mark == 1) x in
          let same = both_same f.place c f.by t parts.0 in
          or_left _ _ (and_from (carries_into plan p f) (f.by == t)
          (and_from (is_at (parent plan f.place) p) (f.mark == 1)
          (same_at (parent plan f.place) p (ap (parent plan) same.0 ∙ up)) parts.1) (eq-eqb f.by t same.1))
      by_kind _ f x = absurd (false≢true x)

  -- so who isn't halted has carried nothing
  pub running_empty : (past : List Entry) (p c t : ℕ) → parent plan c ≡ Some p → is_halted plan past p t ≡ false
      → has_carried past c t ≡ false
  running_empty past p c t up running = false_from_ne_true _ (λ h. both_ways _ running (carried_halts past p c t up h))

  -- who isn't in a place doesn't carry anything out of it now
  pub carried_stays : (past : List Entry) (k : Kind) (e : Entry) (c t : ℕ) → Row k plan past (of_kind k e)
      → (inside plan past t ≡ Some c → ⊥) → has_carried past c t ≡ false → has_carried (of_kind k e ∷ past) c t ≡ false
  carried_stays past kind.Leave e c t h away none = elim (cases_Bool ((e.place == c) && (e.by == t))) [
    | inl x ↦
        let same = both_same e.place c e.by t x in
        absurd (away (subst₂ (λ a b. inside plan past b ≡ Some a) same.0 same.1 h.here))
    | inr x ↦ rw x none
  ]
  carried_stays past _ e c t h away none = none

  -- ---- what is so stays so

  stays_by : (past : List Entry) (k : Kind) (e : Entry) (p t u : ℕ) → LegalPast plan past → Row k plan past (of_kind k e)
      → CameOut past p t u → CameOut (of_kind k e ∷ past) p t u
  stays_by past k e p t u legal h was =
      let ended = left_ended plan playable.tree past legal was.place t was.left in
      record {
        place = was.place;
        of_use = was.of_use;
        left = or_right _ _ was.left;
        aloud = silence_stays plan playable.tree past (of_kind k e) was.place legal h ended ∙ was.aloud;
        spared =
            no_abort plan playable.tree past legal (of_kind k e) was.place (ended_stopped plan playable.tree past was.place ended) h
            ∙ was.spared;
        empty =
            carried_stays past k e was.place t h
            (λ here. both_ways _ (inside_not_left plan playable.tree past legal was.place t here) was.left) was.empty;
      }

  -- the place of a use is right inside
  pub use_up : (p k c : ℕ) → member c (alternates_of plan p k) ≡ true → parent plan c ≡ Some p
  use_up p k c m = ap first_of (playable.placed p k c m).0

  -- in a calm place, whoever has passed the step that enters a use has come out of it so
  calm_came_out : (past : List Entry) → LegalPast plan past → (p t i k : ℕ) → is_calm plan past p ≡ true → i < position plan past p t
      → slice_get (body_of plan p t).steps i ≡ Some (step.Enter k) → CameOut past p t k
  calm_came_out past legal p t i k calm below entered =
      let still = calm_open plan past p calm in
      let found = (core past legal).visits.passed p t i k (calm_unhandled plan playable past legal p t calm) below entered in
      let up = use_up p k found.0 found.1 in
      record {
        place = found.0;
        of_use = found.1;
        left = found.2;
        aloud = found.3;
        spared = false_from_ne_true _ (λ gave.
            let some = has_maker kind.Abort found.0 past gave in
            let round : is_raised plan past p || is_doomed plan past p ≡ true =
            subst (λ qs. list_any (λ q. is_raised plan past q) qs ≡ true) (around_parent plan playable.tree p found.0 up)
            (abort_doomed plan playable.tree past legal found.0 some.0 some.1) in
            elim (or_cases (is_raised plan past p) (is_doomed plan past p) round) [
              | inl x ↦ both_ways _ still.1 x
              | inr x ↦ both_ways _ still.0.spared x
            ]);
        empty = running_empty past p found.0 t up (plain_calm plan past p t (core past legal).raises still.1).0;
      }

  -- ---- what has to be over

  -- two enter steps of one use are one step
  pub one_enter : (p t n m k : ℕ) → slice_get (body_of plan p t).steps n ≡ Some (step.Enter k)
      → slice_get (body_of plan p t).steps m ≡ Some (step.Enter k) → n ≡ m
  one_enter p t n m k at_n at_m = elim (cases_order n m) [
    | inl same ↦ same
    | inr (inl below) ↦ absurd (let less = playable.in_order p t n m k k below at_n at_m in omega arith)
    | inr (inr above) ↦ absurd (let less = playable.in_order p t m n k k above at_m at_n in omega arith)
  ]

  pub record IsInOrder (past : List Entry) : Type 0 where
    -- who has arrived in a place of a use has come out of each use that it entered before
    pub arrived : (p c t i n k : ℕ) → parent plan c ≡ Some p → has_by kind.Arrive past c t ≡ true
        → slice_get (body_of plan p t).steps n ≡ Some (step.Enter (nest_number plan c)) → i < n
        → slice_get (body_of plan p t).steps i ≡ Some (step.Enter k) → CameOut past p t k
    -- who has passed a step behind the one that enters a use has come out of it
    pub passed : (p t i k : ℕ) → has_handled past p t ≡ false → suc i < position plan past p t
        → slice_get (body_of plan p t).steps i ≡ Some (step.Enter k) → CameOut past p t k

  -- who is able in a place, and has begun no handler, finds it calm
  pub able_calm : (past : List Entry) (p t : ℕ) → is_able plan past p t ≡ true → has_handled past p t ≡ false → is_calm plan past p ≡ true
  able_calm past p t able unhandled =
      elim (or_cases (is_calm plan past p && not (has_given plan past p t)) (is_hot plan past p && is_in_handler past p t) able) [
        | inl x ↦ (and_parts (is_calm plan past p) _ x).0
        | inr x ↦
            let inside_handler = and_parts (is_handling past p t) _ (and_parts (is_hot plan past p) (is_in_handler past p t) x).1 in
            absurd (both_ways _ unhandled (handling_handled p t past inside_handler.0))
      ]

  arrives : (past : List Entry) (e : Entry) → LegalPast plan past → MayArrive plan past e → (p i n k : ℕ) → parent plan e.place ≡ Some p
      → slice_get (body_of plan p e.by).steps n ≡ Some (step.Enter (nest_number plan e.place)) → i < n
      → slice_get (body_of plan p e.by).steps i ≡ Some (step.Enter k) → CameOut past p e.by k
  arrives past e legal h p i n k up at_n below at_i = by_place (inside plan past e.by) refl
    where
      by_place : (o : Option ℕ) → inside plan past e.by ≡ o → CameOut past p e.by k
      by_place None w =
          let next = begins_play plan past e h w in
          let top = playable.tree.tops e.place (next_has plan past e.by e.place next).0 in
          let round = around_parent plan playable.tree p e.place up in
          absurd cc
      by_place (Some q) w =
          let enters = enters_use plan past e q h w in
          let fits =
          playable.placed q enters.0 e.place
          (first_not_fails (λ a. has_by kind.Arrive past a e.by) (alternates_of plan q enters.0) e.place enters.1.first).1 in
          let round = around_parent plan playable.tree p e.place up in
          let same : q ≡ p = cc in
          let calm : is_calm plan past p ≡ true = subst (λ a. is_calm plan past a ≡ true) same enters.1.calm in
          let next : next_step plan past p e.by ≡ Some (step.Enter (nest_number plan e.place)) =
          subst₂ (λ a b. next_step plan past a e.by ≡ Some (step.Enter b)) same (sym fits.1) enters.1.next in
          let here = sym (body_step plan past p e.by (calm_unhandled plan playable past legal p e.by calm)) ∙ next in
          let now = one_enter p e.by n (position plan past p e.by) (nest_number plan e.place) at_n here in
          calm_came_out past legal p e.by i k calm (omega (arith, now, below)) at_i

  arrived_by : (past : List Entry) (k : Kind) (e : Entry) → LegalPast plan past → IsInOrder past → Row k plan past (of_kind k e)
      → (p c t i n u : ℕ) → parent plan c ≡ Some p → has_by kind.Arrive (of_kind k e ∷ past) c t ≡ true
      → slice_get (body_of plan p t).steps n ≡ Some (step.Enter (nest_number plan c)) → i < n
      → slice_get (body_of plan p t).steps i ≡ Some (step.Enter u) → CameOut past p t u
  arrived_by past kind.Arrive e legal was h p c t i n u up came at_n below at_i =
      elim (or_cases ((e.place == c) && (e.by == t)) (has_by kind.Arrive past c t) came) [
        | inl x ↦
            let same = both_same e.place c e.by t x in
            subst (λ a. CameOut past p a u) same.1
            (arrives past (of_kind kind.Arrive e) legal h p i n u (subst (λ a. parent plan a ≡ Some p) (sym same.0) up)
            (subst₂ (λ a b. slice_get (body_of plan p b).steps n ≡ Some (step.Enter (nest_number plan a))) (sym same.0) (sym same.1) at_n)
            below (subst (λ b. slice_get (body_of plan p b).steps i ≡ Some (step.Enter u)) (sym same.1) at_i))
        | inr x ↦ was.arrived p c t i n u up x at_n below at_i
      ]
  arrived_by past _ e legal was h p c t i n u up came at_n below at_i = was.arrived p c t i n u up came at_n below at_i

  -- past a step in the place itself
  stepped : (past : List Entry) (e : Entry) → LegalPast plan past → IsInOrder past → is_able plan past e.place e.by ≡ true
      → (p t i u : ℕ) → has_handled past p t ≡ false
      → suc i < cond ((e.place == p) && (e.by == t)) (suc (position plan past p t)) (position plan past p t)
      → slice_get (body_of plan p t).steps i ≡ Some (step.Enter u) → CameOut past p t u
  stepped past e legal was able p t i u unhandled below at_i = elim (cases_Bool ((e.place == p) && (e.by == t))) [
    | inl x ↦
        let same = both_same e.place p e.by t x in
        let mine : is_able plan past p t ≡ true = subst₂ (λ a b. is_able plan past a b ≡ true) same.0 same.1 able in
        let less : suc i < suc (position plan past p t) = rw x at below in
        calm_came_out past legal p t i u (able_calm past p t mine unhandled) (omega (arith, less)) at_i
    | inr x ↦ was.passed p t i u unhandled (rw x at below) at_i
  ]

  -- past a use
  came_back : (past : List Entry) (e : Entry) → LegalPast plan past → IsInOrder past → inside plan past e.by ≡ Some e.place
      → (p t i u : ℕ) → has_handled past p t ≡ false
      → suc i < cond (advances plan past p e kind.Leave && (e.by == t)) (suc (position plan past p t)) (position plan past p t)
      → slice_get (body_of plan p t).steps i ≡ Some (step.Enter u) → CameOut past p t u
  came_back past e legal was here p t i u unhandled below at_i = elim (cases_Bool (advances plan past p e kind.Leave && (e.by == t))) [
    | inl x ↦
        let parts = and_parts (advances plan past p e kind.Leave) (e.by == t) x in
        let up = (steps_out plan past e p parts.0).0 in
        let there : inside plan past t ≡ Some e.place = subst (λ a. inside plan past a ≡ Some e.place) (eqb-true e.by t parts.1) here in
        let next =
        sym (body_step plan past p t unhandled) ∙ at_enter plan playable core past e.place p t legal there up in
        let less : suc i < suc (position plan past p t) = rw x at below in
        was.arrived p e.place t i (position plan past p t) u up (inside_arrived plan playable.tree past legal e.place t there) next
        (omega (arith, less)) at_i
    | inr x ↦ was.passed p t i u unhandled (rw x at below) at_i
  ]

  passed_by : (past : List Entry) (k : Kind) (e : Entry) → LegalPast plan past → IsInOrder past → Row k plan past (of_kind k e)
      → (p t i u : ℕ) → has_handled (of_kind k e ∷ past) p t ≡ false → suc i < position plan (of_kind k e ∷ past) p t
      → slice_get (body_of plan p t).steps i ≡ Some (step.Enter u) → CameOut past p t u
  passed_by past kind.Read e legal was h p t i u w below at_i = stepped past e legal was h.can p t i u w below at_i
  passed_by past kind.Work e legal was h p t i u w below at_i = stepped past e legal was h.can p t i u w below at_i
  passed_by past kind.Write e legal was h p t i u w below at_i = stepped past e legal was h.can p t i u w below at_i
  passed_by past kind.Check e legal was h p t i u w below at_i = stepped past e legal was h.can p t i u w below at_i
  passed_by past kind.Leave e legal was h p t i u w below at_i = came_back past e legal was h.here p t i u w below at_i
  passed_by past kind.Handle e legal was h p t i u w below at_i =
      let parts = or_parts ((e.place == p) && (e.by == t)) (has_handled past p t) w in
      was.passed p t i u parts.1 (rw parts.0 at below) at_i
  passed_by past _ e legal was h p t i u w below at_i = was.passed p t i u w below at_i

  pub in_order : (past : List Entry) → LegalPast plan past → IsInOrder past
  in_order [] legal = record {
    arrived = λ p c t i n k up came at_n below at_i. absurd (false≢true came);
    passed = λ p t i k w below at_i. absurd (omega arith);
  }
  in_order (e ∷ past) legal =
      let was = in_order past legal.0 in
      record {
        arrived = λ p c t i n k up came at_n below at_i. stays_by past e.kind e p t k legal.0 legal.1
            (arrived_by past e.kind e legal.0 was legal.1 p c t i n k up came at_n below at_i);
        passed = λ p t i k w below at_i. stays_by past e.kind e p t k legal.0 legal.1
            (passed_by past e.kind e legal.0 was legal.1 p t i k w below at_i);
      }

  -- ---- one place of a use

  -- of a use one place at most is left aloud
  pub one_aloud : (past : List Entry) → LegalPast plan past → (p c d : ℕ) → parent plan c ≡ Some p → parent plan d ≡ Some p
      → nest_number plan c ≡ nest_number plan d → has kind.Leave past c ≡ true → has kind.Leave past d ≡ true
      → is_left_in_silence plan past c ≡ false → is_left_in_silence plan past d ≡ false → c ≡ d
  one_aloud past legal p c d up_c up_d same_use left_c left_d aloud_c aloud_d = elim (cases_order c d) [
    | inl same ↦ same
    | inr (inl below) ↦
        let some = has_maker kind.Leave d past left_d in
        absurd (both_ways _ aloud_c ((core past legal).visits.turn p c d some.0 up_c up_d same_use below
        (left_arrived plan playable.tree past legal d some.0 some.1)).1)
    | inr (inr above) ↦
        let some = has_maker kind.Leave c past left_c in
        absurd (both_ways _ aloud_d ((core past legal).visits.turn p d c some.0 up_d up_c (sym same_use) above
        (left_arrived plan playable.tree past legal c some.0 some.1)).1)
  ]
