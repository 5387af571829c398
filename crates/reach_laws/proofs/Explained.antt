-- Whatever comes in a place can come there: by induction over the past, what is raised can be raised, first of all by a source that
-- needs no other; places end as their actions can; and where roles give up, something else can be raised round their place.
use Rattle.std.proofs.Common.{◌≡◌, ℕ, ◌==◌, Bool, true, false, not, cond, ◌&&◌, ◌||◌, List, [], ◌∷◌, ◌++◌, Some, None, Option, refl, sym, ap, ◌∙◌, subst, inl, inr}
use Rattle.std.specs.List.{list_any}
use Rattle.cover_table.specs.Cover.{IsLeastCover}
use Rattle.std.proofs.lemmas.Bool.{and_parts, or_cases, or_left, eqb-true, eq-eqb, false≢true, not-true, cases_Bool, cases_order, both_ways, false_from_ne_true}
use Rattle.caa_base.specs.declared.written.entry.Entry.{Entry}
use Rattle.caa_base.specs.declared.written.entry.Kind.{Kind}
use Rattle.caa_base.specs.declared.written.entry.Kind.TheVariants as kind
use Rattle.caa_base.specs.declared.written.entry.Outcome.TheVariants as outcome
use Rattle.place_plan.specs.declared.drafts.draft_rows.ActionRow.{ActionRow}
use Rattle.place_plan.specs.declared.drafts.draft_rows.Program.{Program}
use Rattle.place_plan.specs.declared.drafts.draft_rows.Step.{Step}
use Rattle.place_plan.specs.Plans.PlanValue.{Plan}
use Rattle.caa_base.specs.Written.Lists.{member, index_of, is_empty, is_at, first_of}
use Rattle.place_plan.specs.Plans.Places.{parent, roles_of, body_of, fault_of, graph_at, alternates_of, nest_number, next_in, next_alternate}
use Rattle.place_plan.specs.RulesOfJournals.Entries.{is_in, is_by, has, has_by, newest}
use Rattle.place_plan.specs.RulesOfJournals.Whereabouts.{inside, outcome_at, has_started, has_ended, is_left_in_silence}
use Rattle.place_plan.specs.RulesOfJournals.Raising.{has_handled, carries_into, raises_in, exceptions_raised, is_raised, is_doomed, is_halted, exception_resolved}
use Rattle.place_plan.specs.RulesOfJournals.Roles.{position, register, program_in, program_of, next_step}
use Rattle.place_plan.specs.RulesOfJournals.Rules.{Row, MayRaise, MayPut, MayLeave, MayAbort, MayResolve, MayFollow, is_deaf, exception_carried}
use Rattle.place_plan.specs.RulesOfJournals.Journals.{LegalPast}
use Rattle.journal_laws.specs.Laws.{Holds}
use Rattle.journal_laws.proofs.Playable.{IsPlayable}
use Rattle.journal_laws.proofs.Core.{Core}
use Rattle.caa_base.proofs.ListLemmas.{all_at, at_same, chosen}
use Rattle.place_plan.proofs.OnJournals.EntryKinds.{of_kind}
use Rattle.journal_laws.proofs.Arrivals.{around_parent, inside_arrived, left_arrived, left_ended, one_has}
use Rattle.journal_laws.proofs.Busy.{doom_stays, abort_doomed}
use Rattle.journal_laws.proofs.Frozen.{carrying_parts}
use Rattle.journal_laws.proofs.Holding.{ended_started}
use Rattle.journal_laws.proofs.Makers.{maker_role}
use Rattle.journal_laws.proofs.Newest.{stands_newest, newest_none}
use Rattle.journal_laws.proofs.Options.{some_apart, some_same}
use Rattle.journal_laws.proofs.Phases.{IsGoing, going_parts, hot_open}
use Rattle.journal_laws.proofs.Raised.{role_inside, busy_inside, parent_round}
use Rattle.journal_laws.proofs.Said.{has_maker}
use Rattle.journal_laws.proofs.Uses.{body_step}
use Rattle.reach_laws.specs.ReachedSteps.{can_raise}
use Rattle.reach_laws.specs.CanCome.{action_of, step_in, Source, step_of_role, nested_use, given_up_use, is_given_up, Excludes, itself, or_given_up, earlier, CanRaise, CanBeRaised, CanBeResolved, CanEnd, CanBeTried, by_step, by_use, by_itself, least_of}
use Rattle.reach_laws.specs.Reach.{action_number, RaisesNoOther, ResolvesNoOther, EndsNotOtherwise, TriesNoOther}
use Rattle.reach_laws.proofs.ListsAlone.{stands_at, after_is, member_either, only_here, some_long}
use Rattle.reach_laws.proofs.StepsReached.{NoRaise, there_reached, put_step, raise_step}
use Rattle.reach_laws.proofs.Unpassed.{unpassed}
use Rattle.reach_laws.proofs.Planned.{IsPlanned}
use Rattle.reach_laws.proofs.EndsExplained.{spared_before, end_can, given_up}
use Rattle.reach_laws.proofs.Standing.{IsLeftWith, carried_by, alike, Stands, unresolved_before, stands_on, raise_stands, fault_stands}
use Rattle.reach_laws.proofs.Apart.{OverUse, Over, IsCome, is_over, not_over, is_come, apart}
use Rattle.reach_laws.proofs.Carried.{AllEnd, HaveOthers, HasOther, IsUsed, named_some, silent_can, can_be_tried, own_can, carried_can}

module _ (plan : Plan) (playable : IsPlayable plan) (core : Holds Core plan) (planned : IsPlanned plan) where
  -- what has raised y in p can raise it by itself, and stands where it did
  pub record Own (past : List Entry) (p y : ℕ) : Type 0 where
    pub source : Source
    pub can : CanRaise plan (action_number plan p) source y
    pub stands : Stands plan playable core past p source y

  -- what has raised y in p can raise it, and stands where it did until p is resolved
  pub record Come (past : List Entry) (p y : ℕ) : Type 0 where
    pub source : Source
    pub can : CanBeRaised plan (action_number plan p) source y
    pub stands : exception_resolved past p ≡ None → Stands plan playable core past p source y

  pub record Reached (past : List Entry) : Type 0 where
    pub raised : (p y : ℕ) → member y (exceptions_raised plan past p) ≡ true → Come past p y
    pub first : (p : ℕ) → is_raised plan past p ≡ true → exception_resolved past p ≡ None → (y : ℕ) × Own past p y
    pub resolved : (p x : ℕ) → exception_resolved past p ≡ Some x → CanBeResolved plan (action_number plan p) x
    pub ended : AllEnd plan playable core planned past
    pub beside : HaveOthers plan playable core planned past

  -- ---- what came stays

  own_on : (past : List Entry) (e : Entry) (p y : ℕ) → LegalPast plan past → MayFollow plan past e
      → exception_resolved past p ≡ None → Own past p y → Own (e ∷ past) p y
  own_on past e p y legal h open_yet was = record {
    source = was.source;
    can = was.can;
    stands = stands_on plan playable core past e p was.source y legal h open_yet was.stands;
  }

  come_on : (past : List Entry) (e : Entry) (p y : ℕ) → LegalPast plan past → MayFollow plan past e → Come past p y → Come (e ∷ past) p y
  come_on past e p y legal h was = record {
    source = was.source;
    can = was.can;
    stands = λ w.
        let before = unresolved_before plan playable core past e p w in
        stands_on plan playable core past e p was.source y legal h before (was.stands before);
  }

  -- what can raise by itself can raise
  come_by : (past : List Entry) (p y : ℕ) → Own past p y → Come past p y
  come_by past p y own = record {
    source = own.source;
    can = by_itself (action_number plan p) y own.source own.can;
    stands = λ w. own.stands;
  }

  -- ---- what a step raises

  -- who is not halted in p has begun no handler there
  running_unhandled : (past : List Entry) → LegalPast plan past → (p t : ℕ) → member t (roles_of plan p) ≡ true
      → is_halted plan past p t ≡ false → has_handled past p t ≡ false
  running_unhandled past legal p t m running = false_from_ne_true _ (λ handled.
      let some = stands_newest (is_by kind.Handle p t) past handled in
      let resolution = ((core past legal).raises.handles p t some.0 some.1).0 in
      both_ways _ running
      (all_at (is_halted plan past p) (roles_of plan p) t ((core past legal).raises.resolves p some.0 resolution).0 m))

  step_can : (past : List Entry) → LegalPast plan past → (p t x : ℕ) (s : Step) → member t (roles_of plan p) ≡ true
      → has_handled past p t ≡ false → next_step plan past p t ≡ Some s
      → can_raise (action_of plan (action_number plan p)).fault x s ≡ true
      → CanRaise plan (action_number plan p) (step_of_role (index_of t (roles_of plan p)) (position plan past p t)) x
  step_can past legal p t x s m unhandled next raises =
      let r = index_of t (roles_of plan p) in
      let i = position plan past p t in
      let body : program_of plan past p t ≡ body_of plan p t =
      ap (program_in plan p t) (newest_none (is_by kind.Handle p t) past unhandled) in
      let free =
      subst (λ (g : Program). NoRaise g.steps (position plan past p t)) body (unpassed plan playable core past legal p t) in
      by_step (action_number plan p) r i x s
      (subst (λ (a : ActionRow). step_in a r i ≡ Some s) (planned.actions p t m)
      (there_reached (body_of plan p t).steps i s free (sym (body_step plan past p t unhandled) ∙ next))) raises

  by_raise : (past : List Entry) (e : Entry) → LegalPast plan past → MayRaise plan past (of_kind kind.Raise e)
      → Own (of_kind kind.Raise e ∷ past) e.place e.arg
  by_raise past e legal h =
      let m = role_inside plan playable.tree past legal e.by e.place h.here in
      let raising = raise_step (next_step plan past e.place e.by) (register plan past e.place e.by) e.arg h.raises in
      record {
        source = step_of_role (index_of e.by (roles_of plan e.place)) (position plan past e.place e.by);
        can =
            step_can past legal e.place e.by e.arg raising.0 m (running_unhandled past legal e.place e.by m h.running) raising.1
            (raising.2.0 (action_of plan (action_number plan e.place)).fault);
        stands = (e.by, raise_stands plan playable core past e legal h);
      }

  by_fault : (past : List Entry) (e : Entry) → LegalPast plan past → MayPut plan past (of_kind kind.PutFault e)
      → has_handled past e.place e.by ≡ false → Own (of_kind kind.PutFault e ∷ past) e.place (fault_of plan e.place)
  by_fault past e legal h unhandled =
      let m = role_inside plan playable.tree past legal e.by e.place h.here in
      let fault = (action_of plan (action_number plan e.place)).fault in
      let put = put_step (next_step plan past e.place e.by) (register plan past e.place e.by) (e.arg, e.value) h.puts in
      let same : fault ≡ fault_of plan e.place = sym (ap (λ (a : ActionRow). a.fault) (planned.actions e.place e.by m)) in
      let source = step_of_role (index_of e.by (roles_of plan e.place)) (position plan past e.place e.by) in
      record {
        source = source;
        can =
            subst (CanRaise plan (action_number plan e.place) source) same
            (step_can past legal e.place e.by fault put.0 m unhandled put.1 (put.2.1 fault));
        stands = (e.by, fault_stands plan playable core past e legal h unhandled);
      }

  -- the same, told by the test that stands in what is raised in p
  by_fault_in : (past : List Entry) (e : Entry) (p : ℕ) → LegalPast plan past → MayPut plan past (of_kind kind.PutFault e)
      → ((e.place == p) && not (has_handled past p e.by)) ≡ true → Own (of_kind kind.PutFault e ∷ past) p (fault_of plan p)
  by_fault_in past e p legal h here =
      let parts = and_parts (e.place == p) (not (has_handled past p e.by)) here in
      let same : e.place ≡ p = eqb-true e.place p parts.0 in
      subst (λ a. Own (of_kind kind.PutFault e ∷ past) a (fault_of plan a)) same
      (by_fault past e legal h (subst (λ a. has_handled past a e.by ≡ false) (sym same) (not-true _ parts.1)))

  -- ---- what a leave carries

  record Carries (past : List Entry) (e : Entry) (p : ℕ) : Type 0 where
    pub used : IsUsed plan playable core planned past p e.place e.by
    pub spared : is_doomed plan past p ≡ false
    pub aloud : is_left_in_silence plan past e.place ≡ false
    pub mapped : carried_by plan playable core past e.place e.by ≡ Some e.arg

  carries_parts : (past : List Entry) (e : Entry) (p : ℕ) → LegalPast plan past → MayLeave plan past e
      → carries_into plan p e ≡ true → Carries past e p
  carries_parts past e p legal h carries =
      let parts = and_parts (is_at (parent plan e.place) p) (e.mark == 1) carries in
      let up : parent plan e.place ≡ Some p = at_same _ _ parts.0 in
      let loud = carrying_parts plan past e h parts.1 in
      let named = named_some e (exception_carried plan past e.place e.by) h.carries parts.1 in
      record {
        used = record { up = up; here = h.here; started = ended_started plan playable.tree past legal e.place h.when };
        spared = subst (λ o. is_deaf plan past o ≡ false) up loud.0;
        aloud = loud.1;
        mapped =
            elim (chosen (is_deaf plan past (parent plan e.place) || is_left_in_silence plan past e.place) None _ (Some e.arg) named) [
              | inl z ↦ absurd (some_apart z.1)
              | inr z ↦ z.1
            ];
      }

  -- so the place was left with it
  left_with : (past : List Entry) (e : Entry) (p : ℕ) → Carries past (of_kind kind.Leave e) p
      → IsLeftWith plan playable core (of_kind kind.Leave e ∷ past) p (nest_number plan e.place) e.arg e.place e.by
  left_with past e p carries = record {
    up = carries.used.up;
    number = refl;
    left = or_left _ _ (eq-eqb e.place e.place refl);
    aloud = carries.aloud;
    mapped = carries.mapped;
  }

  by_leave : (past : List Entry) (e : Entry) (p : ℕ) → LegalPast plan past → Reached past → MayLeave plan past (of_kind kind.Leave e)
      → carries_into plan p e ≡ true → Come (of_kind kind.Leave e ∷ past) p e.arg
  by_leave past e p legal was h carrying =
      let carries = carries_parts past (of_kind kind.Leave e) p legal h carrying in
      elim (carried_can plan playable core planned past legal was.ended p e.place e.by e.arg carries.used was.beside carries.spared
      carries.aloud carries.mapped) [
        | inl x ↦
            record {
              source = nested_use (nest_number plan e.place);
              can = x.0;
              stands = λ w. (e.place, e.by, left_with past e p carries, x.1);
            }
        | inr x ↦
            record {
              source = given_up_use (nest_number plan e.place);
              can = x;
              stands = λ w. (e.place, e.by, left_with past e p carries);
            }
      ]

  -- ---- what was raised can be raised

  new_by : (past : List Entry) (k : Kind) (e : Entry) (p y : ℕ) → LegalPast plan past → Reached past
      → Row k plan past (of_kind k e) → member y (raises_in plan past p (of_kind k e) k) ≡ true
      → Come (of_kind k e ∷ past) p y
  new_by past kind.Raise e p y legal was h m =
      let here = only_here (e.place == p) e.arg y m in
      let now = of_kind kind.Raise e ∷ past in
      subst (Come now p) here.1
      (subst (λ a. Come now a e.arg) (eqb-true e.place p here.0) (come_by now e.place e.arg (by_raise past e legal h)))
  new_by past kind.PutFault e p y legal was h m =
      let here = only_here ((e.place == p) && not (has_handled past p e.by)) (fault_of plan p) y m in
      let now = of_kind kind.PutFault e ∷ past in
      subst (Come now p) here.1 (come_by now p (fault_of plan p) (by_fault_in past e p legal h here.0))
  new_by past kind.Leave e p y legal was h m =
      let here = only_here (carries_into plan p e) e.arg y m in
      subst (Come (of_kind kind.Leave e ∷ past) p) here.1 (by_leave past e p legal was h here.0)
  new_by past _ e p y legal was h m = absurd (false≢true m)

  raised_by : (past : List Entry) (k : Kind) (e : Entry) (p y : ℕ) → LegalPast plan past → Reached past
      → Row k plan past (of_kind k e) → member y (exceptions_raised plan (of_kind k e ∷ past) p) ≡ true
      → Come (of_kind k e ∷ past) p y
  raised_by past k e p y legal was h m =
      elim (member_either y (raises_in plan past p (of_kind k e) k) (exceptions_raised plan past p) m) [
        | inl x ↦ new_by past k e p y legal was h x
        | inr x ↦ come_on past (of_kind k e) p y legal h (was.raised p y x)
      ]

  -- ---- what was raised first

  -- something is raised in p, first of all by a source that needs no other
  abbrev First : List Entry → ℕ → Type 0
  First past p = (y : ℕ) × Own past p y

  -- where nothing was raised before, the entry raises
  now_raises : (b : Bool) (x : ℕ) (ys : List ℕ) → not (is_empty ys) ≡ false → not (is_empty (cond b (x ∷ []) [] ++ ys)) ≡ true → b ≡ true
  now_raises true x ys cold h = refl
  now_raises false x ys cold h = absurd (both_ways _ cold h)

  -- what is carried out of a place right inside p, where nothing was raised in p, its use raises by itself
  carries_first : (past : List Entry) (e : Entry) (p : ℕ) → LegalPast plan past → Reached past
      → MayLeave plan past (of_kind kind.Leave e) → is_raised plan past p ≡ false → carries_into plan p e ≡ true
      → First (of_kind kind.Leave e ∷ past) p
  carries_first past e p legal was h cold carrying =
      let carries = carries_parts past (of_kind kind.Leave e) p legal h carrying in
      let kept = nobody_gave_up carries in (
        e.arg,
        record {
          source = nested_use (nest_number plan e.place);
          can =
              own_can plan playable core planned past legal was.ended p e.place e.by e.arg carries.used kept carries.aloud carries.mapped;
          stands = (e.place, e.by, left_with past e p carries, λ u. alike plan playable core past e.place u e.by kept ∙ carries.mapped);
        },
      )
    where
      nobody_gave_up : Carries past (of_kind kind.Leave e) p → has kind.Abort past e.place ≡ false
      nobody_gave_up carries = false_from_ne_true _ (λ gave.
          let some = has_maker kind.Abort e.place past gave in
          let round : is_raised plan past p || is_doomed plan past p ≡ true =
          subst (λ qs. list_any (λ q. is_raised plan past q) qs ≡ true)
          (around_parent plan playable.tree p e.place carries.used.up)
          (abort_doomed plan playable.tree past legal e.place some.0 some.1) in
          elim (or_cases (is_raised plan past p) (is_doomed plan past p) round) [
            | inl x ↦ both_ways _ cold x
            | inr x ↦ both_ways _ carries.spared x
          ])

  first_new : (past : List Entry) (k : Kind) (e : Entry) (p : ℕ) → LegalPast plan past → Reached past
      → Row k plan past (of_kind k e) → is_raised plan past p ≡ false → is_raised plan (of_kind k e ∷ past) p ≡ true
      → First (of_kind k e ∷ past) p
  first_new past kind.Raise e p legal was h cold raised =
      let here = now_raises (e.place == p) e.arg (exceptions_raised plan past p) cold raised in (
        e.arg,
        subst (λ a. Own (of_kind kind.Raise e ∷ past) a e.arg) (eqb-true e.place p here) (by_raise past e legal h),
      )
  first_new past kind.PutFault e p legal was h cold raised =
      let here =
      now_raises ((e.place == p) && not (has_handled past p e.by)) (fault_of plan p) (exceptions_raised plan past p) cold raised in
      (fault_of plan p, by_fault_in past e p legal h here)
  first_new past kind.Leave e p legal was h cold raised =
      carries_first past e p legal was h cold (now_raises (carries_into plan p e) e.arg (exceptions_raised plan past p) cold raised)
  first_new past _ e p legal was h cold raised = absurd (both_ways _ cold raised)

  first_by : (past : List Entry) (k : Kind) (e : Entry) (p : ℕ) → LegalPast plan past → Reached past
      → Row k plan past (of_kind k e) → is_raised plan (of_kind k e ∷ past) p ≡ true
      → exception_resolved (of_kind k e ∷ past) p ≡ None → First (of_kind k e ∷ past) p
  first_by past k e p legal was h raised open_yet = elim (cases_Bool (is_raised plan past p)) [
    | inl r ↦
        let before = unresolved_before plan playable core past (of_kind k e) p open_yet in
        let found = was.first p r before in
        (found.0, own_on past (of_kind k e) p found.0 legal h before found.1)
    | inr cold ↦ first_new past k e p legal was h cold raised
  ]

  -- ---- what is resolved

  -- a source for y, which has raised it in p where it was raised there
  abbrev Chosen : List Entry → ℕ → ℕ → Type 0
  Chosen past p y =
      (source : Source) × (member y (exceptions_raised plan past p) ≡ true
      → CanBeRaised plan (action_number plan p) source y × Stands plan playable core past p source y)

  chosen_for : (past : List Entry) (p : ℕ) → Reached past → exception_resolved past p ≡ None → (y : ℕ) → Chosen past p y
  chosen_for past p was open_yet y = elim (cases_Bool (member y (exceptions_raised plan past p))) [
    | inl m ↦ let come = was.raised p y m in (come.source, λ _. (come.can, come.stands open_yet))
    | inr none ↦ (nested_use 0, λ m. absurd (both_ways _ none m))
  ]

  resolves : (past : List Entry) (e : Entry) → LegalPast plan past → Reached past → MayResolve plan past e
      → CanBeResolved plan (action_number plan e.place) e.arg
  resolves past e legal was h =
      let p = e.place in
      let m = role_inside plan playable.tree past legal e.by p h.here in
      let hot = hot_open plan past p h.when in
      let raised = exceptions_raised plan past p in
      let choice = chosen_for past p was h.fresh in
      least_of (action_number plan p) e.arg raised (λ y. (choice y).0) (some_long raised hot.1).0 (λ y n. ((choice y).1 n).0)
      (λ y z n o other. apart plan playable core planned past legal p e.by m h.fresh (choice y).0 (choice z).0 y z hot.0.spared
      ((choice y).1 n).0 ((choice z).1 o).0 ((choice y).1 n).1 ((choice z).1 o).1 other)
      (subst (λ (a : ActionRow). IsLeastCover (graph_at plan a.internal) raised e.arg) (planned.actions p e.by m) h.least)

  resolved_by : (past : List Entry) (k : Kind) (e : Entry) (p x : ℕ) → LegalPast plan past → Reached past
      → Row k plan past (of_kind k e) → exception_resolved (of_kind k e ∷ past) p ≡ Some x → CanBeResolved plan (action_number plan p) x
  resolved_by past kind.Resolve e p x legal was h w =
      elim (chosen (e.place == p) (Some e.arg) (exception_resolved past p) (Some x) w) [
        | inl y ↦
            subst (CanBeResolved plan (action_number plan p)) (some_same y.1)
            (subst (λ a. CanBeResolved plan (action_number plan a) e.arg) (eqb-true e.place p y.0)
            (resolves past (of_kind kind.Resolve e) legal was h))
        | inr y ↦ was.resolved p x y.1
      ]
  resolved_by past _ e p x legal was h w = was.resolved p x w

  -- ---- places that have ended

  ended_by : (past : List Entry) (k : Kind) (e : Entry) (p : ℕ) (f : Entry) → LegalPast plan past → Reached past
      → Row k plan past (of_kind k e) → newest (is_in kind.End p) (of_kind k e ∷ past) ≡ Some f
      → has kind.Abort past p ≡ false → CanEnd plan (action_number plan p) (outcome_at f)
  ended_by past kind.End e p f legal was h w spared =
      elim (chosen (e.place == p) (Some (of_kind kind.End e)) (newest (is_in kind.End p) past) (Some f) w) [
        | inl x ↦
            let here : e.place ≡ p = eqb-true e.place p x.0 in
            subst (λ g. CanEnd plan (action_number plan p) (outcome_at g)) (some_same x.1)
            (subst (λ a. CanEnd plan (action_number plan a) (outcome_at (of_kind kind.End e))) here
            (end_can plan playable core planned past (of_kind kind.End e) legal (was.resolved e.place) h
            (subst (λ a. has kind.Abort past a ≡ false) (sym here) spared)))
        | inr x ↦ was.ended p f x.1 spared
      ]
  ended_by past _ e p f legal was h w spared = was.ended p f w spared

  -- ---- places in which roles gave up

  module _ (past : List Entry) (legal : LegalPast plan past) (p c t : ℕ) (up : parent plan c ≡ Some p) (here : inside plan past t ≡ Some c)
      (goes : IsGoing past c) (spared : is_doomed plan past p ≡ false) where
    -- the place has not ended, and somebody is in it: so no other of its use was left aloud
    nothing_out : (d : ℕ) → parent plan d ≡ Some p → nest_number plan d ≡ nest_number plan c → has kind.Leave past d ≡ true
        → is_left_in_silence plan past d ≡ false → ⊥
    nothing_out d up_d same_use left aloud = elim (cases_order d c) [
      | inl same ↦ both_ways _ goes.lasts (subst (λ a. has_ended past a ≡ true) same ((core past legal).visits.left d left))
      | inr (inl below) ↦
          both_ways _ aloud ((core past legal).visits.turn p d c t up_d up same_use below
          (inside_arrived plan playable.tree past legal c t here)).1
      | inr (inr above) ↦
          let some = has_maker kind.Leave d past left in
          both_ways _ goes.lasts (left_ended plan playable.tree past legal c some.0
          ((core past legal).visits.turn p c d some.0 up up_d (sym same_use) above
          (left_arrived plan playable.tree past legal d some.0 some.1)).0)
    ]

    role : member t (roles_of plan p) ≡ true
    role = (busy_inside plan playable.tree past legal t p c here (parent_round plan playable.tree c p up)).role

    -- p isn't resolved, since t isn't halted there
    open_yet : exception_resolved past p ≡ None
    open_yet = by_option (exception_resolved past p) refl
      where
        by_option : (o : Option ℕ) → exception_resolved past p ≡ o → exception_resolved past p ≡ None
        by_option None w = w
        by_option (Some x) w =
            absurd (both_ways _ ((core past legal).raises.away p t c here (parent_round plan playable.tree c p up)).0
            (all_at (is_halted plan past p) (roles_of plan p) t ((core past legal).raises.resolves p x w).0 role))

    abbrev its_use : Source
    its_use = nested_use (nest_number plan c)

    -- so the use has raised nothing
    not_stands : (y : ℕ) → Stands plan playable core past p its_use y → ⊥
    not_stands y (d, u, with_y, all) = nothing_out d with_y.up with_y.number with_y.left with_y.aloud

    -- and isn't over
    not_use_over : (s : Source) → OverUse plan playable core planned past legal p t role open_yet (nest_number plan c) s → ⊥
    not_use_over s (inl (u, out)) =
        let fits = playable.placed p (nest_number plan c) out.place out.of_use in
        nothing_out out.place (ap first_of fits.0) fits.1 (one_has kind.Leave past out.place u out.left) out.aloud
    not_use_over s (inr (right, (u, out))) =
        let fits = playable.placed p (nest_number plan c) out.place out.of_use in
        nothing_out out.place (ap first_of fits.0) fits.1 (one_has kind.Leave past out.place u out.left) out.aloud

    -- what raises by itself is no use that was given up
    raises_kept : (s : Source) (y : ℕ) → CanRaise plan (action_number plan p) s y → is_given_up s ≡ false
    raises_kept s y (by_step _ _ _ _ _ _ _) = refl
    raises_kept s y (by_use _ _ _ _ _ _ _ _ _) = refl

    -- what has raised something doesn't exclude the use
    goes_first : (s u : Source) (y : ℕ) → u ≡ its_use → Stands plan playable core past p s y
        → Excludes (action_of plan (action_number plan p)) s u → ⊥
    goes_first s u y same at (itself _ kept) = not_stands y (subst (λ v. Stands plan playable core past p v y) same at)
    goes_first s u y same at (or_given_up k) = absurd cc
    goes_first s u y same at (earlier _ _ before far) =
        let begun =
        subst (IsCome plan playable core planned past legal p t role open_yet) (sym same)
        (c, record { up = up; number = refl; started = goes.started }) in
        not_over plan playable core planned past legal p t role open_yet s u y spared at
        (is_over plan playable core planned past legal p t role open_yet s u before begun) far

    -- nor does the use exclude it
    goes_second : (u s : Source) (y : ℕ) → u ≡ its_use → CanRaise plan (action_number plan p) s y → Stands plan playable core past p s y
        → Excludes (action_of plan (action_number plan p)) u s → ⊥
    goes_second u s y same can at (itself _ kept) = not_stands y (subst (λ v. Stands plan playable core past p v y) same at)
    goes_second u s y same can at (or_given_up k) = false≢true (sym (raises_kept s y can))
    goes_second u s y same can at (earlier _ _ before far) =
        not_use_over s (subst (λ v. Over plan playable core planned past legal p t role open_yet v s) same
        (is_over plan playable core planned past legal p t role open_yet u s before
        (is_come plan playable core planned past legal p t role open_yet s y at)))

    pub beside_use : (y : ℕ) → Own past p y → HasOther plan playable core planned p (nest_number plan c)
    beside_use y own = (
      own.source,
      y,
      own.can,
      record {
        first = goes_first own.source its_use y refl own.stands;
        second = goes_second its_use own.source y refl own.can own.stands;
      },
    )

  gives_up : (past : List Entry) (e : Entry) (p : ℕ) → LegalPast plan past → Reached past → MayAbort plan past e
      → parent plan e.place ≡ Some p → is_doomed plan past p ≡ false
      → HasOther plan playable core planned p (nest_number plan e.place)
  gives_up past e p legal was h up spared =
      let round : is_raised plan past p || is_doomed plan past p ≡ true =
      subst (λ qs. list_any (λ q. is_raised plan past q) qs ≡ true) (around_parent plan playable.tree p e.place up) h.doom in
      let goes = going_parts past e.place h.when in
      elim (or_cases (is_raised plan past p) (is_doomed plan past p) round) [
        | inl x ↦
            let found = was.first p x (open_yet past legal p e.place e.by up h.here goes spared) in
            beside_use past legal p e.place e.by up h.here goes spared found.0 found.1
        | inr x ↦ absurd (both_ways _ spared x)
      ]

  beside_by : (past : List Entry) (k : Kind) (e : Entry) (c p : ℕ) → LegalPast plan past → Reached past
      → Row k plan past (of_kind k e) → has kind.Abort (of_kind k e ∷ past) c ≡ true → parent plan c ≡ Some p
      → is_doomed plan past p ≡ false → HasOther plan playable core planned p (nest_number plan c)
  beside_by past kind.Abort e c p legal was h gave up spared = elim (or_cases (e.place == c) (has kind.Abort past c) gave) [
    | inl x ↦
        let same : e.place ≡ c = eqb-true e.place c x in
        subst (λ a. HasOther plan playable core planned p (nest_number plan a)) same
        (gives_up past (of_kind kind.Abort e) p legal was h (subst (λ a. parent plan a ≡ Some p) (sym same) up) spared)
    | inr x ↦ was.beside c p x up spared
  ]
  beside_by past _ e c p legal was h gave up spared = was.beside c p gave up spared

  -- ---- all of it

  pub reached : (past : List Entry) → LegalPast plan past → Reached past
  reached [] legal = record {
    raised = λ p y m. absurd (false≢true m);
    first = λ p w open_yet. absurd (false≢true w);
    resolved = λ p x w. absurd (some_apart w);
    ended = λ p f w spared. absurd (some_apart w);
    beside = λ c p gave up spared. absurd (false≢true gave);
  }
  reached (e ∷ past) legal =
      let was = reached past legal.0 in
      record {
        raised = λ p y. raised_by past e.kind e p y legal.0 was legal.1;
        first = λ p. first_by past e.kind e p legal.0 was legal.1;
        resolved = λ p x. resolved_by past e.kind e p x legal.0 was legal.1;
        ended = λ p f w spared. ended_by past e.kind e p f legal.0 was legal.1 w (spared_before past e.kind e p spared);
        beside = λ c p gave up spared. beside_by past e.kind e c p legal.0 was legal.1 gave up
            (false_from_ne_true _ (λ doom. both_ways _ spared (doom_stays plan p e past doom)));
      }

  -- ---- the laws

  -- who has an entry in p has a role there
  pub makers : (past : List Entry) → LegalPast plan past → (k : Kind) (p t : ℕ) → has_by k past p t ≡ true
      → member t (roles_of plan p) ≡ true
  makers [] legal k p t w = absurd (false≢true w)
  makers (e ∷ past) legal k p t w = elim (or_cases (is_by k p t e) (has_by k past p t) w) [
    | inl x ↦
        let parts = and_parts (is_in k p e) (e.by == t) x in
        let place : e.place ≡ p = eqb-true e.place p (and_parts _ (e.place == p) parts.0).1 in
        subst (λ a. member a (roles_of plan p) ≡ true) (eqb-true e.by t parts.1)
        (subst (λ a. member e.by (roles_of plan a) ≡ true) place (maker_role plan playable.tree past e legal.0 legal.1))
    | inr x ↦ makers past legal.0 k p t x
  ]

  pub raises_no_other : Holds RaisesNoOther plan
  raises_no_other past legal p x m = let come = (reached past legal).raised p x m in (come.source, come.can)

  pub resolves_no_other : Holds ResolvesNoOther plan
  resolves_no_other past legal = (reached past legal).resolved

  pub ends_not_otherwise : Holds EndsNotOtherwise plan
  ends_not_otherwise past legal =
      record { ended = (reached past legal).ended; given_up = given_up plan playable core planned past legal }

  tries_behind : (past : List Entry) → LegalPast plan past → (c d : ℕ) → next_alternate plan c ≡ Some d
      → has kind.Arrive past d ≡ true → CanEnd plan (action_number plan c) outcome.Undone
  tries_behind past legal c d next came = by_parent (parent plan c) refl next
    where
      by_parent : (o : Option ℕ) → parent plan c ≡ o → next_in plan c o ≡ Some d → CanEnd plan (action_number plan c) outcome.Undone
      by_parent None up next = absurd (some_apart next)
      by_parent (Some q) up next =
          let k = nest_number plan c in
          let after = after_is 0 (alternates_of plan q k) c d (playable.in_row q k) next in
          let placed = playable.placed q k d after.1 in
          let up_d : parent plan d ≡ Some q = ap first_of placed.0 in
          let some = has_maker kind.Arrive d past came in
          let turn = (core past legal).visits.turn q c d some.0 up up_d (sym placed.1) after.0 some.1 in
          silent_can plan playable core planned past legal (reached past legal).ended c turn.1

  -- the place can be tried at some turn of its use
  abbrev HasTurn : ℕ → ℕ → Type 0
  HasTurn p c = (turn : ℕ) × CanBeTried plan (action_number plan p) (nest_number plan c) turn (action_number plan c)

  starts_by : (past : List Entry) (k : Kind) (e : Entry) (p c : ℕ) → LegalPast plan (of_kind k e ∷ past) → parent plan c ≡ Some p
      → (has_started past c ≡ true → HasTurn p c) → Row k plan past (of_kind k e)
      → has_started (of_kind k e ∷ past) c ≡ true → HasTurn p c
  starts_by past kind.Start e p c legal up ih h w = elim (or_cases (e.place == c) (has_started past c) w) [
    | inl x ↦
        let now = of_kind kind.Start e ∷ past in
        let index = stands_at (alternates_of plan p (nest_number plan c)) c (playable.back p c up) in
        let here : inside plan now e.by ≡ Some c = h.here ∙ ap Some (eqb-true e.place c x) in (
          index.0,
          can_be_tried plan playable core planned now legal (reached now legal).ended p c e.by index.0
              (record { up = up; here = here; started = w }) index.1,
        )
    | inr x ↦ ih x
  ]
  starts_by past _ e p c legal up ih h w = ih w

  starts : (past : List Entry) → LegalPast plan past → (p c : ℕ) → parent plan c ≡ Some p → has_started past c ≡ true → HasTurn p c
  starts [] legal p c up w = absurd (false≢true w)
  starts (e ∷ past) legal p c up w = starts_by past e.kind e p c legal up (starts past legal.0 p c up) legal.1 w

  pub tries_no_other : Holds TriesNoOther plan
  tries_no_other past legal = record { behind = tries_behind past legal; started = starts past legal }
