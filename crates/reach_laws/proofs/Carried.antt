-- What is carried out of a nested use can be raised by it.
use Rattle.std.proofs.Common.{◌≡◌, ℕ, ℤ, ◌==◌, ◌<◌, Bool, true, false, not, cond, ◌&&◌, List, [], ◌∷◌, length, slice_index_or, slice_get, Some, None, Option, suc, refl, sym, ap, ◌∙◌, subst, arith, inl, inr, ◌⊎◌, is_none}
use Rattle.std.proofs.lemmas.Bool.{and_parts, eqb-true, eq-eqb, false≢true, cases_Bool, both_ways, false_from_ne_true, not-false}
use Rattle.caa_base.specs.declared.written.entry.Entry.{Entry}
use Rattle.caa_base.specs.declared.written.entry.Kind.{Kind}
use Rattle.caa_base.specs.declared.written.entry.Kind.TheVariants as kind
use Rattle.caa_base.specs.declared.written.entry.Outcome.{Outcome}
use Rattle.caa_base.specs.declared.written.entry.Outcome.TheVariants as outcome
use Rattle.caa_base.specs.Written.Marks.{outcome_of_mark}
use Rattle.place_plan.specs.declared.drafts.draft_rows.AbortRow.{AbortRow}
use Rattle.place_plan.specs.declared.drafts.draft_rows.AbortRow.TheVariants as abort
use Rattle.place_plan.specs.declared.drafts.draft_rows.ActionRow.{ActionRow}
use Rattle.place_plan.specs.declared.drafts.draft_rows.NestRow.{NestRow}
use Rattle.place_plan.specs.declared.drafts.draft_rows.RoleRow.{RoleRow}
use Rattle.place_plan.specs.declared.drafts.draft_rows.Program.{Program}
use Rattle.place_plan.specs.declared.drafts.draft_rows.Step.TheVariants as step
use Rattle.place_plan.specs.Plans.PlanValue.{Plan}
use Rattle.caa_base.specs.Written.Lists.{member, is_empty, first_of}
use Rattle.place_plan.specs.Plans.Places.{parent, action_at, roles_of, role_row, body_of, abort_row, alternates_of, nest_number, nest_in, nest_of, next_in, next_alternate, map_signal, no_role}
use Rattle.place_plan.specs.RulesOfJournals.Entries.{is_in, is_by, has, has_by, newest}
use Rattle.place_plan.specs.RulesOfJournals.Whereabouts.{inside, outcome_at, has_started, is_undone, is_left_in_silence}
use Rattle.place_plan.specs.RulesOfJournals.Raising.{has_handled, is_doomed, is_halted}
use Rattle.place_plan.specs.RulesOfJournals.Roles.{position, program_in, program_of, register, meets}
use Rattle.place_plan.specs.RulesOfJournals.Rules.{Row, Names, abort_of, abort_mapped, mapped_by_outcome, outcome_mapped}
use Rattle.place_plan.specs.RulesOfJournals.Journals.{LegalPast}
use Rattle.journal_laws.specs.Laws.{Holds}
use Rattle.journal_laws.proofs.Playable.{IsPlayable}
use Rattle.journal_laws.proofs.Core.{Core}
use Rattle.caa_base.proofs.ListLemmas.{all_at, all_from, chosen}
use Rattle.place_plan.proofs.OnJournals.EntryKinds.{of_kind, both_same}
use Rattle.place_plan.proofs.OnPlans.Casts.{in_picked}
use Rattle.place_plan.proofs.OnPlans.Subtrees.{use_of}
use Rattle.journal_laws.proofs.Arrivals.{one_has, inside_arrived}
use Rattle.journal_laws.proofs.Newest.{stands_newest, newest_none}
use Rattle.journal_laws.proofs.Options.{some_apart, some_same, none_is}
use Rattle.journal_laws.proofs.Outcome.{newest_any}
use Rattle.journal_laws.proofs.Raised.{role_inside, busy_inside, parent_round}
use Rattle.journal_laws.proofs.Uses.{AtStep, body_step}
use Rattle.reach_laws.specs.ReachedSteps.{enters, body_enters, names_at_abort}
use Rattle.reach_laws.specs.CanCome.{action_of, use_in, is_entered, can_name, made_of, Source, nested_use, given_up_use, AreTogether, CanRaise, CanBeRaised, CanEnd, CanBeTried, by_use, by_itself, by_abort, by_failure, in_turn}
use Rattle.reach_laws.specs.Reach.{action_number}
use Rattle.reach_laws.proofs.ListsAlone.{stands_at, at_member, stands_below, below_end, rises_by, last_stands}
use Rattle.reach_laws.proofs.StepsReached.{NoRaise, is_reached, no_further}
use Rattle.reach_laws.proofs.Unpassed.{unpassed}
use Rattle.reach_laws.proofs.Standing.{carried_by, alike}
use Rattle.reach_laws.proofs.Planned.{IsPlanned}
use Rattle.reach_laws.proofs.RoleRows.{role_any, row_played}
use Rattle.reach_laws.proofs.EndsExplained.{given_up}

-- ---- what an entry names

pub named_some : (e : Entry) (o : Option ℕ) → Names e o → (e.mark == 1) ≡ true → o ≡ Some e.arg
named_some e None h m = let one = eqb-true e.mark 1 m in absurd (omega (arith, h.0))
named_some e (Some x) h m = ap Some (sym h.1)

-- what an abort names at a register, its row can name
named_by : (row : AbortRow) (r : ℤ) (x : ℕ) → abort_of row r ≡ Some x → names_at_abort x row ≡ true
named_by abort.Never r x h = absurd (some_apart h)
named_by (abort.Always y) r x h = eq-eqb y x (some_same h)
named_by (abort.Where test bound y) r x h = elim (chosen (meets test bound r) (Some y) None (Some x) h) [
  | inl z ↦ eq-eqb y x (some_same z.1)
  | inr z ↦ absurd (some_apart z.1)
]

-- a mark that is read as undone is that of an undo
mark_undone : (mark x : ℕ) → outcome_of_mark mark x ≡ outcome.Undone → (mark == 2) ≡ true
mark_undone mark x h = elim (chosen (mark == 0) outcome.Commit _ outcome.Undone h) [
  | inl a ↦ absurd cc
  | inr a ↦ elim (chosen (mark == 1) (outcome.Signal x) _ outcome.Undone a.1) [
    | inl b ↦ absurd cc
    | inr b ↦ elim (chosen (mark == 2) outcome.Undone _ outcome.Undone b.1) [
      | inl d ↦ d.0
      | inr d ↦ elim (chosen (mark == 3) outcome.Aborted outcome.Failed outcome.Undone d.1) [
        | inl f ↦ absurd cc
        | inr f ↦ absurd cc
      ]
    ]
  ]
]

-- no place ends both aborted or failed, and undone
apart_undone : (how : Outcome) → how ≡ outcome.Undone → (how ≡ outcome.Aborted → ⊥) × (how ≡ outcome.Failed → ⊥)
apart_undone how h = (λ a. cc, λ a. cc)

-- who gave up has named what its row can name
aborts_by : (plan : Plan) (past : List Entry) (k : Kind) (e : Entry) (p t : ℕ) (f : Entry)
    → (newest (is_by kind.Abort p t) past ≡ Some f → (f.mark == 1) ≡ true → names_at_abort f.arg (abort_row plan p t) ≡ true)
    → Row k plan past (of_kind k e) → newest (is_by kind.Abort p t) (of_kind k e ∷ past) ≡ Some f
    → (f.mark == 1) ≡ true → names_at_abort f.arg (abort_row plan p t) ≡ true
aborts_by plan past kind.Abort e p t f ih h w m =
    elim (chosen ((e.place == p) && (e.by == t)) (Some (of_kind kind.Abort e)) (newest (is_by kind.Abort p t) past) (Some f) w) [
      | inl x ↦ own (both_same e.place p e.by t x.0) (some_same x.1)
      | inr x ↦ ih x.1 m
    ]
  where
    names : (e.mark == 1) ≡ true → names_at_abort e.arg (abort_row plan e.place e.by) ≡ true
    names n =
        named_by (abort_row plan e.place e.by) (register plan past e.place e.by) e.arg
        (named_some (of_kind kind.Abort e) (abort_of (abort_row plan e.place e.by) (register plan past e.place e.by)) h.names n)

    own : (e.place ≡ p) × (e.by ≡ t) → of_kind kind.Abort e ≡ f → names_at_abort f.arg (abort_row plan p t) ≡ true
    own here same =
        let marked : (e.mark == 1) ≡ true = subst (λ (g : Entry). (g.mark == 1) ≡ true) (sym same) m in
        let by_maker : names_at_abort e.arg (abort_row plan p t) ≡ true =
        subst (λ a. names_at_abort e.arg (abort_row plan p a) ≡ true) here.1
        (subst (λ a. names_at_abort e.arg (abort_row plan a e.by) ≡ true) here.0 (names marked)) in
        subst (λ (g : Entry). names_at_abort g.arg (abort_row plan p t) ≡ true) same by_maker
aborts_by plan past _ e p t f ih h w m = ih w m

aborts : (plan : Plan) (past : List Entry) → LegalPast plan past → (p t : ℕ) (f : Entry)
    → newest (is_by kind.Abort p t) past ≡ Some f → (f.mark == 1) ≡ true
    → names_at_abort f.arg (abort_row plan p t) ≡ true
aborts plan [] h p t f w m = absurd (some_apart w)
aborts plan (e ∷ past) h p t f w m = aborts_by plan past e.kind e p t f (aborts plan past h.0 p t f) h.1 w m

module _ (plan : Plan) (playable : IsPlayable plan) (core : Holds Core plan) (planned : IsPlanned plan) where
  -- each place that has ended, and in which nobody gave up, has ended as its action can
  abbrev pub AllEnd : List Entry → Type 0
  AllEnd past =
      (p : ℕ) (f : Entry) → newest (is_in kind.End p) past ≡ Some f → has kind.Abort past p ≡ false
      → CanEnd plan (action_number plan p) (outcome_at f)

  -- so the action of a place that is left in silence can end undone
  pub silent_can : (past : List Entry) → LegalPast plan past → AllEnd past → (c : ℕ) → is_left_in_silence plan past c ≡ true
      → CanEnd plan (action_number plan c) outcome.Undone
  silent_can past legal all c silent =
      by_end (newest (is_in kind.End c) past) refl
      (and_parts (is_undone (newest (is_in kind.End c) past)) (not (is_none (next_alternate plan c))) silent).0
    where
      by_end : (o : Option Entry) → newest (is_in kind.End c) past ≡ o → is_undone o ≡ true
          → CanEnd plan (action_number plan c) outcome.Undone
      by_end None w u = absurd (false≢true u)
      by_end (Some f) w u =
          let how : outcome_at f ≡ outcome.Undone = rw (eqb-true f.mark 2 u) refl in
          elim (cases_Bool (has kind.Abort past c)) [
            | inl gave ↦ absurd (elim (given_up plan playable core planned past legal c f w gave) [
              | inl x ↦ (apart_undone (outcome_at f) how).0 x
              | inr x ↦ (apart_undone (outcome_at f) how).1 x.0
            ])
            | inr spared ↦ subst (CanEnd plan (action_number plan c)) how (all c f w spared)
          ]

  -- ---- that a use is entered

  -- where somebody is in a place right inside p, nobody handles in p
  unhandled_round : (past : List Entry) → LegalPast plan past → (p c t u : ℕ) → inside plan past t ≡ Some c
      → parent plan c ≡ Some p → has_handled past p u ≡ false
  unhandled_round past legal p c t u here up = false_from_ne_true _ (λ handled.
      let some = stands_newest (is_by kind.Handle p u) past handled in
      let resolution = ((core past legal).raises.handles p u some.0 some.1).0 in
      let round = parent_round plan playable.tree c p up in
      both_ways _ ((core past legal).raises.away p t c here round).0
      (all_at (is_halted plan past p) (roles_of plan p) t ((core past legal).raises.resolves p some.0 resolution).0
      (busy_inside plan playable.tree past legal t p c here round).role))

  -- who has arrived in a place of a use comes to the step that enters it
  came_enters : (past : List Entry) → LegalPast plan past → (p c u : ℕ) → parent plan c ≡ Some p
      → has_by kind.Arrive past c u ≡ true → has_handled past p u ≡ false
      → body_enters (nest_number plan c) (role_row plan p u) ≡ true
  came_enters past legal p c u up came unhandled = by_step ((core past legal).visits.at_step p c u up came unhandled)
    where
      body : program_of plan past p u ≡ body_of plan p u
      body = ap (program_in plan p u) (newest_none (is_by kind.Handle p u) past unhandled)

      free : NoRaise (body_of plan p u).steps (position plan past p u)
      free =
          subst (λ (g : Program). NoRaise g.steps (position plan past p u)) body
          (unpassed plan playable core past legal p u)

      by_step : AtStep plan past p c u → body_enters (nest_number plan c) (role_row plan p u) ≡ true
      by_step (inl (l, (n, below, entered))) =
          is_reached (enters (nest_number plan c)) (body_of plan p u).steps n (step.Enter (nest_number plan c))
          (no_further (body_of plan p u).steps (position plan past p u) n free below) entered
          (eq-eqb (nest_number plan c) (nest_number plan c) refl)
      by_step (inr w) =
          is_reached (enters (nest_number plan c)) (body_of plan p u).steps (position plan past p u)
          (step.Enter (nest_number plan c)) free (sym (body_step plan past p u unhandled) ∙ w.0)
          (eq-eqb (nest_number plan c) (nest_number plan c) refl)

  -- a use of p, of which somebody is in the place c, which has started
  pub record IsUsed (past : List Entry) (p c t : ℕ) : Type 0 where
    pub up : parent plan c ≡ Some p
    pub here : inside plan past t ≡ Some c
    pub started : has_started past c ≡ true

  -- the action of p is that of its number
  outer_is : (past : List Entry) → LegalPast plan past → (p c t : ℕ) → IsUsed past p c t
      → action_at plan p ≡ action_of plan (action_number plan p)
  outer_is past legal p c t used =
      planned.actions p t
      (busy_inside plan playable.tree past legal t p c used.here (parent_round plan playable.tree c p used.up)).role

  all_enter : (past : List Entry) → LegalPast plan past → (p c t : ℕ) → IsUsed past p c t
      → is_entered (action_at plan p) (nest_number plan c) ≡ true
  all_enter past legal p c t used =
      let k = nest_number plan c in
      let known = playable.back p c used.up in
      all_from (λ r. body_enters k (slice_index_or (action_at plan p).roles r no_role)) (use_of plan p k).roles (λ r m.
      let u = slice_index_or (roles_of plan p) r 0 in
      let plays : member u (roles_of plan c) ≡ true =
      subst (λ who. member u who ≡ true) (sym (planned.casts p k c known))
      (in_picked (roles_of plan p) (use_of plan p k).roles r m) in
      subst (λ row. body_enters k row ≡ true) (row_played plan planned p r (planned.filled p k c r known m))
      (came_enters past legal p c u used.up ((core past legal).visits.whole c u used.started plays)
      (unhandled_round past legal p c t u used.here used.up)))

  -- ---- that an alternate is tried

  -- each alternate before the place that somebody is in can end undone
  earlier_can : (past : List Entry) → LegalPast plan past → AllEnd past → (p c t j i b : ℕ) → IsUsed past p c t
      → slice_get (alternates_of plan p (nest_number plan c)) j ≡ Some c → i < j
      → slice_get (use_of plan p (nest_number plan c)).actions i ≡ Some b → CanEnd plan b outcome.Undone
  earlier_can past legal all p c t j i b used at_j lt at_i =
      let k = nest_number plan c in
      let alternates = alternates_of plan p k in
      let known = playable.back p c used.up in
      let below = below_end alternates j c at_j in
      let found = stands_below alternates i (omega arith) in
      let placed = playable.placed p k found.0 (at_member alternates i found.0 found.1) in
      let up : parent plan found.0 ≡ Some p = ap first_of placed.0 in
      let lower = rises_by 0 alternates i j found.0 c (playable.in_row p k) lt found.1 at_j in
      let turn =
      (core past legal).visits.turn p found.0 c t up used.up placed.1 lower
      (inside_arrived plan playable.tree past legal c t used.here) in
      let same : action_number plan found.0 ≡ b = some_same (sym (planned.turns p k i found.0 found.1) ∙ at_i) in
      subst (λ a. CanEnd plan a outcome.Undone) same (silent_can past legal all found.0 turn.1)

  -- so the place is of an alternate that can be tried
  pub can_be_tried : (past : List Entry) → LegalPast plan past → AllEnd past → (p c t j : ℕ) → IsUsed past p c t
      → slice_get (alternates_of plan p (nest_number plan c)) j ≡ Some c
      → CanBeTried plan (action_number plan p) (nest_number plan c) j (action_number plan c)
  can_be_tried past legal all p c t j used at_j =
      let k = nest_number plan c in
      let same = outer_is past legal p c t used in
      in_turn (action_number plan p) k j (action_number plan c)
      (subst (λ (a : ActionRow). is_entered a k ≡ true) same (all_enter past legal p c t used))
      (subst (λ (a : ActionRow). slice_get (use_in a k).actions j ≡ Some (action_number plan c)) same
      (planned.turns p k j c at_j))
      (λ i b lt at_i. earlier_can past legal all p c t j i b used at_j lt
      (subst (λ (a : ActionRow). slice_get (use_in a k).actions i ≡ Some b) (sym same) at_i))

  -- ---- what is carried out

  -- something else can be raised in p beside what the use carries out
  abbrev pub HasOther : ℕ → ℕ → Type 0
  HasOther p k =
      (other : Source) × (y : ℕ) × CanRaise plan (action_number plan p) other y
      × AreTogether (action_of plan (action_number plan p)) other (nested_use k)

  -- where somebody gave up in a place right inside p, and nothing is raised round p
  abbrev pub HaveOthers : List Entry → Type 0
  HaveOthers past =
      (c p : ℕ) → has kind.Abort past c ≡ true → parent plan c ≡ Some p → is_doomed plan past p ≡ false
      → HasOther p (nest_number plan c)

  -- the use of the place, as its row stands in the action of its number
  use_is : (past : List Entry) → LegalPast plan past → (p c t : ℕ) → IsUsed past p c t
      → nest_of plan c ≡ use_in (action_of plan (action_number plan p)) (nest_number plan c)
  use_is past legal p c t used =
      ap (nest_in plan (nest_number plan c)) used.up
      ∙ ap (λ (a : ActionRow). use_in a (nest_number plan c)) (outer_is past legal p c t used)

  -- a place that is left aloud after an undo is the last of its use
  is_last : (past : List Entry) (p c j : ℕ) (f : Entry) → parent plan c ≡ Some p
      → slice_get (alternates_of plan p (nest_number plan c)) j ≡ Some c → newest (is_in kind.End c) past ≡ Some f
      → outcome_at f ≡ outcome.Undone → is_left_in_silence plan past c ≡ false
      → (suc j == length (use_of plan p (nest_number plan c)).actions) ≡ true
  is_last past p c j f up at_j w how aloud =
      let k = nest_number plan c in
      let undone : is_undone (newest (is_in kind.End c) past) ≡ true =
      subst (λ o. is_undone o ≡ true) (sym w) (mark_undone f.mark f.arg how) in
      let none : is_none (next_alternate plan c) ≡ true =
      not-false _ (rw undone at aloud) in
      let no_more : next_in plan c (Some p) ≡ None =
      ap (next_in plan c) (sym up) ∙ none_is (next_alternate plan c) none in
      eq-eqb (suc j) (length (use_of plan p k).actions)
      (last_stands 0 (alternates_of plan p k) j c (playable.in_row p k) at_j no_more
      ∙ planned.as_many p k c (playable.back p c up))

  -- what is carried out of a place in which nobody gave up
  made_from : (past : List Entry) (c t : ℕ) (last : Bool) (how : Outcome) (x : ℕ) → has kind.Abort past c ≡ false
      → (how ≡ outcome.Undone → last ≡ true)
      → mapped_by_outcome plan c (newest (is_by kind.Abort c t) past) how ≡ Some x
      → made_of (nest_of plan c) last how ≡ Some x
  made_from past c t last outcome.Commit x spared l h = absurd (some_apart h)
  made_from past c t last (outcome.Signal y) x spared l h = h
  made_from past c t last outcome.Undone x spared l h =
      subst (λ b. cond b (Some (nest_of plan c).undo) None ≡ Some x) (sym (l refl)) h
  made_from past c t last outcome.Aborted x spared l h = by_abort_of (newest (is_by kind.Abort c t) past) refl h
    where
      by_abort_of : (o : Option Entry) → newest (is_by kind.Abort c t) past ≡ o → abort_mapped plan c o ≡ Some x
          → made_of (nest_of plan c) last outcome.Aborted ≡ Some x
      by_abort_of None w h = absurd (some_apart h)
      by_abort_of (Some f) w h = absurd (both_ways _ spared (one_has kind.Abort past c t (newest_any (is_by kind.Abort c t) past f w)))
  made_from past c t last outcome.Failed x spared l h = h

  module _ (past : List Entry) (legal : LegalPast plan past) (all : AllEnd past) (p c t x : ℕ) (used : IsUsed past p c t) where
    -- t carries it out of the use as all do, or since it named it as it gave up
    abbrev pub CarriesIt : Type 0
    CarriesIt =
        (CanBeRaised plan (action_number plan p) (nested_use (nest_number plan c)) x
        × ((u : ℕ) → carried_by plan playable core past c u ≡ Some x))
        ⊎ CanBeRaised plan (action_number plan p) (given_up_use (nest_number plan c)) x

    role : member t (roles_of plan c) ≡ true
    role = role_inside plan playable.tree past legal t c used.here

    index : (j : ℕ) × (slice_get (alternates_of plan p (nest_number plan c)) j ≡ Some c)
    index = stands_at (alternates_of plan p (nest_number plan c)) c (playable.back p c used.up)

    turned : CanBeTried plan (action_number plan p) (nest_number plan c) index.0 (action_number plan c)
    turned = can_be_tried past legal all p c t index.0 used index.1

    same_use : nest_of plan c ≡ use_in (action_of plan (action_number plan p)) (nest_number plan c)
    same_use = use_is past legal p c t used

    -- nobody gave up in the place: the use raises it by itself
    kept_raises : (f : Entry) → newest (is_in kind.End c) past ≡ Some f → has kind.Abort past c ≡ false
        → is_left_in_silence plan past c ≡ false
        → mapped_by_outcome plan c (newest (is_by kind.Abort c t) past) (outcome_at f) ≡ Some x
        → CanRaise plan (action_number plan p) (nested_use (nest_number plan c)) x
    kept_raises f w spared aloud h =
        let k = nest_number plan c in
        let inner = use_in (action_of plan (action_number plan p)) k in
        let last : outcome_at f ≡ outcome.Undone → (suc index.0 == length (nest_of plan c).actions) ≡ true =
        λ how. subst (λ (n : NestRow). (suc index.0 == length n.actions) ≡ true)
        (sym (ap (nest_in plan k) used.up)) (is_last past p c index.0 f used.up index.1 w how aloud) in
        by_use (action_number plan p) k index.0 (action_number plan c) x (outcome_at f) turned (all c f w spared)
        (subst (λ (n : NestRow). made_of n (suc index.0 == length n.actions) (outcome_at f) ≡ Some x) same_use
        (made_from past c t (suc index.0 == length (nest_of plan c).actions) (outcome_at f) x spared last h))

    -- the roles gave up, and one named something
    abort_raises : HasOther p (nest_number plan c) → (o : Option Entry) → newest (is_by kind.Abort c t) past ≡ o
        → abort_mapped plan c o ≡ Some x → CanBeRaised plan (action_number plan p) (given_up_use (nest_number plan c)) x
    abort_raises (other, y, others, apart) None w h = absurd (some_apart h)
    abort_raises (other, y, others, apart) (Some g) w h =
        elim (chosen (g.mark == 1) (Some (map_signal plan c g.arg)) None (Some x) h) [
          | inl z ↦
              let k = nest_number plan c in
              let names : can_name (action_of plan (action_number plan c)) g.arg ≡ true =
              role_any plan planned c t (λ (row : RoleRow). names_at_abort g.arg row.abort) role (aborts plan past legal c t g w z.0) in
              let value : slice_index_or (use_in (action_of plan (action_number plan p)) k).maps g.arg 0 ≡ x =
              ap (λ (n : NestRow). slice_index_or n.maps g.arg 0) (sym same_use) ∙ some_same z.1 in
              subst (CanBeRaised plan (action_number plan p) (given_up_use k)) value
              (by_abort (action_number plan p) k index.0 (action_number plan c) g.arg other y turned others apart names)
          | inr z ↦ absurd (some_apart z.1)
        ]

    -- they gave up, and a restore was refused
    failure_raises : HasOther p (nest_number plan c) → is_empty (action_at plan c).objects ≡ false
        → (nest_of plan c).failure ≡ x → CanBeRaised plan (action_number plan p) (nested_use (nest_number plan c)) x
    failure_raises (other, y, others, apart) some value =
        let k = nest_number plan c in
        subst (CanBeRaised plan (action_number plan p) (nested_use k)) (ap (λ (n : NestRow). n.failure) (sym same_use) ∙ value)
        (by_failure (action_number plan p) k index.0 (action_number plan c) other y turned others apart
        (subst (λ (a : ActionRow). is_empty a.objects ≡ false) (planned.actions c t role) some))

    -- what t carries out of a place in which nobody gave up
    pub own_can : has kind.Abort past c ≡ false → is_left_in_silence plan past c ≡ false
        → outcome_mapped plan c (newest (is_in kind.End c) past) (newest (is_by kind.Abort c t) past) ≡ Some x
        → CanRaise plan (action_number plan p) (nested_use (nest_number plan c)) x
    own_can kept aloud h = by_end (newest (is_in kind.End c) past) refl h
      where
        by_end : (o : Option Entry) → newest (is_in kind.End c) past ≡ o
            → outcome_mapped plan c o (newest (is_by kind.Abort c t) past) ≡ Some x
            → CanRaise plan (action_number plan p) (nested_use (nest_number plan c)) x
        by_end None w h = absurd (some_apart h)
        by_end (Some f) w h = kept_raises f w kept aloud h

    -- and out of one in which the roles did
    gave_up_can : HaveOthers past → is_doomed plan past p ≡ false → has kind.Abort past c ≡ true
        → carried_by plan playable core past c t ≡ Some x → CarriesIt
    gave_up_can beside spared gave h = by_end (newest (is_in kind.End c) past) refl h
      where
        by_end : (o : Option Entry) → newest (is_in kind.End c) past ≡ o
            → outcome_mapped plan c o (newest (is_by kind.Abort c t) past) ≡ Some x → CarriesIt
        by_end None w h = absurd (some_apart h)
        by_end (Some f) w h = elim (given_up plan playable core planned past legal c f w gave) [
          | inl how ↦
              inr (abort_raises (beside c p gave used.up spared) (newest (is_by kind.Abort c t) past) refl
              (subst (λ o. mapped_by_outcome plan c (newest (is_by kind.Abort c t) past) o ≡ Some x) how h))
          | inr how ↦
              let failure : Some (nest_of plan c).failure ≡ Some x =
              subst (λ o. mapped_by_outcome plan c (newest (is_by kind.Abort c t) past) o ≡ Some x) how.0 h in
              inl (
                failure_raises (beside c p gave used.up spared) how.1 (some_same failure),
                λ u. rw (w, how.0) failure,
              )
        ]

    -- what t carries out of the place
    pub carried_can : HaveOthers past → is_doomed plan past p ≡ false → is_left_in_silence plan past c ≡ false
        → carried_by plan playable core past c t ≡ Some x → CarriesIt
    carried_can beside spared aloud h = elim (cases_Bool (has kind.Abort past c)) [
      | inl gave ↦ gave_up_can beside spared gave h
      | inr kept ↦
          inl (
            by_itself (action_number plan p) x (nested_use (nest_number plan c)) (own_can kept aloud h),
            λ u. alike plan playable core past c u t kept ∙ h,
          )
    ]
