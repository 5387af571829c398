-- What is raised in a place, whom it halts, and how it is resolved and handled.
use Rattle.std.proofs.Common.{◌≡◌, ℕ, ◌==◌, Bool, true, false, not, cond, ◌&&◌, ◌||◌, List, [], ◌∷◌, ◌++◌, Some, None, Option, refl, sym, ap, ◌∙◌, subst, arith, inl, inr, is_none}
use Rattle.std.specs.List.{list_all}
use Rattle.std.proofs.lemmas.Bool.{and_parts, and_from, or_cases, or_left, or_right, or_from, eqb-true, eq-eqb, false≢true, not-true, cases_Bool, false_from_ne_true, both_ways}
use Rattle.cover_table.specs.Cover.{IsLeastCover}
use Rattle.caa_base.specs.declared.written.entry.Entry.{Entry}
use Rattle.caa_base.specs.declared.written.entry.Kind.{Kind}
use Rattle.caa_base.specs.declared.written.entry.Kind.TheVariants as kind
use Rattle.place_plan.specs.Plans.PlanValue.{Plan}
use Rattle.caa_base.specs.Written.Lists.{member, is_empty, first_of}
use Rattle.place_plan.specs.Plans.Places.{around, parent, roles_of, plays_of, internal_of, handler_of}
use Rattle.place_plan.specs.RulesOfJournals.Entries.{is_by, has_by}
use Rattle.place_plan.specs.RulesOfJournals.Whereabouts.{inside, inside_after}
use Rattle.place_plan.specs.RulesOfJournals.Raising.{has_handled, raises_in, carries_into, exceptions_raised, is_raised, is_calm, is_hot, is_halted, all_are_halted, exception_resolved, exception_handled}
use Rattle.place_plan.specs.RulesOfJournals.Roles.{has_given, is_able, is_in_handler, is_handling, was_refused_in_handler, next_play}
use Rattle.place_plan.specs.RulesOfJournals.Rules.{Row, MayArrive, arrival}
use Rattle.place_plan.specs.RulesOfJournals.Journals.{LegalPast}
use Rattle.journal_laws.specs.Laws.{Holds}
use Rattle.journal_laws.proofs.Playable.{IsTree}
use Rattle.journal_laws.proofs.Core.{Raises}
use Rattle.caa_base.proofs.ListLemmas.{all_at, at_same, chosen, first_not_fails}
use Rattle.place_plan.proofs.OnPlans.PlaysRise.{plays_in}
use Rattle.place_plan.proofs.OnJournals.EntryKinds.{of_kind, both_same}
use Rattle.journal_laws.proofs.Tree.{arrives_in}
use Rattle.journal_laws.proofs.Busy.{IsBusy, AllBusy, all_busy, raised_stays}
use Rattle.journal_laws.proofs.InnerFirst.{round_round}
use Rattle.journal_laws.proofs.Options.{some_apart}
use Rattle.journal_laws.proofs.Newest.{stands_newest, handling_handled}
use Rattle.journal_laws.proofs.Phases.{calm_open, hot_open}

-- ---- small words

-- what all pass, all pass by a test that asks less
pub all_up : (f g : ℕ → Bool) (xs : List ℕ) → ((x : ℕ) → f x ≡ true → g x ≡ true) → list_all f xs ≡ true → list_all g xs ≡ true
all_up f g [] h w = refl
all_up f g (x ∷ xs) h w = let parts = and_parts _ _ w in and_from _ _ (h x parts.0) (all_up f g xs h parts.1)

-- two tests that don't both pass don't with one more
pub and_more : (a b c : Bool) → (a && c) ≡ false → ((a && b) && c) ≡ false
and_more false b c h = refl
and_more true false c h = refl
and_more true true c h = h

-- an entry that halts its maker raises, too
halting_raises : (b c d : Bool) (x : ℕ) (ys : List ℕ) → (d ≡ true → not (is_empty ys) ≡ true) → (b && c) || d ≡ true
    → not (is_empty (cond b (x ∷ []) [] ++ ys)) ≡ true
halting_raises true c d x ys ih h = refl
halting_raises false c d x ys ih h = ih h

-- t is neither halted in p nor in a handler there
abbrev pub IsAway : Plan → List Entry → ℕ → ℕ → Type 0
IsAway plan past p t = (is_halted plan past p t ≡ false) × (has_handled past p t ≡ false)

-- t is away in each place round the one that it is inside
abbrev AllAway : Plan → List Entry → ℕ → Option ℕ → Type 0
AllAway plan past t None = Unit {0}
AllAway plan past t (Some q) = (p : ℕ) → member p (around plan q) ≡ true → IsAway plan past p t

-- who arrives from no place arrives in a play
arrives_in_play : (plan : Plan) (past : List Entry) (e : Entry) → MayArrive plan past e → inside plan past e.by ≡ None
    → member e.place plan.plays ≡ true
arrives_in_play plan past e h here =
    let next : next_play plan past e.by ≡ Some e.place = subst (λ o. arrival plan past e.by o ≡ Some e.place) here h.leads in
    (plays_in plan e.by plan.plays e.place (first_not_fails (λ q. has_by kind.Arrive past q e.by) (plays_of plan e.by) e.place next).1).0

-- where nothing is raised, nobody is halted or in a handler
pub plain_calm : (plan : Plan) (past : List Entry) (p t : ℕ) → Raises plan past → is_raised plan past p ≡ false → IsAway plan past p t
plain_calm plan past p t core r = (
  false_from_ne_true _ (λ w. both_ways _ r (core.halts p t w)),
  false_from_ne_true _ (λ w.
      let some = stands_newest (is_by kind.Handle p t) past w in
      both_ways _ r (core.resolves p some.0 (core.handles p t some.0 some.1).0).1),
)

-- a put that is refused before a handler finds nothing raised
pub unhandled_fault : (plan : Plan) (past : List Entry) (t p : ℕ) → is_raised plan past p ≡ true
    → has_handled past p t ≡ false → is_able plan past p t ≡ true → ⊥
unhandled_fault plan past t p r f h =
    elim (or_cases (is_calm plan past p && not (has_given plan past p t))
    (is_hot plan past p && is_in_handler past p t) h) [
      | inl w ↦ both_ways _ (calm_open plan past p (and_parts (is_calm plan past p) _ w).0).1 r
      | inr w ↦
          both_ways _ f (handling_handled p t past
          (and_parts (is_handling past p t) (not (was_refused_in_handler past p t))
          (and_parts (is_hot plan past p) (is_in_handler past p t) w).1).0)
    ]

all_away : (plan : Plan) (past : List Entry) (t : ℕ) → Raises plan past → (o : Option ℕ) → inside plan past t ≡ o → AllAway plan past t o
all_away plan past t ih None w = tt
all_away plan past t ih (Some q) w = λ p m. ih.away p t q w m

module _ (plan : Plan) (tree : IsTree plan) where
  -- ---- who is inside

  -- who is inside a place has a role there
  pub role_inside : (past : List Entry) → LegalPast plan past → (t p : ℕ) → inside plan past t ≡ Some p → member t (roles_of plan p) ≡ true
  role_inside past legal t p w = (subst (AllBusy plan t past) w (all_busy plan tree past legal t)).0

  -- and is busy in each place round it
  pub busy_inside : (past : List Entry) → LegalPast plan past → (t p q : ℕ) → inside plan past t ≡ Some q
      → member p (around plan q) ≡ true → IsBusy plan p t past
  busy_inside past legal t p q w m = (subst (AllBusy plan t past) w (all_busy plan tree past legal t)).1 p m

  -- the place round another is round it
  pub parent_round : (c p : ℕ) → parent plan c ≡ Some p → member p (around plan c) ≡ true
  parent_round c p h = by_around (around plan c) h
    where
      by_around : (qs : List ℕ) → first_of qs ≡ Some p → member p qs ≡ true
      by_around [] h = absurd (some_apart h)
      by_around (q ∷ qs) h = let same : q ≡ p = cc in or_left _ _ (eq-eqb q p same)

  -- who arrives from a place finds it calm
  pub arrives_calm : (past : List Entry) (e : Entry) (q : ℕ) → MayArrive plan past e → inside plan past e.by ≡ Some q
      → is_calm plan past q && is_able plan past q e.by ≡ true
  arrives_calm past e q h w =
      let leads : arrival plan past e.by (Some q) ≡ Some e.place = subst (λ o. arrival plan past e.by o ≡ Some e.place) w h.leads in
      elim (chosen (is_calm plan past q && is_able plan past q e.by) _ _ _ leads) [ inl x ↦ x.0 | inr x ↦ absurd (some_apart x.1) ]

  -- ---- who is halted finds something raised

  halts_by : (past : List Entry) (k : Kind) (e : Entry) (p t : ℕ)
      → (is_halted plan past p t ≡ true → is_raised plan past p ≡ true) → Row k plan past (of_kind k e)
      → is_halted plan (of_kind k e ∷ past) p t ≡ true → is_raised plan (of_kind k e ∷ past) p ≡ true
  halts_by past kind.Raise e p t ih h w = halting_raises (e.place == p) (e.by == t) _ _ _ ih w
  halts_by past kind.PutFault e p t ih h w = halting_raises ((e.place == p) && not (has_handled past p e.by)) (e.by == t) _ _ _ ih w
  halts_by past kind.Leave e p t ih h w = halting_raises (carries_into plan p e) (e.by == t) _ _ _ ih w
  halts_by past kind.Inform e p t ih h w =
      elim (or_cases ((e.place == p) && (e.by == t)) (is_halted plan past p t) w) [
        | inl x ↦
            subst (λ a. is_raised plan past a ≡ true) (eqb-true e.place p (and_parts (e.place == p) (e.by == t) x).0)
            (hot_open plan past e.place h.when).1
        | inr x ↦ ih x
      ]
  halts_by past _ e p t ih h w = ih w

  -- ---- who is inside another place is away

  elsewhere : (past : List Entry) (e : Entry) (p t r : ℕ) → inside plan past e.by ≡ Some e.place
      → inside plan past t ≡ Some r → member p (around plan r) ≡ true → ((e.place == p) && (e.by == t)) ≡ false
  elsewhere past e p t r here w m = false_from_ne_true _ (λ x.
      let parts = and_parts (e.place == p) (e.by == t) x in
      let there : inside plan past t ≡ Some e.place = subst (λ a. inside plan past a ≡ Some e.place) (eqb-true e.by t parts.1) here in
      let same : e.place ≡ r = cc in
      let l = tree.above r p m in
      let other : e.place ≡ p = eqb-true e.place p parts.0 in
      omega arith)

  elsewhere_fault : (past : List Entry) (e : Entry) (p t r : ℕ) → inside plan past e.by ≡ Some e.place
      → inside plan past t ≡ Some r → member p (around plan r) ≡ true
      → (((e.place == p) && not (has_handled past p e.by)) && (e.by == t)) ≡ false
  elsewhere_fault past e p t r here w m = and_more (e.place == p) _ (e.by == t) (elsewhere past e p t r here w m)

  -- a leave halts its maker in the place round, and in none round that
  not_further : (e : Entry) (p r : ℕ) → parent plan e.place ≡ Some r → member p (around plan r) ≡ true → carries_into plan p e ≡ false
  not_further e p r w m = false_from_ne_true _ (λ x.
      let into : parent plan e.place ≡ Some p = at_same _ _ (and_parts _ (e.mark == 1) x).0 in
      let same : r ≡ p = cc in
      let l = tree.above r p m in
      omega arith)

  -- who goes out of a place is away from those round the place that it comes to
  went_out : (past : List Entry) (e : Entry) (t : ℕ) → AllAway plan past t (Some e.place) → (o : Option ℕ)
      → parent plan e.place ≡ o
      → AllAway plan past t o × ((p r : ℕ) → o ≡ Some r → member p (around plan r) ≡ true
      → carries_into plan p e ≡ false)
  went_out past e t a None w = (tt, λ p r s m. absurd (some_apart s))
  went_out past e t a (Some q) w = (
    λ p m. a p (round_round plan tree q p e.place (around plan e.place) refl (parent_round e.place q w) m),
    λ p r s m. not_further e p r (w ∙ s) m,
  )

  away_by : (past : List Entry) (k : Kind) (e : Entry) (t : ℕ) → LegalPast plan past → Raises plan past
      → Row k plan past (of_kind k e) → (o : Option ℕ) → inside plan past t ≡ o → AllAway plan past t o
      → AllAway plan (of_kind k e ∷ past) t (inside_after plan k e.place (e.by == t) o)
  away_by past kind.Arrive e t legal ih h o w a =
      elim (cases_Bool (e.by == t)) [
        | inl y ↦ rw y (came_in y o w a)
        | inr y ↦ rw y (still o a)
      ]
    where
      still : (o : Option ℕ) → AllAway plan past t o → AllAway plan (of_kind kind.Arrive e ∷ past) t o
      still None a = tt
      still (Some q) a = a

      came_in : (e.by == t) ≡ true → (o : Option ℕ) → inside plan past t ≡ o → AllAway plan past t o
          → AllAway plan (of_kind kind.Arrive e ∷ past) t (Some e.place)
      came_in y None w a =
          λ p m. absurd (false≢true
          (rw (tree.tops e.place (arrives_in_play plan past (of_kind kind.Arrive e) h (rw (eqb-true e.by t y) w)))
          at m))
      came_in y (Some q) w a =
          let here : inside plan past e.by ≡ Some q = rw (eqb-true e.by t y) w in
          let led = arrives_in plan tree past (of_kind kind.Arrive e) q h here in
          let calm = calm_open plan past q (and_parts (is_calm plan past q) _ (arrives_calm past (of_kind kind.Arrive e) q h here)).0 in
          λ p m.
          elim (or_cases (q == p) (member p (around plan q)) (rw led.0 at m)) [
            | inl x ↦ subst (λ b. IsAway plan past b t) (eqb-true q p x) (plain_calm plan past q t ih calm.1)
            | inr x ↦ a p x
          ]
  away_by past kind.Withdraw e t legal ih h o w a =
      elim (cases_Bool (e.by == t)) [
        | inl y ↦
            let here : Some e.place ≡ o = (sym h.here) ∙ rw (eqb-true e.by t y) w in
            let out = went_out past e t (subst (AllAway plan past t) (sym here) a) (parent plan e.place) refl in
            rw y (still (parent plan e.place) out.0)
        | inr y ↦ rw y (still o a)
      ]
    where
      still : (o : Option ℕ) → AllAway plan past t o → AllAway plan (of_kind kind.Withdraw e ∷ past) t o
      still None a = tt
      still (Some q) a = a
  away_by past kind.Leave e t legal ih h o w a =
      elim (cases_Bool (e.by == t)) [
        | inl y ↦
            let here : Some e.place ≡ o = (sym h.here) ∙ rw (eqb-true e.by t y) w in
            let out = went_out past e t (subst (AllAway plan past t) (sym here) a) (parent plan e.place) refl in
            rw y (left (parent plan e.place) out.0 out.1)
        | inr y ↦ rw y (still y o a)
      ]
    where
      left : (o : Option ℕ) → AllAway plan past t o
          → ((p r : ℕ) → o ≡ Some r → member p (around plan r) ≡ true → carries_into plan p e ≡ false)
          → AllAway plan (of_kind kind.Leave e ∷ past) t o
      left None a f = tt
      left (Some q) a f = λ p m. (rw (f p q refl m) (a p m).0, (a p m).1)

      still : (e.by == t) ≡ false → (o : Option ℕ) → AllAway plan past t o → AllAway plan (of_kind kind.Leave e ∷ past) t o
      still y None a = tt
      still y (Some q) a = λ p m. (or_from _ _ (other (carries_into plan p e) (e.by == t) y) (a p m).0, (a p m).1)
        where
          other : (b c : Bool) → c ≡ false → (b && c) ≡ false
          other false c h = refl
          other true c h = h
  away_by past kind.Raise e t legal ih h None w a = tt
  away_by past kind.Raise e t legal ih h (Some r) w a = λ p m. (or_from _ _ (elsewhere past e p t r h.here w m) (a p m).0, (a p m).1)
  away_by past kind.Inform e t legal ih h None w a = tt
  away_by past kind.Inform e t legal ih h (Some r) w a = λ p m. (or_from _ _ (elsewhere past e p t r h.here w m) (a p m).0, (a p m).1)
  away_by past kind.PutFault e t legal ih h None w a = tt
  away_by past kind.PutFault e t legal ih h (Some r) w a =
      λ p m. (or_from _ _ (elsewhere_fault past e p t r h.here w m) (a p m).0, (a p m).1)
  away_by past kind.Handle e t legal ih h None w a = tt
  away_by past kind.Handle e t legal ih h (Some r) w a = λ p m. ((a p m).0, or_from _ _ (elsewhere past e p t r h.here w m) (a p m).1)
  away_by past _ e t legal ih h None w a = tt
  away_by past _ e t legal ih h (Some r) w a = a

  -- ---- what is resolved

  -- in a place that is resolved nothing more is raised
  nothing_more : (past : List Entry) (k : Kind) (e : Entry) (p x : ℕ) → LegalPast plan past → Raises plan past
      → Row k plan past (of_kind k e) → exception_resolved past p ≡ Some x → raises_in plan past p (of_kind k e) k ≡ []
  nothing_more past kind.Raise e p x legal ih h w =
      rw (false_from_ne_true (e.place == p) (λ y.
      let same : e.place ≡ p = eqb-true e.place p y in
      let all = (ih.resolves p x w).0 in
      let role = subst (λ a. member e.by (roles_of plan a) ≡ true) same (role_inside past legal e.by e.place h.here) in
      both_ways _ (subst (λ a. is_halted plan past a e.by ≡ false) same h.running)
      (all_at (is_halted plan past p) (roles_of plan p) e.by all role))) refl
  nothing_more past kind.PutFault e p x legal ih h w =
      rw (false_from_ne_true ((e.place == p) && not (has_handled past p e.by)) (λ y.
      let parts = and_parts (e.place == p) _ y in
      let same : e.place ≡ p = eqb-true e.place p parts.0 in
      unhandled_fault plan past e.by p (ih.resolves p x w).1 (not-true _ parts.1)
      (subst (λ a. is_able plan past a e.by ≡ true) same h.can))) refl
  nothing_more past kind.Leave e p x legal ih h w =
      rw (false_from_ne_true (carries_into plan p e) (λ y.
      let into : member p (around plan e.place) ≡ true = parent_round e.place p (at_same _ _ (and_parts _ (e.mark == 1) y).0) in
      let all = (ih.resolves p x w).0 in
      let role = (busy_inside past legal e.by p e.place h.here into).role in
      both_ways _ (ih.away p e.by e.place h.here into).0 (all_at (is_halted plan past p) (roles_of plan p) e.by all role))) refl
  nothing_more past _ e p x legal ih h w = refl

  resolved_stays : (past : List Entry) (k : Kind) (e : Entry) (p x : ℕ) → LegalPast plan past → Raises plan past
      → Row k plan past (of_kind k e) → exception_resolved past p ≡ Some x
      → (all_are_halted plan (of_kind k e ∷ past) p ≡ true) × (is_raised plan (of_kind k e ∷ past) p ≡ true)
      × IsLeastCover (internal_of plan p) (exceptions_raised plan (of_kind k e ∷ past) p) x
  resolved_stays past k e p x legal ih h w =
      let was = ih.resolves p x w in (
        all_up (is_halted plan past p) (is_halted plan (of_kind k e ∷ past) p) (roles_of plan p) (λ t. or_right _ _) was.0,
        raised_stays plan p (of_kind k e) past was.1,
        rw (nothing_more past k e p x legal ih h w) was.2,
      )

  resolves_by : (past : List Entry) (k : Kind) (e : Entry) (p x : ℕ) → LegalPast plan past → Raises plan past
      → Row k plan past (of_kind k e) → exception_resolved (of_kind k e ∷ past) p ≡ Some x
      → (all_are_halted plan (of_kind k e ∷ past) p ≡ true) × (is_raised plan (of_kind k e ∷ past) p ≡ true)
      × IsLeastCover (internal_of plan p) (exceptions_raised plan (of_kind k e ∷ past) p) x
  resolves_by past kind.Resolve e p x legal ih h w =
      elim (chosen (e.place == p) _ _ _ w) [
        | inl y ↦
            let same : e.place ≡ p = eqb-true e.place p y.0 in
            let arg : e.arg ≡ x = cc in
            subst (λ a. (all_are_halted plan past a ≡ true) × (is_raised plan past a ≡ true)
            × IsLeastCover (internal_of plan a) (exceptions_raised plan past a) x) same (
              h.together,
              (hot_open plan past e.place h.when).1,
              subst (IsLeastCover (internal_of plan e.place) (exceptions_raised plan past e.place)) arg h.least,
            )
        | inr y ↦ resolved_stays past kind.Resolve e p x legal ih h y.1
      ]
  resolves_by past k e p x legal ih h w = resolved_stays past k e p x legal ih h w

  -- ---- what is handled

  handles_by : (past : List Entry) (k : Kind) (e : Entry) (p t x : ℕ) → Raises plan past → Row k plan past (of_kind k e)
      → exception_handled (of_kind k e ∷ past) p t ≡ Some x
      → (exception_resolved (of_kind k e ∷ past) p ≡ Some x) × (is_none (handler_of plan p t x) ≡ false)
  handles_by past kind.Handle e p t x ih h w =
      elim (chosen ((e.place == p) && (e.by == t)) _ _ _ w) [
        | inl y ↦
            let same = both_same e.place p e.by t y.0 in
            let arg : e.arg ≡ x = cc in (
              subst (λ a. exception_resolved past a ≡ Some x) same.0 (h.resolution ∙ ap Some arg),
              subst (λ a. is_none (handler_of plan p t a) ≡ false) arg
                  (subst (λ a. is_none (handler_of plan p a e.arg) ≡ false) same.1
                  (subst (λ a. is_none (handler_of plan a e.by e.arg) ≡ false) same.0 h.able_to)),
            )
        | inr y ↦ ih.handles p t x y.1
      ]
  handles_by past kind.Resolve e p t x ih h w =
      let was = ih.handles p t x w in
      let apart : (e.place == p) ≡ false =
      false_from_ne_true _ (λ y. let f = subst (λ a. exception_resolved past a ≡ None)
      (eqb-true e.place p y) h.fresh in some_apart ((sym f) ∙ was.0)) in
      (rw apart was.0, was.1)
  handles_by past _ e p t x ih h w = ih.handles p t x w

  -- ---- all of it

  raises_by : (past : List Entry) (k : Kind) (e : Entry) → LegalPast plan past → Raises plan past
      → Row k plan past (of_kind k e) → Raises plan (of_kind k e ∷ past)
  raises_by past k e legal ih h = record {
    halts = λ p t. halts_by past k e p t (ih.halts p t) h;
    away =
        λ p t q w. (subst (AllAway plan (of_kind k e ∷ past) t) w
        (away_by past k e t legal ih h (inside plan past t) refl
        (all_away plan past t ih (inside plan past t) refl))) p;
    resolves = λ p x. resolves_by past k e p x legal ih h;
    handles = λ p t x. handles_by past k e p t x ih h;
  }

  pub raises : Holds Raises plan
  raises [] legal = record {
    halts = λ p t w. absurd (false≢true w);
    away = λ p t q w. absurd (some_apart w);
    resolves = λ p x w. absurd (some_apart w);
    handles = λ p t x w. absurd (some_apart w);
  }
  raises (e ∷ past) legal = raises_by past e.kind e legal.0 (raises past legal.0) legal.1
