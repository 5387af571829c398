-- Who is inside a place within p has nothing more to say in p: so p stays as it is until it comes back.
use Rattle.std.proofs.Common.{◌≡◌, ℕ, ◌==◌, Bool, true, false, not, cond, ◌&&◌, ◌||◌, List, [], ◌∷◌, ◌++◌, Some, None, Option, refl, sym, ◌∙◌, subst, arith, inl, inr}
use Rattle.std.specs.List.{list_any}
use Rattle.std.proofs.lemmas.Bool.{and_parts, and_from, or_cases, or_left, or_right, or_from, eqb-true, eq-eqb, false≢true, not-true, not_from_false, cases_Bool, false_from_ne_true, both_ways, MatchBool-at_false}
use Rattle.caa_base.specs.declared.written.entry.Entry.{Entry}
use Rattle.caa_base.specs.declared.written.entry.Kind.{Kind}
use Rattle.caa_base.specs.declared.written.entry.Kind.TheVariants as kind
use Rattle.place_plan.specs.Plans.PlanValue.{Plan}
use Rattle.caa_base.specs.Written.Lists.{member, is_empty, first_of}
use Rattle.place_plan.specs.Plans.Places.{around, parent, roles_of, plays_of}
use Rattle.place_plan.specs.RulesOfJournals.Entries.{is_in, is_by, has, has_by}
use Rattle.place_plan.specs.RulesOfJournals.Whereabouts.{inside, has_started, has_ended, is_undoing, is_live, is_going}
use Rattle.place_plan.specs.RulesOfJournals.Raising.{raises_in, exceptions_raised, is_raised, is_doomed, is_calm, is_hot}
use Rattle.place_plan.specs.RulesOfJournals.Roles.{has_given_after, has_given, all_have_given, is_in_handler, is_able, has_aborted, all_have_aborted, next_play}
use Rattle.place_plan.specs.RulesOfJournals.Rules.{Row, MayArrive, AskForUndo, HaveAgreed, EndsAgreed, MayEnd, arrival}
use Rattle.place_plan.specs.RulesOfJournals.Journals.{LegalPast}
use Rattle.journal_laws.proofs.Playable.{IsTree}
use Rattle.caa_base.proofs.ListLemmas.{all_at, chosen, first_not_fails}
use Rattle.place_plan.proofs.OnPlans.PlaysRise.{plays_in}
use Rattle.place_plan.proofs.OnJournals.EntryKinds.{of_kind}
use Rattle.journal_laws.proofs.Tree.{arrives_in}

-- something that was raised stays raised
pub raised_stays : (plan : Plan) (p : ℕ) (e : Entry) (past : List Entry) → is_raised plan past p ≡ true → is_raised plan (e ∷ past) p ≡ true
raised_stays plan p e past h = longer (raises_in plan past p e e.kind) (exceptions_raised plan past p) h
  where
    longer : (xs ys : List ℕ) → not (is_empty ys) ≡ true → not (is_empty (xs ++ ys)) ≡ true
    longer [] ys h = h
    longer (x ∷ xs) ys h = refl

pub any_up : (f g : ℕ → Bool) (xs : List ℕ) → ((x : ℕ) → f x ≡ true → g x ≡ true) → list_any f xs ≡ true → list_any g xs ≡ true
any_up f g [] h w = w
any_up f g (x ∷ xs) h w = elim (or_cases _ _ w) [ inl a ↦ or_left _ _ (h x a) | inr a ↦ or_right _ _ (any_up f g xs h a) ]

pub doom_stays : (plan : Plan) (p : ℕ) (e : Entry) (past : List Entry) → is_doomed plan past p ≡ true → is_doomed plan (e ∷ past) p ≡ true
doom_stays plan p e past h =
    any_up (λ q. is_raised plan past q) (λ q. is_raised plan (e ∷ past) q) (around plan p)
    (λ q. raised_stays plan q e past) h

given_has : (p t : ℕ) (past : List Entry) → has_given_after past p t ≡ true → has_by kind.Verdict past p t ≡ true
given_has p t [] h = absurd (false≢true h)
given_has p t (e ∷ past) h = by_tests (is_in kind.Resolve p e) (is_by kind.Verdict p t e) h (given_has p t past)
  where
    by_tests : (b c : Bool) → cond b false (cond c (has kind.Resolve past p) (has_given_after past p t)) ≡ true
        → (has_given_after past p t ≡ true → has_by kind.Verdict past p t ≡ true)
        → (c || has_by kind.Verdict past p t) ≡ true
    by_tests true c h ih = absurd (false≢true h)
    by_tests false true h ih = refl
    by_tests false false h ih = ih h

pub not_given : (plan : Plan) (p t : ℕ) (past : List Entry) → has_by kind.Verdict past p t ≡ false → has_given plan past p t ≡ false
not_given plan p t past h = by_raised (is_raised plan past p)
  where
    by_raised : (b : Bool) → cond b (has_given_after past p t) (has_by kind.Verdict past p t) ≡ false
    by_raised true = false_from_ne_true _ (λ g. both_ways _ h (given_has p t past g))
    by_raised false = h

-- t is at work inside a place within p
pub record IsBusy (plan : Plan) (p t : ℕ) (past : List Entry) : Type 0 where
  pub goes : is_going past p ≡ true
  pub silent : has_by kind.Verdict past p t ≡ false
  pub spared : has_by kind.Abort past p t ≡ false
  pub role : member t (roles_of plan p) ≡ true

abbrev pub AllBusy : Plan → ℕ → List Entry → Option ℕ → Type 0
AllBusy plan t past None = Unit {0}
AllBusy plan t past (Some q) = (member t (roles_of plan q) ≡ true) × ((p : ℕ) → member p (around plan q) ≡ true → IsBusy plan p t past)

module _ (plan : Plan) (tree : IsTree plan) where
  -- an abort stands only in a doomed place
  abort_doomed_by : (past : List Entry) (k : Kind) (e : Entry) (p t : ℕ)
      → (has_by kind.Abort past p t ≡ true → is_doomed plan past p ≡ true) → Row k plan past (of_kind k e)
      → has_by kind.Abort (of_kind k e ∷ past) p t ≡ true → is_doomed plan (of_kind k e ∷ past) p ≡ true
  abort_doomed_by past kind.Abort e p t ih h w =
      elim (or_cases _ _ w) [
        | inl x ↦
            doom_stays plan p (of_kind kind.Abort e) past
            (subst (λ a. is_doomed plan past a ≡ true)
            (eqb-true e.place p (and_parts (e.place == p) (e.by == t) x).0) h.doom)
        | inr x ↦ doom_stays plan p (of_kind kind.Abort e) past (ih x)
      ]
  abort_doomed_by past kind.Arrive e p t ih h w = doom_stays plan p (of_kind kind.Arrive e) past (ih w)
  abort_doomed_by past k e p t ih h w = doom_stays plan p (of_kind k e) past (ih w)

  pub abort_doomed : (past : List Entry) → LegalPast plan past → (p t : ℕ) → has_by kind.Abort past p t ≡ true
      → is_doomed plan past p ≡ true
  abort_doomed [] h p t w = absurd (false≢true w)
  abort_doomed (e ∷ past) h p t w = abort_doomed_by past e.kind e p t (abort_doomed past h.0 p t) h.1 w

  calm_parts : (p : ℕ) (past : List Entry) → is_calm plan past p ≡ true
      → (is_going past p ≡ true) × (is_doomed plan past p ≡ false) × (is_raised plan past p ≡ false)
  calm_parts p past h =
      let a = and_parts (is_going past p) (not (is_doomed plan past p) && not (is_raised plan past p)) h in
      let b = and_parts (not (is_doomed plan past p)) (not (is_raised plan past p)) a.1 in
      (a.0, not-true _ b.0, not-true _ b.1)

  -- who is able in a calm place has said nothing there
  able_silent : (q t : ℕ) (past : List Entry) → LegalPast plan past → member t (roles_of plan q) ≡ true
      → is_calm plan past q ≡ true → is_able plan past q t ≡ true → IsBusy plan q t past
  able_silent q t past legal m c a =
      let parts = calm_parts q past c in
      elim (or_cases (is_calm plan past q && not (has_given plan past q t)) (is_hot plan past q && is_in_handler past q t) a) [
        | inl x ↦ record {
          goes = parts.0;
          silent = rw parts.2 at (not-true _ (and_parts (is_calm plan past q) (not (has_given plan past q t)) x).1);
          spared = false_from_ne_true _ (λ w. both_ways _ parts.1 (abort_doomed past legal q t w));
          role = m;
        }
        | inr x ↦
            let warm =
            and_parts (is_going past q) (not (is_doomed plan past q) && is_raised plan past q)
            (and_parts (is_hot plan past q) (is_in_handler past q t) x).0 in
            absurd (both_ways _ parts.2 (and_parts (not (is_doomed plan past q)) (is_raised plan past q) warm.1).1)
      ]

  -- t has not agreed to undo p, so p is not undone or ended by agreement
  not_all_given : (p t : ℕ) (past : List Entry) → IsBusy plan p t past → all_have_given plan past p ≡ true → ⊥
  not_all_given p t past b h = both_ways _ (not_given plan p t past b.silent) (all_at (has_given plan past p) (roles_of plan p) t h b.role)

  not_agreed : (p t : ℕ) (past : List Entry) → IsBusy plan p t past → HaveAgreed plan past p → ⊥
  not_agreed p t past b h =
      let some_stay : all_have_aborted plan past p ≡ false =
      false_from_ne_true _ (λ w. both_ways _ b.spared (all_at (has_aborted past p) (roles_of plan p) t w b.role)) in
      let asked : AskForUndo plan past p = MatchBool-at_false _ _ some_stay h in
      not_all_given p t past b asked.agreed

  pub not_ending : (p t : ℕ) (past : List Entry) (e : Entry) → IsBusy plan p t past → e.place ≡ p → MayEnd plan past e → ⊥
  not_ending p t past e b same h =
      let calm_still : is_undoing past e.place ≡ false =
      subst (λ a. is_undoing past a ≡ false) (sym same)
      (not-true _ (and_parts (is_live past p) (not (is_undoing past p)) b.goes).1) in
      let ends : EndsAgreed plan past e = MatchBool-at_false _ _ calm_still h.how in
      not_all_given p t past b (subst (λ a. all_have_given plan past a ≡ true) same ends.agreed)

  pub live_of : (p : ℕ) (past : List Entry) → is_going past p ≡ true
      → (has_started past p ≡ true) × (has_ended past p ≡ false) × (is_undoing past p ≡ false)
  live_of p past h =
      let a = and_parts (is_live past p) (not (is_undoing past p)) h in
      let b = and_parts (has_started past p) (not (has_ended past p)) a.0 in
      (b.0, not-true _ b.1, not-true _ a.1)

  going_from : (p : ℕ) (past : List Entry) → has_started past p ≡ true → has_ended past p ≡ false
      → is_undoing past p ≡ false → is_going past p ≡ true
  going_from p past s f u =
      and_from (is_live past p) (not (is_undoing past p))
      (and_from (has_started past p) (not (has_ended past p)) s (not_from_false _ f)) (not_from_false _ u)

  -- t, inside r, stays busy in p through an entry that moves nobody out of r
  busy_on : (past : List Entry) (k : Kind) (e : Entry) (p t r : ℕ) → LegalPast plan past → inside plan past t ≡ Some r
      → (r ≡ p → ⊥) → IsBusy plan p t past → Row k plan past (of_kind k e) → IsBusy plan p t (of_kind k e ∷ past)
  busy_on past kind.Start e p t r legal here other b h =
      let l = live_of p past b.goes in
      record {
        goes = going_from p (of_kind kind.Start e ∷ past) (or_right _ _ l.0) l.1 l.2;
        silent = b.silent;
        spared = b.spared;
        role = b.role;
      }
  busy_on past kind.End e p t r legal here other b h =
      let l = live_of p past b.goes in
      let apart : (e.place == p) ≡ false =
      false_from_ne_true _ (λ x. not_ending p t past (of_kind kind.End e) b (eqb-true e.place p x) h) in
      record {
        goes = going_from p (of_kind kind.End e ∷ past) l.0 (or_from _ _ apart l.1) l.2;
        silent = b.silent;
        spared = b.spared;
        role = b.role;
      }
  busy_on past kind.Undo e p t r legal here other b h =
      let l = live_of p past b.goes in
      let apart : (e.place == p) ≡ false =
      false_from_ne_true _ (λ x. not_agreed p t past b
      (subst (λ a. HaveAgreed plan past a) (eqb-true e.place p x) h.agreed)) in
      record {
        goes = going_from p (of_kind kind.Undo e ∷ past) l.0 l.1 (or_from _ _ apart l.2);
        silent = b.silent;
        spared = b.spared;
        role = b.role;
      }
  busy_on past kind.Verdict e p t r legal here other b h =
      record { goes = b.goes; silent = or_from _ _ (elsewhere e.place e.by h.here) b.silent; spared = b.spared; role = b.role }
    where
      elsewhere : (q u : ℕ) → inside plan past u ≡ Some q → ((q == p) && (u == t)) ≡ false
      elsewhere q u w = false_from_ne_true _ (λ x.
          let parts = and_parts (q == p) (u == t) x in
          let there : inside plan past t ≡ Some q = subst (λ a. inside plan past a ≡ Some q) (eqb-true u t parts.1) w in
          let same : r ≡ q = cc in
          other (same ∙ eqb-true q p parts.0))
  busy_on past kind.Abort e p t r legal here other b h =
      record { goes = b.goes; silent = b.silent; spared = or_from _ _ (elsewhere e.place e.by h.here) b.spared; role = b.role }
    where
      elsewhere : (q u : ℕ) → inside plan past u ≡ Some q → ((q == p) && (u == t)) ≡ false
      elsewhere q u w = false_from_ne_true _ (λ x.
          let parts = and_parts (q == p) (u == t) x in
          let there : inside plan past t ≡ Some q = subst (λ a. inside plan past a ≡ Some q) (eqb-true u t parts.1) w in
          let same : r ≡ q = cc in
          other (same ∙ eqb-true q p parts.0))
  busy_on past _ e p t r legal here other b h = record { goes = b.goes; silent = b.silent; spared = b.spared; role = b.role }

  not_itself : (p q : ℕ) → member p (around plan q) ≡ true → q ≡ p → ⊥
  not_itself p q m same = let l = tree.above q p m in omega arith

  all_on : (past : List Entry) (k : Kind) (e : Entry) (t : ℕ) → LegalPast plan past → Row k plan past (of_kind k e)
      → (o : Option ℕ) → inside plan past t ≡ o → AllBusy plan t past o → AllBusy plan t (of_kind k e ∷ past) o
  all_on past k e t legal h None w b = tt
  all_on past k e t legal h (Some r) w b = (b.0, λ p m. busy_on past k e p t r legal w (not_itself p r m) (b.1 p m) h)

  came_in : (past : List Entry) (e : Entry) (t : ℕ) → LegalPast plan past → MayArrive plan past (of_kind kind.Arrive e)
      → (e.by == t) ≡ true → (o : Option ℕ) → inside plan past t ≡ o → AllBusy plan t past o
      → AllBusy plan t (of_kind kind.Arrive e ∷ past) (Some e.place)
  came_in past e t legal h own None w b =
      let here : inside plan past e.by ≡ None = rw (eqb-true e.by t own) w in
      let next : next_play plan past e.by ≡ Some e.place = subst (λ o. arrival plan past e.by o ≡ Some e.place) here h.leads in
      let found =
      plays_in plan e.by plan.plays e.place
      (first_not_fails (λ q. has_by kind.Arrive past q e.by) (plays_of plan e.by) e.place next).1 in (
        subst (λ a. member a (roles_of plan e.place) ≡ true) (eqb-true e.by t own) found.1,
        λ p m. absurd (false≢true (rw (tree.tops e.place found.0) at m)),
      )
  came_in past e t legal h own (Some q) w b =
      let here : inside plan past e.by ≡ Some q = rw (eqb-true e.by t own) w in
      let led = arrives_in plan tree past (of_kind kind.Arrive e) q h here in
      let leads : arrival plan past e.by (Some q) ≡ Some e.place = subst (λ o. arrival plan past e.by o ≡ Some e.place) here h.leads in
      let fit : (is_calm plan past q && is_able plan past q e.by) ≡ true =
      elim (chosen (is_calm plan past q && is_able plan past q e.by) _ _ _ leads) [
        | inl x ↦ x.0
        | inr x ↦ absurd
            cc
      ] in
      let parts = and_parts (is_calm plan past q) (is_able plan past q e.by) fit in
      let new = able_silent q t past legal b.0 parts.0 (subst (λ a. is_able plan past q a ≡ true) (eqb-true e.by t own) parts.1) in (
        subst (λ a. member a (roles_of plan e.place) ≡ true) (eqb-true e.by t own) led.1,
        λ p m.
            elim (or_cases (q == p) (member p (around plan q)) (rw led.0 at m)) [
              | inl x ↦ still p (subst (λ a. IsBusy plan a t past) (eqb-true q p x) new)
              | inr x ↦ still p (b.1 p x)
            ],
      )
    where
      still : (p : ℕ) → IsBusy plan p t past → IsBusy plan p t (of_kind kind.Arrive e ∷ past)
      still p b = record { goes = b.goes; silent = b.silent; spared = b.spared; role = b.role }

  -- out of r, into the place round it
  went_out : (past : List Entry) (t r : ℕ) → AllBusy plan t past (Some r) → AllBusy plan t past (parent plan r)
  went_out past t r b = by_around (around plan r) refl (tree.chain r)
    where
      by_around : (qs : List ℕ) → around plan r ≡ qs
          → ((q : ℕ) (rest : List ℕ) → around plan r ≡ q ∷ rest → around plan q ≡ rest)
          → AllBusy plan t past (first_of qs)
      by_around [] a next = tt
      by_around (q ∷ qs) a next =
          ((b.1 q (rw a (or_left _ _ (eq-eqb q q refl)))).role, λ p m. b.1 p (rw a (or_right _ _ (rw (next q qs a) at m))))

  busy_by : (past : List Entry) (k : Kind) (e : Entry) (t : ℕ) → LegalPast plan past
      → AllBusy plan t past (inside plan past t) → Row k plan past (of_kind k e)
      → AllBusy plan t (of_kind k e ∷ past) (inside plan (of_kind k e ∷ past) t)
  busy_by past kind.Arrive e t legal b h =
      elim (cases_Bool (e.by == t)) [
        | inl y ↦ rw y (came_in past e t legal h y (inside plan past t) refl b)
        | inr y ↦ rw y (all_on past kind.Arrive e t legal h (inside plan past t) refl b)
      ]
  busy_by past kind.Withdraw e t legal b h =
      elim (cases_Bool (e.by == t)) [
        | inl y ↦
            let here : inside plan past t ≡ Some e.place = rw (← eqb-true e.by t y) h.here in
            rw y (went_out (of_kind kind.Withdraw e ∷ past) t e.place
            (all_on past kind.Withdraw e t legal h (Some e.place) here (rw here at b)))
        | inr y ↦ rw y (all_on past kind.Withdraw e t legal h (inside plan past t) refl b)
      ]
  busy_by past kind.Leave e t legal b h =
      elim (cases_Bool (e.by == t)) [
        | inl y ↦
            let here : inside plan past t ≡ Some e.place = rw (← eqb-true e.by t y) h.here in
            rw y (went_out (of_kind kind.Leave e ∷ past) t e.place (all_on past kind.Leave e t legal h (Some e.place) here (rw here at b)))
        | inr y ↦ rw y (all_on past kind.Leave e t legal h (inside plan past t) refl b)
      ]
  busy_by past kind.Start e t legal b h = all_on past kind.Start e t legal h (inside plan past t) refl b
  busy_by past k e t legal b h = all_on past k e t legal h (inside plan past t) refl b

  -- in every legal past, each place round the one that t is in is going, and t has said nothing there
  pub all_busy : (past : List Entry) → LegalPast plan past → (t : ℕ) → AllBusy plan t past (inside plan past t)
  all_busy [] h t = tt
  all_busy (e ∷ past) h t = busy_by past e.kind e t h.0 (all_busy past h.0 t) h.1
