-- A place is given up only once all that ever starts inside it has ended.
use Rattle.std.proofs.Common.{◌≡◌, ℕ, ◌==◌, true, List, [], ◌∷◌, ◌++◌, Some, refl, sym, ap, ◌∙◌, subst, arith, inl, inr}
use Rattle.std.specs.List.{list_any, list_all}
use Rattle.std.proofs.lemmas.Bool.{or_cases, or_left, or_right, eqb-true, eq-eqb, false≢true, both_ways, true_from_ne_false}
use Rattle.caa_base.specs.declared.written.entry.Entry.{Entry}
use Rattle.caa_base.specs.declared.written.entry.Kind.{Kind}
use Rattle.caa_base.specs.declared.written.entry.Kind.TheVariants as kind
use Rattle.place_plan.specs.Plans.PlanValue.{Plan}
use Rattle.caa_base.specs.Written.Lists.{member}
use Rattle.place_plan.specs.Plans.Places.{around, roles_of}
use Rattle.place_plan.specs.RulesOfJournals.Entries.{is_in}
use Rattle.place_plan.specs.RulesOfJournals.Whereabouts.{inside, is_inside, has_started}
use Rattle.place_plan.specs.RulesOfJournals.Raising.{is_raised, is_doomed}
use Rattle.place_plan.specs.RulesOfJournals.Rules.{Row, MayAbort}
use Rattle.place_plan.specs.RulesOfJournals.Journals.{LegalPast}
use Rattle.journal_laws.specs.Laws.{Holds, InnerFirstLaw}
use Rattle.journal_laws.proofs.Playable.{IsTree}
use Rattle.caa_base.proofs.ListLemmas.{all_at, at_same}
use Rattle.place_plan.proofs.OnJournals.EntryKinds.{of_kind}
use Rattle.journal_laws.proofs.Tree.{live_within, in_within}
use Rattle.journal_laws.proofs.Busy.{doom_stays, all_busy, AllBusy}

-- what stood earlier is legal
pub legal_rest : (plan : Plan) (later past : List Entry) → LegalPast plan (later ++ past) → LegalPast plan past
legal_rest plan [] past h = h
legal_rest plan (e ∷ later) past h = legal_rest plan later past h.0

pub doom_after : (plan : Plan) (p : ℕ) (later past : List Entry) → is_doomed plan past p ≡ true → is_doomed plan (later ++ past) p ≡ true
doom_after plan p [] past h = h
doom_after plan p (e ∷ later) past h = doom_stays plan p e (later ++ past) (doom_after plan p later past h)

abort_row : (plan : Plan) (past : List Entry) (k : Kind) (e : Entry) (p : ℕ) → Row k plan past (of_kind k e)
    → is_in kind.Abort p (of_kind k e) ≡ true → MayAbort plan past (of_kind kind.Abort e) × (e.place ≡ p)
abort_row plan past kind.Abort e p h w = (h, eqb-true e.place p w)
abort_row plan past _ e p h w = absurd (false≢true w)

abort_no_start : (k : Kind) (e : Entry) (p q : ℕ) (past : List Entry) → is_in kind.Abort p (of_kind k e) ≡ true
    → has_started (of_kind k e ∷ past) q ≡ true → has_started past q ≡ true
abort_no_start kind.Abort e p q past w s = s
abort_no_start _ e p q past w s = absurd (false≢true w)

module _ (plan : Plan) (tree : IsTree plan) where
  pub round_round : (p r a : ℕ) (xs : List ℕ) → around plan a ≡ xs → member p xs ≡ true
      → member r (around plan p) ≡ true → member r xs ≡ true
  round_round p r a [] e m w = absurd (false≢true m)
  round_round p r a (y ∷ ys) e m w =
      let next = tree.chain a y ys e in
      elim (or_cases (y == p) (member p ys) m) [
        | inl x ↦ or_right _ _ (rw (sym (ap (around plan) (eqb-true y p x)) ∙ next) at w)
        | inr x ↦ or_right _ _ (round_round p r y ys next x w)
      ]

  doom_inside : (p q : ℕ) (past : List Entry) → member p (around plan q) ≡ true → is_doomed plan past p ≡ true
      → is_doomed plan past q ≡ true
  doom_inside p q past m h = go (around plan p) (λ r w. round_round p r q (around plan q) refl m w) h
    where
      has_any : (r : ℕ) (xs : List ℕ) → member r xs ≡ true → is_raised plan past r ≡ true → list_any (λ a. is_raised plan past a) xs ≡ true
      has_any r [] m h = absurd (false≢true m)
      has_any r (x ∷ xs) m h = elim (or_cases (x == r) (member r xs) m) [
        | inl e ↦ or_left _ _ (subst (λ a. is_raised plan past a ≡ true) (sym (eqb-true x r e)) h)
        | inr e ↦ or_right _ _ (has_any r xs e h)
      ]

      go : (ys : List ℕ) → ((r : ℕ) → member r ys ≡ true → member r (around plan q) ≡ true)
          → list_any (λ a. is_raised plan past a) ys ≡ true → is_doomed plan past q ≡ true
      go [] sub h = absurd (false≢true h)
      go (y ∷ ys) sub h = elim (or_cases (is_raised plan past y) (list_any (λ a. is_raised plan past a) ys) h) [
        | inl e ↦ has_any y (around plan q) (sub y (or_left _ _ (eq-eqb y y refl))) e
        | inr e ↦ go ys (λ r m. sub r (or_right _ _ m)) e
      ]

  -- what has started has a role
  started_filled_by : (past : List Entry) (k : Kind) (e : Entry) (q : ℕ) → LegalPast plan past
      → (has_started past q ≡ true → (t : ℕ) × (member t (roles_of plan q) ≡ true)) → Row k plan past (of_kind k e)
      → has_started (of_kind k e ∷ past) q ≡ true → (t : ℕ) × (member t (roles_of plan q) ≡ true)
  started_filled_by past kind.Start e q legal ih h s =
      elim (or_cases (e.place == q) (has_started past q) s) [
        | inl x ↦
            let busy : AllBusy plan e.by past (Some e.place) = subst (AllBusy plan e.by past) h.here (all_busy plan tree past legal e.by) in
            (e.by, subst (λ a. member e.by (roles_of plan a) ≡ true) (eqb-true e.place q x) busy.0)
        | inr x ↦ ih x
      ]
  started_filled_by past _ e q legal ih h s = ih s

  pub started_filled : (past : List Entry) → LegalPast plan past → (q : ℕ) → has_started past q ≡ true
      → (t : ℕ) × (member t (roles_of plan q) ≡ true)
  started_filled [] h q s = absurd (false≢true s)
  started_filled (e ∷ past) h q s = started_filled_by past e.kind e q h.0 (started_filled past h.0 q) h.1 s

  -- nothing starts in a doomed place
  not_started_later : (q : ℕ) (later past : List Entry) → LegalPast plan (later ++ past) → is_doomed plan past q ≡ true
      → has_started (later ++ past) q ≡ true → has_started past q ≡ true
  not_started_later q [] past l d s = s
  not_started_later q (e ∷ later) past l d s = by_kind e.kind e l.1 s (not_started_later q later past l.0 d)
    where
      by_kind : (k : Kind) (e : Entry) → Row k plan (later ++ past) (of_kind k e)
          → has_started (of_kind k e ∷ (later ++ past)) q ≡ true
          → (has_started (later ++ past) q ≡ true → has_started past q ≡ true) → has_started past q ≡ true
      by_kind kind.Start e h s ih = elim (or_cases (e.place == q) (has_started (later ++ past) q) s) [
        | inl x ↦
            absurd (both_ways _ h.spared
            (subst (λ a. is_doomed plan (later ++ past) a ≡ true) (sym (eqb-true e.place q x))
            (doom_after plan q later past d)))
        | inr x ↦ ih x
      ]
      by_kind _ e h s ih = ih s

  aborts_inner_first : (past : List Entry) → LegalPast plan past → InnerFirstLaw plan past
  aborts_inner_first past legal p q later before e split is m s =
      let here = legal_rest plan later (e ∷ before) (subst (LegalPast plan) split legal) in
      let found = abort_row plan before e.kind e p here.1 is in
      let may = found.0 in
      let doom : is_doomed plan before p ≡ true = subst (λ a. is_doomed plan before a ≡ true) found.1 may.doom in
      let inner : is_doomed plan (e ∷ before) q ≡ true = doom_stays plan q e before (doom_inside p q before m doom) in
      let was : has_started (e ∷ before) q ≡ true =
      not_started_later q later (e ∷ before) (subst (LegalPast plan) split legal) inner
      (subst (λ a. has_started a q ≡ true) split s) in
      true_from_ne_false _ (λ lasts.
      let some = started_filled before here.0 q (abort_no_start e.kind e p q before is was) in
      let own : member some.0 (roles_of plan p) ≡ true = tree.roles_in p q some.0 m some.1 in
      let there : inside plan before some.0 ≡ Some p =
      at_same _ _ (all_at (is_inside plan before p) (roles_of plan p) some.0
      (subst (λ a. list_all (is_inside plan before a) (roles_of plan a) ≡ true) found.1 may.together) own) in
      let deep : in_within plan (Some p) q ≡ true =
      subst (λ o. in_within plan o q ≡ true) there
      (live_within plan tree before here.0 some.0 q some.1 (abort_no_start e.kind e p q before is was) lasts) in
      elim (or_cases (p == q) (member q (around plan p)) deep) [
        | inl x ↦ (let l = tree.above q p m in omega (arith, eqb-true p q x))
        | inr x ↦ (let l = tree.above q p m in let k = tree.above p q x in omega arith)
      ])

-- the law itself
pub inner_first : (plan : Plan) → IsTree plan → Holds InnerFirstLaw plan
inner_first plan tree past legal = aborts_inner_first plan tree past legal
