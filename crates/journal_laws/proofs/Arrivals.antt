-- Who arrived in a place stays in it, has left it, or has withdrawn from it.
use Rattle.std.proofs.Common.{◌≡◌, ℕ, ◌==◌, ◌<◌, Bool, true, false, cond, ◌&&◌, ◌||◌, List, [], ◌∷◌, Some, None, Option, refl, sym, ap, ◌∙◌, subst, subst₂, arith, inl, inr, ◌⊎◌}
use Rattle.std.specs.List.{list_any}
use Rattle.std.proofs.lemmas.Bool.{and_parts, or_cases, or_left, or_right, or_from, eqb-true, eq-eqb, false≢true, both_ways, false_from_ne_true}
use Rattle.caa_base.specs.declared.written.entry.Entry.{Entry}
use Rattle.caa_base.specs.declared.written.entry.Kind.{Kind}
use Rattle.caa_base.specs.declared.written.entry.Kind.TheVariants as kind
use Rattle.place_plan.specs.declared.drafts.draft_rows.Step.{Step}
use Rattle.place_plan.specs.declared.drafts.draft_rows.Step.TheVariants as step
use Rattle.place_plan.specs.Plans.PlanValue.{Plan}
use Rattle.caa_base.specs.Written.Lists.{member, first_of, first_not}
use Rattle.place_plan.specs.Plans.Places.{around, parent, roles_of, alternates_of, plays_of}
use Rattle.place_plan.specs.RulesOfJournals.Entries.{is_in, is_by, has, has_by}
use Rattle.place_plan.specs.RulesOfJournals.Whereabouts.{inside, stays, is_inside, all_are_inside, has_started, has_ended}
use Rattle.place_plan.specs.RulesOfJournals.Raising.{is_raised, is_doomed, is_calm}
use Rattle.place_plan.specs.RulesOfJournals.Roles.{next_step, is_able, next_play}
use Rattle.place_plan.specs.RulesOfJournals.Rules.{Row, MayArrive, place_entered, arrival}
use Rattle.place_plan.specs.RulesOfJournals.Journals.{LegalPast}
use Rattle.journal_laws.proofs.Playable.{IsTree}
use Rattle.caa_base.proofs.ListLemmas.{all_at, at_same, chosen, first_not_fails}
use Rattle.place_plan.proofs.OnPlans.PlaysRise.{plays_in}
use Rattle.place_plan.proofs.OnJournals.EntryKinds.{of_kind, both_same}
use Rattle.journal_laws.proofs.Tree.{in_within, arrives_in}
use Rattle.journal_laws.proofs.Phases.{calm_open}
use Rattle.journal_laws.proofs.Busy.{doom_stays}
use Rattle.journal_laws.proofs.Innermost.{stays_within, within_itself}

-- ---- how one arrives

-- t goes from q, where its next step enters use k, into p
pub record EntersUse (plan : Plan) (past : List Entry) (q t p k : ℕ) : Type 0 where
  pub calm : is_calm plan past q ≡ true
  pub able_to : is_able plan past q t ≡ true
  pub next : next_step plan past q t ≡ Some (step.Enter k)
  pub first : first_not (λ c. has_by kind.Arrive past c t) (alternates_of plan q k) ≡ Some p

entered_use : (plan : Plan) (past : List Entry) (q t p : ℕ) (s : Option Step) → place_entered plan past q t s ≡ Some p
    → (k : ℕ) × (s ≡ Some (step.Enter k))
    × (first_not (λ c. has_by kind.Arrive past c t) (alternates_of plan q k) ≡ Some p)
entered_use plan past q t p None h = absurd cc
entered_use plan past q t p (Some (step.Enter k)) h = (k, refl, h)
entered_use plan past q t p (Some (step.Read a)) h = absurd cc
entered_use plan past q t p (Some (step.Put a b)) h = absurd cc
entered_use plan past q t p (Some (step.Add a b)) h = absurd cc
entered_use plan past q t p (Some (step.Work a)) h = absurd cc
entered_use plan past q t p (Some (step.Check a b c)) h = absurd cc
entered_use plan past q t p (Some (step.Raise a)) h = absurd cc

-- who arrives from a place goes on with an enter step of it
pub enters_use : (plan : Plan) (past : List Entry) (e : Entry) (q : ℕ) → MayArrive plan past e
    → inside plan past e.by ≡ Some q → (k : ℕ) × EntersUse plan past q e.by e.place k
enters_use plan past e q h w =
    let leads : arrival plan past e.by (Some q) ≡ Some e.place = subst (λ o. arrival plan past e.by o ≡ Some e.place) w h.leads in
    elim (chosen (is_calm plan past q && is_able plan past q e.by) _ _ _ leads) [
      | inl x ↦
          let found = entered_use plan past q e.by e.place (next_step plan past q e.by) x.1 in
          let parts = and_parts (is_calm plan past q) (is_able plan past q e.by) x.0 in
          (found.0, record { calm = parts.0; able_to = parts.1; next = found.1; first = found.2 })
      | inr x ↦ absurd cc
    ]

-- who arrives from no place goes into its next play
pub begins_play : (plan : Plan) (past : List Entry) (e : Entry) → MayArrive plan past e → inside plan past e.by ≡ None
    → next_play plan past e.by ≡ Some e.place
begins_play plan past e h w = subst (λ o. arrival plan past e.by o ≡ Some e.place) w h.leads

-- the next play of t is a play with t
pub next_has : (plan : Plan) (past : List Entry) (t p : ℕ) → next_play plan past t ≡ Some p
    → (member p plan.plays ≡ true) × (member t (roles_of plan p) ≡ true)
next_has plan past t p h = plays_in plan t plan.plays p (first_not_fails (λ q. has_by kind.Arrive past q t) (plays_of plan t) p h).1

-- nobody arrives in a place twice
pub fresh : (plan : Plan) (past : List Entry) (e : Entry) → MayArrive plan past e → has_by kind.Arrive past e.place e.by ≡ false
fresh plan past e h = by_place (inside plan past e.by) refl
  where
    by_place : (o : Option ℕ) → inside plan past e.by ≡ o → has_by kind.Arrive past e.place e.by ≡ false
    by_place None w = (first_not_fails (λ p. has_by kind.Arrive past p e.by) (plays_of plan e.by) e.place (begins_play plan past e h w)).0
    by_place (Some q) w =
        let enters = enters_use plan past e q h w in
        (first_not_fails (λ c. has_by kind.Arrive past c e.by) (alternates_of plan q enters.0) e.place enters.1.first).0

-- who arrives has a role there
pub arrives_with_role : (plan : Plan) → IsTree plan → (past : List Entry) (e : Entry) → MayArrive plan past e
    → member e.by (roles_of plan e.place) ≡ true
arrives_with_role plan tree past e h = by_place (inside plan past e.by) refl
  where
    by_place : (o : Option ℕ) → inside plan past e.by ≡ o → member e.by (roles_of plan e.place) ≡ true
    by_place None w = (next_has plan past e.by e.place (begins_play plan past e h w)).1
    by_place (Some q) w = (arrives_in plan tree past e q h w).1

-- an entry of t in p is one in p
pub one_has : (k : Kind) (past : List Entry) (p t : ℕ) → has_by k past p t ≡ true → has k past p ≡ true
one_has k [] p t h = absurd (false≢true h)
one_has k (e ∷ past) p t h = elim (or_cases (is_by k p t e) (has_by k past p t) h) [
  | inl x ↦ or_left (is_in k p e) (has k past p) (and_parts (is_in k p e) (e.by == t) x).0
  | inr x ↦ or_right (is_in k p e) (has k past p) (one_has k past p t x)
]

-- ---- tests: x says that the entry is one of t in p; t stays there, has left it, has withdrawn, has arrived

stays_came : (s l w a : Bool) → s || l || w ≡ a → s ≡ true → a ≡ true
stays_came true l w a h e = sym h
stays_came false l w a h e = absurd (false≢true e)

none_came : (s l w a : Bool) → s || l || w ≡ a → a ≡ false → (l ≡ false) × (w ≡ false)
none_came true l w a h e = absurd cc
none_came false true w a h e = absurd cc
none_came false false true a h e = absurd cc
none_came false false false a h e = (refl, refl)

at_arrive : (x s l w a : Bool) → s || l || w ≡ a → cond x true s || l || w ≡ x || a
at_arrive true s l w a h = refl
at_arrive false s l w a h = h

at_withdraw : (x s l w a : Bool) → (x ≡ true → a ≡ true) → s || l || w ≡ a → cond x false s || l || (x || w) ≡ a
at_withdraw true s true w a own h = sym (own refl)
at_withdraw true s false w a own h = sym (own refl)
at_withdraw false s l w a own h = h

at_leave : (x s l w a : Bool) → (x ≡ true → a ≡ true) → s || l || w ≡ a → cond x false s || (x || l) || w ≡ a
at_leave true s l w a own h = sym (own refl)
at_leave false s l w a own h = h

elsewhere : (x s l w a : Bool) → s || l || w ≡ a → cond x s s || l || w ≡ a
elsewhere true s l w a h = h
elsewhere false s l w a h = h

-- t arrived in p: so it stays there, has left it, or has withdrawn
pub whereabouts : (s l w a : Bool) → s || l || w ≡ a → a ≡ true → (s ≡ true) ⊎ ((l ≡ true) ⊎ (w ≡ true))
whereabouts true l w a h e = inl refl
whereabouts false true w a h e = inr (inl refl)
whereabouts false false true a h e = inr (inr refl)
whereabouts false false false a h e = absurd cc

came_back : (s l w a : Bool) → s || l || w ≡ a → (l ≡ true) ⊎ (w ≡ true) → a ≡ true
came_back true l w a h e = sym h
came_back false true w a h e = sym h
came_back false false true a h e = sym h
came_back false false false a h (inl e) = absurd (false≢true e)
came_back false false false a h (inr e) = absurd (false≢true e)

module _ (plan : Plan) (tree : IsTree plan) where
  -- ---- coming and going

  pub inside_stays : (past : List Entry) → LegalPast plan past → (p t : ℕ) → inside plan past t ≡ Some p → stays past p t ≡ true
  inside_stays past legal p t w = stays_within plan tree past legal t p ∙ ap (λ o. in_within plan o p) w ∙ within_itself plan tree p

  came_by : (past : List Entry) (k : Kind) (e : Entry) (p t : ℕ) → LegalPast plan past
      → stays past p t || has_by kind.Leave past p t || has_by kind.Withdraw past p t ≡ has_by kind.Arrive past p t
      → Row k plan past (of_kind k e)
      → stays (of_kind k e ∷ past) p t || has_by kind.Leave (of_kind k e ∷ past) p t
      || has_by kind.Withdraw (of_kind k e ∷ past) p t ≡ has_by kind.Arrive (of_kind k e ∷ past) p t
  came_by past kind.Arrive e p t legal ih h = at_arrive ((e.place == p) && (e.by == t)) _ _ _ _ ih
  came_by past kind.Withdraw e p t legal ih h = at_withdraw ((e.place == p) && (e.by == t)) _ _ _ _ own ih
    where
      own : ((e.place == p) && (e.by == t)) ≡ true → has_by kind.Arrive past p t ≡ true
      own x = let same = both_same e.place p e.by t x in
          stays_came _ _ _ _ ih (subst₂ (λ a b. stays past a b ≡ true) same.0 same.1 (inside_stays past legal e.place e.by h.here))
  came_by past kind.Leave e p t legal ih h = at_leave ((e.place == p) && (e.by == t)) _ _ _ _ own ih
    where
      own : ((e.place == p) && (e.by == t)) ≡ true → has_by kind.Arrive past p t ≡ true
      own x = let same = both_same e.place p e.by t x in
          stays_came _ _ _ _ ih (subst₂ (λ a b. stays past a b ≡ true) same.0 same.1 (inside_stays past legal e.place e.by h.here))
  came_by past _ e p t legal ih h = elsewhere ((e.place == p) && (e.by == t)) _ _ _ _ ih

  -- who arrived stays, has left, or has withdrawn
  pub came : (past : List Entry) → LegalPast plan past → (p t : ℕ)
      → stays past p t || has_by kind.Leave past p t || has_by kind.Withdraw past p t ≡ has_by kind.Arrive past p t
  came [] h p t = refl
  came (e ∷ past) h p t = came_by past e.kind e p t h.0 (came past h.0 p t) h.1

  pub stays_arrived : (past : List Entry) → LegalPast plan past → (p t : ℕ) → stays past p t ≡ true → has_by kind.Arrive past p t ≡ true
  stays_arrived past legal p t s = stays_came _ _ _ _ (came past legal p t) s

  pub inside_arrived : (past : List Entry) → LegalPast plan past → (p t : ℕ) → inside plan past t ≡ Some p
      → has_by kind.Arrive past p t ≡ true
  inside_arrived past legal p t w = stays_arrived past legal p t (inside_stays past legal p t w)

  pub left_arrived : (past : List Entry) → LegalPast plan past → (p t : ℕ) → has_by kind.Leave past p t ≡ true
      → has_by kind.Arrive past p t ≡ true
  left_arrived past legal p t l = came_back _ _ _ _ (came past legal p t) (inl l)

  -- who has not arrived has neither left nor withdrawn
  pub not_arrived : (past : List Entry) → LegalPast plan past → (p t : ℕ) → has_by kind.Arrive past p t ≡ false
      → (has_by kind.Leave past p t ≡ false) × (has_by kind.Withdraw past p t ≡ false)
  not_arrived past legal p t a = none_came _ _ _ _ (came past legal p t) a

  gone_by : (past : List Entry) (k : Kind) (e : Entry) (p t : ℕ) → LegalPast plan past
      → (stays past p t ≡ true → (has_by kind.Leave past p t ≡ false) × (has_by kind.Withdraw past p t ≡ false))
      → Row k plan past (of_kind k e) → stays (of_kind k e ∷ past) p t ≡ true
      → (has_by kind.Leave (of_kind k e ∷ past) p t ≡ false) × (has_by kind.Withdraw (of_kind k e ∷ past) p t ≡ false)
  gone_by past kind.Arrive e p t legal ih h s = elim (chosen ((e.place == p) && (e.by == t)) _ _ _ s) [
    | inl x ↦
        let same = both_same e.place p e.by t x.0 in
        not_arrived past legal p t
        (subst₂ (λ a b. has_by kind.Arrive past a b ≡ false) same.0 same.1
        (fresh plan past (of_kind kind.Arrive e) h))
    | inr x ↦ ih x.1
  ]
  gone_by past kind.Withdraw e p t legal ih h s = elim (chosen ((e.place == p) && (e.by == t)) _ _ _ s) [
    | inl x ↦ absurd (false≢true x.1)
    | inr x ↦ ((ih x.1).0, or_from _ _ x.0 (ih x.1).1)
  ]
  gone_by past kind.Leave e p t legal ih h s = elim (chosen ((e.place == p) && (e.by == t)) _ _ _ s) [
    | inl x ↦ absurd (false≢true x.1)
    | inr x ↦ (or_from _ _ x.0 (ih x.1).0, (ih x.1).1)
  ]
  gone_by past _ e p t legal ih h s = elim (chosen ((e.place == p) && (e.by == t)) _ _ _ s) [ inl x ↦ ih x.1 | inr x ↦ ih x.1 ]

  -- who stays has neither left nor withdrawn
  pub gone : (past : List Entry) → LegalPast plan past → (p t : ℕ) → stays past p t ≡ true
      → (has_by kind.Leave past p t ≡ false) × (has_by kind.Withdraw past p t ≡ false)
  gone [] h p t s = absurd (false≢true s)
  gone (e ∷ past) h p t s = gone_by past e.kind e p t h.0 (gone past h.0 p t) h.1 s

  pub inside_not_left : (past : List Entry) → LegalPast plan past → (p t : ℕ) → inside plan past t ≡ Some p
      → has_by kind.Leave past p t ≡ false
  inside_not_left past legal p t w = (gone past legal p t (inside_stays past legal p t w)).0

  -- ---- what is left has ended, what is withdrawn from never starts, and in what starts all have arrived

  left_by : (past : List Entry) (k : Kind) (e : Entry) (p : ℕ)
      → (has kind.Leave past p ≡ true → has_ended past p ≡ true) → Row k plan past (of_kind k e)
      → has kind.Leave (of_kind k e ∷ past) p ≡ true → has_ended (of_kind k e ∷ past) p ≡ true
  left_by past kind.End e p ih h w = or_right _ _ (ih w)
  left_by past kind.Leave e p ih h w = elim (or_cases (e.place == p) (has kind.Leave past p) w) [
    | inl x ↦ subst (λ a. has_ended past a ≡ true) (eqb-true e.place p x) h.when
    | inr x ↦ ih x
  ]
  left_by past _ e p ih h w = ih w

  pub left : (past : List Entry) → LegalPast plan past → (p : ℕ) → has kind.Leave past p ≡ true → has_ended past p ≡ true
  left [] h p w = absurd (false≢true w)
  left (e ∷ past) h p w = left_by past e.kind e p (left past h.0 p) h.1 w

  pub left_ended : (past : List Entry) → LegalPast plan past → (p t : ℕ) → has_by kind.Leave past p t ≡ true → has_ended past p ≡ true
  left_ended past legal p t w = left past legal p (one_has kind.Leave past p t w)

  withdrew_by : (past : List Entry) (k : Kind) (e : Entry) (p t : ℕ)
      → (has_by kind.Withdraw past p t ≡ true → (is_doomed plan past p ≡ true) × (has_started past p ≡ false))
      → Row k plan past (of_kind k e) → has_by kind.Withdraw (of_kind k e ∷ past) p t ≡ true
      → (is_doomed plan (of_kind k e ∷ past) p ≡ true) × (has_started (of_kind k e ∷ past) p ≡ false)
  withdrew_by past kind.Withdraw e p t ih h w = elim (or_cases ((e.place == p) && (e.by == t)) (has_by kind.Withdraw past p t) w) [
    | inl x ↦
        let same = both_same e.place p e.by t x in (
          doom_stays plan p (of_kind kind.Withdraw e) past (subst (λ a. is_doomed plan past a ≡ true) same.0 h.doom),
          subst (λ a. has_started past a ≡ false) same.0 h.waits,
        )
    | inr x ↦ (doom_stays plan p (of_kind kind.Withdraw e) past (ih x).0, (ih x).1)
  ]
  withdrew_by past kind.Start e p t ih h w =
      let apart : (e.place == p) ≡ false =
      false_from_ne_true _ (λ x. both_ways _ h.spared
      (subst (λ a. is_doomed plan past a ≡ true) (sym (eqb-true e.place p x)) (ih w).0)) in
      (doom_stays plan p (of_kind kind.Start e) past (ih w).0, or_from _ _ apart (ih w).1)
  withdrew_by past k e p t ih h w = (doom_stays plan p (of_kind k e) past (ih w).0, (ih w).1)

  pub withdrew : (past : List Entry) → LegalPast plan past → (p t : ℕ) → has_by kind.Withdraw past p t ≡ true
      → (is_doomed plan past p ≡ true) × (has_started past p ≡ false)
  withdrew [] h p t w = absurd (false≢true w)
  withdrew (e ∷ past) h p t w = withdrew_by past e.kind e p t (withdrew past h.0 p t) h.1 w

  whole_by : (past : List Entry) (k : Kind) (e : Entry) (p t : ℕ) → LegalPast plan past
      → member t (roles_of plan p) ≡ true → (has_started past p ≡ true → has_by kind.Arrive past p t ≡ true)
      → Row k plan past (of_kind k e) → has_started (of_kind k e ∷ past) p ≡ true
      → has_by kind.Arrive (of_kind k e ∷ past) p t ≡ true
  whole_by past kind.Arrive e p t legal m ih h w = or_right _ _ (ih w)
  whole_by past kind.Start e p t legal m ih h w = elim (or_cases (e.place == p) (has_started past p) w) [
    | inl x ↦
        let here : inside plan past t ≡ Some p =
        at_same _ _ (all_at (is_inside plan past p) (roles_of plan p) t
        (subst (λ a. all_are_inside plan past a ≡ true) (eqb-true e.place p x) h.together) m) in
        inside_arrived past legal p t here
    | inr x ↦ ih x
  ]
  whole_by past _ e p t legal m ih h w = ih w

  pub whole : (past : List Entry) → LegalPast plan past → (p t : ℕ) → has_started past p ≡ true
      → member t (roles_of plan p) ≡ true → has_by kind.Arrive past p t ≡ true
  whole [] h p t w m = absurd (false≢true w)
  whole (e ∷ past) h p t w m = whole_by past e.kind e p t h.0 m (λ s. whole past h.0 p t s m) h.1 w

  -- ---- who is back

  -- the places round c are its parent and those round that
  pub around_parent : (p c : ℕ) → parent plan c ≡ Some p → around plan c ≡ p ∷ around plan p
  around_parent p c h = by_around (around plan c) refl h
    where
      by_around : (qs : List ℕ) → around plan c ≡ qs → first_of qs ≡ Some p → around plan c ≡ p ∷ around plan p
      by_around [] a h = absurd cc
      by_around (q ∷ qs) a h =
          let same : q ≡ p = cc in
          let next : around plan p ≡ qs = subst (λ b. around plan b ≡ qs) same (tree.chain c q qs a) in
          cc

  pub parent_below : (p c : ℕ) → parent plan c ≡ Some p → p < c
  parent_below p c h = tree.above c p (rw (around_parent p c h) (or_left _ _ (eq-eqb p p refl)))

  -- who is inside a calm place has left each place right inside it in which it arrived
  pub settled : (past : List Entry) → LegalPast plan past → (p c t : ℕ) → inside plan past t ≡ Some p
      → is_calm plan past p ≡ true → parent plan c ≡ Some p → has_by kind.Arrive past c t ≡ true
      → has_by kind.Leave past c t ≡ true
  settled past legal p c t w calm up a =
      elim (whereabouts _ _ _ _ (came past legal c t) a) [
        | inl s ↦
            let there : (p == c) || member c (around plan p) ≡ true =
            sym (stays_within plan tree past legal t c ∙ ap (λ o. in_within plan o c) w) ∙ s in
            absurd (elim (or_cases (p == c) (member c (around plan p)) there) [
              | inl x ↦ (let l = parent_below p c up in omega (arith, eqb-true p c x))
              | inr x ↦ (let l = parent_below p c up in let m = tree.above p c x in omega arith)
            ])
        | inr (inl l) ↦ l
        | inr (inr d) ↦
            let phase = calm_open plan past p calm in
            let doomed : is_raised plan past p || is_doomed plan past p ≡ true =
            subst (λ qs. list_any (λ q. is_raised plan past q) qs ≡ true) (around_parent p c up)
            (withdrew past legal c t d).0 in
            absurd (elim (or_cases (is_raised plan past p)
            (is_doomed plan past p) doomed) [
              | inl x ↦ both_ways _ phase.1 x
              | inr x ↦
                  both_ways _ phase.0.spared x
            ])
      ]
