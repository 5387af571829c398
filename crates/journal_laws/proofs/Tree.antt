-- In a tree of places, the roles of a live place are in it, or in places inside it.
use Rattle.std.proofs.Common.{◌≡◌, ℕ, ◌==◌, Bool, true, false, cond, ◌&&◌, List, [], ◌∷◌, Some, None, Option, refl, subst, inl, inr, slice_get}
use Rattle.std.proofs.lemmas.Bool.{or_cases, or_left, or_right, or_parts, eqb-true, eq-eqb, false≢true, cases_Bool, both_ways}
use Rattle.caa_base.specs.declared.written.entry.Entry.{Entry}
use Rattle.caa_base.specs.declared.written.entry.Kind.{Kind}
use Rattle.caa_base.specs.declared.written.entry.Kind.TheVariants as kind
use Rattle.place_plan.specs.declared.drafts.draft_rows.Step.{Step}
use Rattle.place_plan.specs.declared.drafts.draft_rows.Step.TheVariants as step
use Rattle.place_plan.specs.Plans.PlanValue.{Plan}
use Rattle.caa_base.specs.Written.Lists.{member}
use Rattle.place_plan.specs.Plans.Places.{around, parent, roles_of, is_within, alternates_of}
use Rattle.place_plan.specs.RulesOfJournals.Entries.{has_by}
use Rattle.place_plan.specs.RulesOfJournals.Whereabouts.{inside, all_are_inside, is_inside, has_started, has_ended}
use Rattle.place_plan.specs.RulesOfJournals.Raising.{is_calm, exception_handled}
use Rattle.place_plan.specs.RulesOfJournals.Roles.{is_able, position, program_in, next_step}
use Rattle.place_plan.specs.RulesOfJournals.Rules.{Row, MayArrive, place_entered, arrival}
use Rattle.place_plan.specs.RulesOfJournals.Journals.{LegalPast}
use Rattle.journal_laws.proofs.Playable.{IsTree}
use Rattle.caa_base.proofs.ListLemmas.{all_at, at_same, chosen, first_not_fails}
use Rattle.place_plan.proofs.OnJournals.EntryKinds.{of_kind}

-- the place that t is in is p, or inside it
abbrev pub in_within : Plan → Option ℕ → ℕ → Bool
in_within plan None p = false
in_within plan (Some q) p = is_within plan q p

module _ (plan : Plan) (tree : IsTree plan) where
  -- the place that t enters from q is right inside q
  entered_in : (past : List Entry) (q t p : ℕ) (x : Option ℕ) (n : ℕ) (s : Option Step)
      → slice_get (program_in plan q t x).steps n ≡ s → place_entered plan past q t s ≡ Some p
      → (around plan p ≡ q ∷ around plan q) × (member t (roles_of plan p) ≡ true)
  entered_in past q t p x n None e h = absurd cc
  entered_in past q t p x n (Some (step.Enter k)) e h =
      tree.enters q t x n k e p (first_not_fails (λ c. has_by kind.Arrive past c t) (alternates_of plan q k) p h).1
  entered_in past q t p x n (Some (step.Read a)) e h = absurd cc
  entered_in past q t p x n (Some (step.Put a b)) e h = absurd cc
  entered_in past q t p x n (Some (step.Add a b)) e h = absurd cc
  entered_in past q t p x n (Some (step.Work a)) e h = absurd cc
  entered_in past q t p x n (Some (step.Check a b c)) e h = absurd cc
  entered_in past q t p x n (Some (step.Raise a)) e h = absurd cc

  pub arrives_in : (past : List Entry) (e : Entry) (q : ℕ) → MayArrive plan past e → inside plan past e.by ≡ Some q
      → (around plan e.place ≡ q ∷ around plan q) × (member e.by (roles_of plan e.place) ≡ true)
  arrives_in past e q h w =
      let leads : arrival plan past e.by (Some q) ≡ Some e.place = subst (λ o. arrival plan past e.by o ≡ Some e.place) w h.leads in
      elim (chosen (is_calm plan past q && is_able plan past q e.by) _ _ _ leads) [
        | inl x ↦
            entered_in past q e.by e.place (exception_handled past q e.by) (position plan past q e.by)
            (next_step plan past q e.by) refl x.1
        | inr x ↦ absurd cc
      ]

  -- one who goes into a place right inside q stays within what q is within
  deeper : (q r p : ℕ) → around plan r ≡ q ∷ around plan q → is_within plan q p ≡ true → is_within plan r p ≡ true
  deeper q r p a h = rw a (or_right (r == p) _ (from_within h))
    where
      from_within : is_within plan q p ≡ true → member p (q ∷ around plan q) ≡ true
      from_within h = h

  -- one who goes out of r, which is strictly within p, stays within p
  outer : (r p : ℕ) (qs : List ℕ) → around plan r ≡ qs → member p qs ≡ true → in_within plan (parent plan r) p ≡ true
  outer r p [] a m = absurd (false≢true m)
  outer r p (q ∷ qs) a m =
      let next = tree.chain r q qs a in
      rw (a, next) m

  -- where one goes out of another place than p, a role that was in p, or inside it, is so still
  went_out : (past : List Entry) (e : Entry) (t p : ℕ) → inside plan past e.by ≡ Some e.place → (e.place ≡ p → ⊥)
      → in_within plan (inside plan past t) p ≡ true
      → in_within plan (cond (e.by == t) (parent plan e.place) (inside plan past t)) p ≡ true
  went_out past e t p here other was = elim (cases_Bool (e.by == t)) [
    | inl y ↦
        let there : in_within plan (Some e.place) p ≡ true =
        subst (λ o. in_within plan o p ≡ true)
        (subst (λ a. inside plan past a ≡ Some e.place) (eqb-true e.by t y) here) was in
        elim (or_cases (e.place == p) (member p (around plan e.place)) there) [
          | inl x ↦ absurd (other (eqb-true e.place p x))
          | inr x ↦ rw y (outer e.place p (around plan e.place) refl x)
        ]
    | inr y ↦ rw y was
  ]

  -- the roles of a live place are in it, or in places inside it
  live_within_by : (past : List Entry) (k : Kind) (e : Entry) (t p : ℕ) → member t (roles_of plan p) ≡ true
      → (has_started past p ≡ true → has_ended past p ≡ false → in_within plan (inside plan past t) p ≡ true)
      → Row k plan past (of_kind k e) → has_started (of_kind k e ∷ past) p ≡ true
      → has_ended (of_kind k e ∷ past) p ≡ false → in_within plan (inside plan (of_kind k e ∷ past) t) p ≡ true
  live_within_by past kind.Arrive e t p m ih h s f =
      elim (cases_Bool (e.by == t)) [
        | inl y ↦ arrived (inside plan past t) refl (ih s f) y
        | inr y ↦ rw y (ih s f)
      ]
    where
      arrived : (o : Option ℕ) → inside plan past t ≡ o → in_within plan o p ≡ true → (e.by == t) ≡ true
          → in_within plan (cond (e.by == t) (Some e.place) (inside plan past t)) p ≡ true
      arrived None w i y = absurd (false≢true i)
      arrived (Some q) w i y = rw y (deeper q e.place p (arrives_in past (of_kind kind.Arrive e) q h (rw (eqb-true e.by t y) w)).0 i)
  live_within_by past kind.Withdraw e t p m ih h s f =
      went_out past e t p h.here (λ same. both_ways _ (subst (λ a. has_started past a ≡ false) same h.waits) s) (ih s f)
  live_within_by past kind.Leave e t p m ih h s f =
      went_out past e t p h.here (λ same. both_ways _ f (subst (λ a. has_ended past a ≡ true) same h.when)) (ih s f)
  live_within_by past kind.Start e t p m ih h s f =
      elim (or_cases _ _ s) [
        | inl x ↦
            let here : inside plan past t ≡ Some p =
            at_same _ _ (all_at (is_inside plan past p) (roles_of plan p) t
            (subst (λ a. all_are_inside plan past a ≡ true) (eqb-true e.place p x) h.together) m) in
            rw here (or_left _ _ (eq-eqb p p refl))
        | inr x ↦ ih x f
      ]
  live_within_by past kind.End e t p m ih h s f = ih s (or_parts _ _ f).1
  live_within_by past _ e t p m ih h s f = ih s f

  pub live_within : (past : List Entry) → LegalPast plan past → (t p : ℕ) → member t (roles_of plan p) ≡ true
      → has_started past p ≡ true → has_ended past p ≡ false → in_within plan (inside plan past t) p ≡ true
  live_within [] h t p m s f = absurd (false≢true s)
  live_within (e ∷ past) h t p m s f = live_within_by past e.kind e t p m (live_within past h.0 t p m) h.1 s f
