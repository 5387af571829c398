-- The last of the live places, where it is calm: a step or a verdict is due in it, or all agree, or the least of the places that
-- wait in it is full and starts.
use Rattle.std.proofs.Common.{◌≡◌, ℕ, ◌==◌, ◌<◌, ◌≤◌, true, false, List, [], ◌∷◌, Some, None, Option, length, refl, sym, ap, ◌∙◌, subst, arith, slice_get, inl, inr, ◌⊎◌}
use Rattle.std.proofs.lemmas.Bool.{or_cases, or_left, or_right, eqb-true, eq-eqb, false≢true, cases_lt, cases_order, true_from_ne_false, both_ways, cond-false}
use Rattle.std.proofs.lemmas.Option.{slice_get_within, slice_get-get_or}
use Rattle.caa_base.specs.declared.written.entry.Entry.{Entry}
use Rattle.caa_base.specs.declared.written.entry.Kind.TheVariants as kind
use Rattle.place_plan.specs.declared.drafts.draft_rows.Step.{Step}
use Rattle.place_plan.specs.declared.drafts.draft_rows.Step.TheVariants as step
use Rattle.place_plan.specs.Plans.PlanValue.{Plan}
use Rattle.caa_base.specs.Written.Lists.{member, first_of, same_option}
use Rattle.place_plan.specs.Plans.Places.{parent, roles_of, objects_of, nest_number, body_of}
use Rattle.place_plan.specs.RulesOfJournals.Entries.{has_by}
use Rattle.place_plan.specs.RulesOfJournals.Whereabouts.{inside, is_inside, has_started, has_ended, is_undoing, is_live}
use Rattle.place_plan.specs.RulesOfJournals.Raising.{has_handled, is_raised, is_doomed, is_calm}
use Rattle.place_plan.specs.RulesOfJournals.Objects.{holder_of}
use Rattle.place_plan.specs.RulesOfJournals.Roles.{position, next_step, next_raise, has_given}
use Rattle.place_plan.specs.RulesOfJournals.Rules.{place_entered}
use Rattle.place_plan.specs.RulesOfJournals.Journals.{LegalPast}
use Rattle.journal_laws.specs.Due.{due_hot, due_calm, due_body, due_forward, due_arrival}
use Rattle.journal_laws.proofs.Playable.{IsPlayable}
use Rattle.caa_base.proofs.ListLemmas.{all_from, same_at}
use Rattle.journal_laws.proofs.Holding.{ended_started}
use Rattle.journal_laws.proofs.Phases.{going_from, calm_from}
use Rattle.journal_laws.proofs.Raised.{parent_round}
use Rattle.journal_laws.proofs.Arrivals.{inside_arrived, inside_not_left, left_ended, parent_below}
use Rattle.journal_laws.proofs.Uses.{Uses, AtStep, body_step, calm_unhandled, uses_kept}
use Rattle.journal_laws.proofs.Visited.{done}
use Rattle.journal_laws.proofs.Room.{room, used_up}
use Rattle.journal_laws.proofs.Waiting.{NothingDue, not_due, not_ready}
use Rattle.journal_laws.proofs.LastLive.{WaitsIn, Stands, at_itself, at_child, started, lasts, stands, some_role, holds, step_due, agreed_due}

-- what stands in a list stands before its end
before_end : {A : Type 0} (xs : List A) (n m : ℕ) (x : A) → slice_get xs n ≡ Some x → slice_get xs m ≡ None → n < m
before_end xs n m x h k =
    let inner = slice_get_within xs n x h in
    elim (cases_lt m (length xs)) [
      | inl l ↦ absurd (let found = slice_get-get_or xs m x l in cc)
      | inr l ↦ omega arith
    ]

-- r is the least place that one of these roles of p waits in
pub record IsLowest (plan : Plan) (past : List Entry) (p : ℕ) (ts : List ℕ) (r : ℕ) : Type 0 where
  pub who : ℕ
  pub waits : WaitsIn plan past p who r
  pub least : (t s : ℕ) → member t ts ≡ true → WaitsIn plan past p t s → r ≤ s

module _ (plan : Plan) (playable : IsPlayable plan) (past : List Entry) (legal : LegalPast plan past) where
  -- who is in p itself waits in no place inside it
  not_both : (p t s : ℕ) → inside plan past t ≡ Some p → WaitsIn plan past p t s → ⊥
  not_both p t s w c =
      let there = c.place in
      let same : p ≡ s = cc in
      let below = parent_below plan playable.tree p s c.up in
      omega arith

  -- and in one place at most
  one_place : (p t r s : ℕ) → WaitsIn plan past p t r → WaitsIn plan past p t s → r ≡ s
  one_place p t r s c d = let a = c.place in let b = d.place in cc

  -- all these roles are in p, or one waits in the least of the places inside it
  lowest : (p : ℕ) (ts : List ℕ) → ((t : ℕ) → member t ts ≡ true → Stands plan past p t)
      → ((t : ℕ) → member t ts ≡ true → inside plan past t ≡ Some p) ⊎ ((r : ℕ) × IsLowest plan past p ts r)
  lowest p [] at = inl (λ t m. absurd (false≢true m))
  lowest p (u ∷ ts) at = by_standing (at u (or_left _ _ (eq-eqb u u refl))) (lowest p ts (λ t m. at t (or_right _ _ m)))
    where
      -- what holds of u and of the others
      each : (P : ℕ → Type 0) → P u → ((t : ℕ) → member t ts ≡ true → P t) → (t : ℕ) → member t (u ∷ ts) ≡ true → P t
      each P own rest t m = elim (or_cases (u == t) (member t ts) m) [
        | inl x ↦ subst P (eqb-true u t x) own
        | inr x ↦ rest t x
      ]

      by_standing : Stands plan past p u
          → ((t : ℕ) → member t ts ≡ true → inside plan past t ≡ Some p) ⊎ ((r : ℕ) × IsLowest plan past p ts r)
          → ((t : ℕ) → member t (u ∷ ts) ≡ true → inside plan past t ≡ Some p)
          ⊎ ((r : ℕ) × IsLowest plan past p (u ∷ ts) r)
      by_standing (at_itself w) (inl all) = inl (each (λ t. inside plan past t ≡ Some p) w all)
      by_standing (at_itself w) (inr (r, low)) = inr (
        r,
        record {
          who = low.who;
          waits = low.waits;
          least = λ t s m. each (λ t. WaitsIn plan past p t s → r ≤ s) (λ c. absurd (not_both p u s w c)) (λ t n. low.least t s n) t m;
        },
      )
      by_standing (at_child r c) (inl all) = inr (
        r,
        record {
          who = u;
          waits = c;
          least =
              λ t s m. each (λ t. WaitsIn plan past p t s → r ≤ s)
              (λ d. let same = one_place p u r s c d in omega arith) (λ t n d. absurd (not_both p t s (all t n) d)) t m;
        },
      )
      by_standing (at_child r c) (inr (q, low)) = elim (cases_lt r q) [
        | inl l ↦ inr (
          r,
          record {
            who = u;
            waits = c;
            least =
                λ t s m. each (λ t. WaitsIn plan past p t s → r ≤ s)
                (λ d. let same = one_place p u r s c d in omega arith)
                (λ t n d. let more = low.least t s n d in omega arith) t m;
          },
        )
        | inr l ↦ inr (
          q,
          record {
            who = low.who;
            waits = low.waits;
            least =
                λ t s m. each (λ t. WaitsIn plan past p t s → q ≤ s)
                (λ d. let same = one_place p u r s c d in omega arith) (λ t n. low.least t s n) t m;
          },
        )
      ]

module _ (plan : Plan) (playable : IsPlayable plan) (past : List Entry) (legal : LegalPast plan past)
    (still : NothingDue plan past) (p : ℕ) (live : is_live past p ≡ true)
    (last : (q : ℕ) → p < q → is_live past q ≡ false) (kept : is_undoing past p ≡ false)
    (spared : is_doomed plan past p ≡ false) (cool : is_raised plan past p ≡ false) where
  begun : has_started past p ≡ true
  begun = started plan playable past legal still p live last

  unended : has_ended past p ≡ false
  unended = lasts plan playable past legal still p live last

  calm : is_calm plan past p ≡ true
  calm =
      calm_from plan past p (record
      { goes = going_from past p unended begun kept; started = begun; lasts = unended; kept = kept; spared = spared })
      cool

  due : (t : ℕ) → inside plan past t ≡ Some p → due_calm plan past p t ≡ None
  due t w =
      sym (cond-false (is_raised plan past p) (due_hot plan past p t) (due_calm plan past p t) cool)
      ∙ rw (unended, begun, kept, spared) at (not_due plan playable past legal still t p w)

  -- ---- in the place itself

  -- who is in the place has given its verdict
  given : (t : ℕ) → inside plan past t ≡ Some p → has_given plan past p t ≡ true
  given t w = true_from_ne_false _ (λ n. by_raise (next_raise plan past p t) refl (rw n at (due t w)))
    where
      by_entry : (k : ℕ) (o : Option ℕ) → next_step plan past p t ≡ Some (step.Enter k)
          → place_entered plan past p t (Some (step.Enter k)) ≡ o → due_arrival t o ≡ None → ⊥
      by_entry k None n e d = room plan playable past legal p t k w calm n e
      by_entry k (Some q) n e d = cc

      by_step : (s : Option Step) → next_raise plan past p t ≡ None → next_step plan past p t ≡ s → due_forward plan past p t s ≡ None → ⊥
      by_step (Some (step.Enter k)) r n d = by_entry k (place_entered plan past p t (Some (step.Enter k))) n refl d
      by_step s r n d = step_due plan playable past legal still p live last t s n r refl d

      by_raise : (o : Option ℕ) → next_raise plan past p t ≡ o → due_body plan past p t o ≡ None → ⊥
      by_raise (Some x) r d = cc
      by_raise None r d = by_step (next_step plan past p t) r refl d

  -- and has done its body
  body_done : (t : ℕ) → inside plan past t ≡ Some p → next_step plan past p t ≡ None
  body_done t w = done plan playable.tree past legal p t cool (rw cool at (given t w))

  -- where all are in it, they agree
  not_together : ((t : ℕ) → member t (roles_of plan p) ≡ true → inside plan past t ≡ Some p) → ⊥
  not_together at =
      let some = some_role plan playable past legal still p live last in
      let w = at some.0 some.1 in
      agreed_due plan playable past legal still p live last some.0
      (all_from (has_given plan past p) (roles_of plan p) (λ t m. given t (at t m)))
      (rw (given some.0 w) at (due some.0 w))

  -- ---- in the least of the places that wait in it

  module _ (r : ℕ) (low : IsLowest plan past p (roles_of plan p) r) where
    came : has_by kind.Arrive past r low.who ≡ true
    came = inside_arrived plan playable.tree past legal r low.who low.waits.place

    -- the place has not ended, so nobody has left its use aloud
    not_ended : has_ended past r ≡ true → ⊥
    not_ended f = both_ways _ low.waits.waits (ended_started plan playable.tree past legal r f)

    -- nobody has passed the enter step of its use
    not_past : (t n : ℕ) → slice_get (body_of plan p t).steps n ≡ Some (step.Enter (nest_number plan r)) → n < position plan past p t → ⊥
    not_past t n entered below =
        let unhandled = calm_unhandled plan playable past legal p t calm in
        let aloud = (uses_kept plan playable past legal).passed p t n (nest_number plan r) unhandled below entered in
        let fits = playable.placed p (nest_number plan r) aloud.0 aloud.1 in
        not_ended (used_up plan playable past legal p aloud.0 r t low.who (ap first_of fits.0) low.waits.up fits.1 aloud.2 aloud.3 came)

    -- who waits in a later place inside p would be past that step, or have left this place
    not_later : (t s : ℕ) → member t (roles_of plan r) ≡ true → WaitsIn plan past p t s → r < s → ⊥
    not_later t s m c below = by_step (kept_there.at_step p s t c.up arrived unhandled)
      where
        unhandled : has_handled past p t ≡ false
        unhandled = calm_unhandled plan playable past legal p t calm

        kept_there : Uses plan past
        kept_there = uses_kept plan playable past legal

        arrived : has_by kind.Arrive past s t ≡ true
        arrived = inside_arrived plan playable.tree past legal s t c.place

        by_order : slice_get (body_of plan p t).steps (position plan past p t) ≡ Some (step.Enter (nest_number plan s))
            → (n : ℕ) → slice_get (body_of plan p t).steps n ≡ Some (step.Enter (nest_number plan r)) → ⊥
        by_order now n entered = elim (cases_order n (position plan past p t)) [
          | inl same ↦
              let here : slice_get (body_of plan p t).steps (position plan past p t)
              ≡ Some (step.Enter (nest_number plan r)) =
              subst (λ a. slice_get (body_of plan p t).steps a ≡ Some (step.Enter (nest_number plan r))) same
              entered in
              let one : nest_number plan r ≡ nest_number plan s = cc in
              not_ended (left_ended plan playable.tree past legal r t (kept_there.turn p r s t low.waits.up c.up one below arrived).0)
          | inr (inl before) ↦ not_past t n entered before
          | inr (inr after) ↦
              let uses = playable.in_order p t (position plan past p t) n (nest_number plan s) (nest_number plan r) after now entered in
              let wrong =
              playable.by_use p (nest_number plan s) (nest_number plan r) s r uses (playable.back p s c.up)
              (playable.back p r low.waits.up) in
              omega arith
        ]

        by_step : AtStep plan past p s t → ⊥
        by_step (inl x) = both_ways _ (inside_not_left plan playable.tree past legal s t c.place) x.0
        by_step (inr x) =
            let led = playable.leads p r t low.waits.up m in
            by_order (sym (body_step plan past p t unhandled) ∙ x.0) led.0 led.1

    -- so each of its roles is in it
    full : (t : ℕ) → member t (roles_of plan r) ≡ true → inside plan past t ≡ Some r
    full t m = by_standing (stands plan playable past legal still p live last t own)
      where
        own : member t (roles_of plan p) ≡ true
        own = playable.tree.roles_in p r t (parent_round plan playable.tree r p low.waits.up) m

        by_standing : Stands plan past p t → inside plan past t ≡ Some r
        by_standing (at_itself w) =
            let led = playable.leads p r t low.waits.up m in
            let unhandled = calm_unhandled plan playable past legal p t calm in
            absurd (not_past t led.0 led.1
            (before_end (body_of plan p t).steps led.0 (position plan past p t) _ led.1
            (sym (body_step plan past p t unhandled) ∙ body_done t w)))
        by_standing (at_child s c) = elim (cases_order r s) [
          | inl same ↦ c.place ∙ ap Some (sym same)
          | inr (inl below) ↦ absurd (not_later t s m c below)
          | inr (inr above) ↦ absurd (let least = low.least t s own c in omega arith)
        ]

    -- and it would start: p holds its objects
    not_full : ⊥
    not_full =
        not_ready plan playable past legal still low.who r low.waits.place low.waits.waits
        (all_from (is_inside plan past r) (roles_of plan r) (λ t m. same_at _ r (full t m)))
        (all_from (λ o. same_option (holder_of plan past o) (parent plan r)) (objects_of plan r) ready)
      where
        ready : (o : ℕ) → member o (objects_of plan r) ≡ true → same_option (holder_of plan past o) (parent plan r) ≡ true
        ready o m =
            let held =
            holds plan playable past legal still p live last o
            (playable.inherits p r o (parent_round plan playable.tree r p low.waits.up) m) in
            rw (held, low.waits.up) (eq-eqb p p refl)

  pub calm_due : ⊥
  calm_due = elim (lowest plan playable past legal p (roles_of plan p) (stands plan playable past legal still p live last)) [
    | inl all ↦ not_together all
    | inr low ↦ not_full low.0 low.1
  ]
