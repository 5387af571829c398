-- Where no participant has an entry and no place is live, all are over: a play that waits would start.
use Rattle.std.proofs.Common.{◌≡◌, ℕ, ◌<◌, true, false, List, [], ◌∷◌, Some, None, Option, length, refl, sym, ap, ◌∙◌, subst, inl, inr}
use Rattle.std.proofs.lemmas.Bool.{and_parts, or_left, eq-eqb, cases_order, false_from_ne_true, both_ways}
use Rattle.caa_base.specs.declared.written.entry.Entry.{Entry}
use Rattle.caa_base.specs.declared.written.entry.Kind.TheVariants as kind
use Rattle.place_plan.specs.Plans.PlanValue.{Plan}
use Rattle.caa_base.specs.Written.Lists.{member, same_option, is_empty, first_of, first_not}
use Rattle.place_plan.specs.Plans.Places.{around, parent, roles_of, objects_of, uses, plays_of}
use Rattle.place_plan.specs.RulesOfJournals.Entries.{has_by}
use Rattle.place_plan.specs.RulesOfJournals.Whereabouts.{inside, is_inside, all_are_inside, has_started, has_ended, is_live}
use Rattle.place_plan.specs.RulesOfJournals.Raising.{is_doomed}
use Rattle.place_plan.specs.RulesOfJournals.Objects.{holder_of, objects_are_ready}
use Rattle.place_plan.specs.RulesOfJournals.Roles.{next_play}
use Rattle.place_plan.specs.RulesOfJournals.Journals.{LegalPast, AllOver}
use Rattle.journal_laws.specs.Due.{due_of, due_at, due_inside, due_arrival}
use Rattle.journal_laws.proofs.Playable.{IsPlayable}
use Rattle.caa_base.proofs.ListLemmas.{all_from, same_at, first_not_fails, first_not_none, first_not_before}
use Rattle.place_plan.proofs.OnPlans.PlaysRise.{in_plays}
use Rattle.journal_laws.proofs.Lives.{live_from, going_live}
use Rattle.journal_laws.proofs.Tree.{in_within}
use Rattle.journal_laws.proofs.Innermost.{within_itself}
use Rattle.journal_laws.proofs.Holding.{holds_within, ended_started}
use Rattle.journal_laws.proofs.Raised.{role_inside, busy_inside}
use Rattle.journal_laws.proofs.Arrivals.{inside_arrived, left_ended}
use Rattle.journal_laws.proofs.Visited.{outside_left, plays_kept}
use Rattle.journal_laws.proofs.Over.{over_from}

-- a list that isn't empty has a member
pub some_member : (ts : List ℕ) → is_empty ts ≡ false → (t : ℕ) × (member t ts ≡ true)
some_member [] h = absurd cc
some_member (t ∷ ts) h = (t, or_left _ _ (eq-eqb t t refl))

-- nothing is due to any participant
abbrev pub NothingDue : Plan → List Entry → Type 0
NothingDue plan past = (t : ℕ) → t < length plan.participants → due_of plan past t ≡ None

module _ (plan : Plan) (playable : IsPlayable plan) (past : List Entry) (legal : LegalPast plan past) (still : NothingDue plan past) where
  -- ---- what isn't due

  pub not_due : (t p : ℕ) → inside plan past t ≡ Some p → due_inside plan past p t ≡ None
  not_due t p w =
      subst (λ o. due_at plan past t o ≡ None) w
      (still t (playable.known p t (role_inside plan playable.tree past legal t p w)))

  -- who is in a place would leave it once it has ended
  pub inside_lasts : (t p : ℕ) → inside plan past t ≡ Some p → has_ended past p ≡ false
  inside_lasts t p w = false_from_ne_true _ (λ f. cc (rw f at (not_due t p w)))

  -- a place that waits would be left where it is doomed, and would start where all is there
  pub waiting_spared : (t p : ℕ) → inside plan past t ≡ Some p → has_started past p ≡ false → is_doomed plan past p ≡ false
  waiting_spared t p w s = false_from_ne_true _ (λ d. cc (rw (inside_lasts t p w, s, d) at (not_due t p w)))

  pub not_ready : (t p : ℕ) → inside plan past t ≡ Some p → has_started past p ≡ false
      → all_are_inside plan past p ≡ true → objects_are_ready plan past p ≡ true → ⊥
  not_ready t p w s a o = cc (rw (inside_lasts t p w, s, waiting_spared t p w s, a, o) at (not_due t p w))

  -- who is in no place would arrive in its next play
  outside_done : (t : ℕ) → t < length plan.participants → inside plan past t ≡ None → next_play plan past t ≡ None
  outside_done t l w = by_next (next_play plan past t) refl (subst (λ o. due_at plan past t o ≡ None) w (still t l))
    where
      by_next : (o : Option ℕ) → next_play plan past t ≡ o → due_arrival t (next_play plan past t) ≡ None → o ≡ None
      by_next None n d = refl
      by_next (Some p) n d = absurd (cc (rw n at d))

  pub not_started : (t p : ℕ) → inside plan past t ≡ Some p → is_live past p ≡ false → has_started past p ≡ false
  not_started t p w dead = false_from_ne_true _ (λ s. both_ways _ dead (live_from p past s (inside_lasts t p w)))

  -- who holds an object is live
  pub holder_live : (o p : ℕ) → holder_of plan past o ≡ Some p → is_live past p ≡ true
  holder_live o p h =
      (and_parts (is_live past p) (uses plan p o)
      (holds_within plan playable.tree past legal o p ∙ ap (λ a. in_within plan a p) h
      ∙ within_itself plan playable.tree p)).0

  -- ---- where no place is live

  module _ (dead : (p : ℕ) → is_live past p ≡ false) where
    -- who is in a place is in a play
    in_play : (t p : ℕ) → inside plan past t ≡ Some p → (member p plan.plays ≡ true) × (around plan p ≡ [])
    in_play t p w = by_around (around plan p) refl
      where
        by_around : (qs : List ℕ) → around plan p ≡ qs → (member p plan.plays ≡ true) × (around plan p ≡ [])
        by_around [] a = (playable.topped p t a (role_inside plan playable.tree past legal t p w), a)
        by_around (q ∷ qs) a =
            let busy = busy_inside plan playable.tree past legal t q p w (rw a (or_left _ _ (eq-eqb q q refl))) in
            absurd (both_ways _ (dead q) (going_live q past busy.goes))

    -- each role of the first play that has not started is in it
    waits_in : (p t : ℕ) → first_not (λ q. has_started past q) plan.plays ≡ Some p → member t (roles_of plan p) ≡ true
        → inside plan past t ≡ Some p
    waits_in p t first m = by_place (inside plan past t) refl
      where
        facts : (has_started past p ≡ false) × (member p plan.plays ≡ true)
        facts = first_not_fails (λ q. has_started past q) plan.plays p first

        not_left : has_by kind.Leave past p t ≡ true → ⊥
        not_left l = both_ways _ facts.0 (ended_started plan playable.tree past legal p (left_ended plan playable.tree past legal p t l))

        by_place : (o : Option ℕ) → inside plan past t ≡ o → o ≡ Some p
        by_place None w =
            let came =
            first_not_none (λ q. has_by kind.Arrive past q t) (plays_of plan t) p
            (outside_done t (playable.known p t m) w) (in_plays plan t plan.plays p facts.1 m) in
            absurd (not_left (outside_left plan playable past legal p t w facts.1 came))
        by_place (Some q) w =
            let play = in_play t q w in
            elim (cases_order p q) [
              | inl same ↦ ap Some (sym same)
              | inr (inl below) ↦
                  absurd (not_left (plays_kept plan playable past legal p q t below facts.1 play.0 m
                  (inside_arrived plan playable.tree past legal q t w)))
              | inr (inr above) ↦
                  absurd (both_ways _ (not_started t q w (dead q))
                  (first_not_before (λ a. has_started past a) 0 plan.plays q p playable.rise first play.0 above))
            ]

    none_held : (o : ℕ) (h : Option ℕ) → holder_of plan past o ≡ h → h ≡ None
    none_held o None e = refl
    none_held o (Some p) e = absurd (both_ways _ (dead p) (holder_live o p e))

    -- so no play waits
    none_waits : (p : ℕ) → first_not (λ q. has_started past q) plan.plays ≡ Some p → ⊥
    none_waits p first =
        let facts = first_not_fails (λ q. has_started past q) plan.plays p first in
        let some = some_member (roles_of plan p) (playable.filled p facts.1) in
        let w = waits_in p some.0 first some.1 in
        let top : parent plan p ≡ None = ap first_of (playable.tree.tops p facts.1) in
        not_ready some.0 p w facts.0
        (all_from (is_inside plan past p) (roles_of plan p) (λ t m. same_at _ p (waits_in p t first m)))
        (all_from (λ o. same_option (holder_of plan past o) (parent plan p)) (objects_of plan p)
        (λ o m. rw (none_held o (holder_of plan past o) refl, top) refl))

    nobody_inside : (t : ℕ) (o : Option ℕ) → inside plan past t ≡ o → o ≡ None
    nobody_inside t None w = refl
    nobody_inside t (Some p) w = by_first (first_not (λ q. has_started past q) plan.plays) refl
      where
        by_first : (o : Option ℕ) → first_not (λ q. has_started past q) plan.plays ≡ o → Some p ≡ None
        by_first None f =
            absurd (both_ways _ (not_started t p w (dead p))
            (first_not_none (λ q. has_started past q) plan.plays p f (in_play t p w).0))
        by_first (Some q) f = absurd (none_waits q f)

    pub all_over : AllOver plan past
    all_over t l =
        let out = nobody_inside t (inside plan past t) refl in
        over_from plan playable past legal t out (outside_done t l out)
