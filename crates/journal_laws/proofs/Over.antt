-- A participant is over just when it is in no place and has no next play.
use Rattle.std.proofs.Common.{◌≡◌, ℕ, ◌==◌, true, List, [], ◌∷◌, Some, None, Option, refl, sym, ap, ◌∙◌, subst, arith, inl, inr}
use Rattle.std.proofs.lemmas.Bool.{or_cases, or_left, or_right, eqb-true, eq-eqb, both_ways, cases_order}
use Rattle.caa_base.specs.declared.written.entry.Entry.{Entry}
use Rattle.caa_base.specs.declared.written.entry.Kind.TheVariants as kind
use Rattle.place_plan.specs.Plans.PlanValue.{Plan}
use Rattle.caa_base.specs.Written.Lists.{member, last_of}
use Rattle.place_plan.specs.Plans.Places.{around, roles_of, is_within, plays_of}
use Rattle.place_plan.specs.RulesOfJournals.Entries.{has_by}
use Rattle.place_plan.specs.RulesOfJournals.Whereabouts.{inside}
use Rattle.place_plan.specs.RulesOfJournals.Roles.{next_play, is_over, is_over_after}
use Rattle.place_plan.specs.RulesOfJournals.Journals.{LegalPast}
use Rattle.journal_laws.proofs.Playable.{IsPlayable}
use Rattle.caa_base.proofs.ListLemmas.{first_not_none, first_not_nowhere, last_member, last_greatest, no_last}
use Rattle.place_plan.proofs.OnPlans.PlaysRise.{plays_in, in_plays, plays_rise}
use Rattle.journal_laws.proofs.Tree.{in_within}
use Rattle.journal_laws.proofs.Raised.{role_inside}
use Rattle.journal_laws.proofs.Innermost.{stays_within}
use Rattle.journal_laws.proofs.Arrivals.{left_arrived, gone}
use Rattle.journal_laws.proofs.Visited.{outside_left, plays_kept}

module _ (plan : Plan) (playable : IsPlayable plan) where
  -- each place belongs to one with nothing round it
  top_among : (p : ℕ) (qs : List ℕ) → around plan p ≡ qs → (q : ℕ) × (member q (p ∷ qs) ≡ true) × (around plan q ≡ [])
  top_among p [] a = (p, or_left _ _ (eq-eqb p p refl), a)
  top_among p (q ∷ qs) a = let top = top_among q qs (playable.tree.chain p q qs a) in (top.0, or_right _ _ top.1, top.2)

  -- who is inside a place plays the play that the place belongs to
  pub play_round : (past : List Entry) → LegalPast plan past → (p t : ℕ) → inside plan past t ≡ Some p
      → (q : ℕ) × (is_within plan p q ≡ true) × (member q plan.plays ≡ true) × (member t (roles_of plan q) ≡ true)
  play_round past legal p t w =
      let top = top_among p (around plan p) refl in
      let q = top.0 in
      let own = role_inside plan playable.tree past legal t p w in
      let role : member t (roles_of plan q) ≡ true = elim (or_cases (p == q) (member q (around plan p)) top.1) [
        | inl x ↦ subst (λ a. member t (roles_of plan a) ≡ true) (eqb-true p q x) own
        | inr x ↦ playable.tree.roles_in q p t x own
      ] in
      (q, top.1, playable.topped q t top.2 role, role)

  -- who has left its last play has left each of its plays
  left_all : (past : List Entry) → LegalPast plan past → (t p q : ℕ) → last_of (plays_of plan t) ≡ Some p
      → has_by kind.Leave past p t ≡ true → member q (plays_of plan t) ≡ true → has_by kind.Leave past q t ≡ true
  left_all past legal t p q last left m =
      let known = plays_in plan t plan.plays q m in
      let end = plays_in plan t plan.plays p (last_member (plays_of plan t) p last) in
      elim (cases_order q p) [
        | inl same ↦ subst (λ a. has_by kind.Leave past a t ≡ true) (sym same) left
        | inr (inl below) ↦
            plays_kept plan playable past legal q p t below known.0 end.0 known.1
            (left_arrived plan playable.tree past legal p t left)
        | inr (inr above) ↦
            absurd (let most = last_greatest 0 (plays_of plan t) p q
            (plays_rise plan t 0 plan.plays playable.rise) last m in omega arith)
      ]

  pub over_left : (past : List Entry) → LegalPast plan past → (t q : ℕ) → is_over plan past t ≡ true
      → member q (plays_of plan t) ≡ true → has_by kind.Leave past q t ≡ true
  over_left past legal t q h m = by_last (last_of (plays_of plan t)) refl h
    where
      by_last : (o : Option ℕ) → last_of (plays_of plan t) ≡ o → is_over_after past t o ≡ true → has_by kind.Leave past q t ≡ true
      by_last None last h = absurd (no_last (plays_of plan t) q last m)
      by_last (Some p) last h = left_all past legal t p q last h m

  -- who is over is in no place, and has no next play
  pub over_outside : (past : List Entry) → LegalPast plan past → (t : ℕ) → is_over plan past t ≡ true → inside plan past t ≡ None
  over_outside past legal t h = by_place (inside plan past t) refl
    where
      by_place : (o : Option ℕ) → inside plan past t ≡ o → o ≡ None
      by_place None w = refl
      by_place (Some p) w =
          let play = play_round past legal p t w in
          let stay = stays_within plan playable.tree past legal t play.0 ∙ ap (λ o. in_within plan o play.0) w ∙ play.1 in
          absurd (both_ways _ (gone plan playable.tree past legal play.0 t stay).0
          (over_left past legal t play.0 h (in_plays plan t plan.plays play.0 play.2 play.3)))

  pub over_done : (past : List Entry) → LegalPast plan past → (t : ℕ) → is_over plan past t ≡ true → next_play plan past t ≡ None
  over_done past legal t h =
      first_not_nowhere (λ p. has_by kind.Arrive past p t) (plays_of plan t)
      (λ p m. left_arrived plan playable.tree past legal p t (over_left past legal t p h m))

  -- and the other way round
  pub over_from : (past : List Entry) → LegalPast plan past → (t : ℕ) → inside plan past t ≡ None
      → next_play plan past t ≡ None → is_over plan past t ≡ true
  over_from past legal t out ended = by_last (last_of (plays_of plan t)) refl
    where
      by_last : (o : Option ℕ) → last_of (plays_of plan t) ≡ o → is_over_after past t o ≡ true
      by_last None last = refl
      by_last (Some p) last =
          let m = last_member (plays_of plan t) p last in
          outside_left plan playable past legal p t out (plays_in plan t plan.plays p m).0
          (first_not_none (λ q. has_by kind.Arrive past q t) (plays_of plan t) p ended m)
