-- Still law: once the undo of a place has begun, nobody moves in it or inside it, and its roles have said so before.
use Rattle.std.proofs.Common.{◌≡◌, ℕ, ◌==◌, true, false, ◌||◌, List, ◌∷◌, Some, None, Option, refl, sym, subst, inl, inr}
use Rattle.std.proofs.lemmas.Bool.{and_parts, or_cases, or_left, or_right, eqb-true, false≢true, both_ways}
use Rattle.caa_base.specs.declared.written.entry.Entry.{Entry}
use Rattle.caa_base.specs.declared.written.entry.Kind.{Kind}
use Rattle.caa_base.specs.declared.written.entry.Kind.TheVariants as kind
use Rattle.place_plan.specs.Plans.PlanValue.{Plan}
use Rattle.caa_base.specs.Written.Lists.{member}
use Rattle.place_plan.specs.Plans.Places.{around}
use Rattle.place_plan.specs.RulesOfJournals.Entries.{is_of, has}
use Rattle.place_plan.specs.RulesOfJournals.Whereabouts.{inside, is_undoing, is_going}
use Rattle.place_plan.specs.RulesOfJournals.Raising.{is_calm}
use Rattle.place_plan.specs.RulesOfJournals.Roles.{all_have_given, all_have_aborted, is_able}
use Rattle.place_plan.specs.RulesOfJournals.Rules.{Row, MayArrive, MayRestore}
use Rattle.place_plan.specs.RulesOfJournals.Journals.{LegalPast}
use Rattle.journal_laws.specs.Laws.{Holds, StillLaw, follows_undo}
use Rattle.journal_laws.proofs.Playable.{IsPlayable}
use Rattle.journal_laws.proofs.Core.{Core}
use Rattle.place_plan.proofs.OnJournals.EntryKinds.{of_kind}
use Rattle.journal_laws.proofs.InnerFirst.{legal_rest}
use Rattle.journal_laws.proofs.Phases.{calm_open, going_parts}
use Rattle.journal_laws.proofs.Raised.{busy_inside, arrives_calm}
use Rattle.journal_laws.proofs.Frozen.{open_by}
use Rattle.journal_laws.proofs.Tree.{arrives_in}
use Rattle.journal_laws.proofs.Holding.{undoing_started}
use Rattle.journal_laws.proofs.Arrivals.{begins_play, next_has, fresh, arrives_with_role}

restore_row : (plan : Plan) (past : List Entry) (k : Kind) (e : Entry) → Row k plan past (of_kind k e)
    → is_of kind.Restore (of_kind k e) ≡ true → MayRestore plan past (of_kind k e)
restore_row plan past kind.Restore e h w = h
restore_row plan past _ e h w = absurd (false≢true w)

module _ (plan : Plan) (playable : IsPlayable plan) (core : Holds Core plan) where
  -- ---- who said what before

  have_agreed : (past : List Entry) (p : ℕ) → LegalPast plan past → is_undoing past p ≡ true
      → all_have_aborted plan past p || all_have_given plan past p ≡ true
  have_agreed past p legal u = elim ((core past legal).says.undoing p u) [
    | inl a ↦ or_left _ _ a
    | inr a ↦ or_right _ _ a.1
  ]

  -- ---- what comes later

  -- in a place that is undone come only its restores, its end and leaves
  own_by : (past : List Entry) (k : Kind) (e : Entry) → LegalPast plan past → Row k plan past (of_kind k e)
      → is_undoing past e.place ≡ true → follows_undo k ≡ true
  own_by past kind.Arrive e legal h u =
      let role = arrives_with_role plan playable.tree past (of_kind kind.Arrive e) h in
      absurd (both_ways _ (fresh plan past (of_kind kind.Arrive e) h)
      ((core past legal).visits.whole e.place e.by (undoing_started plan playable.tree past legal e.place u) role))
  own_by past kind.Withdraw e legal h u = absurd (both_ways _ h.waits (undoing_started plan playable.tree past legal e.place u))
  own_by past kind.Start e legal h u = absurd (both_ways _ h.waits (undoing_started plan playable.tree past legal e.place u))
  own_by past kind.Abort e legal h u = absurd (both_ways _ (going_parts past e.place h.when).kept u)
  own_by past kind.Undo e legal h u = absurd (both_ways _ (going_parts past e.place h.when).kept u)
  own_by past kind.Restore e legal h u = refl
  own_by past kind.End e legal h u = refl
  own_by past kind.Leave e legal h u = refl
  own_by past k e legal h u = absurd (both_ways _ (open_by plan past k e h refl).kept u)

  -- whoever arrives inside a place finds it going on
  arrives_going : (past : List Entry) (e : Entry) (p : ℕ) → LegalPast plan past → MayArrive plan past e
      → member p (around plan e.place) ≡ true → is_going past p ≡ true
  arrives_going past e p legal h m = from (inside plan past e.by) refl
    where
      from : (o : Option ℕ) → inside plan past e.by ≡ o → is_going past p ≡ true
      from None w =
          let play = next_has plan past e.by e.place (begins_play plan past e h w) in
          absurd (false≢true (rw (playable.tree.tops e.place play.0) at m))
      from (Some q) w =
          elim (or_cases (q == p) (member p (around plan q)) (rw (arrives_in plan playable.tree past e q h w).0 at m)) [
            | inl x ↦
                let calm = (and_parts (is_calm plan past q) (is_able plan past q e.by) (arrives_calm plan playable.tree past e q h w)).0 in
                subst (λ a. is_going past a ≡ true) (eqb-true q p x) (calm_open plan past q calm).0.goes
            | inr x ↦ (busy_inside plan playable.tree past legal e.by p q w x).goes
          ]

  -- and so does whoever makes an entry inside it
  pub round_goes_by : (past : List Entry) (k : Kind) (e : Entry) (p : ℕ) → LegalPast plan past → Row k plan past (of_kind k e)
      → member p (around plan e.place) ≡ true → is_going past p ≡ true
  round_goes_by past kind.Arrive e p legal h m = arrives_going past (of_kind kind.Arrive e) p legal h m
  round_goes_by past k e p legal h m = (busy_inside plan playable.tree past legal e.by p e.place h.here m).goes

  pub still_law : Holds StillLaw plan
  still_law past legal = record {
    agreed = λ p later before e split is.
        let here = legal_rest plan later (e ∷ before) (subst (LegalPast plan) split legal) in
        let parts = and_parts (is_of kind.Restore e) (e.place == p) is in
        let may = restore_row plan before e.kind e here.1 parts.0 in
        let undoing : is_undoing before p ≡ true =
        subst (λ a. is_undoing before a ≡ true) (eqb-true e.place p parts.1) may.when in
        (undoing, have_agreed before p here.0 undoing);
    quiet = λ p later before e split undoing within.
        let here = legal_rest plan later (e ∷ before) (subst (LegalPast plan) split legal) in
        elim (or_cases (e.place == p) (member p (around plan e.place)) within) [
          | inl x ↦
              let same = eqb-true e.place p x in
              (same, own_by before e.kind e here.0 here.1 (subst (λ a. is_undoing before a ≡ true) (sym same) undoing))
          | inr x ↦ absurd (both_ways _ (going_parts before p (round_goes_by before e.kind e p here.0 here.1 x)).kept undoing)
        ];
  }
