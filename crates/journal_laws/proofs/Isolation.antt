-- In a tree of places, live places that use one object stand inside one another, and an object is touched only by its holder.
use Rattle.std.proofs.Common.{◌≡◌, ℕ, ◌==◌, true, ◌||◌, List, [], ◌∷◌, Some, None, Option, refl, sym, ap, ◌∙◌, subst, inl, inr}
use Rattle.std.proofs.lemmas.Bool.{and_from, or_cases, or_left, or_right, eqb-true, false≢true, both_ways}
use Rattle.caa_base.specs.declared.written.entry.Entry.{Entry}
use Rattle.caa_base.specs.declared.written.entry.Kind.{Kind}
use Rattle.caa_base.specs.declared.written.entry.Kind.TheVariants as kind
use Rattle.place_plan.specs.Plans.PlanValue.{Plan}
use Rattle.caa_base.specs.Written.Lists.{member}
use Rattle.place_plan.specs.Plans.Places.{around, uses, is_within, objects_of}
use Rattle.place_plan.specs.RulesOfJournals.Whereabouts.{is_undoing, is_live}
use Rattle.place_plan.specs.RulesOfJournals.Objects.{holder_of, is_tried}
use Rattle.place_plan.specs.RulesOfJournals.Rules.{Row, MayRestore}
use Rattle.place_plan.specs.RulesOfJournals.Journals.{LegalPast}
use Rattle.journal_laws.specs.Laws.{Holds, IsolationLaw, touches_object}
use Rattle.journal_laws.proofs.Playable.{IsTree}
use Rattle.caa_base.proofs.ListLemmas.{first_not_fails}
use Rattle.place_plan.proofs.OnJournals.EntryKinds.{of_kind}
use Rattle.journal_laws.proofs.Lives.{live_from}
use Rattle.journal_laws.proofs.Tree.{in_within}
use Rattle.journal_laws.proofs.Busy.{live_of}
use Rattle.journal_laws.proofs.InnerFirst.{legal_rest}
use Rattle.journal_laws.proofs.Holding.{live_uses, holds_within, holds_own, busy_round, undoing_started}

module _ (plan : Plan) (tree : IsTree plan) where
  from_first : (a : ℕ) (xs : List ℕ) (p q : ℕ) → around plan a ≡ xs → member p (a ∷ xs) ≡ true
      → member q (a ∷ xs) ≡ true
      → (member p xs ≡ true → member q xs ≡ true → is_within plan p q || is_within plan q p ≡ true)
      → is_within plan p q || is_within plan q p ≡ true
  from_first a xs p q e m n further =
      elim (or_cases (a == p) (member p xs) m) [
        | inl x ↦ or_left _ _ (subst (λ b. is_within plan b q ≡ true) (eqb-true a p x) (from_list q n))
        | inr x ↦ elim (or_cases (a == q) (member q xs) n) [
          | inl y ↦ or_right _ _ (subst (λ b. is_within plan b p ≡ true) (eqb-true a q y) (from_list p m))
          | inr y ↦ further x y
        ]
      ]
    where
      from_list : (r : ℕ) → member r (a ∷ xs) ≡ true → is_within plan a r ≡ true
      from_list r w = rw e w

  -- the places round a place stand inside one another
  in_line : (a : ℕ) (xs : List ℕ) (p q : ℕ) → around plan a ≡ xs → member p (a ∷ xs) ≡ true → member q (a ∷ xs) ≡ true
      → is_within plan p q || is_within plan q p ≡ true
  in_line a [] p q e m n = from_first a [] p q e m n (λ x y. absurd (false≢true x))
  in_line a (y ∷ ys) p q e m n = from_first a (y ∷ ys) p q e m n (λ x z. in_line y ys p q (tree.chain a y ys e) x z)

  both_held : (past : List Entry) → LegalPast plan past → (p q o : ℕ) (h : Option ℕ) → holder_of plan past o ≡ h
      → live_uses plan o past p ≡ true → live_uses plan o past q ≡ true
      → is_within plan p q || is_within plan q p ≡ true
  both_held past legal p q o None e l m = absurd (both_ways _ (holds_within plan tree past legal o p ∙ ap (λ x. in_within plan x p) e) l)
  both_held past legal p q o (Some r) e l m =
      let at : (s : ℕ) → live_uses plan o past s ≡ is_within plan r s =
      λ s. holds_within plan tree past legal o s ∙ ap (λ x. in_within plan x s) e in
      in_line r (around plan r) p q refl (sym (at p) ∙ l) (sym (at q) ∙ m)

  -- an undoing place holds its objects: nothing live stands inside it
  undo_alone : (past : List Entry) → LegalPast plan past → (p r : ℕ) → is_undoing past p ≡ true → is_live past r ≡ true
      → member p (around plan r) ≡ true → ⊥
  undo_alone past legal p r u w m =
      let some = busy_round plan tree past legal p r w m in
      both_ways _ (live_of plan tree p past some.1.goes).2 u

  restore_held : (past : List Entry) (e : Entry) → LegalPast plan past → MayRestore plan past e → holder_of plan past e.arg ≡ Some e.place
  restore_held past e legal h =
      let used : uses plan e.place e.arg ≡ true = (first_not_fails (is_tried past e.place) (objects_of plan e.place) e.arg h.least).1 in
      holds_own plan tree past e.arg e.place (holds_within plan tree past legal e.arg)
      (live_from e.place past (undoing_started plan tree past legal e.place h.when) h.lasts) used
      (λ r w m. undo_alone past legal e.place r h.when w m)

  touch_held : (past : List Entry) (k : Kind) (e : Entry) → LegalPast plan past → Row k plan past (of_kind k e)
      → touches_object k ≡ true → holder_of plan past e.arg ≡ Some e.place
  touch_held past kind.Read e legal h w = h.holds
  touch_held past kind.Write e legal h w = h.holds
  touch_held past kind.PutFault e legal h w = h.holds
  touch_held past kind.Restore e legal h w = restore_held past (of_kind kind.Restore e) legal h
  touch_held past _ e legal h w = absurd (false≢true w)

  isolated : (past : List Entry) → LegalPast plan past → IsolationLaw plan past
  isolated past legal = record {
    nested = λ later before p q o split l m u v.
        let then = legal_rest plan later before (subst (LegalPast plan) split legal) in
        both_held before then p q o (holder_of plan before o) refl (and_from (is_live before p) (uses plan p o) l u)
        (and_from (is_live before q) (uses plan q o) m v);
    held = λ later before e split w.
        let here = legal_rest plan later (e ∷ before) (subst (LegalPast plan) split legal) in
        touch_held before e.kind e here.0 here.1 w;
  }

-- isolation law
pub isolation : (plan : Plan) → IsTree plan → Holds IsolationLaw plan
isolation plan tree past legal = isolated plan tree past legal
