-- Outcome law: the restores of a place that has ended are what the mark of its End says.
use Rattle.std.proofs.Common.{◌≡◌, ℕ, ◌==◌, ◌<◌, ◌⊎◌, Bool, true, false, cond, ◌||◌, List, [], ◌∷◌, Some, refl, subst, arith, inl, inr, count_by, MatchBool}
use Rattle.std.specs.List.{list_any}
use Rattle.std.proofs.lemmas.Bool.{or_cases, or_left, or_right, eqb-true, false_from_ne_true, both_ways}
use Rattle.caa_base.specs.declared.written.entry.Entry.{Entry}
use Rattle.caa_base.specs.declared.written.entry.Kind.{Kind}
use Rattle.caa_base.specs.declared.written.entry.Kind.TheVariants as kind
use Rattle.place_plan.specs.Plans.PlanValue.{Plan}
use Rattle.place_plan.specs.Plans.Places.{uses, objects_of, roles_of}
use Rattle.place_plan.specs.RulesOfJournals.Entries.{is_in, has, newest}
use Rattle.place_plan.specs.RulesOfJournals.Whereabouts.{has_ended, is_undoing}
use Rattle.place_plan.specs.RulesOfJournals.Objects.{is_tried, has_failed}
use Rattle.place_plan.specs.RulesOfJournals.Roles.{signals}
use Rattle.place_plan.specs.RulesOfJournals.Rules.{Row, MayEnd, EndsUndone, EndsAgreed, SignalsLeast, undone_mark}
use Rattle.place_plan.specs.RulesOfJournals.Journals.{LegalPast}
use Rattle.journal_laws.specs.Laws.{Holds, OutcomeLaw, RestoresFit, is_restore}
use Rattle.journal_laws.proofs.Core.{Tries}
use Rattle.caa_base.proofs.ListLemmas.{chosen, first_not_none}
use Rattle.place_plan.proofs.OnJournals.EntryKinds.{of_kind}
use Rattle.journal_laws.proofs.Tried.{count_next, tries}

-- ---- lists

-- what passes a test has passed it
pub newest_any : (test : Entry → Bool) (past : List Entry) (f : Entry) → newest test past ≡ Some f → list_any test past ≡ true
newest_any test [] f w = absurd cc
newest_any test (e ∷ past) f w =
    elim (chosen (test e) (Some e) (newest test past) (Some f) w) [
      | inl x ↦ or_left _ _ x.0
      | inr x ↦ or_right _ _ (newest_any test past f x.1)
    ]

-- what was counted is there
pub counted_any : (test : Entry → Bool) (past : List Entry) → (count_by test past ≡ 0 → ⊥) → list_any test past ≡ true
counted_any test [] h = absurd (h refl)
counted_any test (e ∷ past) h = by_test (test e) refl (counted_any test past)
  where
    by_test : (b : Bool) → test e ≡ b → ((count_by test past ≡ 0 → ⊥) → list_any test past ≡ true) → b || list_any test past ≡ true
    by_test true w ih = refl
    by_test false w ih = ih (λ z. h (rw (count_next test e past, w) (omega arith)))

-- ---- marks

-- the mark of an undo says that it went well, that the roles gave up, or that it failed
pub undone_marks : (past : List Entry) (p mark : ℕ) → mark ≡ undone_mark past p
    → ((mark ≡ 2) ⊎ (mark ≡ 3)) ⊎ ((mark ≡ 4) × (has_failed past p ≡ true))
undone_marks past p mark m = by_failure (has_failed past p) (has kind.Abort past p) refl m
  where
    by_failure : (b c : Bool) → has_failed past p ≡ b → mark ≡ cond b 4 (cond c 3 2)
        → ((mark ≡ 2) ⊎ (mark ≡ 3)) ⊎ ((mark ≡ 4) × (has_failed past p ≡ true))
    by_failure true c f m = inr (m, f)
    by_failure false true f m = inl (inr m)
    by_failure false false f m = inl (inl m)

unfailed_mark : (past : List Entry) (p mark : ℕ) → mark ≡ undone_mark past p → (mark ≡ 2) ⊎ (mark ≡ 3) → has_failed past p ≡ false
unfailed_mark past p mark m well = by_failure (has_failed past p) m
  where
    by_failure : (b : Bool) → mark ≡ cond b 4 (cond (has kind.Abort past p) 3 2) → b ≡ false
    by_failure true m = absurd (elim well [ inl x ↦ omega arith | inr x ↦ omega arith ])
    by_failure false m = refl

-- what an undo says of its restores
fits_undone : (plan : Plan) (past : List Entry) (p mark : ℕ) → Tries plan past
    → ((o : ℕ) → uses plan p o ≡ true → is_tried past p o ≡ true) → mark ≡ undone_mark past p
    → RestoresFit plan past p mark
fits_undone plan past p mark t all m = record {
  kept = λ l. absurd (elim (undone_marks past p mark m) [
    | inl (inl x) ↦ omega arith
    | inl (inr x) ↦ omega arith
    | inr x ↦ omega (arith, x.0)
  ]);
  undone =
      λ well o u. counted_any (is_restore p o 0) past
      (λ z. omega (arith, z, t.failed p o (unfailed_mark past p mark m well), (t.once p o).0 (all o u)));
  tried = λ four o u. (t.once p o).0 (all o u);
  refused = λ four. elim (undone_marks past p mark m) [
    | inl (inl x) ↦ absurd (omega arith)
    | inl (inr x) ↦ absurd (omega arith)
    | inr x ↦ x.1
  ];
}

-- what an agreement says of them
fits_agreed : (plan : Plan) (past : List Entry) (p mark : ℕ) → has kind.Restore past p ≡ false → mark < 2 → RestoresFit plan past p mark
fits_agreed plan past p mark none small = record {
  kept = λ l. none;
  undone = λ l. absurd (elim l [ inl x ↦ omega arith | inr x ↦ omega arith ]);
  tried = λ l. absurd (omega arith);
  refused = λ l. absurd (omega arith);
}

-- the mark of an agreement is 0 or 1
pub agreed_mark : (plan : Plan) (e : Entry) (xs : List ℕ) → SignalsLeast plan e xs → e.mark < 2
agreed_mark plan e [] h = rw h.0 (omega arith)
agreed_mark plan e (x ∷ xs) h = rw h.0 (omega arith)

-- a mark is 0 or 1, as a test tells
pub zero_or_one : (mark : ℕ) → (mark == 0) || (mark == 1) ≡ true → (mark ≡ 0) ⊎ (mark ≡ 1)
zero_or_one mark h =
    elim (or_cases (mark == 0) (mark == 1) h) [ inl x ↦ inl (eqb-true mark 0 x) | inr x ↦ inr (eqb-true mark 1 x) ]

pub below_two : (mark : ℕ) → (mark == 0) || (mark == 1) ≡ true → mark < 2
below_two mark h = elim (zero_or_one mark h) [ inl x ↦ omega (arith, x) | inr x ↦ omega (arith, x) ]

-- an entry that restores nothing in p leaves its restores as they are
fits_on : (plan : Plan) (past : List Entry) (e : Entry) (p mark : ℕ) → is_in kind.Restore p e ≡ false
    → RestoresFit plan past p mark → RestoresFit plan (e ∷ past) p mark
fits_on plan past e p mark other fit = record {
  kept = λ l. rw other (fit.kept l);
  undone = λ l o u. rw other (fit.undone l o u);
  tried = λ l o u. rw (count_next (is_restore p o 0) e past, count_next (is_restore p o 1) e past, other) (omega (arith, fit.tried l o u));
  refused = λ l. rw other (fit.refused l);
}

module _ (plan : Plan) where
  end_fits : (past : List Entry) (e : Entry) → LegalPast plan past → MayEnd plan past e → RestoresFit plan past e.place e.mark
  end_fits past e legal h = by_undo (is_undoing past e.place) refl h.how
    where
      t : Tries plan past
      t = tries plan past legal

      by_undo : (b : Bool) → is_undoing past e.place ≡ b → MatchBool b (EndsUndone plan past e) (EndsAgreed plan past e)
          → RestoresFit plan past e.place e.mark
      by_undo true u h =
          fits_undone plan past e.place e.mark t
          (λ o u. first_not_none (is_tried past e.place) (objects_of plan e.place) o h.all_tried u) h.mark
      by_undo false u h =
          fits_agreed plan past e.place e.mark (false_from_ne_true _ (λ w. both_ways _ u (t.undone e.place w)))
          (agreed_mark plan e (signals past e.place (roles_of plan e.place)) h.outcome)

  outcome_by : (past : List Entry) (k : Kind) (e : Entry) → LegalPast plan past → OutcomeLaw plan past
      → Row k plan past (of_kind k e) → OutcomeLaw plan (of_kind k e ∷ past)
  outcome_by past kind.End e legal ih h p f w =
      fits_on plan past (of_kind kind.End e) p f.mark refl
      (elim (chosen (e.place == p) (Some (of_kind kind.End e)) (newest (is_in kind.End p) past) (Some f) w) [
        | inl x ↦
            let same : of_kind kind.End e ≡ f = cc in
            subst (λ (g : Entry). RestoresFit plan past p g.mark) same
            (subst (λ a. RestoresFit plan past a e.mark) (eqb-true e.place p x.0)
            (end_fits past (of_kind kind.End e) legal h))
        | inr x ↦ ih p f x.1
      ])
  outcome_by past kind.Restore e legal ih h p f w =
      fits_on plan past (of_kind kind.Restore e) p f.mark
      (false_from_ne_true _ (λ x. both_ways _ (subst (λ a. has_ended past a ≡ false) (eqb-true e.place p x) h.lasts)
      (newest_any (is_in kind.End p) past f w))) (ih p f w)
  outcome_by past k e legal ih h p f w = fits_on plan past (of_kind k e) p f.mark refl (ih p f w)

  outcome : (past : List Entry) → LegalPast plan past → OutcomeLaw plan past
  outcome [] h p f w = absurd cc
  outcome (e ∷ past) h p f w = outcome_by past e.kind e h.0 (outcome past h.0) h.1 p f w

-- outcome law
pub outcomes : (plan : Plan) → Holds OutcomeLaw plan
outcomes plan past legal = outcome plan past legal
