-- Which restores were tried: none before the Undo of its place, and each object of a place at most once.
use Rattle.std.proofs.Common.{◌≡◌, ℕ, ◌==◌, ◌+◌, Bool, true, false, cond, ◌&&◌, ◌||◌, List, [], ◌∷◌, refl, subst, subst₂, arith, inl, inr, count_by}
use Rattle.std.proofs.lemmas.List.Sums.{sum_by-cons}
use Rattle.std.proofs.lemmas.Bool.{or_cases, or_right, or_parts, eqb-true, false≢true}
use Rattle.caa_base.specs.declared.written.entry.Entry.{Entry}
use Rattle.caa_base.specs.declared.written.entry.Kind.{Kind}
use Rattle.caa_base.specs.declared.written.entry.Kind.TheVariants as kind
use Rattle.place_plan.specs.Plans.PlanValue.{Plan}
use Rattle.place_plan.specs.Plans.Places.{objects_of}
use Rattle.place_plan.specs.RulesOfJournals.Entries.{is_in, has}
use Rattle.place_plan.specs.RulesOfJournals.Whereabouts.{is_undoing}
use Rattle.place_plan.specs.RulesOfJournals.Objects.{is_tried, has_failed}
use Rattle.place_plan.specs.RulesOfJournals.Rules.{Row}
use Rattle.place_plan.specs.RulesOfJournals.Journals.{LegalPast}
use Rattle.journal_laws.specs.Laws.{Holds, is_restore}
use Rattle.journal_laws.proofs.Core.{Tries}
use Rattle.caa_base.proofs.ListLemmas.{first_not_fails}
use Rattle.place_plan.proofs.OnJournals.EntryKinds.{of_kind, both_same}

-- ---- counts

-- the count of one more entry
pub count_next : (test : Entry → Bool) (e : Entry) (past : List Entry) → count_by test (e ∷ past) ≡ cond (test e) 1 0 + count_by test past
count_next test e past = sum_by-cons (λ x. cond (test x) 1 0) e past

-- the two counts are one together where it was tried, else none
abbrev Counts : Bool → ℕ → ℕ → Type 0
Counts tried m n = (tried ≡ true → m + n ≡ 1) × (tried ≡ false → m + n ≡ 0)

counts_same : (tried : Bool) (m n : ℕ) → Counts tried m n → Counts tried (0 + m) (0 + n)
counts_same tried m n h = (λ w. omega (arith, h.0 w), λ w. omega (arith, h.1 w))

-- x says that the entry is in the place, y that it names the object
counts_on : (x y tried : Bool) (mark m n : ℕ) → (mark == 0) || (mark == 1) ≡ true → ((x && y) ≡ true → tried ≡ false)
    → Counts tried m n → Counts ((x && y) || tried) (cond (x && (y && (mark == 0))) 1 0 + m)
    (cond (x && (y && (mark == 1))) 1 0 + n)
counts_on false y tried mark m n k fresh ih = counts_same tried m n ih
counts_on true false tried mark m n k fresh ih = counts_same tried m n ih
counts_on true true tried mark m n k fresh ih =
    let none : m + n ≡ 0 = ih.1 (fresh refl) in
    elim (or_cases (mark == 0) (mark == 1) k) [
      | inl z ↦ (λ w. rw (eqb-true mark 0 z) (omega arith), λ w. absurd cc)
      | inr z ↦ (λ w. rw (eqb-true mark 1 z) (omega arith), λ w. absurd cc)
    ]

-- ---- the three facts

module _ (plan : Plan) where
  restored_undoing_by : (past : List Entry) (k : Kind) (e : Entry) (p : ℕ)
      → (has kind.Restore past p ≡ true → is_undoing past p ≡ true) → Row k plan past (of_kind k e)
      → has kind.Restore (of_kind k e ∷ past) p ≡ true → is_undoing (of_kind k e ∷ past) p ≡ true
  restored_undoing_by past kind.Restore e p ih h w =
      elim (or_cases (e.place == p) (has kind.Restore past p) w) [
        | inl x ↦ subst (λ a. is_undoing past a ≡ true) (eqb-true e.place p x) h.when
        | inr x ↦ ih x
      ]
  restored_undoing_by past kind.Undo e p ih h w = or_right _ _ (ih w)
  restored_undoing_by past _ e p ih h w = ih w

  restored_undoing : (past : List Entry) → LegalPast plan past → (p : ℕ) → has kind.Restore past p ≡ true → is_undoing past p ≡ true
  restored_undoing [] h p w = absurd (false≢true w)
  restored_undoing (e ∷ past) h p w = restored_undoing_by past e.kind e p (restored_undoing past h.0 p) h.1 w

  tried_once_by : (past : List Entry) (k : Kind) (e : Entry) (p o : ℕ)
      → Counts (is_tried past p o) (count_by (is_restore p o 0) past) (count_by (is_restore p o 1) past)
      → Row k plan past (of_kind k e)
      → Counts (is_tried (of_kind k e ∷ past) p o)
      (cond (is_restore p o 0 (of_kind k e)) 1 0 + count_by (is_restore p o 0) past)
      (cond (is_restore p o 1 (of_kind k e)) 1 0 + count_by (is_restore p o 1) past)
  tried_once_by past kind.Restore e p o ih h =
      counts_on (e.place == p) (e.arg == o) (is_tried past p o) e.mark (count_by (is_restore p o 0) past)
      (count_by (is_restore p o 1) past) h.mark fresh ih
    where
      fresh : ((e.place == p) && (e.arg == o)) ≡ true → is_tried past p o ≡ false
      fresh x =
          let same = both_same e.place p e.arg o x in
          subst₂ (λ a b. is_tried past a b ≡ false) same.0 same.1
          (first_not_fails (is_tried past e.place) (objects_of plan e.place) e.arg h.least).0
  tried_once_by past _ e p o ih h = counts_same (is_tried past p o) _ _ ih

  tried_once : (past : List Entry) → LegalPast plan past → (p o : ℕ)
      → Counts (is_tried past p o) (count_by (is_restore p o 0) past) (count_by (is_restore p o 1) past)
  tried_once [] h p o = (λ w. absurd (false≢true w), λ w. refl)
  tried_once (e ∷ past) h p o =
      rw (count_next (is_restore p o 0) e past, count_next (is_restore p o 1) e past)
      (tried_once_by past e.kind e p o (tried_once past h.0 p o) h.1)

-- where no restore failed, none was refused
none_refused : (past : List Entry) (p o : ℕ) → has_failed past p ≡ false → count_by (is_restore p o 1) past ≡ 0
none_refused [] p o h = refl
none_refused (e ∷ past) p o h =
    let parts = or_parts (is_in kind.Restore p e && (e.mark == 1)) (has_failed past p) h in
    rw (count_next (is_restore p o 1) e past, middle (is_in kind.Restore p e) (e.arg == o) (e.mark == 1) parts.0)
    (omega (arith, none_refused past p o parts.1))
  where
    middle : (x y z : Bool) → (x && z) ≡ false → (x && (y && z)) ≡ false
    middle true true z h = h
    middle true false z h = refl
    middle false y z h = refl

-- which restores every legal past has tried
pub tries : (plan : Plan) → Holds Tries plan
tries plan past legal = record {
  undone = restored_undoing plan past legal;
  once = tried_once plan past legal;
  failed = none_refused past;
}
