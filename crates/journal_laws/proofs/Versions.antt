-- Device law: while a place is live, its objects have the values of its start outside what is written within it; so what a restore
-- puts is the value that the object has after it.
use Rattle.std.proofs.Common.{◌≡◌, ℕ, ◌==◌, Bool, true, false, ◌&&◌, ◌||◌, List, [], ◌∷◌, ◌++◌, Some, refl, sym, ap, ◌∙◌, subst, inl, inr}
use Rattle.std.specs.List.{list_any}
use Rattle.std.proofs.lemmas.List.Folds.{list_any-append}
use Rattle.std.proofs.lemmas.Bool.{and_parts, and_from, or_cases, or_left, or_right, or_parts, or_from, eqb-true, eq-eqb, false≢true, cases_Bool, false_from_ne_true, both_ways}
use Rattle.caa_base.specs.declared.written.entry.Entry.{Entry}
use Rattle.caa_base.specs.declared.written.entry.Kind.{Kind}
use Rattle.caa_base.specs.declared.written.entry.Kind.TheVariants as kind
use Rattle.place_plan.specs.Plans.PlanValue.{Plan}
use Rattle.caa_base.specs.Written.Lists.{member}
use Rattle.place_plan.specs.Plans.Places.{objects_of, uses, is_within}
use Rattle.place_plan.specs.RulesOfJournals.Whereabouts.{has_started, has_ended, is_live}
use Rattle.place_plan.specs.RulesOfJournals.Objects.{holder_of, is_within_any, value_outside, value_of, before_start, is_tried}
use Rattle.place_plan.specs.RulesOfJournals.Rules.{Row, MayPut, MayRestore}
use Rattle.place_plan.specs.RulesOfJournals.Journals.{LegalPast}
use Rattle.journal_laws.specs.Laws.{Holds, DeviceLaw, last_put}
use Rattle.journal_laws.proofs.Playable.{IsTree}
use Rattle.caa_base.proofs.ListLemmas.{first_not_fails}
use Rattle.place_plan.proofs.OnJournals.EntryKinds.{of_kind}
use Rattle.journal_laws.proofs.Lives.{live_parts, live_from}
use Rattle.journal_laws.proofs.Tree.{in_within}
use Rattle.journal_laws.proofs.Busy.{live_of}
use Rattle.journal_laws.proofs.Holding.{live_uses, holds_within, undoing_started}
use Rattle.journal_laws.proofs.Isolation.{isolation}
use Rattle.journal_laws.proofs.Makers.{within_through, put_going}

-- ---- lists

-- a member that passes is one of those that pass
pub any_at : (test : ℕ → Bool) (xs : List ℕ) (x : ℕ) → member x xs ≡ true → test x ≡ true → list_any test xs ≡ true
any_at test [] x m h = absurd (false≢true m)
any_at test (y ∷ ys) x m h =
    elim (or_cases (y == x) (member x ys) m) [
      | inl e ↦ or_left _ _ (subst (λ a. test a ≡ true) (sym (eqb-true y x e)) h)
      | inr e ↦ or_right _ _ (any_at test ys x e h)
    ]

-- where no member passes, none does
pub none_any : (test : ℕ → Bool) (xs : List ℕ) → ((x : ℕ) → member x xs ≡ true → test x ≡ false) → list_any test xs ≡ false
none_any test [] h = refl
none_any test (x ∷ xs) h = or_from _ _ (h x (or_left _ _ (eq-eqb x x refl))) (none_any test xs (λ y m. h y (or_right _ _ m)))

-- each of these places is p, or inside it
abbrev pub AreWithin : Plan → ℕ → List ℕ → Type 0
AreWithin plan p us = (q : ℕ) → member q us ≡ true → is_within plan q p ≡ true

with_within : (plan : Plan) (p q : ℕ) (us : List ℕ) → is_within plan q p ≡ true → AreWithin plan p us → AreWithin plan p (q ∷ us)
with_within plan p q us h k r m =
    elim (or_cases (q == r) (member r us) m) [
      | inl x ↦ subst (λ a. is_within plan a p ≡ true) (eqb-true q r x) h
      | inr x ↦ k r x
    ]

module _ (plan : Plan) (tree : IsTree plan) where
  -- ---- before its start a place has changed nothing

  abbrev pub Unmoved : List Entry → ℕ → ℕ → Type 0
  Unmoved past p o = (vs us : List ℕ) → AreWithin plan p us → value_outside plan past o (vs ++ us) ≡ value_outside plan past o vs

  -- what is written before p starts isn't within it
  written_outside : (past : List Entry) (e : Entry) (p : ℕ) (us : List ℕ) → LegalPast plan past → MayPut plan past e
      → has_started past p ≡ false → AreWithin plan p us → is_within_any plan e.place us ≡ false
  written_outside past e p us legal h waits all =
      none_any (is_within plan e.place) us (λ q m. false_from_ne_true _ (λ w.
      both_ways _ waits (live_of plan tree p past
      (put_going plan tree past e p legal h (within_through plan tree e.place q p w (all q m)))).0))

  unmoved_by : (past : List Entry) (k : Kind) (e : Entry) (p o : ℕ) → LegalPast plan past
      → (has_started past p ≡ false → Unmoved past p o) → Row k plan past (of_kind k e)
      → has_started (of_kind k e ∷ past) p ≡ false → Unmoved (of_kind k e ∷ past) p o
  unmoved_by past kind.Write e p o legal ih h s vs us all =
      let apart : is_within_any plan e.place (vs ++ us) ≡ is_within_any plan e.place vs =
      list_any-append (is_within plan e.place) vs us
      ∙ rw (written_outside past (of_kind kind.Write e) p us legal h s all)
      (or_nothing (is_within_any plan e.place vs)) in
      rw (apart, ih s vs us all) refl
    where
      or_nothing : (b : Bool) → (b || false) ≡ b
      or_nothing true = refl
      or_nothing false = refl
  unmoved_by past kind.Restore e p o legal ih h s vs us all =
      elim (cases_Bool ((e.arg == o) && (e.mark == 0))) [
        | inl x ↦ rw x (ih s (e.place ∷ vs) us all)
        | inr x ↦ rw x (ih s vs us all)
      ]
  unmoved_by past kind.Start e p o legal ih h s vs us all = ih (or_parts (e.place == p) (has_started past p) s).1 vs us all
  unmoved_by past _ e p o legal ih h s vs us all = ih s vs us all

  unmoved : (past : List Entry) → LegalPast plan past → (p o : ℕ) → has_started past p ≡ false → Unmoved past p o
  unmoved [] h p o s vs us all = refl
  unmoved (e ∷ past) h p o s vs us all = unmoved_by past e.kind e p o h.0 (unmoved past h.0 p o) h.1 s vs us all

  -- ---- a live place finds the values of its start outside what is within it

  abbrev pub Versions : List Entry → ℕ → ℕ → Type 0
  Versions past p o =
      (us : List ℕ) → AreWithin plan p us → member p us ≡ true
      → value_outside plan past o us ≡ value_of plan (before_start past p) o

  -- the holder of o is within each live place that uses it
  holder_within : (past : List Entry) (o p q : ℕ) → LegalPast plan past → holder_of plan past o ≡ Some q
      → is_live past p ≡ true → uses plan p o ≡ true → is_within plan q p ≡ true
  holder_within past o p q legal held l u =
      let at : live_uses plan o past p ≡ is_within plan q p = holds_within plan tree past legal o p ∙ ap (λ x. in_within plan x p) held in
      sym at ∙ and_from (is_live past p) (uses plan p o) l u

  versions_by : (past : List Entry) (k : Kind) (e : Entry) (p o : ℕ) → LegalPast plan past
      → LegalPast plan (of_kind k e ∷ past) → uses plan p o ≡ true → (is_live past p ≡ true → Versions past p o)
      → Row k plan past (of_kind k e) → is_live (of_kind k e ∷ past) p ≡ true → Versions (of_kind k e ∷ past) p o
  versions_by past kind.Write e p o legal more u ih h l us all m =
      elim (cases_Bool (e.arg == o)) [
        | inl x ↦
            let held : holder_of plan past o ≡ Some e.place =
            subst (λ a. holder_of plan past a ≡ Some e.place) (eqb-true e.arg o x) h.holds in
            let inner : is_within_any plan e.place us ≡ true =
            any_at (is_within plan e.place) us p m (holder_within past o p e.place legal held l u) in
            rw (x, inner) (ih l us all m)
        | inr x ↦ rw x (ih l us all m)
      ]
  versions_by past kind.Restore e p o legal more u ih h l us all m =
      elim (cases_Bool ((e.arg == o) && (e.mark == 0))) [
        | inl x ↦
            let held : holder_of plan past e.arg ≡ Some e.place =
            (isolation plan tree (of_kind kind.Restore e ∷ past) more).held [] past
            (of_kind kind.Restore e) refl refl in
            let same : e.arg ≡ o = eqb-true e.arg o (and_parts (e.arg == o) (e.mark == 0) x).0 in
            let inner : is_within plan e.place p ≡ true =
            holder_within past o p e.place legal
            (subst (λ a. holder_of plan past a ≡ Some e.place) same held) l u in
            rw x (ih l (e.place ∷ us) (with_within plan p e.place us inner all) (or_right _ _ m))
        | inr x ↦ rw x (ih l us all m)
      ]
  versions_by past kind.Start e p o legal more u ih h l us all m =
      elim (cases_Bool (e.place == p)) [
        | inl x ↦ rw x (unmoved past legal p o (subst (λ a. has_started past a ≡ false) (eqb-true e.place p x) h.waits) [] us all)
        | inr x ↦ rw x (ih (rw x at l) us all m)
      ]
  versions_by past kind.End e p o legal more u ih h l us all m =
      let parts = live_parts p (of_kind kind.End e ∷ past) l in
      ih (live_from p past parts.0 (or_parts (e.place == p) (has_ended past p) parts.1).1) us all m
  versions_by past _ e p o legal more u ih h l us all m = ih l us all m

  pub versions : (past : List Entry) → LegalPast plan past → (p o : ℕ) → uses plan p o ≡ true → is_live past p ≡ true → Versions past p o
  versions [] h p o u l us all m = absurd (false≢true l)
  versions (e ∷ past) h p o u l us all m = versions_by past e.kind e p o h.0 h u (versions past h.0 p o u) h.1 l us all m

  -- ---- the device

  -- what a restore puts is the value of its object without what was written in its place
  restores_version : (past : List Entry) (e : Entry) (o : ℕ) → LegalPast plan past → MayRestore plan past e → e.arg ≡ o
      → e.value ≡ value_outside plan past o (e.place ∷ [])
  restores_version past e o legal h same =
      let used : uses plan e.place e.arg ≡ true = (first_not_fails (is_tried past e.place) (objects_of plan e.place) e.arg h.least).1 in
      let live : is_live past e.place ≡ true = live_from e.place past (undoing_started plan tree past legal e.place h.when) h.lasts in
      let own : AreWithin plan e.place (e.place ∷ []) =
      with_within plan e.place e.place [] (or_left _ _ (eq-eqb e.place e.place refl))
      (λ q m. absurd (false≢true m)) in
      h.value ∙ subst (λ a. value_of plan (before_start past e.place) e.arg ≡ value_outside plan past a (e.place ∷ []))
      same (sym (versions past legal e.place e.arg used live (e.place ∷ []) own
      (or_left _ _ (eq-eqb e.place e.place refl))))

  device_by : (past : List Entry) (k : Kind) (e : Entry) (o : ℕ) → LegalPast plan past
      → last_put plan past o ≡ value_of plan past o → Row k plan past (of_kind k e)
      → last_put plan (of_kind k e ∷ past) o ≡ value_of plan (of_kind k e ∷ past) o
  device_by past kind.Write e o legal ih h =
      elim (cases_Bool (e.arg == o)) [ inl x ↦ rw x refl | inr x ↦ rw x ih ]
  device_by past kind.Restore e o legal ih h =
      elim (cases_Bool (e.mark == 0)) [
        | inl x ↦ elim (cases_Bool (e.arg == o)) [
          | inl y ↦ rw (x, y) (restores_version past (of_kind kind.Restore e) o legal h (eqb-true e.arg o y))
          | inr y ↦ rw (x, y) ih
        ]
        | inr x ↦ elim (cases_Bool (e.arg == o)) [ inl y ↦ rw (x, y) ih | inr y ↦ rw (x, y) ih ]
      ]
  device_by past _ e o legal ih h = ih

  device_keeps : (past : List Entry) → LegalPast plan past → DeviceLaw plan past
  device_keeps [] h o = refl
  device_keeps (e ∷ past) h o = device_by past e.kind e o h.0 (device_keeps past h.0 o) h.1

-- device law
pub device : (plan : Plan) → IsTree plan → Holds DeviceLaw plan
device plan tree past legal = device_keeps plan tree past legal
