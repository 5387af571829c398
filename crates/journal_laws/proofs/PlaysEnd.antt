-- Each play ends at most once, and in a complete journal each has ended.
use Rattle.std.proofs.Common.{◌≡◌, ℕ, ◌==◌, ◌≤◌, Bool, true, false, ◌||◌, List, [], ◌∷◌, ◌++◌, length, None, is_none, suc, refl, sym, ap, ◌∙◌, subst, arith, inl, inr}
use Rattle.std.specs.Cmp.{IsEquivalence}
use Rattle.std.specs.List.{IsDistinct, AllByRecursion}
use Rattle.std.proofs.lemmas.Cmp.{nat_eq_equiv}
use Rattle.std.proofs.lemmas.Map.Made.{length-le_from_is_member}
use Rattle.std.proofs.lemmas.List.Folds.{list_any-append}
use Rattle.std.proofs.lemmas.Bool.{and_parts, and_from, or_cases, or_left, or_right, or_parts, eqb-true, eq-eqb, false≢true, cases_Bool, false_from_ne_true, both_ways}
use Rattle.std.proofs.Math.Bool.{or-false}
use Rattle.caa_base.specs.declared.written.entry.Entry.{Entry}
use Rattle.caa_base.specs.declared.written.entry.Kind.TheVariants as kind
use Rattle.place_plan.specs.Plans.PlanValue.{Plan}
use Rattle.caa_base.specs.Written.Lists.{member, is_empty, first_of}
use Rattle.caa_base.specs.inner.Lists.{Rises}
use Rattle.place_plan.specs.Plans.Places.{around, parent, roles_of}
use Rattle.place_plan.specs.RulesOfJournals.Entries.{is_of, is_in}
use Rattle.place_plan.specs.RulesOfJournals.Whereabouts.{has_ended}
use Rattle.place_plan.specs.RulesOfJournals.Journals.{LegalPast, AllOver, ends_play, plays_ended}
use Rattle.journal_laws.proofs.Playable.{IsPlayable}
use Rattle.place_plan.proofs.OnJournals.EntryKinds.{of_kind}
use Rattle.place_plan.proofs.OnPlans.PlaysRise.{in_plays}
use Rattle.journal_laws.proofs.Lives.{live_parts}
use Rattle.journal_laws.proofs.Holding.{end_live}
use Rattle.journal_laws.proofs.Exit.{end_row}
use Rattle.journal_laws.proofs.Makers.{maker_role}
use Rattle.journal_laws.proofs.Arrivals.{left_ended}
use Rattle.journal_laws.proofs.Over.{over_left}

-- ---- lists of numbers

pub member_more : (q p : ℕ) (ps : List ℕ) → member q (ps ++ p ∷ []) ≡ (member q ps || (p == q))
member_more q p ps = list_any-append (λ x. x == q) ps (p ∷ []) ∙ ap (λ b. member q ps || b) (or-false (p == q))

-- the second number is the first
abbrev same : ℕ → ℕ → Bool
same q x = x == q

same_laws : IsEquivalence same
same_laws = record {
  refl = nat_eq_equiv.refl;
  symm = λ x y. nat_eq_equiv.symm y x;
  congr = λ x y z e. nat_eq_equiv.symm z x ∙ sym (nat_eq_equiv.congr y x z e) ∙ nat_eq_equiv.symm y z;
}

apart_more : (q p : ℕ) (ps : List ℕ) → AllByRecursion (λ y. same q y ≡ false) ps → (q == p) ≡ false
    → AllByRecursion (λ y. same q y ≡ false) (ps ++ p ∷ [])
apart_more q p [] all other = (nat_eq_equiv.symm p q ∙ other, tt)
apart_more q p (x ∷ ps) all other = (all.0, apart_more q p ps all.1 other)

distinct_more : (ps : List ℕ) (p : ℕ) → IsDistinct same ps → member p ps ≡ false → IsDistinct same (ps ++ p ∷ [])
unfolding IsDistinct
distinct_more [] p d m = (tt, tt)
distinct_more (q ∷ ps) p d m = let parts = or_parts (q == p) (member p ps) m in
    (apart_more q p ps d.0 parts.0, distinct_more ps p d.1 parts.1)

above_apart : (q low : ℕ) (ps : List ℕ) → Rises low ps → suc q ≤ low → AllByRecursion (λ y. same q y ≡ false) ps
above_apart q low [] r l = tt
above_apart q low (p ∷ ps) r l = (
  false_from_ne_true _ (λ e. let x = eqb-true p q e in omega (arith, r.0)),
  above_apart q (suc p) ps r.1 (omega (arith, r.0)),
)

rising_distinct : (low : ℕ) (ps : List ℕ) → Rises low ps → IsDistinct same ps
unfolding IsDistinct
rising_distinct low [] r = tt
rising_distinct low (p ∷ ps) r = (above_apart p (suc p) ps r.1 (omega arith), rising_distinct (suc p) ps r.1)

-- numbers that differ are as many as others that differ, where they have the same members
as_many : (ps qs : List ℕ) → IsDistinct same ps → IsDistinct same qs
    → ((x : ℕ) → member x ps ≡ true → member x qs ≡ true) → ((x : ℕ) → member x qs ≡ true → member x ps ≡ true)
    → length ps ≡ length qs
as_many ps qs d e h k =
    let few = length-le_from_is_member same_laws ps qs d h in
    let many = length-le_from_is_member same_laws qs ps e k in
    omega (arith, few, many)

module _ (plan : Plan) where
  pub nothing_round : (p : ℕ) (qs : List ℕ) → around plan p ≡ qs → first_of qs ≡ None → around plan p ≡ []
  nothing_round p [] a w = a
  nothing_round p (q ∷ qs) a w = absurd cc

  -- a play that is listed has ended
  pub ended_is : (past : List Entry) (q : ℕ) → member q (plays_ended plan past) ≡ true → has_ended past q ≡ true
  ended_is [] q m = absurd (false≢true m)
  ended_is (e ∷ past) q m = elim (cases_Bool (ends_play plan e)) [
    | inl x ↦
        elim (or_cases (member q (plays_ended plan past)) (e.place == q)
        (sym (member_more q e.place (plays_ended plan past)) ∙ (rw x at m))) [
          | inl y ↦ or_right _ _ (ended_is past q y)
          | inr y ↦
              or_left _ _ (and_from (is_of kind.End e) (e.place == q)
              (and_parts (is_of kind.End e) (is_none (parent plan e.place)) x).0 y)
        ]
    | inr x ↦ or_right _ _ (ended_is past q (rw x at m))
  ]

  -- and each that has ended is listed
  pub ended_listed : (past : List Entry) (q : ℕ) → around plan q ≡ [] → has_ended past q ≡ true → member q (plays_ended plan past) ≡ true
  ended_listed [] q a w = absurd (false≢true w)
  ended_listed (e ∷ past) q a w = elim (cases_Bool (ends_play plan e)) [
    | inl x ↦ rw x (member_more q e.place (plays_ended plan past) ∙ elim (or_cases (is_in kind.End q e) (has_ended past q) w) [
      | inl y ↦ or_right _ _ (and_parts (is_of kind.End e) (e.place == q) y).1
      | inr y ↦ or_left _ _ (ended_listed past q a y)
    ])
    | inr x ↦ rw x (elim (or_cases (is_in kind.End q e) (has_ended past q) w) [
      | inl y ↦ absurd (both_ways _ x (ends_it y))
      | inr y ↦ ended_listed past q a y
    ])
  ]
    where
      ends_it : is_in kind.End q e ≡ true → ends_play plan e ≡ true
      ends_it y =
          let parts = and_parts (is_of kind.End e) (e.place == q) y in
          and_from _ _ parts.0 (subst (λ p. is_none (parent plan p) ≡ true) (sym (eqb-true e.place q parts.1))
          (ap (λ qs. is_none (first_of qs)) a))

module _ (plan : Plan) (playable : IsPlayable plan) where
  end_of : (past : List Entry) (e : Entry) → LegalPast plan (e ∷ past) → ends_play plan e ≡ true
      → (has_ended past e.place ≡ false) × (member e.place plan.plays ≡ true)
  end_of past e legal x =
      let parts = and_parts (is_of kind.End e) (is_none (parent plan e.place)) x in
      let may = (end_row plan past e.kind e e.place legal.1 (and_from _ _ parts.0 (eq-eqb e.place e.place refl))).0 in (
        (live_parts e.place past (end_live plan playable.tree past (of_kind kind.End e) legal.0 may)).1,
        playable.topped e.place e.by (no_parent (around plan e.place) refl parts.1) (maker_role plan playable.tree past e legal.0 legal.1),
      )
    where
      no_parent : (qs : List ℕ) → around plan e.place ≡ qs → is_none (first_of qs) ≡ true → around plan e.place ≡ []
      no_parent [] a w = a
      no_parent (q ∷ qs) a w = absurd (false≢true w)

  -- no play is listed twice
  ended_once : (past : List Entry) → LegalPast plan past → IsDistinct same (plays_ended plan past)
  unfolding IsDistinct
  ended_once [] legal = tt
  ended_once (e ∷ past) legal = elim (cases_Bool (ends_play plan e)) [
    | inl x ↦
        rw x (distinct_more (plays_ended plan past) e.place (ended_once past legal.0)
        (false_from_ne_true _ (λ m. both_ways _ (end_of past e legal x).0 (ended_is plan past e.place m))))
    | inr x ↦ rw x (ended_once past legal.0)
  ]

  -- what is listed is a play
  ended_played : (past : List Entry) → LegalPast plan past → (q : ℕ) → member q (plays_ended plan past) ≡ true → member q plan.plays ≡ true
  ended_played [] legal q m = absurd (false≢true m)
  ended_played (e ∷ past) legal q m = elim (cases_Bool (ends_play plan e)) [
    | inl x ↦
        elim (or_cases (member q (plays_ended plan past)) (e.place == q)
        (sym (member_more q e.place (plays_ended plan past)) ∙ (rw x at m))) [
          | inl y ↦ ended_played past legal.0 q y
          | inr y ↦ subst (λ p. member p plan.plays ≡ true) (eqb-true e.place q y) (end_of past e legal x).1
        ]
    | inr x ↦ ended_played past legal.0 q (rw x at m)
  ]

  -- in a complete journal each play is listed
  all_listed : (past : List Entry) → LegalPast plan past → AllOver plan past → (q : ℕ) → member q plan.plays ≡ true
      → member q (plays_ended plan past) ≡ true
  all_listed past legal over q m = by_roles (roles_of plan q) refl (playable.filled q m)
    where
      by_roles : (ts : List ℕ) → roles_of plan q ≡ ts → is_empty ts ≡ false → member q (plays_ended plan past) ≡ true
      by_roles [] r f = absurd (false≢true (sym f))
      by_roles (t ∷ ts) r f =
          let role : member t (roles_of plan q) ≡ true = rw r (or_left _ _ (eq-eqb t t refl)) in
          let left = over_left plan playable past legal t q (over t (playable.known q t role)) (in_plays plan t plan.plays q m role) in
          ended_listed plan past q (playable.tree.tops q m) (left_ended plan playable.tree past legal q t left)

  pub all_end : (past : List Entry) → LegalPast plan past → AllOver plan past → length (plays_ended plan past) ≡ length plan.plays
  all_end past legal over =
      as_many (plays_ended plan past) plan.plays (ended_once past legal) (rising_distinct 0 plan.plays playable.rise)
      (ended_played past legal) (all_listed past legal over)
