-- One entry more: how the recoveries go on standing for the journal.
use Rattle.std.proofs.Common.{◌≡◌, ◌∙◌, ℕ, ◌==◌, ◌<◌, Bool, true, false, cond, ◌&&◌, ◌||◌, List, [], ◌∷◌, ◌++◌, Some, length, slice_set, get_or-set_same, get_or-set_other, length-set, refl, sym, ap, ap₂, subst, inl, inr}
use Rattle.std.specs.List.{All}
use Rattle.std.proofs.lemmas.List.Elements.{All-cons}
use Rattle.std.proofs.lemmas.Bool.{cases_Bool, eqb-true, eq-eqb, both_ways}
use Rattle.cover_table.specs.Cover.{IsSound, has_bit}
use Rattle.core_words.specs.Joining.{IsCoverOf}
use Rattle.core_words.proofs.Covers.{joined_more}
use Rattle.caa_base.specs.declared.written.entry.Entry.{Entry}
use Rattle.place_plan.specs.Plans.PlanValue.{Plan}
use Rattle.place_plan.specs.Plans.Places.{internal_of}
use Rattle.place_plan.specs.RulesOfJournals.Raising.{exceptions_raised, is_halted, exception_resolved}
use Rattle.resolution_core.specs.declared.recovery.Recovery.{Recovery}
use Rattle.resolution_core.specs.inner.Recoveries.{unraised, at, resolved_to, ChangesAt, Raised, Informed}
use Rattle.resolution_core.specs.inner.Standing.{IsRecoveryOf, StandsFor, Acts}

-- these are exceptions of p
abbrev AreKnown : Plan → ℕ → List ℕ → Type 0
AreKnown plan p xs = All (λ x. x < (internal_of plan p).count) xs

module _ (plan : Plan) (past : List Entry) (e : Entry) (p t : ℕ) (xs : List ℕ) (halts resolves : Bool)
    (acts : Acts plan past e p t xs halts resolves) where
  -- ---- what is raised, halted and resolved then

  raised_next : (q : ℕ) → exceptions_raised plan (e ∷ past) q ≡ cond (p == q) xs [] ++ exceptions_raised plan past q
  raised_next q = ap (λ ys. ys ++ exceptions_raised plan past q) (acts.raises q)

  halted_next : (q s : ℕ) → is_halted plan (e ∷ past) q s ≡ ((cond (p == q) halts false && (t == s)) || is_halted plan past q s)
  halted_next q s = ap₂ (λ b u. (b && (u == s)) || is_halted plan past q s) (acts.stops q) acts.own

  resolved_next : (q : ℕ) → exception_resolved (e ∷ past) q
      ≡ cond (cond (p == q) resolves false) (Some e.arg) (exception_resolved past q)
  resolved_next q = ap (λ b. cond b (Some e.arg) (exception_resolved past q)) (acts.settles q)

  -- ---- apart from p nothing changes

  apart : (q : ℕ) (row : Recovery) → (p == q) ≡ false → IsRecoveryOf plan past q row → IsRecoveryOf plan (e ∷ past) q row
  apart q row other s =
      let raised : exceptions_raised plan (e ∷ past) q ≡ exceptions_raised plan past q = raised_next q ∙ rw other refl in
      record {
        known = subst (AreKnown plan q) (sym raised) s.known;
        cover = subst (λ (ys : List ℕ). IsCoverOf (internal_of plan q) ys row.cover) (sym raised) s.cover;
        halted = λ u. s.halted u ∙ sym (halted_next q u ∙ rw other refl);
        resolution = s.resolution ∙ sym (resolved_next q ∙ rw other refl);
      }

  -- ---- in p

  same : (p == p) ≡ true
  same = eq-eqb p p refl

  here : (row : Recovery) → AreKnown plan p (xs ++ exceptions_raised plan past p)
      → IsCoverOf (internal_of plan p) (xs ++ exceptions_raised plan past p) row.cover
      → ((u : ℕ) → has_bit row.halted u ≡ ((halts && (t == u)) || is_halted plan past p u))
      → row.resolved ≡ cond resolves (Some e.arg) (exception_resolved past p) → IsRecoveryOf plan (e ∷ past) p row
  here row known cover halted resolution =
      let raised : exceptions_raised plan (e ∷ past) p ≡ xs ++ exceptions_raised plan past p = raised_next p ∙ rw same refl in
      record {
        known = subst (AreKnown plan p) (sym raised) known;
        cover = subst (λ (ys : List ℕ). IsCoverOf (internal_of plan p) ys row.cover) (sym raised) cover;
        halted = λ u. halted u ∙ sym (halted_next p u ∙ rw same refl);
        resolution = resolution ∙ sym (resolved_next p ∙ rw same refl);
      }

  -- ---- in all places, where the recovery of p is that by the journal

  kept : (old new : List Recovery) → StandsFor plan past old → length new ≡ length old
      → ((q : ℕ) → (p == q) ≡ false → at new q ≡ at old q) → IsRecoveryOf plan (e ∷ past) p (at new p)
      → StandsFor plan (e ∷ past) new
  kept old new s as_many others there =
      record {
        as_many = as_many ∙ s.as_many;
        each = λ q. elim (cases_Bool (p == q)) [
          | inl is ↦ subst (λ r. IsRecoveryOf plan (e ∷ past) r (at new r)) (eqb-true p q is) there
          | inr other ↦
              subst (IsRecoveryOf plan (e ∷ past) q) (sym (others q other)) (apart q (at old q) other (s.each q))
        ];
      }

-- ---- the three calls

-- where an entry raises an exception
pub raised_keeps : (plan : Plan) (past : List Entry) (e : Entry) (p t x : ℕ) (old new : List Recovery)
    → IsSound (internal_of plan p) → x < (internal_of plan p).count → StandsFor plan past old
    → Acts plan past e p t (x ∷ []) true false → ChangesAt (Raised (internal_of plan p) t x) p old new
    → StandsFor plan (e ∷ past) new
raised_keeps plan past e p t x old new sound known s acts c =
    let order = internal_of plan p in
    let raised = exceptions_raised plan past p in
    let was = s.each p in
    let least = joined_more order sound x c.here.cover (at old p).cover raised was.known was.cover c.here.least in
    kept plan past e p t (x ∷ []) true false acts old new s c.as_many c.apart
    (here plan past e p t (x ∷ []) true false acts (at new p)
    (All-cons (λ y. y < order.count) x raised known was.known)
    (subst (IsCoverOf order (x ∷ raised)) (sym c.here.is) (refl, least))
    (λ u. c.here.halted u ∙ ap (λ b. (t == u) || b) (was.halted u))
    (c.here.resolution ∙ was.resolution))

-- where an entry halts its maker alone
pub informed_keeps : (plan : Plan) (past : List Entry) (e : Entry) (p t : ℕ) (old new : List Recovery)
    → StandsFor plan past old → Acts plan past e p t [] true false → ChangesAt (Informed t) p old new
    → StandsFor plan (e ∷ past) new
informed_keeps plan past e p t old new s acts c =
    let was = s.each p in
    kept plan past e p t [] true false acts old new s c.as_many c.apart
    (here plan past e p t [] true false acts (at new p) was.known
    (subst (IsCoverOf (internal_of plan p) (exceptions_raised plan past p)) (sym c.here.cover) was.cover)
    (λ u. c.here.halted u ∙ ap (λ b. (t == u) || b) (was.halted u))
    (c.here.resolution ∙ was.resolution))

-- where an entry resolves p
pub resolved_keeps : (plan : Plan) (past : List Entry) (e : Entry) (p t : ℕ) (old : List Recovery) → p < length old
    → StandsFor plan past old → Acts plan past e p t [] false true
    → StandsFor plan (e ∷ past) (slice_set old p (resolved_to e.arg (at old p)))
resolved_keeps plan past e p t old l s acts =
    let was = s.each p in
    let row = resolved_to e.arg (at old p) in
    let set : at (slice_set old p row) p ≡ row = get_or-set_same old p row unraised l in
    kept plan past e p t [] false true acts old (slice_set old p row) s (length-set old p row)
    (λ q other. get_or-set_other old p q row unraised (λ w. both_ways _ other (eq-eqb p q (sym w))))
    (subst (IsRecoveryOf plan (e ∷ past) p) (sym set)
    (here plan past e p t [] false true acts row was.known was.cover was.halted refl))

-- where an entry raises, halts and resolves nothing
pub nothing_keeps : (plan : Plan) (past : List Entry) (e : Entry) (p t : ℕ) (rows : List Recovery)
    → StandsFor plan past rows → Acts plan past e p t [] false false → StandsFor plan (e ∷ past) rows
nothing_keeps plan past e p t rows s acts =
    let was = s.each p in
    kept plan past e p t [] false false acts rows rows s refl (λ q other. refl)
    (here plan past e p t [] false false acts (at rows p) was.known was.cover was.halted was.resolution)
