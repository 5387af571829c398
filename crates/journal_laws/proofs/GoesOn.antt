-- Some participant has an entry, as long as one isn't over: where nothing is due, no place is live, and then all are over.
use Rattle.std.proofs.Common.{◌≡◌, ℕ, ◌<◌, ◌≤◌, Bool, true, false, List, Some, None, Option, length, refl, sym, subst, arith, suc, zero, inl, inr, ◌⊎◌}
use Rattle.std.proofs.lemmas.Bool.{cases_Bool, cases_eq, cases_lt, false_from_ne_true, both_ways}
use Rattle.caa_base.specs.declared.written.entry.Entry.{Entry}
use Rattle.place_plan.specs.Plans.PlanValue.{Plan}
use Rattle.place_plan.specs.RulesOfJournals.Whereabouts.{is_live}
use Rattle.place_plan.specs.RulesOfJournals.Journals.{LegalPast, AllOver}
use Rattle.journal_laws.specs.Laws.{Holds, GoesOn, HasEntry}
use Rattle.journal_laws.specs.Due.{due_of, DueIsRight}
use Rattle.journal_laws.proofs.Playable.{IsPlayable}
use Rattle.journal_laws.proofs.Lives.{live_parts}
use Rattle.journal_laws.proofs.InnerFirst.{started_filled}
use Rattle.journal_laws.proofs.Phases.{Phase, at_end, at_wait, at_undo, at_doom, at_hot, at_calm, phase_of}
use Rattle.journal_laws.proofs.Ranges.{place_known}
use Rattle.journal_laws.proofs.Waiting.{NothingDue, all_over}
use Rattle.journal_laws.proofs.LastLive.{not_undoing, not_doomed, not_hot}
use Rattle.journal_laws.proofs.LastCalm.{calm_due}

-- the greatest number below n that passes a test, or none does
greatest_below : (test : ℕ → Bool) (n : ℕ)
    → ((p : ℕ) → p < n → test p ≡ false) ⊎ ((p : ℕ) × (test p ≡ true) × ((q : ℕ) → p < q → q < n → test q ≡ false))
greatest_below test zero = inl (λ p l. absurd (omega arith))
greatest_below test (suc n) = by_test (cases_Bool (test n)) (greatest_below test n)
  where
    top : test n ≡ false → (p : ℕ) → (p < n → test p ≡ false) → p < suc n → test p ≡ false
    top x p rest l = elim (cases_eq p n) [
      | inl same ↦ subst (λ a. test a ≡ false) (sym same) x
      | inr other ↦ rest (omega arith)
    ]

    by_test : (test n ≡ true) ⊎ (test n ≡ false)
        → ((p : ℕ) → p < n → test p ≡ false) ⊎ ((p : ℕ) × (test p ≡ true) × ((q : ℕ) → p < q → q < n → test q ≡ false))
        → ((p : ℕ) → p < suc n → test p ≡ false)
        ⊎ ((p : ℕ) × (test p ≡ true) × ((q : ℕ) → p < q → q < suc n → test q ≡ false))
    by_test (inl x) below = inr (n, x, λ q a b. absurd (omega arith))
    by_test (inr x) (inl none) = inl (λ p l. top x p (none p) l)
    by_test (inr x) (inr (p, is, above)) = inr (p, is, λ q a l. top x q (above q a) l)

module _ (plan : Plan) (playable : IsPlayable plan) (past : List Entry) (legal : LegalPast plan past) where
  -- a live place is in the table
  dead_past : (p : ℕ) → length plan.places ≤ p → is_live past p ≡ false
  dead_past p l = false_from_ne_true _ (λ w.
      let some = started_filled plan playable.tree past legal p (live_parts p past w).0 in
      let known = place_known plan p some.0 some.1 in
      omega arith)

  -- where nothing is due, no place is the last of the live ones
  none_last : NothingDue plan past → (p : ℕ) → is_live past p ≡ true → ((q : ℕ) → p < q → is_live past q ≡ false) → ⊥
  none_last still p live last = by_phase (phase_of plan past p)
    where
      by_phase : Phase plan past p → ⊥
      by_phase (at_end f) = both_ways _ (live_parts p past live).1 f
      by_phase (at_wait f s) = both_ways _ s (live_parts p past live).0
      by_phase (at_undo f s u) = not_undoing plan playable past legal still p live last u
      by_phase (at_doom f s u d) = not_doomed plan playable past legal still p live last u d
      by_phase (at_hot f s u d r) = not_hot plan playable past legal still p live last u d r
      by_phase (at_calm f s u d r) = calm_due plan playable past legal still p live last u d r

  -- where nothing is due, all are over
  still_over : NothingDue plan past → AllOver plan past
  still_over still = elim (greatest_below (is_live past) (length plan.places)) [
    | inl none ↦
        all_over plan playable past legal still
        (λ p. elim (cases_lt p (length plan.places)) [ inl l ↦ none p l | inr l ↦ dead_past p l ])
    | inr some ↦
        absurd (none_last still some.0 some.1
        (λ q a. elim (cases_lt q (length plan.places)) [ inl l ↦ some.2 q a l | inr l ↦ dead_past q l ]))
  ]

-- one of the first n participants has an entry, or nothing is due to any of them
one_or_none : (plan : Plan) (past : List Entry) → DueIsRight plan past → (n : ℕ) → n ≤ length plan.participants
    → HasEntry plan past ⊎ ((t : ℕ) → t < n → due_of plan past t ≡ None)
one_or_none plan past right zero l = inr (λ t b. absurd (omega arith))
one_or_none plan past right (suc n) l = elim (one_or_none plan past right n (omega arith)) [
  | inl found ↦ inl found
  | inr rest ↦ by_due (due_of plan past n) refl rest
]
  where
    by_due : (o : Option Entry) → due_of plan past n ≡ o → ((t : ℕ) → t < n → due_of plan past t ≡ None)
        → HasEntry plan past ⊎ ((t : ℕ) → t < suc n → due_of plan past t ≡ None)
    by_due (Some e) d rest = let may = right.may n e d in inl (record { entry = e; known = rw may.1 (omega arith); may = may.0 })
    by_due None d rest = inr (λ t b. elim (cases_eq t n) [
      | inl same ↦ subst (λ a. due_of plan past a ≡ None) (sym same) d
      | inr other ↦ rest t (omega arith)
    ])

-- progress law: as long as a participant isn't over, some participant has an entry
pub goes_on : (plan : Plan) → IsPlayable plan → Holds DueIsRight plan → Holds GoesOn plan
goes_on plan playable right past legal unfinished =
    elim (one_or_none plan past (right past legal) (length plan.participants) (omega arith)) [
      | inl found ↦ found
      | inr still ↦ absurd (unfinished (still_over plan playable past legal still))
    ]
