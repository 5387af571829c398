-- Who sleeps after an entry, and whom an entry wakes.
use Rattle.std.proofs.Common.{◌≡◌, ℕ, ◌==◌, true, false, ◌||◌, List, [], ◌∷◌, reverse, sym, ap, ◌∙◌, subst, inl, inr}
use Rattle.std.proofs.lemmas.Bool.{or_cases, eqb-true, false_from_ne_true, both_ways}
use Rattle.std.proofs.lemmas.List.{reverse-append}
use Rattle.cover_table.specs.Cover.{has_bit}
use Rattle.caa_base.specs.declared.written.entry.Entry.{Entry}
use Rattle.place_plan.specs.Plans.PlanValue.{Plan}
use Rattle.place_plan.specs.RulesOfJournals.Journals.{LegalPast, HasNoEntry}
use Rattle.journal_laws.specs.Laws.{Holds, SleepsOn, wakes}
use Rattle.role_driver.specs.Schedule.{Acts}
use Rattle.role_driver.specs.inner.Sleeping.{AllSleep}

-- one more, who has no entry
pub one_more_sleeps : (plan : Plan) (journal : List Entry) (crew more t : ℕ)
    → ((s : ℕ) → has_bit more s ≡ ((t == s) || has_bit crew s)) → AllSleep plan journal crew
    → HasNoEntry plan (reverse journal) t → AllSleep plan journal more
one_more_sleeps plan journal crew more t added sleep silent s w = elim (or_cases (t == s) (has_bit crew s) (sym (added s) ∙ w)) [
  | inl same ↦ subst (HasNoEntry plan (reverse journal)) (eqb-true t s same) silent
  | inr was ↦ sleep s was
]

-- those whom the entry of one who was awake doesn't wake
pub unwoken_sleep : (plan : Plan) (old new : List Entry) (t : ℕ) (e : Entry) (crew left : ℕ) → Holds SleepsOn plan
    → LegalPast plan (reverse old) → Acts plan old new t e → has_bit crew t ≡ false → AllSleep plan old crew
    → ((s : ℕ) → has_bit left s ≡ true → (has_bit crew s ≡ true) × (wakes plan (reverse new) e s ≡ false)) → AllSleep plan new left
unwoken_sleep plan old new t e crew left law legal acts awake sleep leaves s w =
    let kept = leaves s w in
    let other : (e.by == s) ≡ false =
    false_from_ne_true _ (λ same. both_ways _ (subst (λ a. has_bit crew a ≡ false) (sym acts.own ∙ eqb-true e.by s same) awake) kept.0) in
    let past : reverse new ≡ e ∷ reverse old = ap reverse acts.added ∙ reverse-append old (e ∷ []) in
    let unwoken = subst (λ es. wakes plan es e s ≡ false) past kept.1 in
    subst (λ es. HasNoEntry plan es s) (sym past) (law (reverse old) legal e s acts.may other unwoken (sleep s kept.0))
