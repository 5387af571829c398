-- Who is awake, and who sleeps on.
use Rattle.std.proofs.Common.{◌≡◌, ℕ, zero, suc, ◌+◌, ◌<◌, ◌≤◌, ◌==◌, ◌||◌, Bool, true, false, List, [], ◌∷◌, reverse, arith, refl, sym, ap, ◌∙◌, subst, inl, inr}
use Rattle.std.proofs.lemmas.Bool.{or_cases, eqb-true, false_from_ne_true, both_ways, cases_lt}
use Rattle.std.proofs.lemmas.List.{reverse-append}
use Rattle.std.specs.Prelude.{length}
use Rattle.cover_table.specs.Cover.{has_bit}
use Rattle.caa_base.specs.declared.written.entry.Entry.{Entry}
use Rattle.place_plan.specs.Plans.PlanValue.{Plan}
use Rattle.place_plan.specs.RulesOfJournals.Journals.{LegalPast, HasNoEntry}
use Rattle.journal_laws.specs.Laws.{Holds, HasEntry, SleepsOn}
use Rattle.play_orders.specs.Asking.{Acts, AllSleep, NotAllSleep, WakesNobody}

-- 1 for a participant that is awake
abbrev awake_at : Bool → ℕ
awake_at true = 0
awake_at false = 1

-- how many of the first n participants are awake
abbrev pub awake_count : ℕ → ℕ → ℕ
awake_count crew zero = 0
awake_count crew (suc n) = awake_at (has_bit crew n) + awake_count crew n

-- a crew that has one more
abbrev HasAlso : ℕ → ℕ → ℕ → Type 0
HasAlso crew more t = (s : ℕ) → has_bit more s ≡ ((t == s) || has_bit crew s)

at_most : (a b : Bool) → awake_at (a || b) ≤ awake_at b
at_most true true = omega arith
at_most true false = omega arith
at_most false b = omega arith

-- no more are awake than before
not_more : (crew more t n : ℕ) → HasAlso crew more t → awake_count more n ≤ awake_count crew n
not_more crew more t zero also = omega arith
not_more crew more t (suc n) also =
    let rest = not_more crew more t n also in
    let here : awake_at (has_bit more n) ≤ awake_at (has_bit crew n) =
    subst (λ b. awake_at b ≤ awake_at (has_bit crew n)) (sym (also n)) (at_most (t == n) (has_bit crew n)) in
    omega (arith, rest, here)

-- where one falls asleep, fewer are awake
pub fewer : (crew more t n : ℕ) → HasAlso crew more t → has_bit crew t ≡ false → t < n → awake_count more n < awake_count crew n
fewer crew more t zero also awake below = absurd (omega (arith, below))
fewer crew more t (suc n) also awake below = elim (cases_lt t n) [
  | inl less ↦
      let rest = fewer crew more t n also awake less in
      let here : awake_at (has_bit more n) ≤ awake_at (has_bit crew n) =
      subst (λ b. awake_at b ≤ awake_at (has_bit crew n)) (sym (also n)) (at_most (t == n) (has_bit crew n)) in
      omega (arith, rest, here)
  | inr high ↦
      let same : t ≡ n = omega (arith, below, high) in
      let rest = not_more crew more t n also in
      let was : awake_at (has_bit crew n) ≡ 1 = ap awake_at (subst (λ s. has_bit crew s ≡ false) same awake) in
      let now : awake_at (has_bit more n) ≡ 0 = ap awake_at (also n ∙ subst (λ s. ((t == s) || has_bit crew s) ≡ true) same (is_there t)) in
      omega (arith, rest, was, now)
]
  where
    is_there : (s : ℕ) → ((s == s) || has_bit crew s) ≡ true
    is_there s = grind arith

-- one more, who has no entry
pub one_more_sleeps : (plan : Plan) (journal : List Entry) (crew more t : ℕ) → HasAlso crew more t → AllSleep plan journal crew
    → HasNoEntry plan (reverse journal) t → AllSleep plan journal more
one_more_sleeps plan journal crew more t added sleep silent s w = elim (or_cases (t == s) (has_bit crew s) (sym (added s) ∙ w)) [
  | inl same ↦ subst (HasNoEntry plan (reverse journal)) (eqb-true t s same) silent
  | inr was ↦ sleep s was
]

-- where somebody has an entry, not all sleep
pub somebody_is_awake : (plan : Plan) (journal : List Entry) (crew n : ℕ) → n ≡ length plan.participants → AllSleep plan journal crew
    → HasEntry plan (reverse journal) → NotAllSleep crew n
somebody_is_awake plan journal crew n known sleep has all =
    sleep has.entry.by (all has.entry.by (subst (λ m. has.entry.by < m) (sym known) has.known)) has.entry refl has.may

-- those whom the entry of one who was awake doesn't wake
pub unwoken_sleep : (plan : Plan) (old new : List Entry) (t : ℕ) (e : Entry) (crew left : ℕ) → Holds SleepsOn plan
    → LegalPast plan (reverse old) → Acts plan old new t e → has_bit crew t ≡ false → AllSleep plan old crew
    → ((s : ℕ) → has_bit left s ≡ true → (has_bit crew s ≡ true) × WakesNobody e s) → AllSleep plan new left
unwoken_sleep plan old new t e crew left law legal acts awake sleep leaves s w =
    let kept = leaves s w in
    let other : (e.by == s) ≡ false =
    false_from_ne_true _ (λ same. both_ways _ (subst (λ a. has_bit crew a ≡ false) (sym acts.own ∙ eqb-true e.by s same) awake) kept.0) in
    let past : reverse new ≡ e ∷ reverse old = ap reverse acts.added ∙ reverse-append old (e ∷ []) in
    subst (λ es. HasNoEntry plan es s) (sym past) (law (reverse old) legal e s acts.may other (kept.1 plan (e ∷ reverse old)) (sleep s kept.0))
