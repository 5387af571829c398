-- Going round from any participant, each one is asked.
use Rattle.std.proofs.Common.{◌≡◌, ℕ, ◌+◌, ◌-◌, ◌*◌, ◌%◌, ◌/◌, ◌<◌, List, length, arith, inl, inr, sym, ap, ◌∙◌, subst}
use Rattle.std.proofs.lemmas.Bool.{cases_lt}
use Rattle.std.proofs.lemmas.Nat.{mod-mul-add}
use Rattle.std.proofs.Math.Nat.{mod-lt, mod-add-div', mod-add-mod}
use Rattle.caa_base.specs.declared.written.entry.Entry.{Entry}
use Rattle.place_plan.specs.Plans.PlanValue.{Plan}
use Rattle.journal_laws.specs.Laws.{HasEntry}
use Rattle.place_plan.specs.RulesOfJournals.Journals.{HasNoEntry}
use Rattle.role_driver.specs.Schedule.{participant_asked}

-- from any number, going round n, one comes to each number below n
each_comes : (s n t : ℕ) → t < n → (i : ℕ) × (i < n) × ((s + i) % n ≡ t)
each_comes s n t l =
    let whole = mod-add-div' s n in
    let small : s % n < n = mod-lt s (omega arith) in
    elim (cases_lt t (s % n)) [
      | inl h ↦
          let round : s + (t + n - s % n) ≡ (s / n + 1) * n + t = omega (arith, whole) in
          (t + n - s % n, omega arith, ap (λ x. x % n) round ∙ mod-mul-add (s / n + 1) n t l)
      | inr h ↦
          let round : s + (t - s % n) ≡ s / n * n + t = omega (arith, whole) in
          (t - s % n, omega arith, ap (λ x. x % n) round ∙ mod-mul-add (s / n) n t l)
    ]

-- where each participant that is asked in a round is silent, none has an entry
pub round_silent : (plan : Plan) (past : List Entry) (first : ℕ)
    → ((i : ℕ) → i < length plan.participants → HasNoEntry plan past (participant_asked plan first i)) → HasEntry plan past → ⊥
round_silent plan past first h has =
    let i = each_comes first (length plan.participants) has.entry.by has.known in
    h i.0 i.1 has.entry (sym i.2) has.may

-- who is asked after so many others, where the number from which one goes round is taken by the number of participants first
pub asked_by : (plan : Plan) (n first start others by : ℕ) → n ≡ length plan.participants → others < n → (0 < n → start ≡ first % n)
    → by ≡ (start + others) % n → by ≡ participant_asked plan first others
asked_by plan n first start others by known low begins is =
    is ∙ ap (λ s. (s + others) % n) (begins (omega (arith, low)))
    ∙ (mod-add-mod first n others ∙ ap (λ m. (first + others) % m) known)

-- one more that was asked is silent
pub silent_more : (plan : Plan) (past : List Entry) (first others by : ℕ) → by ≡ participant_asked plan first others
    → HasNoEntry plan past by → ((i : ℕ) → i < others → HasNoEntry plan past (participant_asked plan first i))
    → (i : ℕ) → i < others + 1 → HasNoEntry plan past (participant_asked plan first i)
silent_more plan past first others by is silent before i low = elim (cases_lt i others) [
  | inl below ↦ before i below
  | inr high ↦
      let same : others ≡ i = omega arith in
      subst (λ j. HasNoEntry plan past (participant_asked plan first j)) same (subst (HasNoEntry plan past) is silent)
]
