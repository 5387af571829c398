-- The moments of a journal are the pasts of its first entries.
use Rattle.std.proofs.Common.{◌≡◌, ◌⊎◌, ℕ, ◌+◌, ◌≤◌, Bool, true, false, not, ◌||◌, List, [], ◌∷◌, ◌++◌, length, reverse, take, drop, refl, sym, ap, ◌∙◌, subst, arith, ◌↔◌, inl, inr}
use Rattle.std.specs.List.{list_any, list_all}
use Rattle.std.proofs.lemmas.Bool.{not-true, false≢true, false_from_ne_true, cases_lt}
use Rattle.std.proofs.lemmas.List.{append-nil, reverse-append, reverse-reverse, length-reverse, length-append, take-append-drop, take-append-le, take_all}
use Rattle.std.proofs.lemmas.List.Folds.{list_any-append}
use Rattle.caa_base.specs.declared.written.entry.Entry.{Entry}
use Rattle.caa_base.proofs.ListLemmas.{all_at, all_from}
use Rattle.place_plan.specs.Plans.PlanValue.{Plan}
use Rattle.interlock_rules.specs.Interlocks.{Breaks, KeepsInterlock, Takes, IsInterlocked, past_after, IsFirstBreak, IsFirstBroken, is_fault_on}
use Rattle.interlock_rules.specs.declared.monitor.FirstBreak.{FirstBreak}
use Rattle.interlock_rules.specs.declared.monitor.FirstBreak.TheVariants as broken
use Rattle.interlock_rules.specs.declared.rules.Rule.{Rule}

-- ---- moments

turned_back : (journal later before : List Entry) → reverse journal ≡ later ++ before → journal ≡ reverse before ++ reverse later
turned_back journal later before e = sym (reverse-reverse journal) ∙ ap reverse e ∙ reverse-append later before

-- a moment of the past is that after some of the first entries
moment_is : (journal later before : List Entry) → reverse journal ≡ later ++ before → past_after journal (length before) ≡ before
moment_is journal later before e =
    let turned = turned_back journal later before e in
    let long : length (reverse before) ≡ length before = length-reverse before in
    ap (λ es. reverse (take (length before) es)) turned
    ∙ ap reverse (take-append-le (length before) (reverse before) (reverse later) (omega arith)
    ∙ take_all (length before) (reverse before) (omega arith))
    ∙ reverse-reverse before

moment_within : (journal later before : List Entry) → reverse journal ≡ later ++ before → length before ≤ length journal
moment_within journal later before e =
    let all = ap length e in
    omega (arith, all, length-reverse journal, length-append later before)

-- where no moment breaks a rule, the whole keeps it
pub keeps_all : (rule : Rule) (plan : Plan) (journal : List Entry)
    → ((m : ℕ) → m ≤ length journal → Breaks rule plan (past_after journal m) → ⊥) → KeepsInterlock rule plan (reverse journal)
keeps_all rule plan journal h later before e b =
    h (length before) (moment_within journal later before e) (subst (Breaks rule plan) (sym (moment_is journal later before e)) b)

-- where the first values break nothing, the moment before any entry doesn't
pub none_at_first : (rule : Rule) (plan : Plan) (journal : List Entry) → (Breaks rule plan [] → ⊥)
    → (m : ℕ) → m ≤ 0 → Breaks rule plan (past_after journal m) → ⊥
none_at_first rule plan journal h m l b =
    let none : m ≡ 0 = omega arith in
    h (subst (λ n. Breaks rule plan (past_after journal n)) none b)

-- where the next entry breaks nothing either, no moment up to it does
pub none_so_far : (rule : Rule) (plan : Plan) (journal : List Entry) (i : ℕ)
    → ((m : ℕ) → m ≤ i → Breaks rule plan (past_after journal m) → ⊥) → (Breaks rule plan (past_after journal (i + 1)) → ⊥)
    → (m : ℕ) → m ≤ i + 1 → Breaks rule plan (past_after journal m) → ⊥
none_so_far rule plan journal i h k m l b =
    elim (cases_lt m (i + 1)) [
      | inl a ↦ h m (omega arith) b
      | inr a ↦ let last : m ≡ i + 1 = omega arith in k (subst (λ n. Breaks rule plan (past_after journal n)) last b)
    ]

-- the moment after the first n entries is one of the whole
is_moment : (journal : List Entry) (n : ℕ) → reverse journal ≡ reverse (drop n journal) ++ past_after journal n
is_moment journal n = ap reverse (sym (take-append-drop n journal)) ∙ reverse-append (take n journal) (drop n journal)

-- a journal that breaks a rule somewhere doesn't keep it
not_kept : (rule : Rule) (plan : Plan) (journal : List Entry) (n : ℕ) → Breaks rule plan (past_after journal n)
    → KeepsInterlock rule plan (reverse journal) → ⊥
not_kept rule plan journal n b keeps = keeps (reverse (drop n journal)) (past_after journal n) (is_moment journal n) b

not_kept_first : (rule : Rule) (plan : Plan) (journal : List Entry) → Breaks rule plan [] → KeepsInterlock rule plan (reverse journal) → ⊥
not_kept_first rule plan journal b keeps = keeps (reverse journal) [] (sym (append-nil (reverse journal))) b

-- nor one that is broken by the first values or by an entry
pub broken_somewhere : (rule : Rule) (plan : Plan) (journal : List Entry) (found : FirstBreak) → IsFirstBreak rule plan journal found
    → (found ≡ broken.FirstValues) ⊎ ((n : ℕ) × (found ≡ broken.ByEntry n)) → KeepsInterlock rule plan (reverse journal) → ⊥
broken_somewhere rule plan journal found is which keeps =
    elim which [
      | inl e ↦ not_kept_first rule plan journal (subst (λ (f : FirstBreak). IsFirstBreak rule plan journal f) e is) keeps
      | inr e ↦
          let at : IsFirstBroken rule plan journal e.0 = subst (λ (f : FirstBreak). IsFirstBreak rule plan journal f) e.1 is in
          not_kept rule plan journal e.0 at.broken keeps
    ]

-- ---- what was refused

turned : (a b : Bool) → (a || (b || false)) ≡ (b || a)
turned true true = refl
turned true false = refl
turned false true = refl
turned false false = refl

any_reverse : (test : Entry → Bool) (es : List Entry) → list_any test (reverse es) ≡ list_any test es
any_reverse test [] = refl
any_reverse test (e ∷ es) =
    ap (list_any test) (reverse-append (e ∷ []) es) ∙ list_any-append test (reverse es) (e ∷ [])
    ∙ ap (λ b. b || list_any test (e ∷ [])) (any_reverse test es) ∙ turned (list_any test es) (test e)

pub takes_all : (taken : List ℕ) (journal : List Entry)
    → (list_all (λ o. not (list_any (is_fault_on o) journal)) taken ≡ true) ↔ Takes taken (reverse journal)
takes_all taken journal = (
  λ t o m. any_reverse (is_fault_on o) journal ∙ not-true _ (all_at (λ o. not (list_any (is_fault_on o) journal)) taken o t m),
  λ takes. all_from (λ o. not (list_any (is_fault_on o) journal)) taken
      (λ o m. ap not (sym (any_reverse (is_fault_on o) journal) ∙ takes o m)),
)

-- a journal that breaks a rule is as it should be just where the device refused one of these
pub to_blame : (rule : Rule) (taken : List ℕ) (plan : Plan) (journal : List Entry) (b : Bool)
    → ((b ≡ true) ↔ Takes taken (reverse journal)) → (KeepsInterlock rule plan (reverse journal) → ⊥)
    → (not b ≡ true) ↔ IsInterlocked rule taken plan (reverse journal)
to_blame rule taken plan journal b tells breaks = (
  λ n t. absurd (false≢true (sym (not-true b n) ∙ tells.1 t)),
  λ so. ap not (false_from_ne_true b (λ h. breaks (so (tells.0 h)))),
)
