-- What the questions answer is right by the journal that the table stands for.
use Rattle.std.proofs.Common.{◌≡◌, ◌∙◌, ℕ, ◌==◌, ◌<◌, Bool, true, false, cond, ◌&&◌, ◌||◌, List, [], ◌∷◌, Some, None, length, slice_get, slice_set, refl, sym, ap, ap₂, inl, inr}
use Rattle.std.specs.List.{list_any, list_all, All}
use Rattle.std.proofs.lemmas.List.Elements.{All-nil, All-cons, All-append}
use Rattle.std.proofs.lemmas.Bool.{cases_Bool, and_parts, eqb-true, eq-eqb, false_from_ne_true, false≢true, both_ways}
use Rattle.cover_table.specs.Cover.{has_bit}
use Rattle.caa_base.specs.Written.Lists.{member}
use Rattle.caa_base.specs.declared.written.entry.Entry.{Entry}
use Rattle.caa_base.specs.declared.written.entry.Kind.TheVariants as kind
use Rattle.caa_base.specs.declared.written.entry.Verdict.{Verdict}
use Rattle.caa_base.specs.declared.written.entry.Verdict.TheVariants as verdict
use Rattle.place_plan.specs.RulesOfJournals.Entries.{is_by, newest}
use Rattle.place_plan.specs.Plans.PlanValue.{Plan}
use Rattle.place_plan.specs.Plans.Closed.{IsClosed}
use Rattle.place_plan.specs.Plans.Places.{around, roles_of, objects_of, interface_of}
use Rattle.place_plan.specs.RulesOfJournals.Raising.{is_raised, is_doomed}
use Rattle.place_plan.specs.RulesOfJournals.Objects.{is_tried, next_restore}
use Rattle.place_plan.specs.RulesOfJournals.Roles.{has_given, all_have_given, has_aborted, verdict_of, is_undo, signal_in, wants_undo}
use Rattle.place_plan.proofs.OnPlans.SmallParts.{objects_rise}
use Rattle.action_endings.specs.declared.ending.Ending.{Ending}
use Rattle.action_endings.specs.inner.KeptEndings.{at, SignalsBelow, verdict_kept, name_in, name_kept, tried_kept, doomed_kept, asks_for_undo, KeepsVerdicts, KeepsRest, StandsFor}
use Rattle.action_endings.specs.inner.ChangedEndings.{marked, given_kept, given_by, signals_kept, AreKnown}
use Rattle.action_endings.proofs.EndingsKept.{any_same, set_here, set_apart}
use Rattle.action_endings.proofs.PlanNumbers.{first_after}

all_same : (f g : ℕ → Bool) (xs : List ℕ) → ((x : ℕ) → f x ≡ g x) → list_all f xs ≡ list_all g xs
all_same f g [] h = refl
all_same f g (x ∷ xs) h = ap₂ (λ a b. a && b) (h x) (all_same f g xs h)

-- ---- dooms

-- every place inside is doomed, and no other
pub dooms_inside : (plan : Plan) (p : ℕ) (old : List Ending) → p < length old → (q : ℕ)
    → doomed_kept plan (slice_set old p (marked (at old p))) q ≡ (member p (around plan q) || doomed_kept plan old q)
dooms_inside plan p old l q = by_list (around plan q)
  where
    new : List Ending
    new = slice_set old p (marked (at old p))

    mixed : (a b c d : Bool) → ((a || b) || (c || d)) ≡ ((a || c) || (b || d))
    mixed true b c d = refl
    mixed false true true d = refl
    mixed false true false d = refl
    mixed false false c d = refl

    at_one : (x : ℕ) → (at new x).raised ≡ ((x == p) || (at old x).raised)
    at_one x = elim (cases_Bool (x == p)) [
      | inl same ↦
          let is : x ≡ p = eqb-true x p same in
          rw same (ap (λ y. (at new y).raised) is ∙ ap (λ (e : Ending). e.raised) (set_here old p (marked (at old p)) l))
      | inr other ↦
          let off : (p == x) ≡ false = false_from_ne_true _ (λ w. both_ways _ other (eq-eqb x p (sym (eqb-true p x w)))) in
          rw other (ap (λ (e : Ending). e.raised) (set_apart old p x (marked (at old p)) off))
    ]

    by_list : (xs : List ℕ)
        → list_any (λ x. (at new x).raised) xs ≡ (member p xs || list_any (λ x. (at old x).raised) xs)
    by_list [] = refl
    by_list (x ∷ xs) =
        ap₂ (λ a b. a || b) (at_one x) (by_list xs)
        ∙ mixed (x == p) (at old x).raised (member p xs) (list_any (λ y. (at old y).raised) xs)

pub doomed_right : (plan : Plan) (past : List Entry) (endings : List Ending) (p : ℕ) → StandsFor plan past endings
    → doomed_kept plan endings p ≡ is_doomed plan past p
doomed_right plan past endings p s =
    any_same (λ q. (at endings q).raised) (λ q. is_raised plan past q) (around plan p) (λ q. (s.rest q).raised)

-- ---- verdicts

pub given_right : (plan : Plan) (past : List Entry) (p t : ℕ) (row : Ending) → KeepsVerdicts plan past p row
    → given_kept plan p t row ≡ given_by plan past p t
given_right plan past p t row k = by_bit (has_bit row.given t) (has_given plan past p t) (k.given t) (k.said t)
  where
    by_bit : (a b : Bool) → a ≡ b → (b ≡ true → verdict_of past p t ≡ Some (verdict_kept plan p t row))
        → cond a (Some (verdict_kept plan p t row)) None ≡ cond b (verdict_of past p t) None
    by_bit true true e h = sym (h refl)
    by_bit true false e h = absurd (cc)
    by_bit false true e h = absurd (cc)
    by_bit false false e h = refl

pub all_given_right : (plan : Plan) (past : List Entry) (p : ℕ) (row : Ending) → KeepsVerdicts plan past p row
    → list_all (has_bit row.given) (roles_of plan p) ≡ all_have_given plan past p
all_given_right plan past p row k = all_same (has_bit row.given) (has_given plan past p) (roles_of plan p) k.given

pub undo_right : (plan : Plan) (past : List Entry) (p : ℕ) (row : Ending) → KeepsVerdicts plan past p row
    → all_have_given plan past p ≡ true → row.undo ≡ wants_undo plan past p
undo_right plan past p row k all = k.undo ∙ by_list (roles_of plan p) all
  where
    by_list : (ts : List ℕ) → list_all (has_given plan past p) ts ≡ true
        → list_any (asks_for_undo plan past p) ts ≡ list_any (λ t. is_undo (verdict_of past p t)) ts
    by_list [] h = refl
    by_list (t ∷ ts) h =
        let parts = and_parts (has_given plan past p t) (list_all (has_given plan past p) ts) h in
        ap₂ (λ a b. (a && is_undo (verdict_of past p t)) || b) parts.0 (by_list ts parts.1)

-- what the roles signal is known
pub signals_known : (plan : Plan) (past : List Entry) (p : ℕ) (row : Ending) → KeepsVerdicts plan past p row → AreKnown plan p row
signals_known plan past p row k = by_list (roles_of plan p)
  where
    by_verdict : (v : Verdict) → SignalsBelow (interface_of plan p).count v
        → All (λ x. x < (interface_of plan p).count) (signal_in (Some v))
    by_verdict verdict.Done h = All-nil (λ x. x < (interface_of plan p).count)
    by_verdict (verdict.Signal x) h =
        All-cons (λ y. y < (interface_of plan p).count) x [] h (All-nil (λ y. y < (interface_of plan p).count))
    by_verdict verdict.Undo h = All-nil (λ x. x < (interface_of plan p).count)

    by_bit : (t : ℕ) (b : Bool) → (b ≡ true → SignalsBelow (interface_of plan p).count (verdict_kept plan p t row))
        → All (λ x. x < (interface_of plan p).count) (signal_in (cond b (Some (verdict_kept plan p t row)) None))
    by_bit t true h = by_verdict (verdict_kept plan p t row) (h refl)
    by_bit t false h = All-nil (λ x. x < (interface_of plan p).count)

    by_list : (ts : List ℕ) → All (λ x. x < (interface_of plan p).count) (signals_kept plan p row ts)
    by_list [] = All-nil (λ x. x < (interface_of plan p).count)
    by_list (t ∷ ts) =
        All-append (λ x. x < (interface_of plan p).count) (signal_in (given_kept plan p t row)) (signals_kept plan p row ts)
        (by_bit t (has_bit row.given t) (k.known t)) (by_list ts)

-- ---- aborts and restores

newest_there : (test : Entry → Bool) (past : List Entry) → list_any test past ≡ true → (e : Entry) × (newest test past ≡ Some e)
newest_there test [] h = absurd (false≢true h)
newest_there test (x ∷ past) h = by_test (test x) h (newest_there test past)
  where
    by_test : (b : Bool) → (b || list_any test past) ≡ true → (list_any test past ≡ true → (e : Entry) × (newest test past ≡ Some e))
        → (e : Entry) × (cond b (Some x) (newest test past) ≡ Some e)
    by_test true h ih = (x, refl)
    by_test false h ih = ih h

pub name_right : (plan : Plan) (past : List Entry) (p t : ℕ) (row : Ending) → KeepsRest plan past p row
    → has_aborted past p t ≡ true → name_kept plan p t row ≡ name_in (newest (is_by kind.Abort p t) past)
name_right plan past p t row k h =
    let found = newest_there (is_by kind.Abort p t) past h in
    sym (ap name_in found.1 ∙ k.named t found.0 found.1)

pub next_right : (plan : Plan) → IsClosed plan → (past : List Entry) (endings : List Ending) (p : ℕ) → StandsFor plan past endings
    → slice_get (objects_of plan p) (tried_kept plan p (at endings p)) ≡ next_restore plan past p
next_right plan closed past endings p s =
    sym (first_after (is_tried past p) 0 (objects_of plan p) (tried_kept plan p (at endings p)) (objects_rise plan closed p)
    (λ o m. (s.rest p).tried o))
