-- What one more journal changes of what is counted.
use Rattle.std.proofs.Common.{◌≡◌, ℕ, ◌+◌, List, [], ◌∷◌, ◌++◌, length, take, get_or, ◌<◌, Option, refl, sym, ap, ◌∙◌, arith, add-one}
use Rattle.std.specs.Prelude.{ℤ, pos, filter_map, slice_index_or}
use Rattle.std.specs.List.{cons_option}
use Rattle.std.proofs.lemmas.List.{take_more}
use Rattle.std.proofs.lemmas.List.Elements.{filter_map-append}
use Rattle.caa_base.specs.declared.written.entry.Entry.{Entry}
use Rattle.place_plan.specs.Plans.PlanValue.{Plan}
use Rattle.place_plan.specs.RulesOfJournals.Attempts.{IsDrilled}
use Rattle.place_plan.specs.RulesOfJournals.Journals.{IsLegal, IsComplete}
use Rattle.rehearsals.specs.declared.facts.Fact.{Fact}
use Rattle.rehearsals.specs.declared.tally.Row.{Row}
use Rattle.rehearsals.specs.declared.facts.Fact.TheVariants as fact
use Rattle.rehearsals.specs.Facts.{facts_of, values_with, values_after, last_facts}
use Rattle.rehearsals.specs.Tallies.{Rehearsed, count_of, is_shown, one_if}

pub one_more_rehearsed : (plan : Plan) (paths : List ℕ) (rows new : List Row) (n : ℕ) (journal : List Entry) (facts : List Fact)
    → Rehearsed plan paths rows n → IsLegal plan journal → IsComplete plan journal → IsDrilled plan journal
    → facts ≡ facts_of plan paths journal
    → ((f : Fact) → count_of new f ≡ count_of rows f + one_if (is_shown facts f)) → Rehearsed plan paths new (n + 1)
one_more_rehearsed plan paths rows new n journal facts so legal complete drilled is counts = record {
  journals = journal ∷ so.journals;
  all = let all = so.all in omega (arith, all);
  drilled = (legal, complete, drilled, so.drilled);
  counts = λ f.
      let here = counts f in
      let before = so.counts f in
      let shown : one_if (is_shown facts f) ≡ one_if (is_shown (facts_of plan paths journal) f) = ap (λ fs. one_if (is_shown fs f)) is in
      omega (arith, here, before, shown);
}

values_append : (values : List ℤ) (some more : List Entry) → values_after values (some ++ more) ≡ values_after (values_after values some) more
values_append values [] more = refl
values_append values (e ∷ es) more = values_append (values_with values e) es more

-- the values after one entry more
pub values_more : (values : List ℤ) (entries : List Entry) (i : ℕ) (d : Entry) → i < length entries
    → values_after values (take (i + 1) entries) ≡ values_with (values_after values (take i entries)) (get_or entries i d)
values_more values entries i d low =
    ap (values_after values) (take_more entries i d low) ∙ values_append values (take i entries) (get_or entries i d ∷ [])

append_assoc : {X : Type 0} (xs ys zs : List X) → (xs ++ ys) ++ zs ≡ xs ++ (ys ++ zs)
append_assoc [] ys zs = refl
append_assoc (x ∷ xs) ys zs = ap (λ rest. x ∷ rest) (append_assoc xs ys zs)

-- what the entries show after one entry more
pub facts_more : (h : Entry → Option Fact) (entries : List Entry) (i : ℕ) (d : Entry) (facts : List Fact) (shown : Option Fact)
    → i < length entries → facts ≡ filter_map h (take i entries) → shown ≡ h (get_or entries i d)
    → facts ++ cons_option shown [] ≡ filter_map h (take (i + 1) entries)
facts_more h entries i d facts shown low before is =
    ap (λ fs. fs ++ cons_option shown []) before
    ∙ ap (λ o. filter_map h (take i entries) ++ cons_option o []) is
    ∙ sym (filter_map-append h (take i entries) (get_or entries i d ∷ []))
    ∙ sym (ap (filter_map h) (take_more entries i d low))

-- the value of one object more
pub last_more : (facts part : List Fact) (values : List ℤ) (n : ℕ) (x : Fact) → facts ≡ part ++ last_facts values n
    → x ≡ fact.Last n (slice_index_or values n (pos 0)) → facts ++ x ∷ [] ≡ part ++ last_facts values (n + 1)
last_more facts part values n x before is =
    ap (λ fs. fs ++ x ∷ []) before
    ∙ append_assoc part (last_facts values n) (x ∷ [])
    ∙ ap (λ y. part ++ (last_facts values n ++ y ∷ [])) is
    ∙ sym (ap (λ m. part ++ last_facts values m) (add-one n))

-- the values after a step of the loop
pub values_step : (first before new : List ℤ) (entries : List Entry) (i : ℕ) (d : Entry) → i < length entries
    → before ≡ values_after first (take i entries) → new ≡ values_with before (get_or entries i d)
    → new ≡ values_after first (take (i + 1) entries)
values_step first before new entries i d low was is =
    is ∙ ap (λ values. values_with values (get_or entries i d)) was ∙ sym (values_more first entries i d low)
