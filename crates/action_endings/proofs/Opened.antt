-- The table at first: no entry stands in the journal.
use Rattle.std.proofs.Common.{◌≡◌, ◌∙◌, ℕ, ◌+◌, ◌-◌, ◌<◌, List, [], ◌∷◌, ◌++◌, length, take, refl, sym, ap, subst, arith, inl, inr}
use Rattle.std.proofs.Math.ListN.{get_or-append}
use Rattle.std.proofs.Math.Seq.{get_or-append_seam}
use Rattle.std.proofs.lemmas.Bool.{cases_lt, false≢true, both_ways}
use Rattle.cover_table.proofs.Bits.{had_in_zero}
use Rattle.caa_base.specs.Written.Lists.{member}
use Rattle.place_plan.specs.declared.drafts.draft_rows.ActionRow.{ActionRow}
use Rattle.place_plan.specs.Plans.PlanValue.{Plan}
use Rattle.place_plan.specs.Plans.Places.{roles_of, objects_of}
use Rattle.place_plan.proofs.OnPlans.Passing.{past_end, below_or_not}
use Rattle.place_plan.proofs.OnPlans.ClosedPlan.{no_action_past}
use Rattle.action_endings.specs.declared.ending.Ending.{Ending}
use Rattle.action_endings.specs.inner.KeptEndings.{no_ending, unsaid, at, asks_for_undo, KeepsVerdicts, KeepsRest, StandsFor}
use Rattle.action_endings.proofs.EndingsKept.{any_none}

-- what is kept of p at first
abbrev pub opened : Plan → ℕ → Ending
opened plan p = unsaid (length (objects_of plan p))

-- one place more
pub opened_more : (plan : Plan) (rows : List Ending) (n : ℕ) (row : Ending) → length rows ≡ n
    → ((p : ℕ) → p < n → at rows p ≡ opened plan p) → row ≡ opened plan n
    → (p : ℕ) → p < n + 1 → at (rows ++ row ∷ []) p ≡ opened plan p
opened_more plan rows n row long each is p l = elim (cases_lt p n) [
  | inl before ↦ get_or-append rows (row ∷ []) no_ending p (omega (arith, long)) ∙ each p before
  | inr last ↦
      let same : p ≡ length rows = omega (arith, long) in
      let own : n ≡ p = omega arith in
      ap (at (rows ++ row ∷ [])) same ∙ (get_or-append_seam rows row [] no_ending ∙ (is ∙ ap (opened plan) own))
]

verdicts_opened : (plan : Plan) (p : ℕ) → KeepsVerdicts plan [] p (opened plan p)
verdicts_opened plan p = record {
  given = λ t. had_in_zero t;
  said = λ t counted. absurd (false≢true counted);
  undo = sym (any_none (asks_for_undo plan [] p) (roles_of plan p) (λ t. refl));
  known = λ t counted. absurd (both_ways _ (had_in_zero t) counted);
}

rest_opened : (plan : Plan) (p : ℕ) → KeepsRest plan [] p (opened plan p)
rest_opened plan p = record {
  room_to_say = refl;
  room_to_name = refl;
  raised = refl;
  aborted = λ t. had_in_zero t;
  some_aborted = refl;
  named = λ t e h. absurd cc;
  undoing = refl;
  few = omega arith;
  tried = λ o.
      let none : length (objects_of plan p) - length (objects_of plan p) ≡ 0 = omega arith in
      sym (ap (λ n. member o (take n (objects_of plan p))) none);
  failed = refl;
}

-- all places
pub all_opened : (plan : Plan) (rows : List Ending) → length rows ≡ length plan.places
    → ((p : ℕ) → p < length plan.places → at rows p ≡ opened plan p) → StandsFor plan [] rows
all_opened plan rows as_many each = record {
  as_many = as_many;
  verdicts = λ p. subst (KeepsVerdicts plan [] p) (sym (is p)) (verdicts_opened plan p);
  rest = λ p. subst (KeepsRest plan [] p) (sym (is p)) (rest_opened plan p);
}
  where
    is : (p : ℕ) → at rows p ≡ opened plan p
    is p = elim (below_or_not p (length plan.places)) [
      | inl l ↦ each p l
      | inr l ↦
          past_end rows p no_ending (omega (arith, as_many))
          ∙ sym (ap (λ (a : ActionRow). unsaid (length a.objects)) (no_action_past plan p l))
    ]
