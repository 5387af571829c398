-- The line that a judgement names is one of the text, or the one after it.
use Rattle.std.proofs.Common.{◌≡◌, ◌⊎◌, inl, inr, ℕ, suc, ◌+◌, ◌≤◌, ◌==◌, Bool, true, false, if◌then◌else◌, List, [], ◌∷◌, ◌++◌, length, reverse, decimal, Option, Some, None, refl, sym, subst, arith}
use Rattle.std.specs.List.{flat_map, range_with_len}
use Rattle.std.proofs.lemmas.List.{length-append}
use Rattle.std.proofs.lemmas.List.FromFn.{length-range_with_len}
use Rattle.caa_base.specs.declared.written.entry.Entry.{Entry}
use Rattle.caa_base.specs.Written.Lines.{spaced, line}
use Rattle.place_plan.specs.Plans.PlanValue.{Plan}
use Rattle.journal_text.specs.declared.looks.seens.Seen.{Seen}
use Rattle.journal_text.specs.Texts.Text.{participant_name, kind_word, field_words, entry_line, object_line, outcome_line, closing_lines, seen_line, first_line, text_of}
use Rattle.journal_text.specs.Texts.TextOfJournal.{lines_shared}
use Rattle.journal_text.specs.Watching.Right.{is_right, is_whole, next_seen, first_wrong_from}
use Rattle.journal_replay.specs.Audited.{IsFirstIllegal, IsUnfinished}
use Rattle.caa_commands.specs.Judging.{wrong_look, IsIllegalAt}

-- ---- a text has no more lines than bytes

line_filled : (first : List ℕ) (others : List (List ℕ)) → 1 ≤ length (line first others)
line_filled first others =
    let whole : length (line first others) ≡ length (first ++ spaced others) + 1 = length-append (first ++ spaced others) (10 ∷ []) in
    omega (arith, whole)

lines_few : {A : Type 0} (line_of : A → List ℕ) → ((x : A) → 1 ≤ length (line_of x)) → (xs : List A)
    → length xs ≤ length (flat_map line_of xs)
lines_few line_of filled [] = omega arith
lines_few line_of filled (x ∷ xs) = omega (arith, filled x, lines_few line_of filled xs, length-append (line_of x) (flat_map line_of xs))

pub text_long : (plan : Plan) (journal : List Entry) (seens : List Seen) → 2 + length journal + length plan.objects
    + length plan.places + length seens ≤ length (text_of plan journal seens) + 1
text_long plan journal seens =
    let past = reverse journal in
    let objects = range_with_len 0 (length plan.objects) in
    let places = range_with_len 0 (length plan.places) in
    let entry_text = flat_map (entry_line plan) journal in
    let object_text = flat_map (object_line plan past) objects in
    let outcome_text = flat_map (outcome_line plan past) places in
    let seen_text = flat_map (seen_line plan) seens in
    let whole : length (text_of plan journal seens) ≡ length first_line
    + length (entry_text ++ closing_lines plan past ++ seen_text) =
    length-append first_line (entry_text ++ closing_lines plan past ++ seen_text) in
    let first : length first_line ≡ 8 = refl in
    let closing : length (closing_lines plan past) ≡ length object_text + length outcome_text = length-append object_text outcome_text in
    omega (
      arith,
      whole,
      first,
      closing,
      lines_few (entry_line plan)
          (λ e. line_filled (kind_word e.kind) (decimal e.place ∷ participant_name plan e.by ∷ field_words e.kind plan e)) journal,
      lines_few (object_line plan past) (λ o. omega arith) objects,
      lines_few (outcome_line plan past) (λ p. omega arith) places,
      lines_few (seen_line plan) (λ s. omega arith) seens,
      length-range_with_len 0 (length plan.objects),
      length-range_with_len 0 (length plan.places),
      length-append (entry_text ++ closing_lines plan past) seen_text,
      length-append entry_text (closing_lines plan past),
    )

shared_few : (bytes text : List ℕ) → lines_shared bytes text ≤ length bytes
shared_few [] text = omega arith
shared_few (a ∷ bytes) [] = omega arith
shared_few (a ∷ bytes) (b ∷ text) = by (a == b) (a == 10) (shared_few bytes text)
  where
    by : (same feed : Bool) → lines_shared bytes text ≤ length bytes
        → (if same then (if feed then suc (lines_shared bytes text) else lines_shared bytes text) else 0) ≤ suc (length bytes)
    by false feed h = omega arith
    by true true h = omega (arith, h)
    by true false h = omega (arith, h)

-- ---- a wrong look is one of the looks, or the one after them

wrong_among : (plan : Plan) (past : List Entry) (before : Option Seen) (seens : List Seen) (i look : ℕ)
    → first_wrong_from plan past before seens i ≡ Some look → look ≤ i + length seens
wrong_among plan past before [] i look = by (is_whole plan before)
  where
    by : (b : Bool) → (if b then None else Some i) ≡ Some look → look ≤ i + 0
    by true e = absurd cc
    by false e = let same : i ≡ look = cc in omega (arith, same)
wrong_among plan past before (s ∷ seens) i look =
    by (is_right plan past before s (next_seen seens)) (wrong_among plan past (Some s) seens (suc i) look)
  where
    by : (b : Bool) → (first_wrong_from plan past (Some s) seens (suc i) ≡ Some look → look ≤ suc i + length seens)
        → (if b then first_wrong_from plan past (Some s) seens (suc i) else Some i) ≡ Some look → look ≤ i + suc (length seens)
    by true later e = omega (arith, later e)
    by false later e = let same : i ≡ look = cc in omega (arith, same)

pub wrong_look-few : (plan : Plan) (journal : List Entry) (seens : List Seen) (look : ℕ) → wrong_look plan journal seens
    ≡ Some look → look ≤ length seens
wrong_look-few plan journal [] look e = absurd cc
wrong_look-few plan journal (s ∷ seens) look e = omega (arith, wrong_among plan (reverse journal) None (s ∷ seens) 0 look e)

-- ---- the line of a judgement

module _ (plan : Plan) (text : List ℕ) (number : ℕ) where
  near_text : (journal : List Entry) (seens : List Seen) → text ≡ text_of plan journal seens
      → number ≤ length (text_of plan journal seens) + 1 → number ≤ length text + 1
  near_text journal seens same h = subst (λ (text : List ℕ). number ≤ length text + 1) (sym same) h

  pub illegal_near : IsIllegalAt plan text number → number ≤ length text + 1
  illegal_near (inl bad) = omega (arith, bad.before, shared_few text (text_of plan bad.journal bad.seens))
  illegal_near (inr (inl u)) = near_text u.journal u.seens u.spelled.same (by u.wrong)
    where
      by : IsFirstIllegal plan u.journal u.index ⊎ IsUnfinished plan u.journal u.index
          → number ≤ length (text_of plan u.journal u.seens) + 1
      by (inl wrong) = omega (arith, u.line, wrong.within, text_long plan u.journal u.seens)
      by (inr open_end) = omega (arith, u.line, open_end.past_all, text_long plan u.journal u.seens)
  illegal_near (inr (inr w)) =
      near_text w.journal w.seens w.spelled.same
      (omega (arith, w.line, wrong_look-few plan w.journal w.seens w.look w.wrong, text_long plan w.journal w.seens))
