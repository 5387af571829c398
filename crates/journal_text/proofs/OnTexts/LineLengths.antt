-- How long the line of an entry is.
use Rattle.std.proofs.Common.{◌≡◌, ℕ, ℤ, pos, negsuc, ◌<◌, ◌≤◌, ◌+◌, ◌^◌, ◌==◌, Bool, true, false, if◌then◌else◌, suc, List, [], ◌∷◌, ◌++◌, length, codes, decimal, Option, Some, None, ap, ◌∙◌, arith}
use Rattle.std.specs.Fmt.{signed_decimal}
use Rattle.std.specs.Option.{unwrap_or}
use Rattle.std.proofs.lemmas.Fmt.{length-decimal-le, length_signed_le}
use Rattle.std.proofs.lemmas.Int.{ints}
use Rattle.std.proofs.lemmas.List.{length-append}
use Rattle.caa_base.specs.Written.Limits.{IsValue, most_count}
use Rattle.caa_base.specs.Written.Lines.{spaced, line}
use Rattle.caa_base.specs.declared.written.entry.Entry.{Entry}
use Rattle.caa_base.specs.declared.written.entry.Kind.{Kind}
use Rattle.caa_base.specs.declared.written.entry.Kind.TheVariants as kind
use Rattle.caa_base.specs.declared.written.entry.Verdict.TheVariants as verdict
use Rattle.caa_base.specs.declared.written.entry.Outcome.TheVariants as outcome
use Rattle.place_plan.specs.Plans.PlanValue.{Plan}
use Rattle.place_plan.specs.Plans.Places.{parent}
use Rattle.place_plan.specs.RulesOfJournals.WellFormed.{FieldsFit, IsWellFormed}
use Rattle.journal_text.specs.Texts.Text.{participant_name, object_name, internal_name, interface_name, kind_word, object_words, verdict_words, outcome_words, told_name, carried_name, name_words, field_words, entry_line}
use Rattle.journal_text.specs.inner.SaidNames.{said_name}

-- ---- words

one_word : (w : List ℕ) → length (spaced (w ∷ [])) ≡ suc (length w)
one_word w = omega (arith, length-append w [])

two_words : (v w : List ℕ) → length (spaced (v ∷ w ∷ [])) ≡ suc (suc (length v + length w))
two_words v w = omega (arith, length-append v (spaced (w ∷ [])), one_word w)

three_words : (u v w : List ℕ) → length (spaced (u ∷ v ∷ w ∷ [])) ≡ suc (suc (suc (length u + length v + length w)))
three_words u v w = omega (arith, length-append u (spaced (v ∷ w ∷ [])), two_words v w)

value_length : (z : ℤ) → IsValue z → length (signed_decimal z) ≤ 14
value_length (pos n) h = length_signed_le 13 (pos n) (omega (arith, ints, h.1)) (omega (arith, ints, h.1))
value_length (negsuc n) h = length_signed_le 13 (negsuc n) (omega (arith, ints, h.0)) (omega (arith, ints, h.0))

kind_length : (k : Kind) → length (kind_word k) ≤ 8
kind_length kind.Arrive = omega arith
kind_length kind.Withdraw = omega arith
kind_length kind.Start = omega arith
kind_length kind.Read = omega arith
kind_length kind.Work = omega arith
kind_length kind.Write = omega arith
kind_length kind.Check = omega arith
kind_length kind.PutFault = omega arith
kind_length kind.Raise = omega arith
kind_length kind.Inform = omega arith
kind_length kind.Resolve = omega arith
kind_length kind.Handle = omega arith
kind_length kind.Verdict = omega arith
kind_length kind.Abort = omega arith
kind_length kind.Undo = omega arith
kind_length kind.Restore = omega arith
kind_length kind.End = omega arith
kind_length kind.Leave = omega arith

-- ---- fields, beside the name in them

objects_length : (plan : Plan) (o : ℕ) (z : ℤ) → IsValue z → length (spaced (object_words plan o z)) ≤ length (object_name plan o) + 16
objects_length plan o z h = omega (arith, two_words (object_name plan o) (signed_decimal z), value_length z h)

restore_length : (w : List ℕ) (b : Bool) (z : ℤ) → IsValue z
    → length (spaced (w ∷ signed_decimal z ∷ (if b then codes "well" else codes "failed") ∷ [])) ≤ length w + 23
restore_length w true z h = omega (arith, three_words w (signed_decimal z) (codes "well"), value_length z h)
restore_length w false z h = omega (arith, three_words w (signed_decimal z) (codes "failed"), value_length z h)

work_length : (n : ℕ) (z : ℤ) → n ≤ most_count → IsValue z → length (spaced (decimal n ∷ signed_decimal z ∷ [])) ≤ 23
work_length n z few h =
    omega (arith, two_words (decimal n) (signed_decimal z), value_length z h, length-decimal-le 7 n (omega arith) (omega arith) (omega arith))

name_length : (o : Option (List ℕ)) → length (spaced (name_words o)) ≤ length (unwrap_or o []) + 23
name_length None = omega arith
name_length (Some w) = omega (arith, one_word w)

verdict_length : (plan : Plan) (p x : ℕ) (a b : Bool) →
    length (spaced (verdict_words plan p (if a then verdict.Done else (if b then verdict.Signal x else verdict.Undo))))
    ≤ length (unwrap_or (if b then Some (interface_name plan p x) else None) []) + 23
verdict_length plan p x true true = omega arith
verdict_length plan p x true false = omega arith
verdict_length plan p x false true = omega (arith, two_words (codes "signal") (interface_name plan p x))
verdict_length plan p x false false = omega arith

outcome_length : (plan : Plan) (p x : ℕ) (a b c d : Bool) →
    length (spaced (outcome_words plan p (if a then outcome.Commit else (if b then outcome.Signal x
    else (if c then outcome.Undone else (if d then outcome.Aborted else outcome.Failed))))))
    ≤ length (unwrap_or (if b then Some (interface_name plan p x) else None) []) + 23
outcome_length plan p x true true c d = omega arith
outcome_length plan p x true false c d = omega arith
outcome_length plan p x false true c d = omega (arith, two_words (codes "signal") (interface_name plan p x))
outcome_length plan p x false false true d = omega arith
outcome_length plan p x false false false true = omega arith
outcome_length plan p x false false false false = omega arith

fields_length : (plan : Plan) (e : Entry) (k : Kind) → FieldsFit k plan e
    → length (spaced (field_words k plan e)) ≤ length (said_name k plan e) + 23
fields_length plan e kind.Arrive h = omega arith
fields_length plan e kind.Withdraw h = omega arith
fields_length plan e kind.Start h = omega arith
fields_length plan e kind.Read h = omega (arith, objects_length plan e.arg e.value h.0.value)
fields_length plan e kind.Work h = omega (arith, work_length e.arg e.value h.0 h.2)
fields_length plan e kind.Write h = omega (arith, objects_length plan e.arg e.value h.0.value)
fields_length plan e kind.Check h = omega arith
fields_length plan e kind.PutFault h = omega (arith, objects_length plan e.arg e.value h.0.value)
fields_length plan e kind.Raise h = omega (arith, one_word (internal_name plan e.place e.arg))
fields_length plan e kind.Inform h = omega arith
fields_length plan e kind.Resolve h = omega (arith, one_word (internal_name plan e.place e.arg))
fields_length plan e kind.Handle h = omega (arith, one_word (internal_name plan e.place e.arg))
fields_length plan e kind.Verdict h = verdict_length plan e.place e.arg (e.mark == 0) (e.mark == 1)
fields_length plan e kind.Abort h = name_length (told_name plan e)
fields_length plan e kind.Undo h = omega arith
fields_length plan e kind.Restore h = restore_length (object_name plan e.arg) (e.mark == 0) e.value h.0.value
fields_length plan e kind.End h = outcome_length plan e.place e.arg (e.mark == 0) (e.mark == 1) (e.mark == 2) (e.mark == 3)
fields_length plan e kind.Leave h = name_length (carried_name plan (parent plan e.place) e)

-- ---- lines

-- a line, and words, by their parts
line_parts : (first : List ℕ) (words : List (List ℕ)) → length (line first words) ≡ length first + length (spaced words) + 1
line_parts first words = length-append (first ++ spaced words) (10 ∷ []) ∙ ap (λ n. n + 1) (length-append first (spaced words))

one_more : (word : List ℕ) (words : List (List ℕ)) → length (spaced (word ∷ words)) ≡ suc (length word + length (spaced words))
one_more word words = ap suc (length-append word (spaced words))

-- a line has at most 44 bytes beside the names in it
pub line_length : (plan : Plan) (e : Entry) → IsWellFormed plan e → length plan.places < 2 ^ 32
    → length (entry_line plan e) ≤ length (participant_name plan e.by) + length (said_name e.kind plan e) + 44
line_length plan e fit few =
    let maker = participant_name plan e.by in
    let fields = field_words e.kind plan e in
    let place : length (decimal e.place) ≤ 10 =
    length-decimal-le 10 e.place (omega arith) (omega (arith, fit.place, few)) (omega (arith, fit.place, few)) in
    let parts : length (entry_line plan e)
    ≡ length (kind_word e.kind) + suc (length (decimal e.place) + suc (length maker + length (spaced fields))) + 1 =
    line_parts (kind_word e.kind) (decimal e.place ∷ maker ∷ fields)
    ∙ ap (λ n. length (kind_word e.kind) + n + 1)
    (one_more (decimal e.place) (maker ∷ fields) ∙ ap (λ n. suc (length (decimal e.place) + n)) (one_more maker fields)) in
    omega (arith, parts, kind_length e.kind, place, fields_length plan e e.kind fit.fields)
