-- A script is no longer than it may be, and its plan tells a journal from its text.
use Rattle.std.proofs.Common.{◌≡◌, ℕ, ◌+◌, ◌≤◌, ◌==◌, nat_lt, nat_le, if◌then◌else◌, Bool, true, false, cond, List, [], ◌∷◌, ◌++◌, length, length-append, Option, Some, None, Result, Ok, Err, IfOk, refl, sym, ◌∙◌, subst, arith}
use Rattle.std.specs.List.{flat_map, slice_split}
use Rattle.std.proofs.lemmas.Bool.{ltb-false, leb-true, and_parts}
use Rattle.std.proofs.lemmas.List.{length-map}
use Rattle.caa_base.specs.Written.Limits.{most_script_bytes, most_places, most_entries}
use Rattle.caa_base.specs.Written.Lists.{is_empty}
use Rattle.place_plan.specs.Plans.PlanValue.{Plan}
use Rattle.place_plan.specs.Plans.Unfolding.{plan_of}
use Rattle.place_plan.specs.Plans.Bound.{bound}
use Rattle.place_plan.proofs.OnDrafts.DraftKeeps.{keeps_rules}
use Rattle.action_script.specs.declared.script_error.ScriptCause.{ScriptCause}
use Rattle.action_script.specs.declared.script_error.ScriptCause.TheVariants as cause
use Rattle.action_script.specs.declared.script_error.ScriptError.{ScriptError}
use Rattle.action_script.specs.declared.lines.kind.Section.{Section}
use Rattle.action_script.specs.declared.lines.kind.Section.TheVariants as section
use Rattle.action_script.specs.Lines.Asked.{Said}
use Rattle.action_script.specs.Words.CutLines.{lines_of, without_empty_last}
use Rattle.action_script.specs.Lines.Kinds.{goes_to, at_top}
use Rattle.action_script.specs.Forms.Printing.{AreScript, forms_of}
use Rattle.action_script.specs.Forms.ScriptValue.{Script}
use Rattle.action_script.specs.Lines.Spelling.{reading_of, Numbered, before, with_line, said_from, line_of, names_of, script_names, line_by, script_by, script_of}
use Rattle.action_script.proofs.OnWords.NamesCounted.{length-with_names, length-names_of}
use Rattle.action_script.proofs.OnWords.Pieces.{weight, weight-split}
use Rattle.action_script.proofs.OnLines.Speaking.{speaks, speaks-short}
use Rattle.action_script.proofs.OnForms.WellRead.{well_read}
use Rattle.script_checker.proofs.AcceptedDraft.{breaks_none}
use Rattle.script_checker.proofs.NamesKept.{own_names_of}
use Rattle.journal_text.proofs.OnTexts.ReadingLemmas.{Tells}
use Rattle.script_checker.specs.Compiled.{IsPlanOf}
use Rattle.caa_commands.specs.declared.scripts.NoPlan.{NoPlan}
use Rattle.caa_commands.specs.Scripts.{HasPlan, IsThePlan, IsOnlyPlan}
use Rattle.journal_text.proofs.OnTexts.WellNamed.{well_named}

-- ---- the lines of a text are no longer than the text

weight-without_last : (lines : List (List ℕ)) → weight (without_empty_last lines) ≤ weight lines
weight-without_last [] = omega arith
weight-without_last (line ∷ []) = by (is_empty line)
  where
    by : (b : Bool) → weight (if b then [] else line ∷ []) ≤ weight (line ∷ [])
    by true = omega arith
    by false = omega arith
weight-without_last (line ∷ next ∷ more) = omega (arith, weight-without_last (next ∷ more))

weight-lines : (bytes : List ℕ) → weight (lines_of bytes) ≤ length bytes + 1
weight-lines bytes = omega (arith, weight-without_last (slice_split (λ b. b == 10) bytes), weight-split (λ b. b == 10) bytes)

-- ---- a script has no more lines and names than its text has bytes

abbrev names_in : List Numbered → List (List ℕ)
names_in done = flat_map (λ l. names_of l.said.asked) done

abbrev end_of : ℕ → Bool → Result (List Numbered) ScriptError
end_of number b = if b then Ok [] else Err (record { line = number; cause = cause.BadLine })

said_few : (number : ℕ) (s : Section) (lines : List (List ℕ)) (done : List Numbered) → said_from number s lines ≡ Ok done
    → length (names_in done) + length done ≤ weight lines
said_few number s [] done h = by (at_top s) h
  where
    by : (b : Bool) → end_of number b ≡ Ok done → length (names_in done) + length done ≤ 0
    by true e = let none : [] ≡ done = cc in subst (λ d. length (names_in d) + length d ≤ 0) none (omega arith)
    by false e = absurd cc
said_few number s (line ∷ lines) done h = by (line_of s line) refl h (λ t rest. said_few (number + 1) t lines rest)
  where
    Later : Type 0
    Later = (t : Section) (rest : List Numbered) → said_from (number + 1) t lines ≡ Ok rest
        → length (names_in rest) + length rest ≤ weight lines

    more : (said : Said) (r : Result (List Numbered) ScriptError) → line_of s line ≡ Ok (Some said)
        → (said_from (number + 1) (goes_to said.kind s) lines ≡ r) → before (record { number = number; said = said }) r
        ≡ Ok done → Later → length (names_in done) + length done ≤ weight (line ∷ lines)
    more said (Err e) f g k later = absurd cc
    more said (Ok rest) f g k later =
        let same : record { number = number; said = said } ∷ rest ≡ done = cc in
        let both : length (names_in done) + length done ≡ length (names_of said.asked ++ names_in rest) + (length rest + 1) =
        subst (λ d. length (names_in d) + length d ≡ length (names_of said.asked ++ names_in rest) + (length rest + 1))
        same (omega arith) in
        omega (
          arith,
          both,
          later (goes_to said.kind s) rest g,
          length-append (names_of said.asked) (names_in rest),
          length-names_of said.asked,
          speaks-short s line said (speaks s line said f),
        )

    by : (r : Result (Option Said) ScriptCause) → line_of s line ≡ r
        → with_line number s (λ t. said_from (number + 1) t lines) r ≡ Ok done → Later → length (names_in done) + length done
        ≤ weight (line ∷ lines)
    by (Err c) e k later = absurd cc
    by (Ok None) e k later = omega (arith, later s done k)
    by (Ok (Some said)) e k later = more said (said_from (number + 1) (goes_to said.kind s) lines) e refl k later

script_few : (bytes : List ℕ) (r : Result (List Numbered) ScriptError) (script : Script)
    → said_from 1 section.Top (lines_of bytes) ≡ r → script_of r ≡ Ok script → length script.names + length script.lines ≤ length bytes + 1
script_few bytes (Err e) script said h = absurd cc
script_few bytes (Ok done) script said h =
    let same : script_by done ≡ script = cc in
    let few = said_few 1 section.Top (lines_of bytes) done said in
    subst (λ (s : Script). length s.names + length s.lines ≤ length bytes + 1) same
    (omega (arith, few, weight-lines bytes, length-with_names [] (names_in done), length-map done (line_by (script_names done))))

-- ---- a script that has a plan

too_long_first : {T E : Type 0} (t : Bool) (e : E) (r : Result T E) (v : T) → cond t (Err e) r ≡ Ok v → (t ≡ false) × (r ≡ Ok v)
too_long_first true e r v h = absurd cc
too_long_first false e r v h = (refl, h)

-- a text that spells a script isn't longer than one may be
pub spelled_short : (bytes : List ℕ) (script : Script) → reading_of bytes ≡ Ok script → length bytes ≤ most_script_bytes
spelled_short bytes script spelled =
    ltb-false most_script_bytes (length bytes) (too_long_first (nat_lt most_script_bytes (length bytes)) _ _ script spelled).0

module _ (bytes : List ℕ) (plan : Plan) (h : HasPlan bytes plan) where
  read : (nat_lt most_script_bytes (length bytes) ≡ false) × (script_of (said_from 1 section.Top (lines_of bytes)) ≡ Ok h.script)
  read = too_long_first (nat_lt most_script_bytes (length bytes)) _ _ h.script h.spelled

  plan_short : length bytes ≤ most_script_bytes
  plan_short = spelled_short bytes h.script h.spelled

  are_script : AreScript h.script.names (forms_of h.script.lines)
  are_script =
      let few = script_few bytes (said_from 1 section.Top (lines_of bytes)) h.script refl read.1 in
      well_read bytes h.script h.spelled (omega (arith, few, plan_short)) (omega (arith, few, plan_short))

  few_places : length plan.places ≤ most_places
  few_places =
      let draft = h.compiled.draft in
      let whole = breaks_none h.script.names h.script.lines are_script.sound h.compiled.accepted draft h.compiled.declared in
      let parts = and_parts (nat_le (length (plan_of draft).places) most_places) (nat_le (bound (plan_of draft)) most_entries)
      (keeps_rules draft whole).1 in
      subst (λ (p : Plan). length p.places ≤ most_places) (sym h.compiled.unfolded) (leb-true _ _ parts.0)

  -- it tells a journal from its text
  pub plan_tells : Tells plan
  plan_tells = record { named = well_named plan (own_names_of h.script plan are_script h.compiled); small = omega (arith, few_places) }

-- ---- the plan of a script

-- the plan of the script that the bytes spell is that of the bytes
pub the_plan : (bytes : List ℕ) (script : Script) (plan : Plan) → reading_of bytes ≡ Ok script → IsOnlyPlan script plan
    → IsThePlan bytes plan
the_plan bytes script plan spelled own = record {
  has = record { script = script; spelled = spelled; compiled = own.has };
  only = λ other h.
      let both : Ok h.script ≡ Ok script = sym h.spelled ∙ spelled in
      let same : h.script ≡ script = cc in
      own.only other (subst (λ (s : Script). IsPlanOf s other) same h.compiled);
}

-- where there is a plan of that script, it is that of the bytes
pub the_plan_made : (bytes : List ℕ) (script : Script) (r : Result Plan NoPlan) → reading_of bytes ≡ Ok script
    → IfOk r (IsOnlyPlan script) → IfOk r (IsThePlan bytes)
the_plan_made bytes script (Ok plan) spelled own = the_plan bytes script plan spelled own
the_plan_made bytes script (Err why) spelled own = tt

-- where a script has one plan at most, this is its plan
pub only_plan : (script : Script) (plan : Plan)
    → ((one other : Plan) → IsPlanOf script one → IsPlanOf script other → one ≡ other)
    → IsPlanOf script plan → IsOnlyPlan script plan
only_plan script plan one compiled = record { has = compiled; only = λ other h. one other plan h compiled }
