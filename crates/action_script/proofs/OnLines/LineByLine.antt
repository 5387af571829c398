-- Reading a text line by line gives what it says.
use Rattle.std.proofs.Common.{◌≡◌, ℕ, ◌+◌, ◌≤◌, true, false, if◌then◌else◌, List, [], ◌∷◌, ◌++◌, length, map, Option, Some, None, Result, Ok, Err, refl, sym, ap, ◌∙◌, subst, arith, append_assoc, length-append}
use Rattle.std.specs.List.{flat_map}
use Rattle.std.proofs.lemmas.List.{append-nil}
use Rattle.std.proofs.lemmas.Bool.{le-ltb}
use Rattle.action_script.specs.declared.script_error.ScriptCause.{ScriptCause}
use Rattle.action_script.specs.declared.script_error.ScriptCause.TheVariants as cause
use Rattle.action_script.specs.declared.script_error.ScriptError.{ScriptError}
use Rattle.action_script.specs.declared.lines.kind.Section.TheVariants as section
use Rattle.action_script.specs.declared.forms.script.Line.{Line}
use Rattle.action_script.specs.Lines.Asked.{Said}
use Rattle.caa_base.specs.Written.Limits.{most_script_bytes}
use Rattle.action_script.specs.Words.CutLines.{lines_of}
use Rattle.action_script.specs.Lines.Kinds.{goes_to, at_top}
use Rattle.action_script.specs.Words.NumberedNames.{with_names}
use Rattle.action_script.specs.Forms.ScriptValue.{Script}
use Rattle.action_script.specs.Lines.Spelling.{script_by, script_of, reading_of, names_of, Numbered, before, with_line, said_from, script_names, line_by, line_of}
use Rattle.action_script.specs.inner.SoFar.{SoFar, TookLine, Took, all_before, HasRead}
use Rattle.action_script.proofs.OnWords.NamesCounted.{length-with_names, length-names_of}
use Rattle.action_script.proofs.OnLines.Speaking.{speaks, speaks-short}
use Rattle.action_script.proofs.OnLines.Steadiness.{with_names-append, are_named, are_named-script_names, lines-with_names}

-- ---- one line more

all_before-push : (lines : List Numbered) (line : Numbered) (read : Result (List Numbered) ScriptError)
    → all_before (lines ++ line ∷ []) read ≡ all_before lines (before line read)
all_before-push [] line read = refl
all_before-push (first ∷ lines) line read = ap (before first) (all_before-push lines line read)

flat_map-push : (lines : List Numbered) (line : Numbered)
    → flat_map (λ l. names_of l.said.asked) (lines ++ line ∷ []) ≡ flat_map (λ l. names_of l.said.asked) lines ++ names_of line.said.asked
flat_map-push [] line = append-nil (names_of line.said.asked)
flat_map-push (first ∷ lines) line =
    ap (λ words. names_of first.said.asked ++ words) (flat_map-push lines line) ∙ sym
    (append_assoc (names_of first.said.asked) (flat_map (λ l. names_of l.said.asked) lines) (names_of line.said.asked))

script_names-push : (lines : List Numbered) (line : Numbered)
    → script_names (lines ++ line ∷ []) ≡ with_names (script_names lines) (names_of line.said.asked)
script_names-push lines line =
    ap (with_names []) (flat_map-push lines line) ∙ with_names-append [] (flat_map (λ l. names_of l.said.asked) lines)
    (names_of line.said.asked)

map-push : (f : Numbered → Line) (lines : List Numbered) (line : Numbered) → map f (lines ++ line ∷ []) ≡ map f lines ++ f line ∷ []
map-push f [] line = refl
map-push f (first ∷ lines) line = ap (λ l. f first ∷ l) (map-push f lines line)

-- what follows the first line
whole-cut : (bytes rest more line : List ℕ) (s : SoFar) (done : List Numbered)
    → said_from 1 section.Top (lines_of bytes) ≡ all_before done (said_from s.line s.section (lines_of rest))
    → lines_of rest ≡ line ∷ lines_of more
    → said_from 1 section.Top (lines_of bytes) ≡ all_before done
    (with_line s.line s.section (λ t. said_from (s.line + 1) t (lines_of more)) (line_of s.section line))
whole-cut bytes rest more line s done whole cut = whole ∙ ap (λ lines. all_before done (said_from s.line s.section lines)) cut

pub has_read-more : (bytes rest more line : List ℕ) (s new : SoFar) → HasRead bytes rest s → lines_of rest ≡ line ∷ lines_of more
    → Took s line new → HasRead bytes more new
has_read-more bytes rest more line s new h cut took = by (line_of s.section line) refl took
  where
    whole : said_from 1 section.Top (lines_of bytes)
        ≡ all_before h.done (with_line s.line s.section (λ t. said_from (s.line + 1) t (lines_of more)) (line_of s.section line))
    whole = whole-cut bytes rest more line s h.done h.whole cut

    by : (r : Result (Option Said) ScriptCause) → line_of s.section line ≡ r → TookLine r s new → HasRead bytes more new
    by (Err c) e took = absurd took
    by (Ok None) e took = subst (HasRead bytes more) (sym took) (record {
      done = h.done;
      names = h.names;
      lines = h.lines;
      whole = whole ∙ ap (λ r. all_before h.done (with_line s.line s.section (λ t. said_from (s.line + 1) t (lines_of more)) r)) e;
    })
    by (Ok (Some said)) e took =
        let own : Numbered = record { number = s.line; said = said } in
        let names : with_names s.names (names_of said.asked) ≡ script_names (h.done ++ own ∷ []) =
        ap (λ n. with_names n (names_of said.asked)) h.names ∙ sym (script_names-push h.done own) in
        let named : are_named s.names h.done ≡ true =
        subst (λ n. are_named n h.done ≡ true) (sym h.names) (are_named-script_names h.done) in
        let kept : s.lines ≡ map (line_by (with_names s.names (names_of said.asked))) h.done =
        h.lines ∙ sym (lines-with_names s.names (names_of said.asked) h.done named) in
        subst (HasRead bytes more) (sym took) (record {
          done = h.done ++ own ∷ [];
          names = names;
          lines =
              ap (λ l. l ++ line_by (with_names s.names (names_of said.asked)) own ∷ []) kept ∙ sym
              (map-push (line_by (with_names s.names (names_of said.asked))) h.done own);
          whole =
              whole ∙ ap (λ r. all_before h.done (with_line s.line s.section (λ t. said_from (s.line + 1) t (lines_of more)) r)) e ∙ sym
              (all_before-push h.done own (said_from (s.line + 1) (goes_to said.kind s.section) (lines_of more)));
        })

-- ---- a line with a fault

all_before-error : (lines : List Numbered) (e : ScriptError) → all_before lines (Err e) ≡ Err e
all_before-error [] e = refl
all_before-error (line ∷ lines) e = ap (before line) (all_before-error lines e)

pub has_read-refused : (bytes rest more line : List ℕ) (s : SoFar) (e : ScriptError) → HasRead bytes rest s
    → lines_of rest ≡ line ∷ lines_of more → line_of s.section line ≡ Err e.cause → e.line ≡ s.line
    → said_from 1 section.Top (lines_of bytes) ≡ Err e
has_read-refused bytes rest more line s e h cut refused place =
    whole-cut bytes rest more line s h.done h.whole cut
    ∙ ap (λ r. all_before h.done (with_line s.line s.section (λ t. said_from (s.line + 1) t (lines_of more)) r)) refused
    ∙ ap (λ n. all_before h.done (Err (record { line = n; cause = e.cause }))) (sym place)
    ∙ all_before-error h.done e

-- ---- the end

all_before-lines : (lines : List Numbered) → all_before lines (Ok []) ≡ Ok lines
all_before-lines [] = refl
all_before-lines (line ∷ lines) = ap (before line) (all_before-lines lines)

-- ---- how far

pub took-line : (s : SoFar) (line : List ℕ) (new : SoFar) → Took s line new → new.line ≡ s.line + 1
took-line s line new took = by (line_of s.section line) took
  where
    by : (r : Result (Option Said) ScriptCause) → TookLine r s new → new.line ≡ s.line + 1
    by (Err c) took = absurd took
    by (Ok None) took = ap (λ n. n.line) took
    by (Ok (Some said)) took = ap (λ n. n.line) took

pub took-names : (s : SoFar) (line : List ℕ) (new : SoFar) → Took s line new → length new.names ≤ length s.names + length line
took-names s line new took = by (line_of s.section line) refl took
  where
    by : (r : Result (Option Said) ScriptCause) → line_of s.section line ≡ r → TookLine r s new
        → length new.names ≤ length s.names + length line
    by (Err c) e took = absurd took
    by (Ok None) e took = let same : new.names ≡ s.names = ap (λ n. n.names) took in omega (arith, ap length same)
    by (Ok (Some said)) e took =
        let same : new.names ≡ with_names s.names (names_of said.asked) = ap (λ n. n.names) took in
        omega (
          arith,
          ap length same,
          length-with_names s.names (names_of said.asked),
          length-names_of said.asked,
          speaks-short s.section line said (speaks s.section line said e),
        )

-- ---- the whole text

within : (bytes : List ℕ) → length bytes ≤ most_script_bytes → reading_of bytes ≡ script_of (said_from 1 section.Top (lines_of bytes))
within bytes h =
    ap (λ b. if b then Err (record { line = 0; cause = cause.TooLong }) else script_of (said_from 1 section.Top (lines_of bytes)))
    (le-ltb most_script_bytes (length bytes) h)

pub reading_of-refused : (bytes : List ℕ) (e : ScriptError) → length bytes ≤ most_script_bytes
    → said_from 1 section.Top (lines_of bytes) ≡ Err e → reading_of bytes ≡ Err e
reading_of-refused bytes e h refused = within bytes h ∙ ap script_of refused

-- the reader isn't at the top
pub reading_of-open : (bytes : List ℕ) (s : SoFar) → length bytes ≤ most_script_bytes → HasRead bytes [] s
    → at_top s.section ≡ false → reading_of bytes ≡ Err (record { line = s.line; cause = cause.BadLine })
reading_of-open bytes s h read outside =
    let e : ScriptError = record { line = s.line; cause = cause.BadLine } in
    reading_of-refused bytes e h
    (read.whole ∙ ap (λ b. all_before read.done (if b then Ok [] else Err e)) outside ∙ all_before-error read.done e)

pub reading_of-read : (bytes : List ℕ) (s : SoFar) (script : Script) → length bytes ≤ most_script_bytes → HasRead bytes [] s
    → at_top s.section ≡ true → script.lines ≡ s.lines → script.names ≡ s.names → reading_of bytes ≡ Ok script
reading_of-read bytes s script h read top lines names =
    let e : ScriptError = record { line = s.line; cause = cause.BadLine } in
    let said : said_from 1 section.Top (lines_of bytes) ≡ Ok read.done =
    read.whole ∙ ap (λ b. all_before read.done (if b then Ok [] else Err e)) top ∙ all_before-lines read.done in
    let own_names : script.names ≡ script_names read.done = names ∙ read.names in
    let own_lines : script.lines ≡ map (line_by (script_names read.done)) read.done =
    lines ∙ read.lines ∙ ap (λ n. map (line_by n) read.done) read.names in
    let same : script_by read.done ≡ script = (λ j. record { lines = sym own_lines j; names = sym own_names j }) in
    within bytes h ∙ ap script_of said ∙ ap Ok same

pub took-lines : (s : SoFar) (line : List ℕ) (new : SoFar) → Took s line new → length new.lines ≤ length s.lines + 1
took-lines s line new took = by (line_of s.section line) took
  where
    by : (r : Result (Option Said) ScriptCause) → TookLine r s new → length new.lines ≤ length s.lines + 1
    by (Err c) took = absurd took
    by (Ok None) took = let same : new.lines ≡ s.lines = ap (λ n. n.lines) took in omega (arith, ap length same)
    by (Ok (Some said)) took =
        let own = line_by (with_names s.names (names_of said.asked)) (record { number = s.line; said = said }) in
        let same : new.lines ≡ s.lines ++ own ∷ [] = ap (λ n. n.lines) took in
        omega (arith, ap length same, length-append s.lines (own ∷ []))
