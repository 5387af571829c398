-- What is read is a script: its forms and names could be printed, and their lines are no longer than those that were read.
use Rattle.std.proofs.Common.{◌≡◌, ℕ, ◌+◌, ◌<◌, ◌≤◌, ◌^◌, nat_lt, Bool, true, false, not, ◌&&◌, cond, if◌then◌else◌, List, [], ◌∷◌, ◌++◌, length, map, Option, Some, None, Result, Ok, Err, find, bytes_eq, refl, sym, ap, ◌∙◌, subst, arith, length-append}
use Rattle.std.specs.List.{list_all, flat_map, slice_split}
use Rattle.std.proofs.lemmas.Bool.{and_parts, le-leb}
use Rattle.std.proofs.lemmas.List.{length-map}
use Rattle.std.proofs.lemmas.Slice.Eq.{bytes_eq-Decides}
use Rattle.action_script.specs.declared.script_error.ScriptCause.{ScriptCause}
use Rattle.action_script.specs.declared.script_error.ScriptCause.TheVariants as cause
use Rattle.action_script.specs.declared.script_error.ScriptError.{ScriptError}
use Rattle.action_script.specs.declared.lines.field.Part.{Part}
use Rattle.action_script.specs.declared.lines.field.Part.TheVariants as part
use Rattle.action_script.specs.declared.lines.sort.Naming.TheVariants as naming
use Rattle.action_script.specs.declared.forms.form.Form.{Form}
use Rattle.action_script.specs.declared.lines.kind.Section.{Section}
use Rattle.action_script.specs.declared.lines.kind.Section.TheVariants as section
use Rattle.caa_base.specs.Written.Lists.{is_empty}
use Rattle.caa_base.specs.Written.Limits.{most_script_bytes, most_line_bytes}
use Rattle.action_script.specs.Words.CutLines.{filled_of, lines_of, words_of, is_blank}
use Rattle.caa_base.specs.Written.Lines.{spaced}
use Rattle.action_script.specs.Lines.Asked.{Asked, Said}
use Rattle.action_script.specs.Lines.Kinds.{word_of, parts_of, takes, stands_in, goes_to, at_top}
use Rattle.action_script.specs.Words.NumberedNames.{is_among, with_names}
use Rattle.action_script.specs.Forms.LineForms.{kind_of, form_by}
use Rattle.action_script.specs.Forms.ScriptValue.{Script}
use Rattle.action_script.specs.Lines.Spelling.{asked_of, is_part, is_right, is_wrong_test, is_name_part, names_of, field_of, by_first_wrong, trial_of, Numbered, before, with_line, said_from, script_names, line_by, script_by, script_of, reading_of, line_of}
use Rattle.action_script.specs.Forms.Printing.{field_word, words_after, form_line, all_fit, is_sound, is_short, lead_to_top, form_names, AreScript, forms_of}
use Rattle.action_script.proofs.OnWords.Pieces.{weight, weight-split}
use Rattle.action_script.proofs.OnLines.Speaking.{Speaks, speaks, speaks-takes}
use Rattle.action_script.proofs.OnLines.Steadiness.{are_named, are_named-script_names}
use Rattle.action_script.proofs.OnForms.Fits.{field_by-is}
use Rattle.action_script.proofs.OnForms.Shapes.{makes_form}

-- ---- the words of a line are no longer than the line

weight-filled : (pieces : List (List ℕ)) → weight (filled_of pieces) ≤ weight pieces
weight-filled [] = omega arith
weight-filled (piece ∷ pieces) = by (is_empty piece) (weight-filled pieces)
  where
    by : (b : Bool) → weight (filled_of pieces) ≤ weight pieces
        → weight (cond (not b) (piece ∷ filled_of pieces) (filled_of pieces)) ≤ length piece + 1 + weight pieces
    by true h = omega arith
    by false h = omega arith

weight-spaced : (words : List (List ℕ)) → length (spaced words) ≡ weight words
weight-spaced [] = refl
weight-spaced (word ∷ words) = omega (arith, length-append word (spaced words), weight-spaced words)

joined_short : (line first : List ℕ) (words : List (List ℕ)) → words_of line ≡ first ∷ words → length (first ++ spaced words) ≤ length line
joined_short line first words cut =
    omega (
      arith,
      length-append first (spaced words),
      weight-spaced words,
      ap weight cut,
      weight-filled (slice_split is_blank line),
      weight-split is_blank line,
    )

-- ---- words that were tried

pub right_all : (asked : List Asked) → find (λ a. not (is_right a)) asked ≡ None → list_all is_right asked ≡ true
right_all [] h = refl
right_all (a ∷ asked) h = by (is_right a) refl h (right_all asked)
  where
    by : (b : Bool) → is_right a ≡ b → cond (not b) (Some a) (find (λ a. not (is_right a)) asked) ≡ None
        → (find (λ a. not (is_right a)) asked ≡ None → list_all is_right asked ≡ true) → list_all is_right (a ∷ asked) ≡ true
    by true e g rest = rw (e, rest g) refl
    by false e g rest = cc

pub right_checked : (asked : List Asked) → trial_of asked ≡ Ok tt → list_all is_right asked ≡ true
right_checked asked h = by_tests (list_all (λ a. not (is_wrong_test a)) asked) h
  where
    by_found : (o : Option Asked) → find (λ a. not (is_right a)) asked ≡ o → by_first_wrong o ≡ Ok tt → list_all is_right asked ≡ true
    by_found None e g = right_all asked e
    by_found (Some a) e g = cc

    by_tests : (b : Bool) → (if b then by_first_wrong (find (λ a. not (is_right a)) asked) else Err cause.BadLine) ≡ Ok tt
        → list_all is_right asked ≡ true
    by_tests true g = by_found (find (λ a. not (is_right a)) asked) refl g
    by_tests false g = cc

-- ---- words as fields

among_first : (test : List ℕ → Bool) (p : Part) (word : List ℕ) (asked : List Asked)
    → list_all test (names_of (record { part = p; word = word } ∷ asked)) ≡ true → (is_name_part p ≡ true → test word ≡ true)
    × (list_all test (names_of asked) ≡ true)
among_first test (part.Name naming) word asked h = let p = and_parts (test word) _ h in ((λ _. p.0), p.1)
among_first test part.Value word asked h = ((λ e. cc), h)
among_first test part.Count word asked h = ((λ e. cc), h)
among_first test part.Rounds word asked h = ((λ e. cc), h)
among_first test part.Test word asked h = ((λ e. cc), h)

record AreFields (names : List (List ℕ)) (parts : List Part) (words : List (List ℕ)) : Type 0 where
  fits : all_fit names parts (map (field_of names) (asked_of parts words)) ≡ true
  written : map (field_word names) (map (field_of names) (asked_of parts words)) ≡ words

are_fields : (names : List (List ℕ)) (parts : List Part) (words : List (List ℕ)) → list_all is_right (asked_of parts words) ≡ true
    → list_all (is_among names) (names_of (asked_of parts words)) ≡ true → AreFields names parts words
are_fields names parts [] right among = record { fits = refl; written = refl }
are_fields names [] (word ∷ words) right among =
    let p = and_parts (is_part (part.Name naming.Further) word) _ right in
    let q = among_first (is_among names) (part.Name naming.Further) word (asked_of [] words) among in
    let one = field_by-is names (part.Name naming.Further) word p.0 q.0 in
    let rest = are_fields names [] words p.1 q.1 in
    record { fits = rw (one.fits, rest.fits) refl; written = (λ j. one.written j ∷ rest.written j) }
are_fields names (r ∷ parts) (word ∷ words) right among =
    let p = and_parts (is_part r word) _ right in
    let q = among_first (is_among names) r word (asked_of parts words) among in
    let one = field_by-is names r word p.0 q.0 in
    let rest = are_fields names parts words p.1 q.1 in
    record { fits = rw (one.fits, rest.fits) refl; written = (λ j. one.written j ∷ rest.written j) }

-- ---- one line

-- what is known of the form of a line
record IsWellSaid (names : List (List ℕ)) (s : Section) (said : Said) (form : Form) : Type 0 where
  kind : kind_of form ≡ said.kind
  stands : stands_in (kind_of form) s ≡ true
  sound : is_sound names form ≡ true
  short : is_short names form ≡ true
  words : form_names names form ≡ names_of said.asked

well_said : (names : List (List ℕ)) (s : Section) (line : List ℕ) (said : Said) → Speaks s line said
    → list_all (is_among names) (names_of said.asked) ≡ true → IsWellSaid names s said (form_by said.kind (map (field_of names) said.asked))
well_said names s line said h among =
    let k = said.kind in
    let fields = map (field_of names) said.asked in
    let form = form_by k fields in
    let here = and_parts (bytes_eq h.first (word_of k)) _ h.here in
    let first : h.first ≡ word_of k = (bytes_eq-Decides h.first (word_of k)).0 here.0 in
    let stands = (and_parts (takes k (length h.words)) _ here.1).1 in
    let right : list_all is_right (asked_of (parts_of k) h.words) ≡ true =
    subst (λ a. list_all is_right a ≡ true) h.asked (right_checked said.asked h.right) in
    let own : list_all (is_among names) (names_of (asked_of (parts_of k) h.words)) ≡ true =
    subst (λ a. list_all (is_among names) (names_of a) ≡ true) h.asked among in
    let are = are_fields names (parts_of k) h.words right own in
    let fits : all_fit names (parts_of k) fields ≡ true =
    subst (λ a. all_fit names (parts_of k) (map (field_of names) a) ≡ true) (sym h.asked) are.fits in
    let written : map (field_word names) fields ≡ h.words =
    ap (λ a. map (field_word names) (map (field_of names) a)) h.asked ∙ are.written in
    let count : takes k (length fields) ≡ true =
    subst (λ n. takes k n ≡ true) (sym (length-map said.asked (field_of names))) (speaks-takes s line said h) in
    let made = makes_form names k fields count fits in
    let after : words_after names form ≡ h.words = ap (map (field_word names)) made.same_fields ∙ written in
    let text : form_line names form ≡ h.first ++ spaced h.words =
    (λ j. word_of (made.same_kind j) ++ spaced (after j)) ∙ ap (λ w. w ++ spaced h.words) (sym first) in
    let small : length (form_line names form) ≤ most_line_bytes =
    omega (arith, ap length text, joined_short line h.first h.words h.cut, h.short) in
    record {
      kind = made.same_kind;
      stands = subst (λ x. stands_in x s ≡ true) (sym made.same_kind) stands;
      sound =
          (λ j. takes (made.same_kind j) (length (made.same_fields j)) && all_fit names (parts_of (made.same_kind j)) (made.same_fields j))
          ∙ rw (count, fits) refl;
      short = le-leb (length (form_line names form)) most_line_bytes small;
      words = (λ j. names_of (asked_of (parts_of (made.same_kind j)) (after j))) ∙ ap names_of (sym h.asked);
    }

-- ---- all lines

-- some line of each says it where the reader is then, and the last leaves it at the top
abbrev Spoken : Section → List Numbered → Type 0
Spoken s [] = at_top s ≡ true
Spoken s (line ∷ lines) = ((text : List ℕ) × Speaks s text line.said) × Spoken (goes_to line.said.kind s) lines

spoken_after : (number : ℕ) (s : Section) (said : Said) (text : List ℕ) (read : Result (List Numbered) ScriptError)
    (lines : List Numbered) → Speaks s text said → ((rest : List Numbered) → read ≡ Ok rest → Spoken (goes_to said.kind s) rest)
    → before (record { number = number; said = said }) read ≡ Ok lines → Spoken s lines
spoken_after number s said text (Err e) lines says later h = cc
spoken_after number s said text (Ok rest) lines says later h =
    let same : record { number = number; said = said } ∷ rest ≡ lines = cc in
    subst (Spoken s) same ((text, says), later rest refl)

spoken_line : (number : ℕ) (s : Section) (text : List ℕ) (more : Section → Result (List Numbered) ScriptError)
    (r : Result (Option Said) ScriptCause) (lines : List Numbered)
    → line_of s text ≡ r → ((t : Section) (rest : List Numbered) → more t ≡ Ok rest → Spoken t rest) → with_line number s more r ≡ Ok lines
    → Spoken s lines
spoken_line number s text more (Err c) lines e later h = cc
spoken_line number s text more (Ok None) lines e later h = later s lines h
spoken_line number s text more (Ok (Some said)) lines e later h =
    spoken_after number s said text (more (goes_to said.kind s)) lines (speaks s text said e) (later (goes_to said.kind s)) h

spoken_end : (b : Bool) (fault : ScriptError) (s : Section) (lines : List Numbered) → at_top s ≡ b
    → (if b then Ok [] else Err fault) ≡ Ok lines → Spoken s lines
spoken_end true fault s lines e h = let same : [] ≡ lines = cc in subst (Spoken s) same e
spoken_end false fault s lines e h = cc

spoken : (number : ℕ) (s : Section) (texts : List (List ℕ)) (lines : List Numbered) → said_from number s texts ≡ Ok lines → Spoken s lines
spoken number s [] lines h = spoken_end (at_top s) (record { line = number; cause = cause.BadLine }) s lines refl h
spoken number s (text ∷ texts) lines h =
    spoken_line number s text (λ t. said_from (number + 1) t texts) (line_of s text) lines refl
    (λ t rest g. spoken (number + 1) t texts rest g) h

record AreWellSaid (names : List (List ℕ)) (s : Section) (lines : List Numbered) : Type 0 where
  lead : lead_to_top s (forms_of (map (line_by names) lines)) ≡ true
  sound : list_all (is_sound names) (forms_of (map (line_by names) lines)) ≡ true
  short : list_all (is_short names) (forms_of (map (line_by names) lines)) ≡ true
  words : flat_map (form_names names) (forms_of (map (line_by names) lines)) ≡ flat_map (λ l. names_of l.said.asked) lines

are_well_said : (names : List (List ℕ)) (s : Section) (lines : List Numbered) → Spoken s lines → are_named names lines ≡ true
    → AreWellSaid names s lines
are_well_said names s [] h named = record { lead = h; sound = refl; short = refl; words = refl }
are_well_said names s (line ∷ lines) h named =
    let p = and_parts (list_all (is_among names) (names_of line.said.asked)) _ named in
    let one = well_said names s h.0.0 line.said h.0.1 p.0 in
    let rest = are_well_said names (goes_to line.said.kind s) lines h.1 p.1 in
    let lead : lead_to_top (goes_to (kind_of (line_by names line).form) s) (forms_of (map (line_by names) lines)) ≡ true =
    subst (λ k. lead_to_top (goes_to k s) (forms_of (map (line_by names) lines)) ≡ true) (sym one.kind) rest.lead in
    record {
      lead = rw (one.stands, lead) refl;
      sound = rw (one.sound, rest.sound) refl;
      short = rw (one.short, rest.short) refl;
      words = (λ j. one.words j ++ rest.words j);
    }

-- ---- the script

by_said : (bytes : List ℕ) (r : Result (List Numbered) ScriptError) (script : Script) → said_from 1 section.Top (lines_of bytes) ≡ r
    → script_of r ≡ Ok script → length script.names < 2 ^ 32 → length script.lines < 2 ^ 32 → AreScript script.names (forms_of script.lines)
by_said bytes (Err e) script said h few_names few_lines = cc
by_said bytes (Ok lines) script said h few_names few_lines =
    let same : script_by lines ≡ script = cc in
    let names = script_names lines in
    let well = are_well_said names section.Top lines (spoken 1 section.Top (lines_of bytes) lines said) (are_named-script_names lines) in
    let few : length (forms_of script.lines) < 2 ^ 32 = omega (arith, length-map script.lines (λ l. l.form)) in
    let few_own : length (forms_of (script_by lines).lines) < 2 ^ 32 = subst (λ s. length (forms_of s.lines) < 2 ^ 32) (sym same) few in
    let names_own : length (script_by lines).names < 2 ^ 32 = subst (λ s. length s.names < 2 ^ 32) (sym same) few_names in
    subst (λ s. AreScript s.names (forms_of s.lines)) same (record {
      few_names = names_own;
      few_forms = few_own;
      lead = well.lead;
      sound = well.sound;
      short = well.short;
      order = ap (with_names []) well.words;
    })

pub well_read : (bytes : List ℕ) (script : Script) → reading_of bytes ≡ Ok script → length script.names < 2 ^ 32
    → length script.lines < 2 ^ 32 → AreScript script.names (forms_of script.lines)
well_read bytes script h few_names few_lines = by (nat_lt most_script_bytes (length bytes)) h
  where
    by : (b : Bool)
        → (if b then Err (record { line = 0; cause = cause.TooLong }) else script_of (said_from 1 section.Top (lines_of bytes)))
        ≡ Ok script → AreScript script.names (forms_of script.lines)
    by true g = cc
    by false g = by_said bytes (said_from 1 section.Top (lines_of bytes)) script refl g few_names few_lines
