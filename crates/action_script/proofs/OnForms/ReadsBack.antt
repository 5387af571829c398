-- The text of a script reads back.
use Rattle.std.proofs.Common.{◌≡◌, ℕ, ◌+◌, ◌≤◌, true, if◌then◌else◌, List, [], ◌∷◌, ◌++◌, length, map, Ok, Err, refl, ap, ◌∙◌, subst, append_assoc}
use Rattle.std.specs.List.{list_all, flat_map}
use Rattle.std.proofs.lemmas.Bool.{and_parts, le-ltb}
use Rattle.action_script.specs.declared.script_error.ScriptCause.TheVariants as cause
use Rattle.action_script.specs.declared.forms.form.Form.{Form}
use Rattle.action_script.specs.declared.lines.kind.Section.{Section}
use Rattle.action_script.specs.declared.lines.kind.Section.TheVariants as section
use Rattle.action_script.specs.declared.forms.script.Line.{Line}
use Rattle.caa_base.specs.Written.Limits.{most_script_bytes}
use Rattle.action_script.specs.Words.CutLines.{lines_of}
use Rattle.action_script.specs.Lines.Kinds.{word_of, parts_of, takes, stands_in, goes_to}
use Rattle.action_script.specs.Words.NumberedNames.{with_names}
use Rattle.action_script.specs.Forms.LineForms.{kind_of, fields_of}
use Rattle.action_script.specs.Forms.ScriptValue.{Script}
use Rattle.action_script.specs.Lines.Spelling.{lines_read, names_of, Numbered, before, with_line, said_from, script_names, line_by, script_by, script_of, reading_of}
use Rattle.action_script.specs.Forms.Printing.{words_after, form_line, line_text, text_of, said_by, is_sound, is_short, lead_to_top, form_names, AreScript, forms_of, numbered_from, reread_of}
use Rattle.action_script.proofs.OnWords.Inky.{first_word}
use Rattle.action_script.proofs.OnForms.Fits.{AreNumbered}
use Rattle.action_script.proofs.OnForms.Numbered.{numbered-with_names, numbered-none}
use Rattle.action_script.proofs.OnWords.JoinedAndCut.{is_one_line, joined_one_line, lines_of-line}
use Rattle.action_script.proofs.OnForms.PrintedLines.{say_fields, line_of-form, form_by-said}

-- ---- the lines of the text

form_one_line : (names : List (List ℕ)) (form : Form) → AreNumbered names → is_sound names form ≡ true
    → is_one_line (form_line names form) ≡ true
form_one_line names form numbered sound =
    let p = and_parts (takes (kind_of form) (length (fields_of form))) _ sound in
    joined_one_line (word_of (kind_of form)) (words_after names form) (first_word (kind_of form))
    (say_fields names (parts_of (kind_of form)) (fields_of form) numbered p.1).words

lines_of-text : (names : List (List ℕ)) (lines : List Line) → AreNumbered names → list_all (is_sound names) (forms_of lines) ≡ true
    → lines_of (flat_map (line_text names) lines) ≡ map (form_line names) (forms_of lines)
lines_of-text names [] numbered sound = refl
lines_of-text names (line ∷ lines) numbered sound =
    let p = and_parts (is_sound names line.form) _ sound in
    ap lines_of (append_assoc (form_line names line.form) (10 ∷ []) (flat_map (line_text names) lines))
    ∙ lines_of-line (form_line names line.form) (flat_map (line_text names) lines) (form_one_line names line.form numbered p.0)
    ∙ ap (λ l. form_line names line.form ∷ l) (lines_of-text names lines numbered p.1)

-- ---- what they say

-- the forms as what their lines say
abbrev saids_from : ℕ → List (List ℕ) → List Form → List Numbered
saids_from number names [] = []
saids_from number names (form ∷ forms) = record { number = number; said = said_by names form } ∷ saids_from (number + 1) names forms

said_from-forms : (number : ℕ) (s : Section) (names : List (List ℕ)) (forms : List Form) → AreNumbered names → lead_to_top s forms ≡ true
    → list_all (is_sound names) forms ≡ true → list_all (is_short names) forms ≡ true
    → said_from number s (map (form_line names) forms) ≡ Ok (saids_from number names forms)
said_from-forms number s names [] numbered lead sound short =
    ap (λ b. if b then Ok [] else Err (record { line = number; cause = cause.BadLine })) lead
said_from-forms number s names (form ∷ forms) numbered lead sound short =
    let a = and_parts (stands_in (kind_of form) s) _ lead in
    let b = and_parts (is_sound names form) _ sound in
    let c = and_parts (is_short names form) _ short in
    let rest = said_from-forms (number + 1) (goes_to (kind_of form) s) names forms numbered a.1 b.1 c.1 in
    ap (with_line number s (λ t. said_from (number + 1) t (map (form_line names) forms))) (line_of-form s names form numbered b.0 c.0 a.0)
    ∙ ap (before (record { number = number; said = said_by names form })) rest

names-saids : (number : ℕ) (names : List (List ℕ)) (forms : List Form)
    → flat_map (λ l. names_of l.said.asked) (saids_from number names forms) ≡ flat_map (form_names names) forms
names-saids number names [] = refl
names-saids number names (form ∷ forms) = ap (λ words. form_names names form ++ words) (names-saids (number + 1) names forms)

lines-saids : (number : ℕ) (names : List (List ℕ)) (forms : List Form) → AreNumbered names → list_all (is_sound names) forms ≡ true
    → map (line_by names) (saids_from number names forms) ≡ numbered_from number forms
lines-saids number names [] numbered sound = refl
lines-saids number names (form ∷ forms) numbered sound =
    let p = and_parts (is_sound names form) _ sound in
    let first = form_by-said names form numbered p.0 in
    let rest = lines-saids (number + 1) names forms numbered p.1 in
    (λ j. record { number = number; form = first j } ∷ rest j)

-- ---- the whole text

numbered-script : (names : List (List ℕ)) (forms : List Form) → AreScript names forms → AreNumbered names
numbered-script names forms h = subst AreNumbered h.order (numbered-with_names [] (flat_map (form_names names) forms) numbered-none)

-- the lines of the text say the script
pub lines_spell : (script : Script) → AreScript script.names (forms_of script.lines) → lines_read (text_of script) ≡ Ok (reread_of script)
lines_spell script h =
    let names = script.names in
    let forms = forms_of script.lines in
    let numbered = numbered-script names forms h in
    let saids = saids_from 1 names forms in
    let own_names : script_names saids ≡ names = ap (with_names []) (names-saids 1 names forms) ∙ h.order in
    let own_lines : map (line_by (script_names saids)) saids ≡ numbered_from 1 forms =
    ap (λ n. map (line_by n) saids) own_names ∙ lines-saids 1 names forms numbered h.sound in
    let same : script_by saids ≡ reread_of script = (λ j. record { lines = own_lines j; names = own_names j }) in
    ap (λ lines. script_of (said_from 1 section.Top lines)) (lines_of-text names script.lines numbered h.sound)
    ∙ ap script_of (said_from-forms 1 section.Top names forms numbered h.lead h.sound h.short)
    ∙ ap Ok same

-- and where it isn't too long, the text spells it
pub reads_back : (script : Script) → AreScript script.names (forms_of script.lines) → length (text_of script) ≤ most_script_bytes
    → reading_of (text_of script) ≡ Ok (reread_of script)
reads_back script h small =
    ap (λ b. if b then Err (record { line = 0; cause = cause.TooLong }) else lines_read (text_of script))
    (le-ltb most_script_bytes (length (text_of script)) small)
    ∙ lines_spell script h
