-- The line of a form says that form.
use Rattle.std.proofs.Common.{◌≡◌, ℕ, ◌==◌, nat_lt, Bool, true, false, not, ◌&&◌, cond, if◌then◌else◌, List, [], ◌∷◌, length, map, Option, Some, None, Ok, Err, find, refl, sym, ap, ◌∙◌, subst, arith}
use Rattle.std.specs.List.{list_all}
use Rattle.std.proofs.lemmas.Bool.{and_parts, leb-true, le-ltb}
use Rattle.std.proofs.lemmas.Bool.Decides.{nat_tests}
use Rattle.std.proofs.lemmas.List.{length-map}
use Rattle.action_script.specs.declared.script_error.ScriptCause.TheVariants as cause
use Rattle.action_script.specs.declared.lines.field.Part.{Part}
use Rattle.action_script.specs.declared.lines.field.Part.TheVariants as part
use Rattle.action_script.specs.declared.lines.sort.Naming.TheVariants as naming
use Rattle.action_script.specs.declared.lines.field.Field.{Field}
use Rattle.action_script.specs.declared.forms.form.Form.{Form}
use Rattle.action_script.specs.declared.lines.kind.Section.{Section}
use Rattle.action_script.specs.declared.lines.kind.LineKind.{LineKind}
use Rattle.action_script.specs.declared.lines.kind.LineKind.TheVariants as kind
use Rattle.caa_base.specs.Written.Limits.{most_line_bytes}
use Rattle.action_script.specs.Words.CutLines.{words_of, is_plain}
use Rattle.action_script.specs.Lines.Asked.{Asked}
use Rattle.action_script.specs.Lines.Kinds.{word_of, parts_of, takes, stands_in}
use Rattle.action_script.specs.Forms.LineForms.{kind_of, fields_of, form_by}
use Rattle.action_script.specs.Lines.Spelling.{asked_of, is_right, is_wrong_test, is_test, field_of, kind_here, by_first_wrong, trial_of, by_check, by_kind, line_by_words, line_of}
use Rattle.action_script.specs.Forms.Printing.{field_word, words_after, form_line, said_by, fits_part, all_fit, is_sound, is_short}
use Rattle.action_script.proofs.OnWords.Inky.{right_word, first_word, first_speaks}
use Rattle.action_script.proofs.OnForms.Fits.{AreNumbered, field_word-part, field_by-word}
use Rattle.action_script.proofs.OnForms.Shapes.{form_by-own}
use Rattle.action_script.proofs.OnWords.JoinedAndCut.{AreWords, words_of-joined, joined_plain}

-- ---- fields as words

-- what is known of the words of fields
pub record SayFields (names : List (List ℕ)) (parts : List Part) (fields : List Field) : Type 0 where
  pub said : map (field_of names) (asked_of parts (map (field_word names) fields)) ≡ fields
  pub right : list_all is_right (asked_of parts (map (field_word names) fields)) ≡ true
  pub words : AreWords (map (field_word names) fields)

say_one : (names : List (List ℕ)) (p : Part) (parts : List Part) (f : Field) (fields : List Field) → AreNumbered names
    → fits_part names p f ≡ true → SayFields names parts fields
    → (map (field_of names) (record { part = p; word = field_word names f } ∷ asked_of parts (map (field_word names) fields))
    ≡ f ∷ fields)
    × (list_all is_right (record { part = p; word = field_word names f } ∷ asked_of parts (map (field_word names) fields))
    ≡ true) × AreWords (map (field_word names) (f ∷ fields))
say_one names p parts f fields numbered h rest =
    let one = field_by-word names p f numbered h in
    let right = field_word-part names p f h in
    ((λ j. one j ∷ rest.said j), rw (right, rest.right) refl, (right_word p (field_word names f) right, rest.words))

pub say_fields : (names : List (List ℕ)) (parts : List Part) (fields : List Field) → AreNumbered names → all_fit names parts fields ≡ true
    → SayFields names parts fields
say_fields names parts [] numbered h = record { said = refl; right = refl; words = tt }
say_fields names [] (f ∷ fields) numbered h =
    let p = and_parts (fits_part names (part.Name naming.Further) f) _ h in
    let q = say_one names (part.Name naming.Further) [] f fields numbered p.0 (say_fields names [] fields numbered p.1) in
    record { said = q.0; right = q.1; words = q.2 }
say_fields names (r ∷ parts) (f ∷ fields) numbered h =
    let p = and_parts (fits_part names r f) _ h in
    let q = say_one names r parts f fields numbered p.0 (say_fields names parts fields numbered p.1) in
    record { said = q.0; right = q.1; words = q.2 }

-- ---- words that are right

and_false : (a : Bool) → (a && false) ≡ false
and_false true = refl
and_false false = refl

right_tests : (asked : List Asked) → list_all is_right asked ≡ true → list_all (λ a. not (is_wrong_test a)) asked ≡ true
right_tests [] h = refl
right_tests (a ∷ asked) h =
    let p = and_parts (is_right a) _ h in
    let one : not (is_wrong_test a) ≡ true = ap (λ b. not (is_test a.part && not b)) p.0 ∙ ap not (and_false (is_test a.part)) in
    rw (one, right_tests asked p.1) refl

none_wrong : (asked : List Asked) → list_all is_right asked ≡ true → find (λ a. not (is_right a)) asked ≡ None
none_wrong [] h = refl
none_wrong (a ∷ asked) h =
    let p = and_parts (is_right a) _ h in
    ap (λ b. cond (not b) (Some a) (find (λ a. not (is_right a)) asked)) p.0 ∙ none_wrong asked p.1

pub trial_of-right : (asked : List Asked) → list_all is_right asked ≡ true → trial_of asked ≡ Ok tt
trial_of-right asked h =
    ap (λ b. if b then by_first_wrong (find (λ a. not (is_right a)) asked) else Err cause.BadLine) (right_tests asked h) ∙ ap
    by_first_wrong (none_wrong asked h)

-- ---- the kind of the line

found : (k : LineKind) (rest : Option LineKind) (a b : Bool) → a ≡ true → b ≡ true → cond (a && b) (Some k) rest ≡ Some k
found k rest true true p q = refl
found k rest true false p q = cc
found k rest false b p q = cc

four : (n : ℕ) → (4 == n) ≡ true → n ≡ 4
four n h = grind (arith, nat_tests)

abort_test : (s : Section) (n : ℕ) → n ≡ 4 → stands_in kind.AbortTest s ≡ true
    → kind_here s (word_of kind.AbortTest) n ≡ Some kind.AbortTest
abort_test s n four h =
    subst (λ m. kind_here s (word_of kind.AbortTest) m ≡ Some kind.AbortTest) (sym four)
    (found kind.AbortTest _ true (stands_in kind.AbortTest s) refl h)

pub kind_here-own : (k : LineKind) (s : Section) (n : ℕ) → takes k n ≡ true → stands_in k s ≡ true → kind_here s (word_of k) n ≡ Some k
kind_here-own kind.AbortTest s n t h = abort_test s n (four n t) h
kind_here-own _ s n t h = found _ _ _ _ t h

-- ---- the line

pub line_of-form : (s : Section) (names : List (List ℕ)) (form : Form) → AreNumbered names → is_sound names form ≡ true
    → is_short names form ≡ true → stands_in (kind_of form) s ≡ true → line_of s (form_line names form) ≡ Ok (Some (said_by names form))
line_of-form s names form numbered sound short stands =
    let k = kind_of form in
    let fields = fields_of form in
    let words = words_after names form in
    let said = said_by names form in
    let p = and_parts (takes k (length fields)) _ sound in
    let says = say_fields names (parts_of k) fields numbered p.1 in
    let first = first_word k in
    let count : takes k (length words) ≡ true = subst (λ n. takes k n ≡ true) (sym (length-map fields (field_word names))) p.0 in
    let cut : words_of (form_line names form) ≡ word_of k ∷ words = words_of-joined (word_of k) words first says.words in
    let plain : list_all is_plain (form_line names form) ≡ true = joined_plain (word_of k) words first says.words in
    let within : nat_lt most_line_bytes (length (form_line names form)) ≡ false =
    le-ltb most_line_bytes (length (form_line names form)) (leb-true (length (form_line names form)) most_line_bytes short) in
    let here : kind_here s (word_of k) (length words) ≡ Some k = kind_here-own k s (length words) count stands in
    let tried : trial_of said.asked ≡ Ok tt = trial_of-right said.asked says.right in
    ap
    (λ b. if b then Err cause.TooLong else line_by_words s (list_all is_plain (form_line names form)) (words_of (form_line names form)))
    within
    ∙ ap (λ ws. line_by_words s (list_all is_plain (form_line names form)) ws) cut
    ∙ ap
    (λ b. if b then Ok None else
    (if list_all is_plain (form_line names form) then by_kind words (kind_here s (word_of k) (length words)) else Err cause.BadLine))
    (first_speaks k)
    ∙ ap (λ b. if b then by_kind words (kind_here s (word_of k) (length words)) else Err cause.BadLine) plain
    ∙ ap (by_kind words) here
    ∙ ap (by_check said) tried

-- and its words say the fields of the form
pub form_by-said : (names : List (List ℕ)) (form : Form) → AreNumbered names → is_sound names form ≡ true
    → form_by (kind_of form) (map (field_of names) (said_by names form).asked) ≡ form
form_by-said names form numbered sound =
    let p = and_parts (takes (kind_of form) (length (fields_of form))) _ sound in
    ap (form_by (kind_of form)) (say_fields names (parts_of (kind_of form)) (fields_of form) numbered p.1).said ∙ form_by-own form
