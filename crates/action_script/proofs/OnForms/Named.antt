-- The numbers of a form are those of names.
use Rattle.std.proofs.Common.{◌≡◌, ℕ, zero, suc, ◌<◌, Bool, true, List, [], ◌∷◌, length, map, get_or, refl, sym, ap, subst, arith}
use Rattle.std.specs.List.{list_all}
use Rattle.std.proofs.lemmas.Bool.{and_parts}
use Rattle.action_script.specs.declared.lines.field.Part.{Part}
use Rattle.action_script.specs.declared.lines.field.Part.TheVariants as part
use Rattle.action_script.specs.declared.lines.sort.Naming.TheVariants as naming
use Rattle.action_script.specs.declared.lines.field.Field.{Field}
use Rattle.action_script.specs.declared.lines.field.Field.TheVariants as field
use Rattle.action_script.specs.declared.forms.form.Form.{Form}
use Rattle.action_script.specs.declared.forms.form.Form.TheVariants as form
use Rattle.action_script.specs.declared.forms.script.Line.{Line}
use Rattle.action_script.specs.Lines.Kinds.{parts_of, takes}
use Rattle.action_script.specs.Forms.LineForms.{kind_of, fields_of, numbers_in, numbers_of}
use Rattle.action_script.specs.Forms.ScriptValue.{Script}
use Rattle.action_script.specs.Forms.Printing.{fits_part, all_fit, is_sound, forms_of, AreBelow, AreScript}
use Rattle.action_script.proofs.OnForms.Fits.{named_within}

field_below : (names : List (List ℕ)) (p : Part) (f : Field) (fields : List Field) → fits_part names p f ≡ true
    → AreBelow (length names) (numbers_in fields) → AreBelow (length names) (numbers_in (f ∷ fields))
field_below names (part.Name naming) (field.Name n) fields h rest = (named_within names n h, rest)
field_below names _ (field.Name n) fields h rest = cc
field_below names p (field.Value v) fields h rest = rest
field_below names p (field.Count k) fields h rest = rest
field_below names p (field.Test t) fields h rest = rest

fields_below : (names : List (List ℕ)) (parts : List Part) (fields : List Field) → all_fit names parts fields ≡ true
    → AreBelow (length names) (numbers_in fields)
fields_below names parts [] h = tt
fields_below names [] (f ∷ fields) h =
    let p = and_parts (fits_part names (part.Name naming.Further) f) _ h in
    field_below names (part.Name naming.Further) f fields p.0 (fields_below names [] fields p.1)
fields_below names (r ∷ parts) (f ∷ fields) h =
    let p = and_parts (fits_part names r f) _ h in
    field_below names r f fields p.0 (fields_below names parts fields p.1)

numbers_in-list : (list : List ℕ) → numbers_in (map field.Name list) ≡ list
numbers_in-list [] = refl
numbers_in-list (n ∷ list) = ap (λ l. n ∷ l) (numbers_in-list list)

numbers_of-fields : (f : Form) → numbers_of f ≡ numbers_in (fields_of f)
numbers_of-fields (form.Play n list) = ap (λ l. n ∷ l) (sym (numbers_in-list list))
numbers_of-fields (form.Uses list) = sym (numbers_in-list list)
numbers_of-fields (form.Roles list) = sym (numbers_in-list list)
numbers_of-fields (form.Nest n m list) = ap (λ l. n ∷ m ∷ l) (sym (numbers_in-list list))
numbers_of-fields _ = refl

pub form_below : (names : List (List ℕ)) (f : Form) → is_sound names f ≡ true → AreBelow (length names) (numbers_of f)
form_below names f h =
    let p = and_parts (takes (kind_of f) (length (fields_of f))) _ h in
    subst (AreBelow (length names)) (sym (numbers_of-fields f)) (fields_below names (parts_of (kind_of f)) (fields_of f) p.1)

-- what holds of all forms holds of the one at a place
line_at : (test : Form → Bool) (lines : List Line) (i : ℕ) (d line : Line) → i < length lines → line ≡ get_or lines i d
    → list_all test (forms_of lines) ≡ true → test line.form ≡ true
line_at test [] i d line within at all = absurd (omega arith)
line_at test (first ∷ lines) zero d line within at all =
    let p = and_parts (test first.form) _ all in
    subst (λ l. test l.form ≡ true) (sym at) p.0
line_at test (first ∷ lines) (suc i) d line within at all =
    let p = and_parts (test first.form) _ all in
    line_at test lines i d line (omega arith) at p.1

pub form_sound : (lines : List Line) (names : List (List ℕ)) (script : Script) (i : ℕ) (line : Line)
    → record { lines = lines; names = names } ≡ script → AreScript names (forms_of lines) → i < length script.lines
    → line ≡ get_or lines i line → is_sound script.names line.form ≡ true
form_sound lines names script i line same whole within at =
    let P : Script → Type 0 = λ s. i < length s.lines → is_sound s.names line.form ≡ true in
    subst P same (λ below. line_at (is_sound names) lines i line line below at whole.sound) within
