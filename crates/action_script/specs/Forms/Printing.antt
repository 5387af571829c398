-- The text of a script.
use Rattle.std.specs.Prelude.{◌≡◌, ℕ, ◌+◌, ◌<◌, ◌^◌, nat_le, Bool, true, false, ◌&&◌, List, [], ◌∷◌, ◌++◌, length, map, decimal}
use Rattle.std.specs.List.{list_all, flat_map}
use Rattle.std.specs.Fmt.{signed_decimal}
use Rattle.action_script.specs.declared.lines.field.Part.{Part}
use Rattle.action_script.specs.declared.lines.field.Part.TheVariants as part
use Rattle.action_script.specs.declared.lines.sort.Naming.TheVariants as naming
use Rattle.action_script.specs.declared.lines.field.Field.{Field}
use Rattle.action_script.specs.declared.lines.field.Field.TheVariants as field
use Rattle.action_script.specs.declared.forms.form.Form.{Form}
use Rattle.action_script.specs.declared.lines.kind.Section.{Section}
use Rattle.action_script.specs.declared.lines.kind.Section.TheVariants as section
use Rattle.action_script.specs.declared.forms.script.Line.{Line}
use Rattle.action_script.specs.Words.ScriptWords.{test_word}
use Rattle.caa_base.specs.Written.Names.{is_name, name_at}
use Rattle.caa_base.specs.Written.Limits.{most_line_bytes, most_count, is_value}
use Rattle.caa_base.specs.Written.Lines.{spaced}
use Rattle.action_script.specs.Lines.Asked.{Said}
use Rattle.action_script.specs.Lines.Kinds.{word_of, parts_of, takes, stands_in, goes_to, at_top}
use Rattle.action_script.specs.Forms.LineForms.{kind_of, fields_of}
use Rattle.action_script.specs.Words.NumberedNames.{with_names}
use Rattle.action_script.specs.Lines.Spelling.{asked_of, names_of}
use Rattle.action_script.specs.Forms.ScriptValue.{Script}

-- ---- the text

-- the word that says a field
abbrev pub field_word : List (List ℕ) → Field → List ℕ
field_word names (field.Name n) = name_at names n
field_word names (field.Value v) = signed_decimal v
field_word names (field.Count k) = decimal k
field_word names (field.Test t) = test_word t

-- the words of a form after the first
abbrev pub words_after : List (List ℕ) → Form → List (List ℕ)
words_after names form = map (field_word names) (fields_of form)

-- the line of a form: one space before each word but the first
abbrev pub form_line : List (List ℕ) → Form → List ℕ
form_line names form = word_of (kind_of form) ++ spaced (words_after names form)

-- the same with its line feed
abbrev pub line_text : List (List ℕ) → Line → List ℕ
line_text names line = form_line names line.form ++ 10 ∷ []

-- the text of a script: one line for each form
abbrev pub text_of : Script → List ℕ
text_of script = flat_map (line_text script.names) script.lines

-- ---- what makes lines and names a script

-- a field is what this part asks for: a name by the grammar, or a number in its range
abbrev pub fits_part : List (List ℕ) → Part → Field → Bool
fits_part names (part.Name naming) (field.Name n) = is_name (name_at names n)
fits_part names part.Value (field.Value v) = is_value v
fits_part names part.Count (field.Count k) = nat_le 1 k && nat_le k most_count
fits_part names part.Rounds (field.Count k) = nat_le k most_count
fits_part names part.Test (field.Test t) = true
fits_part names _ _ = false

-- fields are what these parts ask for, one after the other; where the parts end, names go on
abbrev pub all_fit : List (List ℕ) → List Part → List Field → Bool
all_fit names parts [] = true
all_fit names [] (f ∷ fields) = fits_part names (part.Name naming.Further) f && all_fit names [] fields
all_fit names (p ∷ parts) (f ∷ fields) = fits_part names p f && all_fit names parts fields

-- a form has as many fields as its kind takes, so its list isn't empty, and they are what is asked for
abbrev pub is_sound : List (List ℕ) → Form → Bool
is_sound names form = takes (kind_of form) (length (fields_of form)) && all_fit names (parts_of (kind_of form)) (fields_of form)

-- each of these numbers is below the count
abbrev pub AreBelow : ℕ → List ℕ → Type 0
AreBelow count [] = Unit {0}
AreBelow count (n ∷ numbers) = (n < count) × AreBelow count numbers

-- the line is no longer than a line may be
abbrev pub is_short : List (List ℕ) → Form → Bool
is_short names form = nat_le (length (form_line names form)) most_line_bytes

-- these forms may follow one another where the reader is here, and lead it to the top
abbrev pub lead_to_top : Section → List Form → Bool
lead_to_top s [] = at_top s
lead_to_top s (form ∷ forms) = stands_in (kind_of form) s && lead_to_top (goes_to (kind_of form) s) forms

-- what the line of a form says
abbrev pub said_by : List (List ℕ) → Form → Said
said_by names form = record { kind = kind_of form; asked = asked_of (parts_of (kind_of form)) (words_after names form) }

-- the names of a form, in the order in which its line has them
abbrev pub form_names : List (List ℕ) → Form → List (List ℕ)
form_names names form = names_of (said_by names form).asked

-- these names and forms make a script
pub record AreScript (names : List (List ℕ)) (forms : List Form) : Type 0 where
  pub few_names : length names < 2 ^ 32
  pub few_forms : length forms < 2 ^ 32
  pub lead : lead_to_top section.Top forms ≡ true
  pub sound : list_all (is_sound names) forms ≡ true
  pub short : list_all (is_short names) forms ≡ true
  pub order : with_names [] (flat_map (form_names names) forms) ≡ names

-- the forms of some lines
abbrev pub forms_of : List Line → List Form
forms_of lines = map (λ l. l.form) lines

-- ---- line numbers

-- these forms on lines of their own, the first of which has this number
abbrev pub numbered_from : ℕ → List Form → List Line
numbered_from number [] = []
numbered_from number (form ∷ forms) = record { number = number; form = form } ∷ numbered_from (number + 1) forms

-- the script as its text reads back: each line has the number after that of the line before it, the first of them 1
abbrev pub reread_of : Script → Script
reread_of script = record { lines = numbered_from 1 (forms_of script.lines); names = script.names }
