-- The values and the rounds of a script's lines are in range.
use Rattle.std.proofs.Common.{◌≡◌, ℕ, ℤ, nat_le, Bool, true, ◌&&◌, List, length}
use Rattle.std.proofs.lemmas.Bool.{and_parts}
use Rattle.caa_base.specs.Written.Limits.{is_value, most_count}
use Rattle.action_script.specs.declared.forms.form.Form.{Form}
use Rattle.action_script.specs.Lines.Kinds.{takes, parts_of}
use Rattle.action_script.specs.Forms.LineForms.{kind_of, fields_of}
use Rattle.action_script.specs.Forms.Printing.{is_sound, all_fit}

-- the fields of a sound line are what is asked for
pub parts_sound : (names : List (List ℕ)) (f : Form) → is_sound names f ≡ true → all_fit names (parts_of (kind_of f)) (fields_of f) ≡ true
parts_sound names f h = (and_parts (takes (kind_of f) (length (fields_of f))) (all_fit names (parts_of (kind_of f)) (fields_of f)) h).1

pub value_first : (v : ℤ) (more : Bool) → (is_value v && more) ≡ true → is_value v ≡ true
value_first v more h = (and_parts (is_value v) more h).0

pub value_second : (named : Bool) (v : ℤ) (more : Bool) → (named && (is_value v && more)) ≡ true → is_value v ≡ true
value_second named v more h = value_first v more (and_parts named _ h).1

pub rounds_alone : (k : ℕ) → (nat_le k most_count && true) ≡ true → nat_le k most_count ≡ true
rounds_alone k h = (and_parts (nat_le k most_count) true h).0
