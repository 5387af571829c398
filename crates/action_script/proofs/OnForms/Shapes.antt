-- Forms, and their kinds and fields.
use Rattle.std.proofs.Common.{◌≡◌, ℕ, ◌+◌, ◌==◌, nat_le, if◌then◌else◌, Bool, true, false, List, [], ◌∷◌, ◌++◌, length, map, Option, Some, slice_get, refl, sym, ap, ap₂, ◌∙◌, arith}
use Rattle.std.proofs.lemmas.Bool.{and_parts}
use Rattle.std.proofs.lemmas.Bool.Decides.{nat_tests}
use Rattle.std.proofs.lemmas.List.{append_assoc}
use Rattle.action_script.specs.declared.lines.field.Part.{Part}
use Rattle.action_script.specs.declared.lines.field.Part.TheVariants as part
use Rattle.action_script.specs.declared.lines.sort.Sort.TheVariants as sort
use Rattle.action_script.specs.declared.lines.sort.Naming.{Naming}
use Rattle.action_script.specs.declared.lines.sort.Naming.TheVariants as naming
use Rattle.action_script.specs.declared.lines.field.Field.{Field}
use Rattle.action_script.specs.declared.lines.field.Field.TheVariants as field
use Rattle.action_script.specs.declared.forms.form.Form.{Form}
use Rattle.action_script.specs.declared.forms.form.Form.TheVariants as form
use Rattle.action_script.specs.declared.lines.kind.LineKind.{LineKind}
use Rattle.action_script.specs.declared.lines.kind.LineKind.TheVariants as kind
use Rattle.action_script.specs.Lines.Kinds.{new, used, parts_of, may_go_on, takes}
use Rattle.action_script.specs.Forms.LineForms.{kind_of, fields_of, form_by, name_in, value_in, count_in, test_in}
use Rattle.action_script.specs.Forms.Printing.{fits_part, all_fit}

-- ---- a form is made again of its kind and fields

names_of_fields : (list : List ℕ) → map (λ f. name_in (Some f)) (map field.Name list) ≡ list
names_of_fields [] = refl
names_of_fields (n ∷ list) = ap (λ l. n ∷ l) (names_of_fields list)

pub form_by-own : (f : Form) → form_by (kind_of f) (fields_of f) ≡ f
form_by-own (form.Play n list) = ap (form.Play n) (names_of_fields list)
form_by-own (form.Uses list) = ap form.Uses (names_of_fields list)
form_by-own (form.Roles list) = ap form.Roles (names_of_fields list)
form_by-own (form.Nest n m list) = ap (form.Nest n m) (names_of_fields list)
form_by-own _ = refl

-- ---- fields that are what a kind asks for

-- the field that a part asks for, by what stands there
abbrev made : Part → Option Field → Field
made (part.Name naming) o = field.Name (name_in o)
made part.Value o = field.Value (value_in o)
made part.Count o = field.Count (count_in o)
made part.Rounds o = field.Count (count_in o)
made part.Test o = field.Test (test_in o)

made_own : (names : List (List ℕ)) (p : Part) (f : Field) → fits_part names p f ≡ true → made p (Some f) ≡ f
made_own names (part.Name naming) (field.Name n) h = refl
made_own names part.Value (field.Value v) h = refl
made_own names part.Count (field.Count k) h = refl
made_own names part.Rounds (field.Count k) h = refl
made_own names part.Test (field.Test t) h = refl
made_own names _ _ h = cc

-- the fields that these parts ask for, by what stands from a place on
abbrev all_made : ℕ → List Part → List Field → List Field
all_made i [] fields = []
all_made i (p ∷ parts) fields = made p (slice_get fields i) ∷ all_made (i + 1) parts fields

there : (done : List Field) (f : Field) (fields : List Field) → slice_get (done ++ f ∷ fields) (length done) ≡ Some f
there [] f fields = refl
there (first ∷ done) f fields = there done f fields

one_longer : (done : List Field) (f : Field) → length (done ++ f ∷ []) ≡ length done + 1
one_longer [] f = refl
one_longer (first ∷ done) f = omega (arith, one_longer done f)

-- are these fields
all_made-own : (names : List (List ℕ)) (done : List Field) (parts : List Part) (fields : List Field) → length parts ≡ length fields
    → all_fit names parts fields ≡ true → all_made (length done) parts (done ++ fields) ≡ fields
all_made-own names done [] [] e h = refl
all_made-own names done [] (f ∷ fields) e h = absurd (omega arith)
all_made-own names done (p ∷ parts) [] e h = absurd (omega arith)
all_made-own names done (p ∷ parts) (f ∷ fields) e h =
    let both = and_parts (fits_part names p f) _ h in
    let first : made p (slice_get (done ++ f ∷ fields) (length done)) ≡ f = ap (made p) (there done f fields) ∙ made_own names p f both.0 in
    let same : all_made (length done + 1) parts (done ++ f ∷ fields) ≡ all_made (length (done ++ f ∷ [])) parts
    ((done ++ f ∷ []) ++ fields) =
    ap₂ (λ i l. all_made i parts l) (sym (one_longer done f)) (sym (append_assoc done (f ∷ []) fields)) in
    ap₂ (λ x l. x ∷ l) first (same ∙ all_made-own names (done ++ f ∷ []) parts fields (omega arith) both.1)

-- names that go on
all_names : (names : List (List ℕ)) (fields : List Field) → all_fit names [] fields ≡ true
    → map field.Name (map (λ f. name_in (Some f)) fields) ≡ fields
all_names names [] h = refl
all_names names (field.Name n ∷ fields) h =
    let p = and_parts (fits_part names (part.Name naming.Further) (field.Name n)) _ h in
    ap (λ l. field.Name n ∷ l) (all_names names fields p.1)
all_names names (_ ∷ fields) h = cc

some_names : (names : List (List ℕ)) (for_this : Naming) (fields : List Field) → all_fit names (part.Name for_this ∷ []) fields ≡ true
    → map field.Name (map (λ f. name_in (Some f)) fields) ≡ fields
some_names names for_this [] h = refl
some_names names for_this (f ∷ fields) h = all_names names (f ∷ fields) h

-- a kind and fields are those of the form that they make
pub record MakesForm (k : LineKind) (fields : List Field) : Type 0 where
  pub same_kind : kind_of (form_by k fields) ≡ k
  pub same_fields : fields_of (form_by k fields) ≡ fields

kind_again : (k : LineKind) (fields : List Field) → kind_of (form_by k fields) ≡ k
kind_again kind.Participant fields = refl
kind_again _ fields = refl

fields_made : (k : LineKind) (fields : List Field) → may_go_on k ≡ false → fields_of (form_by k fields) ≡ all_made 0 (parts_of k) fields
fields_made kind.Play fields h = cc
fields_made kind.Use fields h = cc
fields_made kind.Roles fields h = cc
fields_made kind.Nest fields h = cc
fields_made _ fields h = refl

fields_with_more : (names : List (List ℕ)) (k : LineKind) (fields : List Field) → may_go_on k ≡ true
    → all_fit names (parts_of k) fields ≡ true → nat_le (length (parts_of k)) (length fields) ≡ true → fields_of (form_by k fields) ≡ fields
fields_with_more names kind.Play (f ∷ fields) go h l =
    let action = used sort.Action in
    let p = and_parts (fits_part names action f) _ h in
    ap₂ (λ x l. x ∷ l) (made_own names action f p.0) (some_names names (naming.Used sort.Participant) fields p.1)
fields_with_more names kind.Use fields go h l = some_names names (naming.Used sort.Object) fields h
fields_with_more names kind.Roles fields go h l = some_names names (naming.New sort.Role) fields h
fields_with_more names kind.Nest (f ∷ g ∷ fields) go h l =
    let nest = new sort.Nest in
    let action = used sort.Action in
    let p = and_parts (fits_part names nest f) _ h in
    let q = and_parts (fits_part names action g) _ p.1 in
    ap₂ (λ x l. x ∷ l) (made_own names nest f p.0)
    (ap₂ (λ x l. x ∷ l) (made_own names action g q.0) (some_names names (naming.Used sort.Role) fields q.1))
fields_with_more names _ fields go h l = cc

equal_length : (n m : ℕ) → (n == m) ≡ true → n ≡ m
equal_length n m h = grind (arith, nat_tests)

-- the fields that a kind asks for make a form of that kind with these fields
pub makes_form : (names : List (List ℕ)) (k : LineKind) (fields : List Field) → takes k (length fields) ≡ true
    → all_fit names (parts_of k) fields ≡ true → MakesForm k fields
makes_form names k fields t h = record { same_kind = kind_again k fields; same_fields = by (may_go_on k) refl t }
  where
    by : (b : Bool) → may_go_on k ≡ b
        → (if b then nat_le (length (parts_of k)) (length fields) else length (parts_of k) == length fields) ≡ true
        → fields_of (form_by k fields) ≡ fields
    by true go l = fields_with_more names k fields go h l
    by false go e =
        fields_made k fields go ∙ all_made-own names [] (parts_of k) fields (equal_length (length (parts_of k)) (length fields) e) h
