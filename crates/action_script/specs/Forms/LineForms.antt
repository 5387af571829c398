-- What the lines of a script say, as forms: each form is of one kind, and its fields are what the words after the first say.
use Rattle.std.specs.Prelude.{ℕ, ℤ, pos, List, [], ◌∷◌, map, drop, Option, Some, slice_get}
use Rattle.caa_base.specs.declared.written.entry.Test.{Test}
use Rattle.caa_base.specs.declared.written.entry.Test.TheVariants as test
use Rattle.action_script.specs.declared.lines.field.Field.{Field}
use Rattle.action_script.specs.declared.lines.field.Field.TheVariants as field
use Rattle.action_script.specs.declared.forms.form.Form.{Form}
use Rattle.action_script.specs.declared.forms.form.Form.TheVariants as form
use Rattle.action_script.specs.declared.lines.kind.LineKind.{LineKind}
use Rattle.action_script.specs.declared.lines.kind.LineKind.TheVariants as kind

-- how a form is worded: the kind of its line, and what the words of the line after the first say
pub record Wording : Type 0 where
  pub kind : LineKind
  pub fields : List Field

-- the wording of each form
abbrev pub wording_of : Form → Wording
wording_of (form.Participant n) = record { kind = kind.Participant; fields = field.Name n ∷ [] }
wording_of (form.Object n v) = record { kind = kind.Object; fields = field.Name n ∷ field.Value v ∷ [] }
wording_of (form.Drill n k) = record { kind = kind.Drill; fields = field.Name n ∷ field.Count k ∷ [] }
wording_of (form.Watch n) = record { kind = kind.Watch; fields = field.Name n ∷ [] }
wording_of (form.Graph n) = record { kind = kind.Graph; fields = field.Name n ∷ [] }
wording_of (form.Action n) = record { kind = kind.Action; fields = field.Name n ∷ [] }
wording_of (form.Play n list) = record { kind = kind.Play; fields = field.Name n ∷ map field.Name list }
wording_of (form.Exception n) = record { kind = kind.Exception; fields = field.Name n ∷ [] }
wording_of (form.Cover n m) = record { kind = kind.Cover; fields = field.Name n ∷ field.Name m ∷ [] }
wording_of form.End = record { kind = kind.End; fields = [] }
wording_of (form.Internal n) = record { kind = kind.Internal; fields = field.Name n ∷ [] }
wording_of (form.Interface n) = record { kind = kind.Interface; fields = field.Name n ∷ [] }
wording_of (form.Fault n) = record { kind = kind.Fault; fields = field.Name n ∷ [] }
wording_of (form.Uses list) = record { kind = kind.Use; fields = map field.Name list }
wording_of (form.Roles list) = record { kind = kind.Roles; fields = map field.Name list }
wording_of (form.Nest n m list) = record { kind = kind.Nest; fields = field.Name n ∷ field.Name m ∷ map field.Name list }
wording_of (form.Map n m o) = record { kind = kind.Map; fields = field.Name n ∷ field.Name m ∷ field.Name o ∷ [] }
wording_of (form.MapUndo n m) = record { kind = kind.MapUndo; fields = field.Name n ∷ field.Name m ∷ [] }
wording_of (form.MapFailure n m) = record { kind = kind.MapFailure; fields = field.Name n ∷ field.Name m ∷ [] }
wording_of (form.Alternate n m) = record { kind = kind.Alternate; fields = field.Name n ∷ field.Name m ∷ [] }
wording_of (form.Abort n m) = record { kind = kind.Abort; fields = field.Name n ∷ field.Name m ∷ [] }
wording_of (form.AbortTest n t v m) =
    record { kind = kind.AbortTest; fields = field.Name n ∷ field.Test t ∷ field.Value v ∷ field.Name m ∷ [] }
wording_of (form.Body n) = record { kind = kind.Body; fields = field.Name n ∷ [] }
wording_of (form.Handler n m) = record { kind = kind.Handler; fields = field.Name n ∷ field.Name m ∷ [] }
wording_of (form.ReadStep n) = record { kind = kind.Read; fields = field.Name n ∷ [] }
wording_of (form.PutStep n v) = record { kind = kind.Put; fields = field.Name n ∷ field.Value v ∷ [] }
wording_of (form.AddStep n v) = record { kind = kind.Add; fields = field.Name n ∷ field.Value v ∷ [] }
wording_of (form.WorkStep k) = record { kind = kind.Work; fields = field.Count k ∷ [] }
wording_of (form.CheckStep t v n) = record { kind = kind.Check; fields = field.Test t ∷ field.Value v ∷ field.Name n ∷ [] }
wording_of (form.RaiseStep n) = record { kind = kind.Raise; fields = field.Name n ∷ [] }
wording_of (form.EnterStep n) = record { kind = kind.Enter; fields = field.Name n ∷ [] }
wording_of form.DoneLine = record { kind = kind.Done; fields = [] }
wording_of (form.SignalLine n) = record { kind = kind.Signal; fields = field.Name n ∷ [] }
wording_of form.UndoLine = record { kind = kind.Undo; fields = [] }

-- the kind of a form
abbrev pub kind_of : Form → LineKind
kind_of form = (wording_of form).kind

-- what the words of its line after the first say
abbrev pub fields_of : Form → List Field
fields_of form = (wording_of form).fields

-- the names among some fields, by their numbers
abbrev pub numbers_in : List Field → List ℕ
numbers_in [] = []
numbers_in (field.Name n ∷ fields) = n ∷ numbers_in fields
numbers_in (_ ∷ fields) = numbers_in fields

-- the names of a form, by their numbers
abbrev pub numbers_of : Form → List ℕ
numbers_of (form.Play n list) = n ∷ list
numbers_of (form.Uses list) = list
numbers_of (form.Roles list) = list
numbers_of (form.Nest n m list) = n ∷ m ∷ list
numbers_of f = numbers_in (fields_of f)

-- ---- the form of a kind and its fields; a field that isn't there, or is none of what is asked for, is never looked at

-- the name that a field says
abbrev pub name_in : Option Field → ℕ
name_in (Some (field.Name n)) = n
name_in _ = 0

-- the value that a field says
abbrev pub value_in : Option Field → ℤ
value_in (Some (field.Value v)) = v
value_in _ = pos 0

-- the count that a field says
abbrev pub count_in : Option Field → ℕ
count_in (Some (field.Count k)) = k
count_in _ = 0

-- the test that a field says
abbrev pub test_in : Option Field → Test
test_in (Some (field.Test t)) = t
test_in _ = test.Below

-- the name that the field at a place says
abbrev pub name_at : List Field → ℕ → ℕ
name_at fields i = name_in (slice_get fields i)

-- the value that the field at a place says
abbrev pub value_at : List Field → ℕ → ℤ
value_at fields i = value_in (slice_get fields i)

-- the count that the field at a place says
abbrev pub count_at : List Field → ℕ → ℕ
count_at fields i = count_in (slice_get fields i)

-- the test that the field at a place says
abbrev pub test_at : List Field → ℕ → Test
test_at fields i = test_in (slice_get fields i)

-- the names that the fields from a place on say
abbrev pub names_from : List Field → ℕ → List ℕ
names_from fields i = map (λ f. name_in (Some f)) (drop i fields)

-- the form of a kind and its fields
abbrev pub form_by : LineKind → List Field → Form
form_by kind.Participant fields = form.Participant (name_at fields 0)
form_by kind.Object fields = form.Object (name_at fields 0) (value_at fields 1)
form_by kind.Drill fields = form.Drill (name_at fields 0) (count_at fields 1)
form_by kind.Watch fields = form.Watch (name_at fields 0)
form_by kind.Graph fields = form.Graph (name_at fields 0)
form_by kind.Action fields = form.Action (name_at fields 0)
form_by kind.Play fields = form.Play (name_at fields 0) (names_from fields 1)
form_by kind.Exception fields = form.Exception (name_at fields 0)
form_by kind.Cover fields = form.Cover (name_at fields 0) (name_at fields 1)
form_by kind.End fields = form.End
form_by kind.Internal fields = form.Internal (name_at fields 0)
form_by kind.Interface fields = form.Interface (name_at fields 0)
form_by kind.Fault fields = form.Fault (name_at fields 0)
form_by kind.Use fields = form.Uses (names_from fields 0)
form_by kind.Roles fields = form.Roles (names_from fields 0)
form_by kind.Nest fields = form.Nest (name_at fields 0) (name_at fields 1) (names_from fields 2)
form_by kind.Map fields = form.Map (name_at fields 0) (name_at fields 1) (name_at fields 2)
form_by kind.MapUndo fields = form.MapUndo (name_at fields 0) (name_at fields 1)
form_by kind.MapFailure fields = form.MapFailure (name_at fields 0) (name_at fields 1)
form_by kind.Alternate fields = form.Alternate (name_at fields 0) (name_at fields 1)
form_by kind.Abort fields = form.Abort (name_at fields 0) (name_at fields 1)
form_by kind.AbortTest fields = form.AbortTest (name_at fields 0) (test_at fields 1) (value_at fields 2) (name_at fields 3)
form_by kind.Body fields = form.Body (name_at fields 0)
form_by kind.Handler fields = form.Handler (name_at fields 0) (name_at fields 1)
form_by kind.Read fields = form.ReadStep (name_at fields 0)
form_by kind.Put fields = form.PutStep (name_at fields 0) (value_at fields 1)
form_by kind.Add fields = form.AddStep (name_at fields 0) (value_at fields 1)
form_by kind.Work fields = form.WorkStep (count_at fields 0)
form_by kind.Check fields = form.CheckStep (test_at fields 0) (value_at fields 1) (name_at fields 2)
form_by kind.Raise fields = form.RaiseStep (name_at fields 0)
form_by kind.Enter fields = form.EnterStep (name_at fields 0)
form_by kind.Done fields = form.DoneLine
form_by kind.Signal fields = form.SignalLine (name_at fields 0)
form_by kind.Undo fields = form.UndoLine
