-- Which names a line uses and which it declares, and what each is declared as.
use Rattle.std.specs.Prelude.{◌≡◌, ℕ, zero, suc, ◌+◌, if◌then◌else◌, Bool, not, List, [], ◌∷◌, ◌++◌, map, find, Option, Some, None}
use Rattle.std.specs.List.{list_all, flat_map}
use Rattle.action_script.specs.declared.lines.field.Part.{Part}
use Rattle.action_script.specs.declared.lines.field.Part.TheVariants as part
use Rattle.action_script.specs.declared.lines.field.Field.{Field}
use Rattle.action_script.specs.declared.lines.field.Field.TheVariants as field
use Rattle.action_script.specs.declared.lines.sort.Sort.{Sort}
use Rattle.action_script.specs.declared.lines.sort.Sort.TheVariants as sort
use Rattle.action_script.specs.declared.lines.sort.Naming.{Naming}
use Rattle.action_script.specs.declared.lines.sort.Naming.TheVariants as naming
use Rattle.action_script.specs.declared.forms.form.Form.{Form}
use Rattle.action_script.specs.declared.forms.form.Form.TheVariants as form
use Rattle.action_script.specs.declared.forms.uses.SortedWord.{SortedWord}
use Rattle.action_script.specs.Lines.Kinds.{parts_of}
use Rattle.action_script.specs.Forms.LineForms.{kind_of, fields_of, name_at}

-- some names of a line, and what all of them are declared as
pub record Sorted : Type 0 where
  pub sort : Sort
  pub names : List ℕ

-- a name, and names, that are declared as this
abbrev pub one : Sort → ℕ → Sorted
one sort name = record { sort = sort; names = name ∷ [] }

abbrev pub some : Sort → List ℕ → Sorted
some sort names = record { sort = sort; names = names }

-- ---- by the forms

-- the names that a line uses, in its order
abbrev pub uses_of : Form → List Sorted
uses_of (form.Participant name) = []
uses_of (form.Object name value) = []
uses_of (form.Drill object nth) = one sort.Object object ∷ []
uses_of (form.Watch object) = one sort.Object object ∷ []
uses_of (form.Graph name) = []
uses_of (form.Action name) = []
uses_of (form.Play action who) = one sort.Action action ∷ some sort.Participant who ∷ []
uses_of (form.Exception name) = []
uses_of (form.Cover upper lower) = one sort.Own upper ∷ one sort.Own lower ∷ []
uses_of form.End = []
uses_of (form.Internal graph) = one sort.Graph graph ∷ []
uses_of (form.Interface graph) = one sort.Graph graph ∷ []
uses_of (form.Fault exception) = one sort.Inner exception ∷ []
uses_of (form.Uses objects) = some sort.Object objects ∷ []
uses_of (form.Roles roles) = []
uses_of (form.Nest name action roles) = one sort.Action action ∷ some sort.Role roles ∷ []
uses_of (form.Map nest lower upper) = one sort.Nest nest ∷ one (sort.Told nest) lower ∷ one sort.Inner upper ∷ []
uses_of (form.MapUndo nest exception) = one sort.Nest nest ∷ one sort.Inner exception ∷ []
uses_of (form.MapFailure nest exception) = one sort.Nest nest ∷ one sort.Inner exception ∷ []
uses_of (form.Alternate nest action) = one sort.Nest nest ∷ one sort.Action action ∷ []
uses_of (form.Abort role exception) = one sort.Role role ∷ one sort.Outer exception ∷ []
uses_of (form.AbortTest role test value exception) = one sort.Role role ∷ one sort.Outer exception ∷ []
uses_of (form.Body role) = one sort.Role role ∷ []
uses_of (form.Handler role exception) = one sort.Role role ∷ one sort.Inner exception ∷ []
uses_of (form.ReadStep object) = one sort.Object object ∷ []
uses_of (form.PutStep object value) = one sort.Object object ∷ []
uses_of (form.AddStep object value) = one sort.Object object ∷ []
uses_of (form.WorkStep rounds) = []
uses_of (form.CheckStep test value exception) = one sort.Inner exception ∷ []
uses_of (form.RaiseStep exception) = one sort.Inner exception ∷ []
uses_of (form.EnterStep nest) = one sort.Nest nest ∷ []
uses_of form.DoneLine = []
uses_of (form.SignalLine exception) = one sort.Outer exception ∷ []
uses_of form.UndoLine = []

-- each name of some is declared as what it has to be
abbrev pub are_sorted : (Sort → ℕ → Bool) → Sorted → Bool
are_sorted declared sorted = list_all (declared sorted.sort) sorted.names

-- each name that the line uses is
abbrev pub are_declared : (Sort → ℕ → Bool) → Form → Bool
are_declared declared f = list_all (are_sorted declared) (uses_of f)

-- the names that a line declares
abbrev pub declares : Form → List Sorted
declares (form.Participant name) = one sort.Participant name ∷ []
declares (form.Object name value) = one sort.Object name ∷ []
declares (form.Graph name) = one sort.Graph name ∷ []
declares (form.Action name) = one sort.Action name ∷ []
declares (form.Exception name) = one sort.Own name ∷ []
declares (form.Roles roles) = some sort.Role roles ∷ []
declares (form.Nest name action roles) = one sort.Nest name ∷ []
declares _ = []

-- ---- by the table of the kinds

-- a name that stands in a line: the number of its word, where that after the first is 1, and what the name is for
pub record NamedWord : Type 0 where
  pub word : ℕ
  pub naming : Naming
  pub name : ℕ

-- what a part says that a name is for, after one that was for this
abbrev pub naming_by : Naming → Part → Naming
naming_by before (part.Name naming.Further) = before
naming_by before (part.Name n) = n
naming_by before _ = before

-- a field that is a name, for this
abbrev pub named_word : ℕ → Naming → Field → List NamedWord
named_word word n (field.Name name) = record { word = word; naming = n; name = name } ∷ []
named_word word n _ = []

-- the names among these fields, the first of which is this word; where the parts end, names go on
abbrev pub named_from : ℕ → Naming → List Part → List Field → List NamedWord
named_from word before parts [] = []
named_from word before [] (f ∷ fields) = named_word word before f ++ named_from (word + 1) before [] fields
named_from word before (p ∷ parts) (f ∷ fields) =
    named_word word (naming_by before p) f ++ named_from (word + 1) (naming_by before p) parts fields

-- the names of a line, each with what it is for
abbrev pub named_words : Form → List NamedWord
named_words f = named_from 1 naming.Further (parts_of (kind_of f)) (fields_of f)

-- the nested use that a line names first
abbrev pub first_name : Form → ℕ
first_name f = name_at (fields_of f) 0

-- what a name that is for this has to be declared as, in a line that names this nested use first; one that the line declares, as
-- nothing
abbrev pub sort_used : ℕ → Naming → Option Sort
sort_used nest (naming.Used s) = Some s
sort_used nest naming.ToldOutside = Some (sort.Told nest)
sort_used nest _ = None

-- what the line declares it as
abbrev pub sort_declared : Naming → Option Sort
sort_declared (naming.New s) = Some s
sort_declared _ = None

-- if it is of a sort
abbrev pub with_sort : NamedWord → Option Sort → List SortedWord
with_sort w None = []
with_sort w (Some s) = record { word = w.word; sort = s; name = w.name } ∷ []

-- those of some names that a line uses which names this nested use first
abbrev pub used_in : ℕ → List NamedWord → List SortedWord
used_in nest words = flat_map (λ (w : NamedWord). with_sort w (sort_used nest w.naming)) words

-- the names that a line uses, by the table
abbrev pub used_words : Form → List SortedWord
used_words f = used_in (first_name f) (named_words f)

-- and those that it declares
abbrev pub declared_words : Form → List SortedWord
declared_words f = flat_map (λ (w : NamedWord). with_sort w (sort_declared w.naming)) (named_words f)

-- ---- both are the same

-- names of a sort, one by one
abbrev pub spread : Sorted → List (Sort × ℕ)
spread sorted = map (λ n. (sorted.sort, n)) sorted.names

-- the names of some words, with their sorts
abbrev pub without_words : List SortedWord → List (Sort × ℕ)
without_words words = map (λ (w : SortedWord). (w.sort, w.name)) words

-- the table tells which names the line uses, and as what
abbrev pub TellsUses : Form → Type 0
TellsUses f = without_words (used_words f) ≡ flat_map spread (uses_of f)

-- and which it declares
abbrev pub TellsDeclared : Form → Type 0
TellsDeclared f = without_words (declared_words f) ≡ flat_map spread (declares f)

-- ---- names that don't fit, and names that do

-- a name isn't declared as it has to be
abbrev pub is_undeclared : (Sort → ℕ → Bool) → SortedWord → Bool
is_undeclared declared w = not (declared w.sort w.name)

-- the first name that a line uses which isn't
abbrev pub first_undeclared : (Sort → ℕ → Bool) → Form → Option SortedWord
first_undeclared declared f = find (is_undeclared declared) (used_words f)

-- some names with one more, where it is declared as something
abbrev pub with_fitting : (ℕ → Bool) → ℕ → List ℕ → List ℕ
with_fitting fits name names = if fits name then names ++ name ∷ [] else names

-- the names below this number that are
abbrev pub fitting : (ℕ → Bool) → ℕ → List ℕ
fitting fits zero = []
fitting fits (suc n) = with_fitting fits n (fitting fits n)
