-- The script of a graph of sets, by the script of its primitives.
use Rattle.std.specs.Prelude.{◌≢◌, ◌<◌, ℕ, List, [], ◌∷◌, ◌++◌, drop, length, map, slice_index}
use Rattle.caa_base.specs.Written.Names.{name_at}
use Rattle.action_script.specs.declared.forms.form.Form.{Form}
use Rattle.action_script.specs.declared.forms.form.Form.TheVariants as form
use Rattle.action_script.specs.Forms.Printing.{numbered_from}
use Rattle.action_script.specs.Forms.ScriptValue.{Script}
use Rattle.action_script.specs.Words.NumberedNames.{number_in, with_names}
use Rattle.set_graphs.specs.Sets.{pairs_of, sets}
use Rattle.graph_maker.specs.Refusals.{exceptions_in, graph_of, primitive_count}
use Rattle.graph_maker.specs.SetNames.{set_name}

-- ---- names

-- the sets of at least two and at most so many of n primitives: they stand behind those of one
abbrev pub larger_sets : ℕ → ℕ → List ℕ
larger_sets n most = drop n (sets n most)

-- the names of the exceptions: each primitive has its own, and each larger set the one that is made for it
abbrev pub exception_names : List (List ℕ) → ℕ → List (List ℕ)
exception_names primitives most = primitives ++ map (set_name (length primitives)) (larger_sets (length primitives) most)

-- the names of the primitives of a script
abbrev pub primitive_names : Script → List (List ℕ)
primitive_names script = map (name_at script.names) (exceptions_in script.lines)

-- the name of its graph, and behind it that of each exception by its number
abbrev pub words_of : Script → ℕ → List (List ℕ)
words_of script most = name_at script.names (graph_of script.lines) ∷ exception_names (primitive_names script) most

-- no two of these words are one
abbrev pub HaveOwnNames : List (List ℕ) → Type 0
HaveOwnNames words = (a b : ℕ) → a < b → b < length words → name_at words a ≢ name_at words b

-- ---- lines

-- the line that says that one exception covers another, by the numbers of their names
abbrev pub cover_form : List ℕ → ℕ × ℕ → Form
cover_form numbers pair = form.Cover (slice_index numbers pair.0) (slice_index numbers pair.1)

-- the lines of a graph with these pairs, by the numbers of names, its own first and then those of its exceptions
abbrev pub made_forms : List ℕ → List (ℕ × ℕ) → List Form
made_forms numbers pairs =
    form.Graph (slice_index numbers 0) ∷ map form.Exception (drop 1 numbers) ++ map (cover_form numbers) pairs ++ form.End ∷ []

-- the script of these words, the name of its graph first and then those of its exceptions, and pairs; it has each word once as a name
abbrev pub made_script : List (List ℕ) → List (ℕ × ℕ) → Script
made_script words pairs = record {
  lines = numbered_from 1 (made_forms (map (number_in (with_names [] words)) words) pairs);
  names = with_names [] words;
}

-- the script of the graph of all sets of at most so many of the primitives that a script declares
abbrev pub script_of_sets : Script → ℕ → Script
script_of_sets script most = made_script (words_of script most) (pairs_of (primitive_count script) most)
