-- Names as they are found by what is kept of those that the lines before have declared.
use Rattle.std.specs.Prelude.{ℕ, Bool, true, false, List, ◌++◌, map}
use Rattle.action_script.specs.declared.forms.uses.SortedWord.{SortedWord}
use Rattle.action_script.specs.declared.forms.script.Line.{Line}
use Rattle.action_script.specs.Forms.Uses.{used_words, declared_words}
use Rattle.name_uses.specs.declared.occurrences.Occurrence.{Occurrence}
use Rattle.name_uses.specs.declared.scope.Scope.{Scope}
use Rattle.name_uses.specs.inner.Scopes.{meaning_at}

-- a name of a line, where this is declared
abbrev pub occurrence_at : Scope → Bool → ℕ → SortedWord → Occurrence
occurrence_at scope declares number w =
    record { line = number; word = w.word; name = w.name; thing = meaning_at scope w.sort w.name; declares = declares }

-- the names of a line, where this is declared before it and behind it
abbrev pub found_in : Scope → Scope → Line → List Occurrence
found_in before behind line =
    map (occurrence_at before false line.number) (used_words line.form)
    ++ map (occurrence_at behind true line.number) (declared_words line.form)
