-- Those of some names that a line declares.
use Rattle.std.specs.Prelude.{List}
use Rattle.std.specs.List.{flat_map}
use Rattle.action_script.specs.declared.forms.uses.SortedWord.{SortedWord}
use Rattle.action_script.specs.Forms.Uses.{NamedWord, with_sort, sort_declared}

-- those of some names that the line declares
abbrev pub declared_in : List NamedWord → List SortedWord
declared_in words = flat_map (λ (w : NamedWord). with_sort w (sort_declared w.naming)) words
