-- One line, as the reader takes it.
use Rattle.std.specs.Prelude.{◌≡◌, ℕ, ◌≤◌, false, List, ◌∷◌, length, Some, unwrap_or, slice_get}
use Rattle.caa_base.specs.Written.Limits.{most_line_bytes}
use Rattle.action_script.specs.declared.lines.field.Part.{Part}
use Rattle.action_script.specs.declared.lines.field.Part.TheVariants as part
use Rattle.action_script.specs.declared.lines.sort.Naming.TheVariants as naming
use Rattle.action_script.specs.declared.lines.kind.Section.{Section}
use Rattle.action_script.specs.declared.lines.kind.LineKind.{LineKind}
use Rattle.action_script.specs.Words.CutLines.{words_of, begins_comment}
use Rattle.action_script.specs.Lines.Spelling.{kind_here}

-- what the word of a line is asked to be that has so many before it
abbrev pub part_at : List Part → ℕ → Part
part_at parts i = unwrap_or (slice_get parts i) (part.Name naming.Further)

-- the line is of this kind, where the reader is here, and these are its words after the first
pub record IsOfKind (s : Section) (line : List ℕ) (kind : LineKind) (words : List (List ℕ)) : Type 0 where
  pub first : List ℕ
  pub short : length line ≤ most_line_bytes
  pub cut : words_of line ≡ first ∷ words
  pub spoken : begins_comment first ≡ false
  pub here : kind_here s first (length words) ≡ Some kind
