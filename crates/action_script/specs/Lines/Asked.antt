-- What a line of a script is seen as: its kind, and its words after the first.
use Rattle.std.specs.Prelude.{ℕ, List}
use Rattle.action_script.specs.declared.lines.field.Part.{Part}
use Rattle.action_script.specs.declared.lines.kind.LineKind.{LineKind}

-- a word, and what it is asked to be at its place
pub record Asked : Type 0 where
  pub part : Part
  pub word : List ℕ

-- what a line says: its kind, and its words after the first
pub record Said : Type 0 where
  pub kind : LineKind
  pub asked : List Asked
