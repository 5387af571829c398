-- What a script is seen as.
use Rattle.std.specs.Prelude.{ℕ, List}
use Rattle.action_script.specs.declared.forms.script.Line.{Line}

-- the lines that say something, as they follow one another, and the names, a new one behind those that came before it
pub record Script : Type 0 where
  pub lines : List Line
  pub names : List (List ℕ)
