-- The line for which a script is refused, and what was declared by then.
use Rattle.std.specs.Prelude.{◌≡◌, ℕ, ◌<◌, List, ◌∷◌, ◌++◌, length, take}
use Rattle.action_script.specs.declared.forms.script.Line.{Line}
use Rattle.action_script.specs.Forms.ScriptValue.{Script}
use Rattle.script_checker.specs.declared.check_error.CheckCause.{CheckCause}
use Rattle.script_checker.specs.declared.refused.RefusedLine.{RefusedLine}
use Rattle.script_checker.specs.DeclaredSoFar.{nothing_yet}
use Rattle.script_checker.specs.After.{settled}
use Rattle.script_checker.specs.Compiled.{IsLeastCause, AreAccepted, declared_after}

-- no line of the script has a cause
abbrev pub HasNoRefusedLine : Script → Type 0
HasNoRefusedLine script = AreAccepted script.names (nothing_yet script.names) script.lines

-- so many lines have no cause, and the one after them has this least one
pub record IsRefusedAt (names : List (List ℕ)) (lines : List Line) (index : ℕ) (c : CheckCause) : Type 0 where
  pub line : Line
  pub rest : List Line
  pub place : lines ≡ take index lines ++ line ∷ rest
  pub within : index < length lines
  pub accepted : AreAccepted names (nothing_yet names) (take index lines)
  pub least : IsLeastCause (declared_after names (nothing_yet names) (take index lines)) line.form c

-- the script is refused for this line, and this was declared when it came
pub record IsRefusedLine (script : Script) (refused : RefusedLine) : Type 0 where
  pub at : IsRefusedAt script.names script.lines refused.index refused.cause
  pub so_far :
      refused.so_far ≡ settled (declared_after script.names (nothing_yet script.names) (take refused.index script.lines)) at.line.form
