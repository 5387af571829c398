-- What is seen of the text of a script: the script with its plan, or the line for which it is refused.
use Rattle.std.specs.Prelude.{◌≡◌, ◌⊎◌, ℕ, suc, List, length, slice_get, Option, Some, None}
use Rattle.action_script.specs.declared.forms.form.Form.{Form}
use Rattle.action_script.specs.declared.forms.script.Line.{Line}
use Rattle.action_script.specs.Forms.ScriptValue.{Script}
use Rattle.action_script.specs.Forms.Uses.{first_undeclared, fitting}
use Rattle.action_script.specs.Lines.Spelling.{Spells, HasFirstFault}
use Rattle.action_script.specs.declared.script_error.ScriptError.{ScriptError}
use Rattle.script_checker.specs.declared.declared.SoFar.{SoFar}
use Rattle.script_checker.specs.declared.refused.RefusedLine.{RefusedLine}
use Rattle.script_checker.specs.Causes.{is_declared}
use Rattle.script_checker.specs.Compiled.{IsPlanOf}
use Rattle.script_checker.specs.RefusedLines.{IsRefusedLine}
use Rattle.place_plan.specs.Plans.PlanValue.{Plan}
use Rattle.script_views.specs.declared.misread.Spot.{Spot}
use Rattle.script_views.specs.declared.misread.Spot.TheVariants as spot
use Rattle.script_views.specs.declared.unknown.Undeclared.{Undeclared}
use Rattle.script_views.specs.declared.explaining.Refusal.{Refusal}
use Rattle.script_views.specs.declared.explaining.Seen.{Seen}
use Rattle.script_views.specs.declared.explaining.Seen.TheVariants as seen

-- the text spells this script, which makes this plan
pub record IsAccepted (text : List ℕ) (script : Script) (plan : Plan) : Type 0 where
  pub spelled : Spells text script
  pub compiled : IsPlanOf script plan

-- the text spells no script, and this is the line of its first fault
pub record IsMisread (text : List ℕ) (line : ℕ) : Type 0 where
  pub error : ScriptError
  pub first : HasFirstFault text error
  pub line_is : line ≡ error.line

-- ---- names that aren't declared as they have to be

-- this is the first name of the line that isn't declared as it has to be, and the fitting ones are those that are, up to this number
pub record IsUndeclared (s : SoFar) (form : Form) (last : ℕ) (u : Undeclared) : Type 0 where
  pub first : first_undeclared (is_declared s.declared s.block) form ≡ Some u.used
  pub fitting : u.fitting.items ≡ fitting (is_declared s.declared s.block u.used.sort) (suc last)

-- the name is told where the line has one
abbrev pub TellsUndeclared : SoFar → Form → ℕ → Option Undeclared → Type 0
TellsUndeclared s form last None = first_undeclared (is_declared s.declared s.block) form ≡ None
TellsUndeclared s form last (Some u) = IsUndeclared s form last u

-- the carets stand under that name
abbrev pub StandsUnder : Option Undeclared → Spot → Type 0
StandsUnder None at = Unit {0}
StandsUnder (Some u) at = at ≡ spot.Word u.used.word

-- ---- a line that is refused

-- of the line for which the script is refused these are told: its number, and the first of its names that isn't declared as it has to
-- be, under which the carets stand, with all names of the script that are
pub record TellsOfLine (script : Script) (refused : RefusedLine) (refusal : Refusal) : Type 0 where
  pub line : Line
  pub is : slice_get script.lines refused.index ≡ Some line
  pub number : refusal.line ≡ line.number
  pub undeclared : TellsUndeclared refused.so_far line.form (length script.names) refusal.undeclared
  pub under : StandsUnder refusal.undeclared refusal.spot

-- the text spells a script, and one of its lines is refused, of which this is told
pub record IsFaulty (text : List ℕ) (refusal : Refusal) : Type 0 where
  pub script : Script
  pub spelled : Spells text script
  pub refused : RefusedLine
  pub first : IsRefusedLine script refused
  pub told : TellsOfLine script refused refusal

-- the script of a text and its plan are seen where it isn't refused, and the line for which it is refused where it is
abbrev pub IsSeen : List ℕ → Seen → Type 0
IsSeen text (seen.Accepted script plan) = IsAccepted text script plan
IsSeen text (seen.Refused refusal) = IsMisread text refusal.line ⊎ IsFaulty text refusal
