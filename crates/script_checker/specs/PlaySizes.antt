-- The sizes that a `play` line is judged by, once its names and roles are right.
use Rattle.std.specs.Prelude.{◌≡◌, ℕ, List, ◌∷◌, ◌++◌, length}
use Rattle.place_plan.specs.declared.drafts.draft.Draft.{Draft}
use Rattle.place_plan.specs.Plans.Bound.{bound}
use Rattle.place_plan.specs.Drafts.DraftRules.{KeepsParts}
use Rattle.place_plan.specs.Plans.Unfolding.{plan_of}
use Rattle.place_plan.specs.Plans.Weights.{counted}
use Rattle.action_script.specs.declared.forms.form.Form.TheVariants as form
use Rattle.action_script.specs.declared.forms.script.Line.{Line}
use Rattle.action_script.specs.Forms.ScriptValue.{Script}
use Rattle.script_checker.specs.declared.check_error.CheckCause.TheVariants as cause
use Rattle.script_checker.specs.declared.declared.SoFar.{SoFar}
use Rattle.script_checker.specs.declared.declared.Declared.{Declared}
use Rattle.script_checker.specs.DeclaredSoFar.{nothing_yet}
use Rattle.script_checker.specs.AtTop.{places_with, bound_with}
use Rattle.script_checker.specs.After.{settled, with_said}
use Rattle.script_checker.specs.Causes.{number_of}
use Rattle.script_checker.specs.Compiled.{HasNoneBelow, declared_after, AreAccepted, IsDraftOf}

-- this is declared when a line of the script comes that plays this action; the lines before it have no cause, and it has none of a
-- lesser number than that of a limit
pub record ComesToPlay (script : Script) (s : SoFar) (action : ℕ) (who : List ℕ) : Type 0 where
  pub before : List Line
  pub line : Line
  pub rest : List Line
  pub place : script.lines ≡ before ++ line ∷ rest
  pub play : line.form ≡ form.Play action who
  pub accepted : AreAccepted script.names (nothing_yet script.names) before
  pub declared : s ≡ settled (declared_after script.names (nothing_yet script.names) before) (form.Play action who)
  pub lesser : HasNoneBelow s (form.Play action who) (number_of cause.Limit)

-- the draft breaks none of the rules 1 to 9, as `unfolded` asks, and with one more play of this action there are as many places
-- as in its plan, and as great a bound, as far as they are counted
pub record AreSizesOf (d : Declared) (action : ℕ) (draft : Draft) : Type 0 where
  pub parts : KeepsParts draft
  pub places : places_with d action ≡ counted (length (plan_of draft).places)
  pub bound : bound_with d action ≡ counted (bound (plan_of draft))

-- each such line is judged by the sizes of the plan into which the draft with its play unfolds
abbrev pub CountsUnfolding : Script → Type 0
CountsUnfolding script =
    (s : SoFar) (action : ℕ) (who : List ℕ) → ComesToPlay script s action who
    → (draft : Draft) → IsDraftOf script.names (with_said script.names s (form.Play action who)).declared draft
    → AreSizesOf s.declared action draft
