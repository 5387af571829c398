-- What a script comes to: its plan, or the first line that is refused.
use Rattle.std.specs.Prelude.{◌≡◌, ℕ, ◌<◌, List, [], ◌∷◌, ◌++◌, map, length, slice_index_or, codes, None, Result, Ok, Err}
use Rattle.cover_table.specs.Cover.{IsSound}
use Rattle.exception_graph.specs.Chains.{IsOrderOf}
use Rattle.place_plan.specs.declared.drafts.draft.Draft.{Draft}
use Rattle.place_plan.specs.declared.drafts.draft_rows.GraphRow.{GraphRow}
use Rattle.place_plan.specs.Drafts.DraftRules.{broken_rule}
use Rattle.place_plan.specs.Plans.PlanValue.{Plan}
use Rattle.place_plan.specs.Plans.Unfolding.{plan_of}
use Rattle.action_script.specs.declared.forms.form.Form.{Form}
use Rattle.action_script.specs.declared.forms.script.Line.{Line}
use Rattle.action_script.specs.Forms.ScriptValue.{Script}
use Rattle.script_checker.specs.declared.check_error.CheckCause.{CheckCause}
use Rattle.script_checker.specs.declared.check_error.CheckCause.TheVariants as cause
use Rattle.script_checker.specs.declared.check_error.CheckError.{CheckError}
use Rattle.script_checker.specs.declared.open_graph.DeclaredGraph.{DeclaredGraph}
use Rattle.script_checker.specs.declared.declared.SoFar.{SoFar}
use Rattle.script_checker.specs.declared.declared.Declared.{Declared}
use Rattle.script_checker.specs.DeclaredSoFar.{nothing_yet}
use Rattle.script_checker.specs.Causes.{HasCause, number_of}
use Rattle.script_checker.specs.After.{settled, after}

-- ---- one line

-- by what is declared when the line comes, it has no cause of a lesser number than this
abbrev pub HasNoneBelow : SoFar → Form → ℕ → Type 0
HasNoneBelow s form n = (other : CheckCause) → number_of other < n → ¬ (HasCause s form other)

-- it has this cause, and none of a lesser number
pub record IsLeast (s : SoFar) (form : Form) (least : CheckCause) : Type 0 where
  pub has : HasCause s form least
  pub lesser : HasNoneBelow s form (number_of least)

-- it has none
abbrev pub HasNone : SoFar → Form → Type 0
HasNone s form = (some : CheckCause) → ¬ (HasCause s form some)

-- after lines that declare this, the line has this least cause
abbrev pub IsLeastCause : SoFar → Form → CheckCause → Type 0
IsLeastCause s form least = IsLeast (settled s form) form least

-- after lines that declare this, the line has no cause
abbrev pub IsAccepted : SoFar → Form → Type 0
IsAccepted s form = HasNone (settled s form) form

-- ---- all lines

-- what some lines declare, after those that declare this
abbrev pub declared_after : List (List ℕ) → SoFar → List Line → SoFar
declared_after names s [] = s
declared_after names s (line ∷ lines) = declared_after names (after names s line.form) lines

-- none of some lines has a cause
abbrev pub AreAccepted : List (List ℕ) → SoFar → List Line → Type 0
AreAccepted names s [] = Unit {0}
AreAccepted names s (line ∷ lines) = IsAccepted s line.form × AreAccepted names (after names s line.form) lines

-- ---- the plan

-- the name of an exception; a number that is no name's stands for `universal`
abbrev pub exception_name : List (List ℕ) → ℕ → List ℕ
exception_name names n = slice_index_or names n (codes "universal")

-- the row has the names that are declared, and the order that the declared pairs make, which is sound
pub record IsRowOf (names : List (List ℕ)) (graph : DeclaredGraph) (row : GraphRow) : Type 0 where
  pub named : row.names ≡ map (exception_name names) graph.exceptions
  pub order : IsOrderOf (length graph.exceptions) graph.pairs row.graph
  pub sound : IsSound row.graph

-- the rows are those of the graphs, one by one
abbrev pub AreRowsOf : List (List ℕ) → List DeclaredGraph → List GraphRow → Type 0
AreRowsOf names [] [] = Unit {0}
AreRowsOf names [] (row ∷ rows) = ⊥
AreRowsOf names (graph ∷ graphs) [] = ⊥
AreRowsOf names (graph ∷ graphs) (row ∷ rows) = IsRowOf names graph row × AreRowsOf names graphs rows

-- no line of the script has a cause, this is what they declare, and the rows are those of the graphs
pub record IsDeclared (script : Script) (d : Declared) (rows : List GraphRow) : Type 0 where
  pub accepted : AreAccepted script.names (nothing_yet script.names) script.lines
  pub declared : d ≡ (declared_after script.names (nothing_yet script.names) script.lines).declared
  pub graphs : AreRowsOf script.names d.graphs rows

-- the draft has the parts that are declared
pub record IsDraftOf (names : List (List ℕ)) (d : Declared) (draft : Draft) : Type 0 where
  pub participants : draft.participants ≡ d.participant_rows
  pub objects : draft.objects ≡ d.object_rows
  pub graphs : AreRowsOf names d.graphs draft.graphs
  pub actions : draft.actions ≡ d.actions
  pub plays : draft.plays ≡ d.plays
  pub drills : draft.drills ≡ d.drills
  pub watches : draft.watches ≡ d.watches

-- where no line of the script has a cause, what is declared makes a draft that breaks no rule
abbrev pub BreaksNoRule : Script → Type 0
BreaksNoRule script =
    AreAccepted script.names (nothing_yet script.names) script.lines
    → (draft : Draft) → IsDraftOf script.names (declared_after script.names (nothing_yet script.names) script.lines).declared draft
    → broken_rule draft ≡ None

-- no line of the script has a cause, and the plan is the unfolding of its draft
pub record IsPlanOf (script : Script) (plan : Plan) : Type 0 where
  pub accepted : AreAccepted script.names (nothing_yet script.names) script.lines
  pub draft : Draft
  pub declared : IsDraftOf script.names (declared_after script.names (nothing_yet script.names) script.lines).declared draft
  pub unfolded : plan ≡ plan_of draft

-- ---- the first line that is refused

-- these lines before it have no cause, and this is its least one
pub record IsFirstRefused (script : Script) (error : CheckError) : Type 0 where
  pub before : List Line
  pub line : Line
  pub rest : List Line
  pub place : script.lines ≡ before ++ line ∷ rest
  pub accepted : AreAccepted script.names (nothing_yet script.names) before
  pub number : error.line ≡ line.number
  pub least : IsLeastCause (declared_after script.names (nothing_yet script.names) before) line.form error.cause

-- the answer to a script; want of memory tells nothing of it
pub data IsAnswer (script : Script) : Result Plan CheckError → Type 0 where
  planned : {plan : Plan} → IsPlanOf script plan → IsAnswer script (Ok plan)
  refused : {error : CheckError} → IsFirstRefused script error → IsAnswer script (Err error)
  wanting : {error : CheckError} → error.cause ≡ cause.OutOfMemory → IsAnswer script (Err error)
