-- What the bytes of a script come to: its plan, or the fault for which it is refused.
use Rattle.std.specs.Prelude.{◌≡◌, ◌⊎◌, ℕ, ◌==◌, if◌then◌else◌, List, [], ◌∷◌, ◌++◌, map, slice_index_or, Ok, Err, codes}
use Rattle.action_script.specs.Forms.ScriptValue.{Script}
use Rattle.action_script.specs.Lines.Spelling.{reading_of}
use Rattle.action_script.specs.declared.forms.form.Form.{Form}
use Rattle.action_script.specs.declared.forms.form.Form.TheVariants as form
use Rattle.action_script.specs.declared.forms.script.Line.{Line}
use Rattle.action_script.specs.declared.script_error.ScriptError.{ScriptError}
use Rattle.action_script.specs.declared.script_error.ScriptCause.{ScriptCause}
use Rattle.action_script.specs.declared.script_error.ScriptCause.TheVariants as spelling
use Rattle.script_checker.specs.declared.check_error.CheckError.{CheckError}
use Rattle.script_checker.specs.declared.check_error.CheckCause.{CheckCause}
use Rattle.script_checker.specs.declared.check_error.CheckCause.TheVariants as cause
use Rattle.script_checker.specs.declared.plan_counts.PlanCounts.{PlanCounts}
use Rattle.script_checker.specs.DeclaredSoFar.{nothing_yet}
use Rattle.script_checker.specs.Compiled.{AreAccepted, IsPlanOf, IsFirstRefused}
use Rattle.script_checker.specs.PlanSizes.{counts_of}
use Rattle.place_plan.specs.Plans.PlanValue.{Plan}
use Rattle.caa_commands.specs.declared.fault.Fault.{Fault}
use Rattle.caa_commands.specs.declared.fault.Fault.TheVariants as fault
use Rattle.caa_commands.specs.declared.fault.Refusal.{Refusal}
use Rattle.caa_commands.specs.declared.scripts.NoPlan.{NoPlan}
use Rattle.caa_commands.specs.declared.scripts.NoPlan.TheVariants as no_plan

-- ---- a script that is accepted

-- the bytes spell a script, none of whose lines has a cause to be refused
pub record SpellAccepted (bytes : List ℕ) : Type 0 where
  pub script : Script
  pub spelled : reading_of bytes ≡ Ok script
  pub accepted : AreAccepted script.names (nothing_yet script.names) script.lines

-- ---- a script that has a plan

-- this is the plan of a script: it has it, and no other
pub record IsOnlyPlan (script : Script) (plan : Plan) : Type 0 where
  pub has : IsPlanOf script plan
  pub only : (other : Plan) → IsPlanOf script other → other ≡ plan

-- what the bytes spell is accepted, and makes this plan
pub record HasPlan (bytes : List ℕ) (plan : Plan) : Type 0 where
  pub script : Script
  pub spelled : reading_of bytes ≡ Ok script
  pub compiled : IsPlanOf script plan

-- this is the plan of what they spell: they have it, and no other
pub record IsThePlan (bytes : List ℕ) (plan : Plan) : Type 0 where
  pub has : HasPlan bytes plan
  pub only : (other : Plan) → HasPlan bytes other → other ≡ plan

-- what they spell is accepted, and its plan is so large
pub record IsCounted (bytes : List ℕ) (counts : PlanCounts) : Type 0 where
  pub plan : Plan
  pub script : IsThePlan bytes plan
  pub counted : counts ≡ counts_of plan

-- ---- the names of exceptions

-- the exceptions that are declared after one more line, by the numbers of their names
abbrev pub declared_after : Form → List ℕ → List ℕ
declared_after (form.Graph name) names = []
declared_after (form.Exception name) names = names ++ name ∷ []
declared_after _ names = names

-- those that are declared in the graph which ends at the line of this number, where these are already
abbrev pub declared_at : ℕ → List ℕ → List Line → List ℕ
declared_at number names [] = names
declared_at number names (l ∷ lines) = if l.number == number then names else declared_at number (declared_after l.form names) lines

-- the names of the exceptions of that graph: `universal`, and those that are declared in it
abbrev pub exceptions_at : Script → ℕ → List (List ℕ)
exceptions_at script number = codes "universal" ∷ map (λ n. slice_index_or script.names n []) (declared_at number [] script.lines)

-- the name of one of them
abbrev pub exception_at : Script → ℕ → ℕ → List ℕ
exception_at script number exception = slice_index_or (exceptions_at script number) exception []

-- ---- a script that is refused

-- the fault is this one of a text
abbrev pub IsSpelling : ScriptCause → Fault → Type 0
IsSpelling spelling.OutOfMemory f = ⊥
IsSpelling c f = f ≡ fault.Text c

-- the exceptions that are told of a cause at the line of this number
abbrev pub exceptions_told : Script → ℕ → CheckCause → List (List ℕ)
exceptions_told script number (cause.Cycle at) = exception_at script number at ∷ []
exceptions_told script number (cause.NoLeast a b) = exception_at script number a ∷ exception_at script number b ∷ []
exceptions_told script number _ = []

-- the fault is this one of a line, with the names of its exceptions
abbrev pub IsCause : Script → ℕ → CheckCause → Fault → Type 0
IsCause script number cause.OutOfMemory f = ⊥
IsCause script number c f = f ≡ fault.Line c (exceptions_told script number c)

-- the bytes spell no script, and this is their first fault
pub record IsMisspelled (bytes : List ℕ) (refusal : Refusal) : Type 0 where
  pub error : ScriptError
  pub first : reading_of bytes ≡ Err error
  pub line : refusal.line ≡ error.line
  pub fault : IsSpelling error.cause refusal.fault

-- one line of a script is refused, and this is the first
pub record IsRefusedLine (script : Script) (refusal : Refusal) : Type 0 where
  pub error : CheckError
  pub first : IsFirstRefused script error
  pub line : refusal.line ≡ error.line
  pub fault : IsCause script error.line error.cause refusal.fault

-- the text is that of a script, but one of its lines is refused
pub record IsUnplannable (bytes : List ℕ) (refusal : Refusal) : Type 0 where
  pub script : Script
  pub spelled : reading_of bytes ≡ Ok script
  pub refused : IsRefusedLine script refusal

-- the script is refused as a text, or for what it says
abbrev pub IsRefusedScript : List ℕ → Refusal → Type 0
IsRefusedScript bytes refusal = IsMisspelled bytes refusal ⊎ IsUnplannable bytes refusal

-- why there is no script; want of memory tells nothing of the bytes
abbrev pub HasNoScript : List ℕ → NoPlan → Type 0
HasNoScript bytes (no_plan.Refused refusal) = IsMisspelled bytes refusal
HasNoScript bytes no_plan.OutOfMemory = Unit {0}

-- why there is no plan; want of memory tells nothing of the script
abbrev pub HasNoPlan : List ℕ → NoPlan → Type 0
HasNoPlan bytes (no_plan.Refused refusal) = IsRefusedScript bytes refusal
HasNoPlan bytes no_plan.OutOfMemory = Unit {0}

-- why a script has no plan; want of memory tells nothing of it
abbrev pub IsUnplanned : Script → NoPlan → Type 0
IsUnplanned script (no_plan.Refused refusal) = IsRefusedLine script refusal
IsUnplanned script no_plan.OutOfMemory = Unit {0}
