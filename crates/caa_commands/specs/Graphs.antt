-- What `graph K` comes to by the bytes of a script: the text of a graph of sets, or a refusal.
use Rattle.std.specs.Prelude.{◌≡◌, ◌⊎◌, ℕ, List, [], Some, None, Ok}
use Rattle.action_script.specs.Forms.Printing.{text_of}
use Rattle.action_script.specs.Forms.ScriptValue.{Script}
use Rattle.action_script.specs.Lines.Spelling.{reading_of}
use Rattle.action_script.specs.declared.script_error.ScriptCause.TheVariants as spelling
use Rattle.script_checker.specs.declared.check_error.CheckCause.TheVariants as check
use Rattle.graph_maker.specs.declared.made_error.MadeCause.{MadeCause}
use Rattle.graph_maker.specs.declared.made_error.MadeCause.TheVariants as cause
use Rattle.graph_maker.specs.declared.made_error.MadeError.{MadeError}
use Rattle.graph_maker.specs.MadeScripts.{script_of_sets}
use Rattle.graph_maker.specs.Refusals.{refusal_of}
use Rattle.caa_commands.specs.declared.fault.Fault.{Fault}
use Rattle.caa_commands.specs.declared.fault.Fault.TheVariants as fault
use Rattle.caa_commands.specs.declared.fault.Refusal.{Refusal}
use Rattle.caa_commands.specs.declared.scripts.NoPlan.{NoPlan}
use Rattle.caa_commands.specs.declared.scripts.NoPlan.TheVariants as no_plan
use Rattle.caa_commands.specs.Scripts.{IsMisspelled, SpellAccepted}

-- what the bytes spell isn't refused, and this is the text of the script of its sets of at most so many members
pub record IsGraphText (most : ℕ) (bytes text : List ℕ) : Type 0 where
  pub script : Script
  pub spelled : reading_of bytes ≡ Ok script
  pub accepted : refusal_of script most ≡ None
  pub printed : text ≡ text_of (script_of_sets script most)

-- this is that text, and it spells a script that is accepted
pub record IsAcceptedGraph (most : ℕ) (bytes text : List ℕ) : Type 0 where
  pub made : IsGraphText most bytes text
  pub accepted : SpellAccepted text

-- the fault is this one of a script of which no graph is made
abbrev pub IsMadeFault : MadeCause → Fault → Type 0
IsMadeFault cause.BadLine f = f ≡ fault.Text spelling.BadLine
IsMadeFault cause.Twice f = f ≡ fault.Line check.Twice []
IsMadeFault cause.Limit f = f ≡ fault.Line check.Limit []
IsMadeFault cause.OutOfMemory f = ⊥

-- the text is that of a script, but this line of it is refused
pub record IsUnmade (most : ℕ) (bytes : List ℕ) (refusal : Refusal) : Type 0 where
  pub script : Script
  pub spelled : reading_of bytes ≡ Ok script
  pub error : MadeError
  pub first : refusal_of script most ≡ Some error
  pub line : refusal.line ≡ error.line
  pub fault : IsMadeFault error.cause refusal.fault

-- no graph is made: the script is refused as a text, or for what it says
abbrev pub IsRefusedGraph : ℕ → List ℕ → Refusal → Type 0
IsRefusedGraph most bytes refusal = IsMisspelled bytes refusal ⊎ IsUnmade most bytes refusal

-- why there is no graph; want of memory tells nothing of the script
abbrev pub HasNoGraph : ℕ → List ℕ → NoPlan → Type 0
HasNoGraph most bytes (no_plan.Refused refusal) = IsRefusedGraph most bytes refusal
HasNoGraph most bytes no_plan.OutOfMemory = Unit {0}
