-- What is answered where a graph of sets is asked for.
use Rattle.std.specs.Prelude.{◌≡◌, ℕ, Result, Ok, Err, Some, None}
use Rattle.action_script.specs.Forms.ScriptValue.{Script}
use Rattle.graph_maker.specs.declared.made_error.MadeCause.TheVariants as cause
use Rattle.graph_maker.specs.declared.made_error.MadeError.{MadeError}
use Rattle.graph_maker.specs.Refusals.{refusal_of}
use Rattle.graph_maker.specs.MadeScripts.{script_of_sets}

-- a script that isn't refused has the script of its graph of sets, and one that is has its refusal; memory may be wanting at any time
pub data IsAnswer (script : Script) (most : ℕ) : Result Script MadeError → Type 0 where
  made : {made : Script} → refusal_of script most ≡ None → made ≡ script_of_sets script most → IsAnswer script most (Ok made)
  refused : {error : MadeError} → refusal_of script most ≡ Some error → IsAnswer script most (Err error)
  wanting : {error : MadeError} → error ≡ record { line = 0; cause = cause.OutOfMemory } → IsAnswer script most (Err error)
