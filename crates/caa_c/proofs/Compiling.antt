-- What an answer of the checks says, by its form.
use Rattle.std.specs.Prelude.{◌≢◌, Ok, Err}
use Rattle.action_script.specs.Forms.ScriptValue.{Script}
use Rattle.place_plan.specs.Plans.PlanValue.{Plan}
use Rattle.script_checker.specs.Compiled.{IsAnswer, planned, refused, wanting, IsPlanOf, IsFirstRefused}
use Rattle.script_checker.specs.declared.check_error.CheckError.{CheckError}
use Rattle.script_checker.specs.declared.check_error.CheckCause.TheVariants as cause

pub planned_of : {script : Script} {plan : Plan} → IsAnswer script (Ok plan) → IsPlanOf script plan
planned_of (planned h) = h

pub refused_of : {script : Script} {error : CheckError} → IsAnswer script (Err error) → error.cause ≢ cause.OutOfMemory → IsFirstRefused script error
refused_of (refused h) sure = h
refused_of (wanting e) sure = absurd (sure e)
