-- What an answer of the checks says that is no want of memory.
use Rattle.std.proofs.Common.{◌≡◌, Ok, Result, subst}
use Rattle.action_script.specs.Forms.ScriptValue.{Script}
use Rattle.place_plan.specs.Plans.PlanValue.{Plan}
use Rattle.script_checker.specs.declared.check_error.CheckError.{CheckError}
use Rattle.script_checker.specs.Compiled.{IsAnswer, planned, refused, wanting, IsPlanOf}

pub plan_answered : (script : Script) (r : Result Plan CheckError) (plan : Plan) → IsAnswer script r → r ≡ Ok plan → IsPlanOf script plan
plan_answered script r plan (planned {plan = p} h) e = let same : p ≡ plan = cc in subst (IsPlanOf script) same h
plan_answered script r plan (refused h) e = absurd cc
plan_answered script r plan (wanting memory) e = absurd cc
