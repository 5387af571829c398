-- What an answer of the checker says that is no want of memory.
use Rattle.std.proofs.Common.{◌≡◌, ◌≢◌, ℕ, List, Some, Ok, Err, Result, IfErr, inr, sym, ap, ◌∙◌, subst}
use Rattle.action_script.specs.Lines.Spelling.{reading_of}
use Rattle.action_script.specs.Forms.Printing.{text_of}
use Rattle.action_script.specs.Forms.ScriptValue.{Script}
use Rattle.place_plan.specs.Plans.PlanValue.{Plan}
use Rattle.script_checker.specs.declared.check_error.CheckError.{CheckError}
use Rattle.script_checker.specs.declared.check_error.CheckCause.TheVariants as cause
use Rattle.script_checker.specs.Compiled.{IsAnswer, planned, refused, wanting, IsPlanOf, IsFirstRefused}
use Rattle.graph_maker.specs.declared.made_error.MadeError.{MadeError}
use Rattle.graph_maker.specs.Refusals.{refusal_of}
use Rattle.graph_maker.specs.Answers.{IsAnswer as IsMade, made as made_of, refused as refused_for_sets, wanting as wanting_for_sets}
use Rattle.caa_commands.specs.declared.fault.Refusal.{Refusal}
use Rattle.caa_commands.specs.Graphs.{IsGraphText, IsMadeFault, IsRefusedGraph}
use Rattle.caa_commands.specs.Scripts.{IsCause, IsRefusedLine, IsRefusedScript, IsUnplanned, HasNoPlan}
use Rattle.caa_commands.specs.declared.scripts.NoPlan.{NoPlan}
use Rattle.caa_commands.specs.declared.scripts.NoPlan.TheVariants as no_plan

pub plan_answered : (script : Script) (r : Result Plan CheckError) (plan : Plan) → IsAnswer script r → r ≡ Ok plan → IsPlanOf script plan
plan_answered script r plan (planned {plan = p} h) e = let same : p ≡ plan = cc in subst (IsPlanOf script) same h
plan_answered script r plan (refused h) e = absurd cc
plan_answered script r plan (wanting memory) e = absurd cc

pub refusal_answered : (script : Script) (r : Result Plan CheckError) (error : CheckError) → IsAnswer script r → r ≡ Err error
    → (error.cause ≡ cause.OutOfMemory → ⊥) → IsFirstRefused script error
refusal_answered script r error (planned h) e memory = absurd cc
refusal_answered script r error (refused {error = x} h) e memory = let same : x ≡ error = cc in subst (IsFirstRefused script) same h
refusal_answered script r error (wanting {error = x} lost) e memory =
    let same : x ≡ error = cc in
    absurd (memory (subst (λ (y : CheckError). y.cause ≡ cause.OutOfMemory) same lost))

-- a script whose line has a fault other than want of memory is refused for it
pub refused_for : (script : Script) (error : CheckError) (refusal : Refusal)
    → (error.cause ≢ cause.OutOfMemory → IsFirstRefused script error)
    → refusal.line ≡ error.line → IsCause script error.line error.cause refusal.fault → IsRefusedLine script refusal
refused_for script error refusal first line told =
    record {
      error = error;
      first = first (λ e. subst (λ k. IsCause script error.line k refusal.fault) e told);
      line = line;
      fault = told;
    }

-- the bytes that spell a refused script are refused
pub unplannable : (bytes : List ℕ) (script : Script) (refusal : Refusal) → reading_of bytes ≡ Ok script → IsRefusedLine script refusal
    → IsRefusedScript bytes refusal
unplannable bytes script refusal spelled told = inr (record { script = script; spelled = spelled; refused = told })

-- and so they are where there is no plan for that script
pub unplanned : (bytes : List ℕ) (script : Script) (why : NoPlan) → reading_of bytes ≡ Ok script → IsUnplanned script why
    → HasNoPlan bytes why
unplanned bytes script (no_plan.Refused refusal) spelled told = unplannable bytes script refusal spelled told
unplanned bytes script no_plan.OutOfMemory spelled told = tt

pub unplanned_made : (bytes : List ℕ) (script : Script) (r : Result Plan NoPlan) → reading_of bytes ≡ Ok script
    → IfErr r (IsUnplanned script) → IfErr r (HasNoPlan bytes)
unplanned_made bytes script (Ok plan) spelled none = tt
unplanned_made bytes script (Err why) spelled none = unplanned bytes script why spelled none

-- the bytes that spell a script of which no graph is made are refused for it
pub unmade : (most : ℕ) (bytes : List ℕ) (script : Script) (r : Result Script MadeError) (error : MadeError) (refusal : Refusal)
    → reading_of bytes ≡ Ok script → IsMade script most r → r ≡ Err error → refusal.line ≡ error.line
    → IsMadeFault error.cause refusal.fault → IsRefusedGraph most bytes refusal
unmade most bytes script r error refusal spelled (made_of none it) e line fault = absurd cc
unmade most bytes script r error refusal spelled (refused_for_sets {error = x} first) e line fault =
    let same : x ≡ error = cc in
    inr (record {
      script = script;
      spelled = spelled;
      error = error;
      first = subst (λ (y : MadeError). refusal_of script most ≡ Some y) same first;
      line = line;
      fault = fault;
    })
unmade most bytes script r error refusal spelled (wanting_for_sets {error = x} is) e line fault =
    let same : x ≡ error = cc in absurd (subst (λ (y : MadeError). IsMadeFault y.cause refusal.fault) (sym same ∙ is) fault)

-- where a script is made, its text is that of the graph
pub made_text : (most : ℕ) (bytes text : List ℕ) (script made : Script) (r : Result Script MadeError) → reading_of bytes ≡ Ok script
    → IsMade script most r → r ≡ Ok made → text ≡ text_of made → IsGraphText most bytes text
made_text most bytes text script made r spelled (made_of {made = m} none it) e is =
    let same : m ≡ made = cc in
    record {
      script = script;
      spelled = spelled;
      accepted = none;
      printed = is ∙ ap text_of (sym same ∙ it);
    }
made_text most bytes text script made r spelled (refused_for_sets first) e is = absurd cc
made_text most bytes text script made r spelled (wanting_for_sets lost) e is = absurd cc
