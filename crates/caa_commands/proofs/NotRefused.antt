-- A script that is accepted isn't refused.
use Rattle.std.proofs.Common.{◌≡◌, ◌+◌, List, [], ◌∷◌, ◌++◌, ℕ, Ok, subst}
use Rattle.action_script.specs.Forms.Printing.{forms_of, numbered_from, reread_of}
use Rattle.action_script.specs.Lines.Spelling.{reading_of}
use Rattle.action_script.specs.Forms.ScriptValue.{Script}
use Rattle.action_script.specs.declared.forms.script.Line.{Line}
use Rattle.place_plan.specs.Plans.PlanValue.{Plan}
use Rattle.script_checker.specs.declared.check_error.CheckError.{CheckError}
use Rattle.script_checker.specs.declared.declared.SoFar.{SoFar}
use Rattle.script_checker.specs.DeclaredSoFar.{nothing_yet}
use Rattle.script_checker.specs.After.{after}
use Rattle.script_checker.specs.Compiled.{IsFirstRefused, IsAccepted, AreAccepted, declared_after}
use Rattle.caa_commands.specs.Scripts.{HasPlan, SpellAccepted}

-- where all lines are accepted, each is
accepted_there : (names : List (List ℕ)) (s : SoFar) (lines : List Line) (line : Line) (rest : List Line)
    → AreAccepted names s (lines ++ line ∷ rest) → IsAccepted (declared_after names s lines) line.form
accepted_there names s [] line rest h = h.0
accepted_there names s (l ∷ lines) line rest h = accepted_there names (after names s l.form) lines line rest h.1

pub accepted_not_refused : (script : Script) (error : CheckError) → AreAccepted script.names (nothing_yet script.names) script.lines
    → IsFirstRefused script error → ⊥
accepted_not_refused script error h refused =
    let all = subst (AreAccepted script.names (nothing_yet script.names)) refused.place h in
    accepted_there script.names (nothing_yet script.names) refused.before refused.line refused.rest all error.cause refused.least.has

-- the same lines with other numbers are accepted too
numbered_accepted : (names : List (List ℕ)) (number : ℕ) (s : SoFar) (lines : List Line) → AreAccepted names s lines
    → AreAccepted names s (numbered_from number (forms_of lines))
numbered_accepted names number s [] h = tt
numbered_accepted names number s (l ∷ lines) h = (h.0, numbered_accepted names (number + 1) (after names s l.form) lines h.1)

-- a text that reads back as a script that is accepted spells one
pub reread_accepted : (text : List ℕ) (script : Script) → reading_of text ≡ Ok (reread_of script)
    → AreAccepted script.names (nothing_yet script.names) script.lines → SpellAccepted text
reread_accepted text script spelled accepted = record {
  script = reread_of script;
  spelled = spelled;
  accepted = numbered_accepted script.names 1 (nothing_yet script.names) script.lines accepted;
}

-- a script that has a plan is accepted
pub plan_accepted : (bytes : List ℕ) (plan : Plan) → HasPlan bytes plan → SpellAccepted bytes
plan_accepted bytes plan h = record { script = h.script; spelled = h.spelled; accepted = h.compiled.accepted }
