-- Which steps of a program anybody comes to, what they can raise, and how roles say that their place is to end.
use Rattle.std.specs.Prelude.{◌≡◌, ℕ, ◌==◌, ◌<◌, Bool, true, false, if◌then◌else◌, List, [], ◌∷◌, ◌++◌, length, slice_get, Option, Some, None}
use Rattle.std.specs.List.{list_any}
use Rattle.cover_table.specs.Cover.{CoverOrder, IsLeastCover}
use Rattle.caa_base.specs.declared.written.entry.Outcome.{Outcome}
use Rattle.caa_base.specs.declared.written.entry.Outcome.TheVariants as outcome
use Rattle.caa_base.specs.declared.written.entry.Verdict.{Verdict}
use Rattle.caa_base.specs.declared.written.entry.Verdict.TheVariants as verdict
use Rattle.place_plan.specs.declared.drafts.draft_rows.AbortRow.{AbortRow}
use Rattle.place_plan.specs.declared.drafts.draft_rows.AbortRow.TheVariants as abort
use Rattle.place_plan.specs.declared.drafts.draft_rows.Program.{Program}
use Rattle.place_plan.specs.declared.drafts.draft_rows.RoleRow.{RoleRow}
use Rattle.place_plan.specs.declared.drafts.draft_rows.Step.{Step}
use Rattle.place_plan.specs.declared.drafts.draft_rows.Step.TheVariants as step
use Rattle.place_plan.specs.Plans.Places.{handler_in}
use Rattle.place_plan.specs.RulesOfJournals.Roles.{is_undo, signal_in}

-- ---- steps

-- the step raises, whatever the register of its maker is
abbrev pub is_raise : Step → Bool
is_raise (step.Raise x) = true
is_raise _ = false

-- the steps up to the first raise, that one too: nobody comes past it
abbrev pub reached : List Step → List Step
reached [] = []
reached (s ∷ steps) = if is_raise s then s ∷ [] else s ∷ reached steps

-- the step can raise x; `fault` is what a refused put raises
abbrev pub can_raise : ℕ → ℕ → Step → Bool
can_raise fault x (step.Put o v) = fault == x
can_raise fault x (step.Add o v) = fault == x
can_raise fault x (step.Check test bound y) = y == x
can_raise fault x (step.Raise y) = y == x
can_raise fault x _ = false

-- the step enters the use k
abbrev pub enters : ℕ → Step → Bool
enters k (step.Enter n) = n == k
enters k _ = false

-- a handler can be broken off at the step: its put is refused, or its check is met
abbrev pub can_break : Step → Bool
can_break (step.Put o v) = true
can_break (step.Add o v) = true
can_break (step.Check test bound x) = true
can_break _ = false

-- ---- roles

-- the step of this number of the body, where somebody comes to it
abbrev pub reached_step : RoleRow → ℕ → Option Step
reached_step role i = slice_get (reached role.body.steps) i

-- it enters the use k
abbrev pub is_enter : ℕ → Option Step → Bool
is_enter k None = false
is_enter k (Some s) = enters k s

-- the body comes to the step that enters the use k
abbrev pub body_enters : ℕ → RoleRow → Bool
body_enters k role = list_any (enters k) (reached role.body.steps)

-- nobody comes to the end of the program: it has a raise
abbrev pub is_endless : Program → Bool
is_endless program = list_any is_raise program.steps

-- what a role says whose handler this is: undo where it has none, and where nobody comes to the end of it
abbrev pub answer_by : Option Program → Verdict
answer_by None = verdict.Undo
answer_by (Some program) = if is_endless program then verdict.Undo else program.verdict

-- what a role says once x is resolved, unless its handler is broken off
abbrev pub answer_to : ℕ → RoleRow → Verdict
answer_to x role = answer_by (handler_in x role.handlers)

-- the handler can be broken off
abbrev pub is_breakable : Option Program → Bool
is_breakable None = false
is_breakable (Some program) = list_any can_break (reached program.steps)

-- the handler of a role for x can be broken off
abbrev pub can_fail_at : ℕ → RoleRow → Bool
can_fail_at x role = is_breakable (handler_in x role.handlers)

-- an abort can name the exception z
abbrev pub names_at_abort : ℕ → AbortRow → Bool
names_at_abort z abort.Never = false
names_at_abort z (abort.Always x) = x == z
names_at_abort z (abort.Where test bound x) = x == z

-- ---- what all roles say together

-- some verdict is undo
abbrev pub ask_for_undo : List Verdict → Bool
ask_for_undo verdicts = list_any (λ v. is_undo (Some v)) verdicts

-- all that the verdicts signal
abbrev pub all_signals : List Verdict → List ℕ
all_signals [] = []
all_signals (v ∷ verdicts) = signal_in (Some v) ++ all_signals verdicts

-- how a place ends whose roles give these verdicts: undone where one asks for it, else with the least cover of what they signal, or
-- with a commit where they signal nothing
abbrev pub EndsBy : CoverOrder → List Verdict → Outcome → Type 0
EndsBy order verdicts outcome.Commit = (ask_for_undo verdicts ≡ false) × (all_signals verdicts ≡ [])
EndsBy order verdicts (outcome.Signal x) =
    (ask_for_undo verdicts ≡ false) × (0 < length (all_signals verdicts)) × IsLeastCover order (all_signals verdicts) x
EndsBy order verdicts outcome.Undone = ask_for_undo verdicts ≡ true
EndsBy order verdicts outcome.Aborted = ⊥
EndsBy order verdicts outcome.Failed = ⊥
