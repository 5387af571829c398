-- On which line of a script each part of its plan is declared. The names of the plan are found by their numbers in the script; 0 stands
-- for the number of a line that isn't there.
use Rattle.std.specs.Prelude.{ℕ, ◌==◌, ◌-◌, Bool, true, false, ◌&&◌, if◌then◌else◌, List, [], ◌∷◌, map, length, slice_get, slice_index_or, Option, Some, None, unwrap_or}
use Rattle.place_plan.specs.declared.drafts.draft_rows.ActionRow.{ActionRow}
use Rattle.place_plan.specs.declared.drafts.draft_rows.RoleRow.{RoleRow}
use Rattle.place_plan.specs.declared.drafts.draft_rows.HandlerRow.{HandlerRow}
use Rattle.place_plan.specs.declared.drafts.draft_rows.NestRow.{NestRow}
use Rattle.place_plan.specs.Plans.PlanValue.{Plan}
use Rattle.place_plan.specs.Plans.Places.{exception_name}
use Rattle.action_script.specs.declared.forms.form.Form.{Form}
use Rattle.action_script.specs.declared.forms.form.Form.TheVariants as form
use Rattle.action_script.specs.declared.forms.script.Line.{Line}
use Rattle.action_script.specs.Forms.ScriptValue.{Script}
use Rattle.action_script.specs.Words.NumberedNames.{number_in}
use Rattle.script_checker.specs.InAction.{goes_on}
use Rattle.script_checker.specs.declared.lines.Heading.{Heading}
use Rattle.script_checker.specs.declared.lines.Heading.TheVariants as heading
use Rattle.script_checker.specs.declared.lines.ProgramLines.{ProgramLines}
use Rattle.script_checker.specs.declared.lines.HandlerLines.{HandlerLines}
use Rattle.script_checker.specs.declared.lines.RoleLines.{RoleLines}
use Rattle.script_checker.specs.declared.lines.ActionLines.{ActionLines}
use Rattle.script_checker.specs.declared.lines.Lines.{Lines}

-- ---- finding lines

-- the line begins or declares just this
abbrev pub declares : Heading → Form → Bool
declares (heading.Action name) (form.Action action) = action == name
declares heading.Roles (form.Roles roles) = true
declares (heading.Nest name) (form.Nest nest action roles) = nest == name
declares (heading.Body name) (form.Body role) = role == name
declares (heading.Handler name handled) (form.Handler role exception) = (role == name) && (exception == handled)
declares _ _ = false

-- the lines from the first on that declares this; none where none does
abbrev pub from_first : Heading → List Line → List Line
from_first h [] = []
from_first h (l ∷ lines) = if declares h l.form then l ∷ lines else from_first h lines

-- the line ends a graph or an action
abbrev pub is_end : Form → Bool
is_end form.End = true
is_end _ = false

-- the lines before the first such one
abbrev pub up_to_end : List Line → List Line
up_to_end [] = []
up_to_end (l ∷ lines) = if is_end l.form then [] else l ∷ up_to_end lines

-- the number of the first of some lines
abbrev pub first_number : List Line → ℕ
first_number [] = 0
first_number (l ∷ lines) = l.number

-- ---- the lines of a plan

-- the numbers of the lines from the front on that are steps or verdicts
abbrev pub step_numbers : List Line → List ℕ
step_numbers [] = []
step_numbers (l ∷ lines) = if goes_on l.form then l.number ∷ step_numbers lines else []

-- the lines of a body or a handler, of those from the line on that begins it: behind that its steps follow one another, and then its
-- verdict, where it has a line for it
abbrev pub program_lines : List Line → Option ProgramLines
program_lines [] = None
program_lines (l ∷ lines) = Some (record { first = l.number; steps = step_numbers lines })

-- the lines of the handler of a role of an action with these lines; `raised` names the exceptions that can be raised there
abbrev pub handler_lines : List (List ℕ) → (ℕ → List ℕ) → List Line → ℕ → HandlerRow → HandlerLines
handler_lines names raised block role h = record {
  exception = h.exception;
  program = program_lines (from_first (heading.Handler role (number_in names (raised h.exception))) block);
}

-- the lines of a role
abbrev pub role_lines : List (List ℕ) → (ℕ → List ℕ) → List Line → RoleRow → RoleLines
role_lines names raised block role = record {
  body = program_lines (from_first (heading.Body (number_in names role.name)) block);
  handlers = map (handler_lines names raised block (number_in names role.name)) role.handlers;
}

-- the number of the line of a nested use
abbrev pub use_line : List (List ℕ) → List Line → NestRow → ℕ
use_line names block nest = first_number (from_first (heading.Nest (number_in names nest.name)) block)

-- the lines of an action, of those from the one on that begins it
abbrev pub lines_in : List (List ℕ) → (ℕ → List ℕ) → ActionRow → List Line → ActionLines
lines_in names raised action block = record {
  first = first_number block;
  roles_line = first_number (from_first heading.Roles block);
  uses = map (use_line names block) action.nests;
  roles = map (role_lines names raised block) action.roles;
}

-- the lines of an action of a script
abbrev pub action_lines : Script → Plan → ActionRow → ActionLines
action_lines script plan action =
    lines_in script.names (exception_name plan action.internal) action
    (up_to_end (from_first (heading.Action (number_in script.names action.name)) script.lines))

-- the lines of all actions of a plan of it
abbrev pub lines_of : Script → Plan → Lines
lines_of script plan = record { actions = map (action_lines script plan) plan.actions }

-- ---- lines of programs

-- the line where a body or a handler ends: that of its verdict, else that of its last step, else the one that begins it
abbrev pub last_line : ProgramLines → ℕ
last_line program = unwrap_or (slice_get program.steps (length program.steps - 1)) program.first

-- where somebody stands who has made so many of its steps: at the next one, or at the end where there is none
abbrev pub line_after : ProgramLines → ℕ → ℕ
line_after program made = slice_index_or program.steps made (last_line program)

-- the lines of an exception's handler among those of a role's
abbrev pub handler_in : List HandlerLines → ℕ → Option ProgramLines
handler_in [] x = None
handler_in (h ∷ hs) x = if h.exception == x then h.program else handler_in hs x

-- the lines of a body, or of the handler for this exception, of these of a role
abbrev pub program_of : RoleLines → Option ℕ → Option ProgramLines
program_of role None = role.body
program_of role (Some x) = handler_in role.handlers x

-- no role, and no action
abbrev pub no_role_lines : RoleLines
no_role_lines = record { body = None; handlers = [] }

abbrev pub no_action_lines : ActionLines
no_action_lines = record { first = 0; roles_line = 0; uses = []; roles = [] }

-- the lines of the body of a role of an action, or of its handler for this exception, by their numbers in the plan
abbrev pub program_at : Lines → ℕ → ℕ → Option ℕ → Option ProgramLines
program_at lines action role handled =
    program_of (slice_index_or (slice_index_or lines.actions action no_action_lines).roles role no_role_lines) handled
