-- What never comes, whatever the order and the device, as it is told of.
use Rattle.std.specs.Prelude.{ℕ, ◌==◌, Bool, false, not, ◌&&◌, List, take, Option, Some, None}
use Rattle.std.specs.List.{list_all, list_any}
use Rattle.action_script.specs.declared.forms.form.Form.{Form}
use Rattle.action_script.specs.declared.forms.form.Form.TheVariants as form
use Rattle.action_script.specs.declared.forms.script.Line.{Line}
use Rattle.script_outcomes.specs.Endings.{can_be_undone}
use Rattle.script_outcomes.specs.declared.outlooks.Outlook.{Outlook}
use Rattle.script_outcomes.specs.declared.outlooks.Row.{Row}
use Rattle.script_warnings.specs.declared.subject.Part.{Part}

-- a handler for this exception begins
abbrev pub handles : ℕ → Form → Bool
handles exception (form.Handler role what) = what == exception
handles exception other = false

-- the exception of a row can't be resolved, and some role of the action has a handler for it
abbrev pub is_never_begun : List Line → Row → Bool
is_never_begun block row = not row.can_come && list_any (λ l. handles row.exception l.form) block

-- some action that is tried before the one of this index can't end undone
abbrev pub is_never_tried : List Outlook → List ℕ → ℕ → Bool
is_never_tried known actions index = not (list_all (can_be_undone known) (take index actions))

-- an exception can be resolved by one of these rows
abbrev pub can_come_in : List Row → ℕ → Bool
can_come_in rows exception = list_any (λ row. row.exception == exception && row.can_come) rows

-- this is that graph
abbrev pub is_graph : ℕ → Option ℕ → Bool
is_graph graph None = false
is_graph graph (Some name) = name == graph

-- an exception of a graph can be resolved in an action
abbrev pub is_resolved_in : ℕ → ℕ → Part → Bool
is_resolved_in graph exception part = is_graph graph part.internal && can_come_in part.outlook.now.rows.items exception
