-- The first cause of a line that is found, where they are tried by their numbers, of lines that end no block.
use Rattle.std.specs.Prelude.{Bool, true, false, Option, Some, None}
use Rattle.action_script.specs.declared.forms.form.Form.{Form}
use Rattle.action_script.specs.declared.forms.form.Form.TheVariants as form
use Rattle.script_checker.specs.declared.check_error.CheckCause.{CheckCause}
use Rattle.script_checker.specs.declared.check_error.CheckCause.TheVariants as cause
use Rattle.script_checker.specs.declared.declared.Declared.{Declared}
use Rattle.script_checker.specs.declared.declared.Block.{Block}
use Rattle.script_checker.specs.Causes.{is_unknown, is_twice, is_unfilled, fills_twice, is_past_limit, is_past_bound, in_action}
use Rattle.script_checker.specs.InAction.{enters_otherwise_in_action, not_held_in_action, too_deep_in_action, other_face_in_action}

-- this cause where the test is met, else a later one
abbrev pub cause_if : Bool → CheckCause → Option CheckCause → Option CheckCause
cause_if true here later = Some here
cause_if false here later = later

-- of those from the depth on
abbrev pub size_cause : Declared → Block → Form → Option CheckCause
size_cause d b f =
    cause_if (in_action (λ a. too_deep_in_action d f) b) cause.TooDeep (cause_if (is_past_limit d b f) cause.Limit
    (cause_if (is_past_bound d b f) cause.JournalBound
    (cause_if (in_action (λ a. other_face_in_action d a f) b) cause.AlternateFace None)))

-- of those that names and a graph don't tell
abbrev pub part_cause : Declared → Block → Form → Option CheckCause
part_cause d b f =
    cause_if (is_unfilled d b f) cause.RoleUnfilled (cause_if (fills_twice b f) cause.RoleTwice
    (cause_if (in_action (λ a. enters_otherwise_in_action a f) b) cause.NestOrder
    (cause_if (in_action (λ a. not_held_in_action d a f) b) cause.ObjectNotHeld (size_cause d b f))))

-- of those that a known name doesn't tell
abbrev pub later_cause : Declared → Block → Form → Option CheckCause
later_cause d b f = cause_if (is_twice d b f) cause.Twice (part_cause d b f)

-- of all but those of a graph
abbrev pub first_cause : Declared → Block → Form → Option CheckCause
first_cause d b f = cause_if (is_unknown d b f) cause.Unknown (later_cause d b f)

-- the line ends a block
abbrev pub is_end : Form → Bool
is_end form.End = true
is_end _ = false

-- ---- which function adds a line to an action

-- the line is of the action as a whole
abbrev pub is_of_whole : Form → Bool
is_of_whole (form.Internal graph) = true
is_of_whole (form.Interface graph) = true
is_of_whole (form.Fault exception) = true
is_of_whole (form.Uses objects) = true
is_of_whole (form.Roles roles) = true
is_of_whole _ = false

-- it is of a nested use or of one role
abbrev pub is_of_parts : Form → Bool
is_of_parts (form.Nest nest action roles) = true
is_of_parts (form.Map nest lower upper) = true
is_of_parts (form.MapUndo nest exception) = true
is_of_parts (form.MapFailure nest exception) = true
is_of_parts (form.Alternate nest action) = true
is_of_parts (form.Abort role exception) = true
is_of_parts (form.AbortTest role test value exception) = true
is_of_parts _ = false
