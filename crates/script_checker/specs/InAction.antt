-- What a line in an action, its bodies and its handlers is refused for, and what it adds to the action.
use Rattle.std.specs.Prelude.{ℕ, ◌+◌, ◌==◌, nat_lt, nat_le, Bool, true, false, not, ◌&&◌, ◌||◌, is_some, List, [], ◌∷◌, ◌++◌, map, length, slice_index_or, slice_set, replicate, Option, Some, None, unwrap_or}
use Rattle.std.specs.List.{list_all, list_any}
use Rattle.caa_base.specs.declared.written.entry.Verdict.{Verdict}
use Rattle.caa_base.specs.declared.written.entry.Verdict.TheVariants as verdict
use Rattle.place_plan.specs.declared.drafts.draft_rows.ActionRow.{ActionRow}
use Rattle.place_plan.specs.declared.drafts.draft_rows.RoleRow.{RoleRow}
use Rattle.place_plan.specs.declared.drafts.draft_rows.HandlerRow.{HandlerRow}
use Rattle.place_plan.specs.declared.drafts.draft_rows.AbortRow.{AbortRow}
use Rattle.place_plan.specs.declared.drafts.draft_rows.AbortRow.TheVariants as abort
use Rattle.place_plan.specs.declared.drafts.draft_rows.NestRow.{NestRow}
use Rattle.place_plan.specs.declared.drafts.draft_rows.Program.{Program}
use Rattle.place_plan.specs.declared.drafts.draft_rows.Step.{Step}
use Rattle.place_plan.specs.declared.drafts.draft_rows.Step.TheVariants as step
use Rattle.caa_base.specs.Written.Limits.{most_roles, most_nests, most_alternates, most_steps, most_depth}
use Rattle.caa_base.specs.Written.Lists.{member, index_of, is_empty}
use Rattle.caa_base.specs.Written.Names.{name_at}
use Rattle.place_plan.specs.Plans.Places.{no_role}
use Rattle.place_plan.specs.Plans.Weights.{counted, at, nested_weight, own_entries}
use Rattle.place_plan.specs.Drafts.DraftRules.{all_differ, deepest, roles_enter}
use Rattle.action_script.specs.declared.forms.form.Form.{Form}
use Rattle.action_script.specs.declared.forms.form.Form.TheVariants as form
use Rattle.script_checker.specs.declared.declared.Declared.{Declared}
use Rattle.script_checker.specs.declared.open_action.OpenAction.{OpenAction}
use Rattle.script_checker.specs.declared.open_action.OpenNest.{OpenNest}
use Rattle.script_checker.specs.declared.open_action.OpenProgram.{OpenProgram}
use Rattle.script_checker.specs.declared.open_action.Carried.{Carried}
use Rattle.script_checker.specs.declared.open_action.Carried.TheVariants as what
use Rattle.script_checker.specs.Numbers.{is_among, chosen_from}
use Rattle.script_checker.specs.DeclaredSoFar.{begun_nest, graph_number, exceptions_at, inner, outer, face, face_of, action_of, nest_of, nest_rows, role_of}
use Rattle.script_checker.specs.AtTop.{is_filled_by}

-- ---- bodies and handlers

-- a step, or the line of a verdict
abbrev pub goes_on : Form → Bool
goes_on (form.ReadStep object) = true
goes_on (form.PutStep object value) = true
goes_on (form.AddStep object value) = true
goes_on (form.WorkStep rounds) = true
goes_on (form.CheckStep test value exception) = true
goes_on (form.RaiseStep exception) = true
goes_on (form.EnterStep nest) = true
goes_on form.DoneLine = true
goes_on (form.SignalLine exception) = true
goes_on form.UndoLine = true
goes_on _ = false

-- the step that a line says
abbrev pub step_of : Declared → OpenAction → Form → Option Step
step_of d a (form.ReadStep object) = Some (step.Read (index_of object d.objects))
step_of d a (form.PutStep object value) = Some (step.Put (index_of object d.objects) value)
step_of d a (form.AddStep object value) = Some (step.Add (index_of object d.objects) value)
step_of d a (form.WorkStep rounds) = Some (step.Work rounds)
step_of d a (form.CheckStep test value exception) = Some (step.Check test value (index_of exception (inner d a)))
step_of d a (form.RaiseStep exception) = Some (step.Raise (index_of exception (inner d a)))
step_of d a (form.EnterStep nest) = Some (step.Enter (index_of nest a.nest_names))
step_of d a _ = None

-- one step more in the body or handler that is being declared; outside both stand none
abbrev pub with_step : Option OpenProgram → Option Step → Option OpenProgram
with_step p None = p
with_step None (Some step) = None
with_step (Some p) (Some step) = Some (record p { steps = p.steps ++ step ∷ [] })

-- its steps so far
abbrev pub steps_of : Option OpenProgram → List Step
steps_of None = []
steps_of (Some p) = p.steps

-- the body of this role begins, or its handler for this exception
abbrev pub begun_program : ℕ → Option ℕ → OpenProgram
begun_program role exception = record { role = role; exception = exception; steps = [] }

-- the role with this body, or with one more handler
abbrev pub with_program : RoleRow → Option ℕ → Program → RoleRow
with_program role None program = record role { body = program }
with_program role (Some exception) program =
    record role { handlers = role.handlers ++ record { exception = exception; program = program } ∷ [] }

-- this body or handler, if there is one, has ended with this verdict
abbrev pub closed_if : OpenAction → Option OpenProgram → Verdict → OpenAction
closed_if a None verdict = a
closed_if a (Some p) verdict = record a {
  role_rows = slice_set a.role_rows p.role
      (with_program (slice_index_or a.role_rows p.role no_role) p.exception (record { steps = p.steps; verdict = verdict }));
  program = None;
}

-- the body or handler that is being declared, if any, has ended with this verdict
abbrev pub closed : OpenAction → Verdict → OpenAction
closed a verdict = closed_if a a.program verdict

-- ---- the line says again what was said already

-- a role was told what to raise where it gives up
abbrev pub is_said : AbortRow → Bool
is_said abort.Never = false
is_said _ = true

-- a handler for this exception
abbrev pub handles : ℕ → HandlerRow → Bool
handles exception handler = handler.exception == exception

-- it was said as which exception this outcome of a nested use is carried out
abbrev pub is_mapped : OpenNest → Carried → Bool
is_mapped nest (what.Exception lower) = member lower nest.mapped
is_mapped nest what.Undo = nest.has_undo
is_mapped nest what.Failure = nest.has_failure

-- the line says what may be said once only, and was
abbrev pub twice_in_action : Declared → OpenAction → Form → Bool
twice_in_action d a (form.Internal graph) = is_some a.internal
twice_in_action d a (form.Interface graph) = is_some a.interface
twice_in_action d a (form.Fault exception) = is_some a.fault
twice_in_action d a (form.Uses objects) = not (is_empty a.uses) || not (all_differ objects)
twice_in_action d a (form.Roles roles) = not (is_empty a.roles) || not (all_differ roles)
twice_in_action d a (form.Nest nest action roles) = is_among a.nest_names nest
twice_in_action d a (form.Map nest lower upper) = is_mapped (nest_of a nest) (what.Exception (index_of lower (face d a nest)))
twice_in_action d a (form.MapUndo nest exception) = is_mapped (nest_of a nest) what.Undo
twice_in_action d a (form.MapFailure nest exception) = is_mapped (nest_of a nest) what.Failure
twice_in_action d a (form.Abort role exception) = is_said (role_of a role).abort
twice_in_action d a (form.AbortTest role test value exception) = is_said (role_of a role).abort
twice_in_action d a (form.Body role) = member (index_of role a.roles) a.bodies
twice_in_action d a (form.Handler role exception) = list_any (handles (index_of exception (inner d a))) (role_of a role).handlers
twice_in_action d a _ = false

-- ---- roles, objects, depths and limits

-- the line fills another number of roles than the action has, or ends an action that has none
abbrev pub unfilled_in_action : Declared → OpenAction → Form → Bool
unfilled_in_action d a (form.Nest nest action roles) = not (is_filled_by d action (length roles))
unfilled_in_action d a (form.Alternate nest action) = not (is_filled_by d action (length (nest_of a nest).row.roles))
unfilled_in_action d a form.End = is_empty a.roles
unfilled_in_action d a _ = false

-- it fills two roles by one
abbrev pub filled_twice_in_action : Form → Bool
filled_twice_in_action (form.Nest nest action roles) = not (all_differ roles)
filled_twice_in_action _ = false

-- it ends an action in which a role doesn't enter just the uses that it fills, each once, in their order
abbrev pub enters_otherwise_in_action : OpenAction → Form → Bool
enters_otherwise_in_action a form.End = not (roles_enter (nest_rows a.nests) 0 a.role_rows)
enters_otherwise_in_action a _ = false

-- the action uses the object of this name, as far as its objects were said
abbrev pub holds : Declared → OpenAction → ℕ → Bool
holds d a object = member (index_of object d.objects) a.uses

-- it uses all objects of another action
abbrev pub holds_all : Declared → OpenAction → ℕ → Bool
holds_all d a action = list_all (λ o. member o a.uses) (action_of d action).objects

-- an object that the line names, or that an action of it uses, is not among the objects of the action
abbrev pub not_held_in_action : Declared → OpenAction → Form → Bool
not_held_in_action d a (form.Nest nest action roles) = not (holds_all d a action)
not_held_in_action d a (form.Alternate nest action) = not (holds_all d a action)
not_held_in_action d a (form.ReadStep object) = not (holds d a object)
not_held_in_action d a (form.PutStep object value) = not (holds d a object)
not_held_in_action d a (form.AddStep object value) = not (holds d a object)
not_held_in_action d a _ = false

-- the action of this name is as deep as one may be
abbrev pub is_deepest : Declared → ℕ → Bool
is_deepest d action = nat_le most_depth (at d.depths (index_of action d.action_names))

-- the line would put an action round it
abbrev pub too_deep_in_action : Declared → Form → Bool
too_deep_in_action d (form.Nest nest action roles) = is_deepest d action
too_deep_in_action d (form.Alternate nest action) = is_deepest d action
too_deep_in_action d _ = false

-- with the line there would be too many of something
abbrev pub past_limit_in_action : Declared → OpenAction → Form → Bool
past_limit_in_action d a (form.Roles roles) = nat_lt most_roles (length roles)
past_limit_in_action d a (form.Nest nest action roles) = nat_le most_nests (length a.nests)
past_limit_in_action d a (form.Alternate nest action) = nat_le most_alternates (length (nest_of a nest).row.actions)
past_limit_in_action d a f = is_some (step_of d a f) && nat_le most_steps (length (steps_of a.program))

-- the line adds an action to a use whose first action tells other exceptions outside
abbrev pub other_face_in_action : Declared → OpenAction → Form → Bool
other_face_in_action d a (form.Alternate nest action) = not ((action_of d action).interface == face_of d a nest)
other_face_in_action d a _ = false

-- ---- what the line adds: roles and nested uses

-- a role that does nothing
abbrev pub idle_role : List (List ℕ) → ℕ → RoleRow
idle_role names name = record {
  name = name_at names name;
  body = record { steps = []; verdict = verdict.Done };
  handlers = [];
  abort = abort.Never;
}

-- the action where the role of this name raises this as it gives up
abbrev pub with_abort : OpenAction → ℕ → AbortRow → OpenAction
with_abort a role row =
    record a { role_rows = slice_set a.role_rows (index_of role a.roles) (record (role_of a role) { abort = row }) }

-- a nested use that carries `universal` out whatever happens
abbrev pub plain_nest : List ℕ → ℕ → List ℕ → ℕ → NestRow
plain_nest name action roles exceptions =
    record { name = name; actions = action ∷ []; roles = roles; maps = replicate exceptions 0; undo = 0; failure = 0 }

-- the row of the nested use that a line says
abbrev pub nest_said : List (List ℕ) → Declared → OpenAction → ℕ → ℕ → List ℕ → NestRow
nest_said names d a nest action roles =
    plain_nest (name_at names nest) (index_of action d.action_names) (map (λ r. index_of r a.roles) roles)
    (length (exceptions_at d.graphs (action_of d action).interface))

-- the nested use of this name is another
abbrev pub with_nest : OpenAction → ℕ → OpenNest → OpenAction
with_nest a name nest = record a { nests = slice_set a.nests (index_of name a.nest_names) nest }

-- it carries this outcome out as this exception
abbrev pub carried : OpenNest → Carried → ℕ → OpenNest
carried nest (what.Exception lower) exception =
    record nest { row = record nest.row { maps = slice_set nest.row.maps lower exception }; mapped = nest.mapped ++ lower ∷ [] }
carried nest what.Undo exception = record nest { row = record nest.row { undo = exception }; has_undo = true }
carried nest what.Failure exception = record nest { row = record nest.row { failure = exception }; has_failure = true }

-- it is of one action more
abbrev pub alternated : OpenNest → ℕ → OpenNest
alternated nest action = record nest { row = record nest.row { actions = nest.row.actions ++ action ∷ [] } }

-- ---- all lines

-- the action with what the line says, once a body or handler before it has ended
abbrev pub action_with : List (List ℕ) → Declared → OpenAction → Form → OpenAction
action_with names d a (form.Internal graph) = record a { internal = Some (graph_number d graph) }
action_with names d a (form.Interface graph) = record a { interface = Some (graph_number d graph) }
action_with names d a (form.Fault exception) = record a { fault = Some (index_of exception (inner d a)) }
action_with names d a (form.Uses objects) = record a { uses = chosen_from 0 objects d.objects }
action_with names d a (form.Roles roles) = record a { roles = roles; role_rows = map (idle_role names) roles }
action_with names d a (form.Nest nest action roles) =
    record a {
      nest_names = a.nest_names ++ nest ∷ [];
      nests = a.nests ++ begun_nest (nest_said names d a nest action roles) ∷ [];
    }
action_with names d a (form.Map nest lower upper) =
    with_nest a nest (carried (nest_of a nest) (what.Exception (index_of lower (face d a nest))) (index_of upper (inner d a)))
action_with names d a (form.MapUndo nest exception) =
    with_nest a nest (carried (nest_of a nest) what.Undo (index_of exception (inner d a)))
action_with names d a (form.MapFailure nest exception) =
    with_nest a nest (carried (nest_of a nest) what.Failure (index_of exception (inner d a)))
action_with names d a (form.Alternate nest action) =
    with_nest a nest (alternated (nest_of a nest) (index_of action d.action_names))
action_with names d a (form.Abort role exception) = with_abort a role (abort.Always (index_of exception (outer d a)))
action_with names d a (form.AbortTest role test value exception) =
    with_abort a role (abort.Where test value (index_of exception (outer d a)))
action_with names d a (form.Body role) =
    record a {
      bodies = a.bodies ++ index_of role a.roles ∷ [];
      program = Some (begun_program (index_of role a.roles) None);
    }
action_with names d a (form.Handler role exception) =
    record a { program = Some (begun_program (index_of role a.roles) (Some (index_of exception (inner d a)))) }
action_with names d a form.DoneLine = closed a verdict.Done
action_with names d a (form.SignalLine exception) = closed a (verdict.Signal (index_of exception (outer d a)))
action_with names d a form.UndoLine = closed a verdict.Undo
action_with names d a f = record a { program = with_step a.program (step_of d a f) }

-- ---- the end of the action

-- its row
abbrev pub row_of : List (List ℕ) → OpenAction → ActionRow
row_of names a = record {
  name = name_at names a.name;
  internal = unwrap_or a.internal 0;
  interface = unwrap_or a.interface 0;
  fault = unwrap_or a.fault 0;
  objects = a.uses;
  roles = a.role_rows;
  nests = nest_rows a.nests;
}

-- what is declared with it: how deep it is, of how many places an instance of it is, and how many entries these may have
abbrev pub with_action : Declared → ActionRow → Declared
with_action d row = record d {
  actions = d.actions ++ row ∷ [];
  depths = d.depths ++ counted (1 + deepest (at d.depths) row.nests) ∷ [];
  places = d.places ++ counted (1 + nested_weight (at d.places) row.nests) ∷ [];
  bounds = d.bounds ++ counted (own_entries row + nested_weight (at d.bounds) row.nests) ∷ [];
}
