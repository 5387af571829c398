-- The rules that a draft has to keep, each with its number.
use Rattle.std.specs.Prelude.{◌≡◌, ℕ, ◌==◌, nat_lt, nat_le, max, if◌then◌else◌, Bool, true, false, not, ◌&&◌, List, [], ◌∷◌, map, length, slice_index_or, Option, Some, None, zero, suc}
use Rattle.std.specs.List.{list_all}
use Rattle.caa_base.specs.Written.Limits.{is_value, most_count, most_participants, most_objects, most_graphs, most_actions, most_roles, most_nests, most_alternates, most_steps, most_watches, most_drills, most_depth, most_places, most_entries}
use Rattle.caa_base.specs.declared.written.entry.Drill.{Drill}
use Rattle.caa_base.specs.declared.written.entry.Verdict.{Verdict}
use Rattle.caa_base.specs.declared.written.entry.Verdict.TheVariants as verdict
use Rattle.place_plan.specs.declared.drafts.draft.Draft.{Draft}
use Rattle.place_plan.specs.declared.drafts.draft_rows.GraphRow.{GraphRow}
use Rattle.place_plan.specs.declared.drafts.draft_rows.PlayRow.{PlayRow}
use Rattle.place_plan.specs.declared.drafts.draft_rows.ActionRow.{ActionRow}
use Rattle.place_plan.specs.declared.drafts.draft_rows.RoleRow.{RoleRow}
use Rattle.place_plan.specs.declared.drafts.draft_rows.NestRow.{NestRow}
use Rattle.place_plan.specs.declared.drafts.draft_rows.HandlerRow.{HandlerRow}
use Rattle.place_plan.specs.declared.drafts.draft_rows.AbortRow.{AbortRow}
use Rattle.place_plan.specs.declared.drafts.draft_rows.AbortRow.TheVariants as abort
use Rattle.place_plan.specs.declared.drafts.draft_rows.Program.{Program}
use Rattle.place_plan.specs.declared.drafts.draft_rows.Step.{Step}
use Rattle.place_plan.specs.declared.drafts.draft_rows.Step.TheVariants as step
use Rattle.caa_base.specs.Written.Lists.{member, is_empty}
use Rattle.place_plan.specs.Plans.Places.{graph_at, no_action}
use Rattle.place_plan.specs.Plans.Unfolding.{plan_of}
use Rattle.place_plan.specs.Plans.Bound.{bound}

-- ---- 1: no list is longer than its limit; no action is without roles, and no nested use without actions

-- a body or a handler is no longer than the limit
abbrev pub program_fits : Program → Bool
program_fits program = nat_le (length program.steps) most_steps

-- so is each program of a role
abbrev pub role_fits : RoleRow → Bool
role_fits role = program_fits role.body && list_all (λ h. program_fits h.program) role.handlers

-- a nested use has from one to four actions
abbrev pub nest_fits : NestRow → Bool
nest_fits nest = not (is_empty nest.actions) && nat_le (length nest.actions) most_alternates

-- an action has roles and nested uses within the limits, and at least one role
abbrev pub action_fits : ActionRow → Bool
action_fits action =
    not (is_empty action.roles)
    && (nat_le (length action.roles) most_roles && (nat_le (length action.nests) most_nests
    && (list_all role_fits action.roles && list_all nest_fits action.nests)))

-- each action is so, and no list of the draft is too long; the plain graph comes on top of those that a script may declare
abbrev pub size_rule : Draft → Bool
size_rule draft =
    nat_le (length draft.participants) most_participants && (nat_le (length draft.objects) most_objects
    && (nat_le (length draft.graphs) (suc most_graphs) && (nat_le (length draft.actions) most_actions
    && (nat_le (length draft.watches) most_watches && (nat_le (length draft.drills) most_drills
    && list_all action_fits draft.actions)))))

-- ---- 2: graph 0 has one exception alone, and each graph has as many names as exceptions

-- the first graph has one exception
abbrev pub first_is_plain : List GraphRow → Bool
first_is_plain [] = false
first_is_plain (row ∷ rows) = row.graph.count == 1

-- a graph has a name for each exception
abbrev pub is_named : GraphRow → Bool
is_named row = length row.names == row.graph.count

-- both hold of the graphs of the draft
abbrev pub graph_rule : Draft → Bool
graph_rule draft = first_is_plain draft.graphs && list_all is_named draft.graphs

-- ---- 3: all numbers are in range

-- the numbers rise, each above `low`, or from 0 on
abbrev pub is_rising_above : ℕ → List ℕ → Bool
is_rising_above low [] = true
is_rising_above low (x ∷ xs) = nat_lt low x && is_rising_above x xs

-- the numbers rise, from whatever the first is
abbrev pub is_rising : List ℕ → Bool
is_rising [] = true
is_rising (x ∷ xs) = is_rising_above x xs

-- all numbers are below this one
abbrev pub all_below : ℕ → List ℕ → Bool
all_below count numbers = list_all (λ n. nat_lt n count) numbers

-- a step names objects and exceptions that are there, and its other numbers are within the limits
abbrev pub step_in_range : ℕ → ℕ → Step → Bool
step_in_range objects exceptions (step.Read o) = nat_lt o objects
step_in_range objects exceptions (step.Put o v) = nat_lt o objects && is_value v
step_in_range objects exceptions (step.Add o v) = nat_lt o objects && is_value v
step_in_range objects exceptions (step.Work k) = nat_le k most_count
step_in_range objects exceptions (step.Check test v x) = is_value v && nat_lt x exceptions
step_in_range objects exceptions (step.Raise x) = nat_lt x exceptions
step_in_range objects exceptions (step.Enter n) = true

-- a verdict signals an exception that is there
abbrev pub verdict_in_range : ℕ → Verdict → Bool
verdict_in_range exceptions (verdict.Signal x) = nat_lt x exceptions
verdict_in_range exceptions _ = true

-- an abort names an exception that is there, at a value within the limit
abbrev pub abort_in_range : ℕ → AbortRow → Bool
abort_in_range exceptions abort.Never = true
abort_in_range exceptions (abort.Always x) = nat_lt x exceptions
abort_in_range exceptions (abort.Where test v x) = is_value v && nat_lt x exceptions

-- of the objects, and of the exceptions of the internal and of the interface graph, so many
abbrev pub program_in_range : ℕ → ℕ → ℕ → Program → Bool
program_in_range objects internal interface program =
    list_all (step_in_range objects internal) program.steps && verdict_in_range interface program.verdict

-- a handler is for an exception that is there, and its program is in range
abbrev pub handler_in_range : ℕ → ℕ → ℕ → HandlerRow → Bool
handler_in_range objects internal interface h = nat_lt h.exception internal && program_in_range objects internal interface h.program

-- the programs and the abort of a role are in range
abbrev pub role_in_range : ℕ → ℕ → ℕ → RoleRow → Bool
role_in_range objects internal interface role =
    program_in_range objects internal interface role.body
    && (list_all (handler_in_range objects internal interface) role.handlers && abort_in_range interface role.abort)

-- a nested use names actions, roles and exceptions that are there
abbrev pub nest_in_range : ℕ → ℕ → ℕ → NestRow → Bool
nest_in_range actions roles internal nest =
    all_below actions nest.actions && (all_below roles nest.roles && (all_below internal nest.maps
    && (nat_lt nest.undo internal && nat_lt nest.failure internal)))

-- how many exceptions a graph of the draft has
abbrev pub exceptions_of : Draft → ℕ → ℕ
exceptions_of draft g = (graph_at (plan_of draft) g).count

-- the two graphs and the fault exception of an action
abbrev pub graphs_in_range : Draft → ActionRow → Bool
graphs_in_range draft action =
    nat_lt action.internal (length draft.graphs)
    && (nat_lt action.interface (length draft.graphs) && nat_lt action.fault (exceptions_of draft action.internal))

-- the objects of an action, each once and in ascending order
abbrev pub objects_in_range : Draft → ActionRow → Bool
objects_in_range draft action = is_rising action.objects && all_below (length draft.objects) action.objects

-- the roles and the nested uses of an action
abbrev pub parts_in_range : Draft → ActionRow → Bool
parts_in_range draft action =
    let internal = exceptions_of draft action.internal in
    list_all (role_in_range (length draft.objects) internal (exceptions_of draft action.interface)) action.roles
    && list_all (nest_in_range (length draft.actions) (length action.roles) internal) action.nests

-- all that an action names is there
abbrev pub action_in_range : Draft → ActionRow → Bool
action_in_range draft action = graphs_in_range draft action && (objects_in_range draft action && parts_in_range draft action)

-- a play is of an action that is there, by participants who are there
abbrev pub play_in_range : Draft → PlayRow → Bool
play_in_range draft play = nat_lt play.action (length draft.actions) && all_below (length draft.participants) play.who

-- a drill is of an object that is there
abbrev pub drill_in_range : Draft → Drill → Bool
drill_in_range draft drill = nat_lt drill.object (length draft.objects)

-- all that a draft names is there, and its initial values are within the limit
abbrev pub range_rule : Draft → Bool
range_rule draft =
    list_all (λ o. is_value o.initial) draft.objects && (list_all (action_in_range draft) draft.actions
    && (list_all (play_in_range draft) draft.plays && (list_all (drill_in_range draft) draft.drills
    && all_below (length draft.objects) draft.watches)))

-- ---- 4: what an action nests was declared before it

-- the actions from number n on nest only such as stand before them
abbrev pub nests_below : ℕ → List ActionRow → Bool
nests_below n [] = true
nests_below n (action ∷ actions) = list_all (λ nest. all_below n nest.actions) action.nests && nests_below (suc n) actions

-- all actions of the draft do so
abbrev pub order_rule : Draft → Bool
order_rule draft = nests_below 0 draft.actions

-- ---- 5: every role of what is nested or played is filled by somebody, and nobody fills two

-- no two of the numbers are the same
abbrev pub all_differ : List ℕ → Bool
all_differ [] = true
all_differ (x ∷ xs) = not (member x xs) && all_differ xs

-- these fill the roles of the action, each once
abbrev pub fills : Draft → ℕ → List ℕ → Bool
fills draft action who = (length who == length (slice_index_or draft.actions action no_action).roles) && all_differ who

-- the same roles of the enclosing action fill each alternate
abbrev pub nest_fills : Draft → NestRow → Bool
nest_fills draft nest = list_all (λ action. fills draft action nest.roles) nest.actions

-- the roles of all nested uses and plays are filled
abbrev pub fill_rule : Draft → Bool
fill_rule draft =
    list_all (λ action. list_all (nest_fills draft) action.nests) draft.actions
    && list_all (λ play. fills draft play.action play.who) draft.plays

-- ---- 6: a body goes once through each use in which its role takes part, in the order of the uses; a handler through none

-- the uses that these steps enter, in their order
abbrev pub entered_by : List Step → List ℕ
entered_by [] = []
entered_by (step.Enter n ∷ steps) = n ∷ entered_by steps
entered_by (_ ∷ steps) = entered_by steps

-- the uses that a role fills; `n` is the number of the first
abbrev pub filled_by : ℕ → ℕ → List NestRow → List ℕ
filled_by role n [] = []
filled_by role n (nest ∷ nests) = if member role nest.roles then n ∷ filled_by role (suc n) nests else filled_by role (suc n) nests

-- the lists have the same numbers in the same order
abbrev pub same_numbers : List ℕ → List ℕ → Bool
same_numbers [] [] = true
same_numbers [] (y ∷ ys) = false
same_numbers (x ∷ xs) [] = false
same_numbers (x ∷ xs) (y ∷ ys) = (x == y) && same_numbers xs ys

-- the roles from number n on enter what they fill, and their handlers nothing
abbrev pub roles_enter : List NestRow → ℕ → List RoleRow → Bool
roles_enter nests n [] = true
roles_enter nests n (role ∷ roles) =
    same_numbers (entered_by role.body.steps) (filled_by n 0 nests)
    && (list_all (λ h. is_empty (entered_by h.program.steps)) role.handlers && roles_enter nests (suc n) roles)

-- the roles of all actions do so
abbrev pub enter_rule : Draft → Bool
enter_rule draft = list_all (λ action. roles_enter action.nests 0 action.roles) draft.actions

-- ---- 7: an action owns all objects that its steps, and the actions nested in it, touch

-- a step touches one of these objects, or none at all
abbrev pub holds_step : List ℕ → Step → Bool
holds_step objects (step.Read o) = member o objects
holds_step objects (step.Put o v) = member o objects
holds_step objects (step.Add o v) = member o objects
holds_step objects _ = true

-- so does each step of a role
abbrev pub holds_role : List ℕ → RoleRow → Bool
holds_role objects role =
    list_all (holds_step objects) role.body.steps && list_all (λ h. list_all (holds_step objects) h.program.steps) role.handlers

-- the actions of a nested use own none but these objects
abbrev pub holds_nest : Draft → List ℕ → NestRow → Bool
holds_nest draft objects nest =
    list_all (λ action. list_all (λ o. member o objects) (slice_index_or draft.actions action no_action).objects) nest.actions

-- an action owns what its roles and its nested uses touch
abbrev pub holds_action : Draft → ActionRow → Bool
holds_action draft action =
    list_all (holds_role action.objects) action.roles && list_all (holds_nest draft action.objects) action.nests

-- so does each action of the draft
abbrev pub object_rule : Draft → Bool
object_rule draft = list_all (holds_action draft) draft.actions

-- ---- 8: no action is deeper than the most; what nests nothing has depth 1

-- the greatest depth of these actions
abbrev pub deepest_of : (ℕ → ℕ) → List ℕ → ℕ
deepest_of depth [] = 0
deepest_of depth (a ∷ rest) = max (depth a) (deepest_of depth rest)

-- the greatest depth of nested uses
abbrev pub deepest : (ℕ → ℕ) → List NestRow → ℕ
deepest depth [] = 0
deepest depth (nest ∷ nests) = max (deepest_of depth nest.actions) (deepest depth nests)

-- the depth of an action, as far as `most` tells
unfoldable pub depth_within : ℕ → List ActionRow → ℕ → ℕ
depth_within zero actions a = 0
depth_within (suc most) actions a = suc (deepest (depth_within most actions) (slice_index_or actions a no_action).nests)

-- the actions from number n on are no deeper than the most
abbrev pub depths_fit : ℕ → List ActionRow → List ActionRow → Bool
depths_fit n actions [] = true
depths_fit n actions (a ∷ rest) = nat_le (depth_within (suc most_depth) actions n) most_depth && depths_fit (suc n) actions rest

-- all actions of the draft are so
abbrev pub depth_rule : Draft → Bool
depth_rule draft = depths_fit 0 draft.actions draft.actions

-- ---- 9: a role handles no exception twice, and whatever a nested use tells is mapped

-- no two handlers of a role are for the same exception
abbrev pub handlers_differ : RoleRow → Bool
handlers_differ role = all_differ (map (λ (h : HandlerRow). h.exception) role.handlers)

-- the interface graph of the first action of a use
abbrev pub face_of : Draft → NestRow → ℕ
face_of draft nest = (slice_index_or draft.actions (slice_index_or nest.actions 0 0) no_action).interface

-- a nested use maps as many exceptions as its first action can tell
abbrev pub maps_all : Draft → NestRow → Bool
maps_all draft nest = length nest.maps == exceptions_of draft (face_of draft nest)

-- both hold of all actions of the draft
abbrev pub handler_rule : Draft → Bool
handler_rule draft =
    list_all (λ action. list_all handlers_differ action.roles && list_all (maps_all draft) action.nests) draft.actions

-- ---- 10: the places and the bound are within the limits

-- what the draft unfolds into is small enough
abbrev pub bound_rule : Draft → Bool
bound_rule draft = nat_le (length (plan_of draft).places) most_places && nat_le (bound (plan_of draft)) most_entries

-- ---- 11: all actions of a use tell the same exceptions outside

-- all actions of a use have the interface graph of its first
abbrev pub has_one_face : Draft → NestRow → Bool
has_one_face draft nest =
    list_all (λ action. (slice_index_or draft.actions action no_action).interface == face_of draft nest) nest.actions

-- so have those of each use of the draft
abbrev pub face_rule : Draft → Bool
face_rule draft = list_all (λ action. list_all (has_one_face draft) action.nests) draft.actions

-- ---- all rules

-- this rule, where it is broken, else the next one that is
abbrev pub broken_if : Bool → ℕ → Option ℕ → Option ℕ
broken_if true rule next = next
broken_if false rule next = Some rule

-- the least rule that the draft breaks
abbrev pub broken_rule : Draft → Option ℕ
broken_rule draft =
    broken_if (size_rule draft) 1 (broken_if (graph_rule draft) 2 (broken_if (range_rule draft) 3
    (broken_if (order_rule draft) 4 (broken_if (fill_rule draft) 5 (broken_if (enter_rule draft) 6
    (broken_if (object_rule draft) 7 (broken_if (depth_rule draft) 8 (broken_if (handler_rule draft) 9
    (broken_if (bound_rule draft) 10 (broken_if (face_rule draft) 11 None))))))))))

-- the draft breaks no rule of a number below 10
pub record KeepsParts (draft : Draft) : Type 0 where
  pub sizes : size_rule draft ≡ true
  pub graphs : graph_rule draft ≡ true
  pub ranges : range_rule draft ≡ true
  pub order : order_rule draft ≡ true
  pub fillings : fill_rule draft ≡ true
  pub enters : enter_rule draft ≡ true
  pub objects : object_rule draft ≡ true
  pub depths : depth_rule draft ≡ true
  pub handlers : handler_rule draft ≡ true
