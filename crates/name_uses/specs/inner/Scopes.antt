-- What is kept of the names that the lines so far have declared.
use Rattle.std.specs.Prelude.{ℕ, ◌+◌, List, [], ◌∷◌, ◌++◌, map, length, slice_index_or, slice_set, Option, Some, None, unwrap_or}
use Rattle.caa_base.specs.Written.Lists.{index_of, first_of}
use Rattle.action_script.specs.declared.forms.form.Form.{Form}
use Rattle.action_script.specs.declared.forms.form.Form.TheVariants as form
use Rattle.action_script.specs.declared.lines.sort.Sort.{Sort}
use Rattle.action_script.specs.declared.lines.sort.Sort.TheVariants as sort
use Rattle.place_plan.specs.declared.drafts.draft_rows.ActionRow.{ActionRow}
use Rattle.script_checker.specs.declared.declared.SoFar.{SoFar}
use Rattle.script_checker.specs.declared.declared.Block.{Block}
use Rattle.script_checker.specs.declared.declared.Block.TheVariants as block
use Rattle.script_checker.specs.declared.open_action.OpenAction.{OpenAction}
use Rattle.script_checker.specs.declared.open_action.OpenNest.{OpenNest}
use Rattle.script_checker.specs.declared.open_graph.DeclaredGraph.{DeclaredGraph}
use Rattle.name_uses.specs.declared.scope.Scope.{Scope}
use Rattle.name_uses.specs.declared.scope.Inside.{Inside}
use Rattle.name_uses.specs.declared.scope.Inside.TheVariants as inside
use Rattle.name_uses.specs.declared.scope.OpenNames.{OpenNames}
use Rattle.name_uses.specs.declared.thing.Thing.{Thing}
use Rattle.name_uses.specs.declared.thing.Thing.TheVariants as thing

-- ---- what is kept of what the checks have declared

-- of an action that is open
abbrev pub names_of_action : OpenAction → OpenNames
names_of_action a = record {
  internal = unwrap_or a.internal 0;
  interface = unwrap_or a.interface 0;
  roles = a.roles;
  nests = a.nest_names;
  firsts = map (λ (nest : OpenNest). first_of nest.row.actions) a.nests;
}

-- of a block
abbrev pub inside_of : Block → Inside
inside_of block.Top = inside.Top
inside_of (block.Graph g) = inside.Graph g.exceptions
inside_of (block.Action a) = inside.Action (names_of_action a)

-- of all
abbrev pub scope_of : SoFar → Scope
scope_of s = record {
  universal = s.declared.universal;
  participants = s.declared.participants;
  objects = s.declared.objects;
  graph_names = s.declared.graph_names;
  action_names = s.declared.action_names;
  graphs = map (λ (g : DeclaredGraph). g.exceptions) s.declared.graphs;
  faces = map (λ (row : ActionRow). row.interface) s.declared.actions;
  inside = inside_of s.block;
}

-- ---- what a line adds

-- the action that has just begun
abbrev pub no_names : OpenNames
no_names = record { internal = 0; interface = 0; roles = []; nests = []; firsts = [] }

-- a line at the top
abbrev pub said_at_top : Scope → Form → Scope
said_at_top scope (form.Participant name) = record scope { participants = scope.participants ++ name ∷ [] }
said_at_top scope (form.Object name value) = record scope { objects = scope.objects ++ name ∷ [] }
said_at_top scope (form.Graph name) =
    record scope { graph_names = scope.graph_names ++ name ∷ []; inside = inside.Graph (scope.universal ∷ []) }
said_at_top scope (form.Action name) =
    record scope { action_names = scope.action_names ++ name ∷ []; inside = inside.Action no_names }
said_at_top scope f = scope

-- a line of a graph with these exceptions
abbrev pub said_in_graph : List ℕ → Form → List ℕ
said_in_graph exceptions (form.Exception name) = exceptions ++ name ∷ []
said_in_graph exceptions f = exceptions

-- the first action of a nested use of which this was the first, with one more behind it
abbrev pub first_with : Option ℕ → ℕ → Option ℕ
first_with None action = Some action
first_with (Some first) action = Some first

-- the first actions of nested uses, where the use of this number gets one more
abbrev pub firsts_with : List (Option ℕ) → ℕ → ℕ → List (Option ℕ)
firsts_with firsts nest action = slice_set firsts nest (first_with (slice_index_or firsts nest None) action)

-- a line of an action, where these graphs and actions are declared
abbrev pub said_in_action : List ℕ → List ℕ → OpenNames → Form → OpenNames
said_in_action graphs actions a (form.Internal graph) = record a { internal = index_of graph graphs + 1 }
said_in_action graphs actions a (form.Interface graph) = record a { interface = index_of graph graphs + 1 }
said_in_action graphs actions a (form.Roles roles) = record a { roles = roles }
said_in_action graphs actions a (form.Nest nest action roles) = record a {
  nests = a.nests ++ nest ∷ [];
  firsts = a.firsts ++ Some (index_of action actions) ∷ [];
}
said_in_action graphs actions a (form.Alternate nest action) =
    record a { firsts = firsts_with a.firsts (index_of nest a.nests) (index_of action actions) }
said_in_action graphs actions a f = a

-- the end of a block
abbrev pub ended : Scope → Inside → Scope
ended scope inside.Top = scope
ended scope (inside.Graph exceptions) = record scope { graphs = scope.graphs ++ exceptions ∷ []; inside = inside.Top }
ended scope (inside.Action a) = record scope { faces = scope.faces ++ a.interface ∷ []; inside = inside.Top }

-- any line
abbrev pub said_in : Scope → Inside → Form → Scope
said_in scope within form.End = ended scope within
said_in scope inside.Top f = said_at_top scope f
said_in scope (inside.Graph exceptions) f = record scope { inside = inside.Graph (said_in_graph exceptions f) }
said_in scope (inside.Action a) f = record scope { inside = inside.Action (said_in_action scope.graph_names scope.action_names a f) }

abbrev pub said : Scope → Form → Scope
said scope f = said_in scope scope.inside f

-- ---- what a name means

abbrev pub roles_at : Inside → List ℕ
roles_at (inside.Action a) = a.roles
roles_at _ = []

abbrev pub nests_at : Inside → List ℕ
nests_at (inside.Action a) = a.nests
nests_at _ = []

abbrev pub own_at : Inside → List ℕ
own_at (inside.Graph exceptions) = exceptions
own_at _ = []

abbrev pub internal_at : Inside → ℕ
internal_at (inside.Action a) = a.internal
internal_at _ = 0

abbrev pub interface_at : Inside → ℕ
interface_at (inside.Action a) = a.interface
interface_at _ = 0

-- the first action of a nested use of this name
abbrev pub first_at : Inside → ℕ → ℕ
first_at (inside.Action a) nest = unwrap_or (slice_index_or a.firsts (index_of nest a.nests) None) 0
first_at _ nest = 0

-- the graph that the actions of a nested use tell outside
abbrev pub face_at : Scope → Inside → ℕ → ℕ
face_at scope (inside.Action a) nest = slice_index_or scope.faces (first_at (inside.Action a) nest) 0
face_at scope _ nest = 0

abbrev pub exception_at : Scope → ℕ → ℕ → Thing
exception_at scope g name = thing.Exception g (index_of name (slice_index_or scope.graphs g []))

abbrev pub meaning_at : Scope → Sort → ℕ → Thing
meaning_at scope sort.Participant name = thing.Participant (index_of name scope.participants)
meaning_at scope sort.Object name = thing.Object (index_of name scope.objects)
meaning_at scope sort.Graph name = thing.Graph (index_of name scope.graph_names + 1)
meaning_at scope sort.Action name = thing.Action (index_of name scope.action_names)
meaning_at scope sort.Role name = thing.Role (length scope.faces) (index_of name (roles_at scope.inside))
meaning_at scope sort.Nest name = thing.Nest (length scope.faces) (index_of name (nests_at scope.inside))
meaning_at scope sort.Own name = thing.Exception (length scope.graphs) (index_of name (own_at scope.inside))
meaning_at scope sort.Inner name = exception_at scope (internal_at scope.inside) name
meaning_at scope sort.Outer name = exception_at scope (interface_at scope.inside) name
meaning_at scope (sort.Told nest) name = exception_at scope (face_at scope scope.inside nest) name
