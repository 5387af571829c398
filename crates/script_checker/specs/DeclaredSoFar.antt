-- What the lines of a script up to some line have declared; names go by their numbers in the script.
use Rattle.std.specs.Prelude.{ℕ, ◌+◌, false, List, [], ◌∷◌, map, slice_index_or, None, unwrap_or, codes}
use Rattle.place_plan.specs.declared.drafts.draft_rows.ActionRow.{ActionRow}
use Rattle.place_plan.specs.declared.drafts.draft_rows.RoleRow.{RoleRow}
use Rattle.place_plan.specs.declared.drafts.draft_rows.NestRow.{NestRow}
use Rattle.caa_base.specs.Written.Lists.{index_of}
use Rattle.place_plan.specs.Plans.Places.{no_action, no_nest, no_role}
use Rattle.action_script.specs.Words.NumberedNames.{number_in}
use Rattle.script_checker.specs.declared.declared.SoFar.{SoFar}
use Rattle.script_checker.specs.declared.declared.Declared.{Declared}
use Rattle.script_checker.specs.declared.declared.Block.TheVariants as block
use Rattle.script_checker.specs.declared.open_graph.DeclaredGraph.{DeclaredGraph}
use Rattle.script_checker.specs.declared.open_action.OpenAction.{OpenAction}
use Rattle.script_checker.specs.declared.open_action.OpenNest.{OpenNest}

-- ---- before anything is said

-- a graph of `universal` alone, as the plain graph is, and each as it begins
abbrev pub plain_graph : ℕ → DeclaredGraph
plain_graph universal = record { exceptions = universal ∷ []; pairs = [] }

-- a graph without exceptions
abbrev pub no_graph : DeclaredGraph
no_graph = record { exceptions = []; pairs = [] }

-- a nested use of which nothing is mapped yet
abbrev pub begun_nest : NestRow → OpenNest
begun_nest row = record { row = row; mapped = []; has_undo = false; has_failure = false }

-- an action of which nothing is said yet but its name
abbrev pub named : ℕ → OpenAction
named name = record {
  name = name;
  internal = None;
  interface = None;
  fault = None;
  uses = [];
  roles = [];
  role_rows = [];
  bodies = [];
  nest_names = [];
  nests = [];
  program = None;
}

-- nothing is declared but the plain graph; the number of `universal` is this
abbrev pub nothing_declared : ℕ → Declared
nothing_declared universal = record {
  universal = universal;
  participants = [];
  objects = [];
  graph_names = [];
  action_names = [];
  participant_rows = [];
  object_rows = [];
  graphs = plain_graph universal ∷ [];
  actions = [];
  depths = [];
  places = [];
  bounds = [];
  plays = [];
  all_places = 0;
  whole_bound = 0;
  drills = [];
  watches = [];
}

-- before the first line of a script with these names
abbrev pub nothing_yet : List (List ℕ) → SoFar
nothing_yet names = record { declared = nothing_declared (number_in names (codes "universal")); block = block.Top }

-- ---- what the names of a line mean there

-- the number of a graph: those that are declared come after the plain one
abbrev pub graph_number : Declared → ℕ → ℕ
graph_number d name = index_of name d.graph_names + 1

-- the exceptions of a graph by name
abbrev pub exceptions_at : List DeclaredGraph → ℕ → List ℕ
exceptions_at graphs g = (slice_index_or graphs g no_graph).exceptions

-- the exceptions that may be raised in the open action: those of its `internal` graph, or `universal` alone where no line above has
-- named one
abbrev pub inner : Declared → OpenAction → List ℕ
inner d a = exceptions_at d.graphs (unwrap_or a.internal 0)

-- those that it may tell outside: of its `interface` graph, in the same way
abbrev pub outer : Declared → OpenAction → List ℕ
outer d a = exceptions_at d.graphs (unwrap_or a.interface 0)

-- an action of this name
abbrev pub action_of : Declared → ℕ → ActionRow
action_of d name = slice_index_or d.actions (index_of name d.action_names) no_action

-- a nested use of this name
abbrev pub nest_of : OpenAction → ℕ → OpenNest
nest_of a name = slice_index_or a.nests (index_of name a.nest_names) (begun_nest no_nest)

-- the rows of all nested uses
abbrev pub nest_rows : List OpenNest → List NestRow
nest_rows nests = map (λ (nest : OpenNest). nest.row) nests

-- the graph of the exceptions that the actions of a nested use tell outside: that of its first action
abbrev pub face_of : Declared → OpenAction → ℕ → ℕ
face_of d a nest = (slice_index_or d.actions (slice_index_or (nest_of a nest).row.actions 0 0) no_action).interface

-- their exceptions
abbrev pub face : Declared → OpenAction → ℕ → List ℕ
face d a nest = exceptions_at d.graphs (face_of d a nest)

-- a role of this name
abbrev pub role_of : OpenAction → ℕ → RoleRow
role_of a name = slice_index_or a.role_rows (index_of name a.roles) no_role
