-- What a name means where a line stands, by what the checks have declared there.
use Rattle.std.specs.Prelude.{ℕ, List, [], length, unwrap_or}
use Rattle.caa_base.specs.Written.Lists.{index_of}
use Rattle.action_script.specs.declared.lines.sort.Sort.{Sort}
use Rattle.action_script.specs.declared.lines.sort.Sort.TheVariants as sort
use Rattle.script_checker.specs.declared.declared.SoFar.{SoFar}
use Rattle.script_checker.specs.declared.declared.Declared.{Declared}
use Rattle.script_checker.specs.declared.declared.Block.{Block}
use Rattle.script_checker.specs.declared.declared.Block.TheVariants as block
use Rattle.script_checker.specs.DeclaredSoFar.{graph_number, exceptions_at, face_of}
use Rattle.name_uses.specs.declared.thing.Thing.{Thing}
use Rattle.name_uses.specs.declared.thing.Thing.TheVariants as thing

-- ---- the block that the line stands in

-- the roles of the action
abbrev pub roles_in : Block → List ℕ
roles_in (block.Action a) = a.roles
roles_in _ = []

-- its nested uses
abbrev pub nests_in : Block → List ℕ
nests_in (block.Action a) = a.nest_names
nests_in _ = []

-- the exceptions of the graph
abbrev pub own_in : Block → List ℕ
own_in (block.Graph g) = g.exceptions
own_in _ = []

-- the internal graph of the action
abbrev pub internal_in : Block → ℕ
internal_in (block.Action a) = unwrap_or a.internal 0
internal_in _ = 0

-- its interface graph
abbrev pub interface_in : Block → ℕ
interface_in (block.Action a) = unwrap_or a.interface 0
interface_in _ = 0

-- the graph of what the actions of a nested use tell outside
abbrev pub face_in : Declared → Block → ℕ → ℕ
face_in d (block.Action a) nest = face_of d a nest
face_in d _ nest = 0

-- ---- names

-- an exception of a graph by name
abbrev pub exception_of : Declared → ℕ → ℕ → Thing
exception_of d g name = thing.Exception g (index_of name (exceptions_at d.graphs g))

-- what a name means that is declared as this
abbrev pub meaning : Declared → Block → Sort → ℕ → Thing
meaning d b sort.Participant name = thing.Participant (index_of name d.participants)
meaning d b sort.Object name = thing.Object (index_of name d.objects)
meaning d b sort.Graph name = thing.Graph (graph_number d name)
meaning d b sort.Action name = thing.Action (index_of name d.action_names)
meaning d b sort.Role name = thing.Role (length d.actions) (index_of name (roles_in b))
meaning d b sort.Nest name = thing.Nest (length d.actions) (index_of name (nests_in b))
meaning d b sort.Own name = thing.Exception (length d.graphs) (index_of name (own_in b))
meaning d b sort.Inner name = exception_of d (internal_in b) name
meaning d b sort.Outer name = exception_of d (interface_in b) name
meaning d b (sort.Told nest) name = exception_of d (face_in d b nest) name

-- the same by what the lines so far have said
abbrev pub meant : SoFar → Sort → ℕ → Thing
meant s sort name = meaning s.declared s.block sort name
