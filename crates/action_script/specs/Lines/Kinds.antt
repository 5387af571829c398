-- The kinds of lines: the word that begins a line of each, what its other words are, where it may stand and where the reader is
-- after it.
use Rattle.std.specs.Prelude.{ℕ, ◌==◌, nat_le, if◌then◌else◌, Bool, true, false, not, List, [], ◌∷◌, Option, Some, None, unwrap_or, length, codes}
use Rattle.action_script.specs.declared.lines.field.Part.{Part}
use Rattle.action_script.specs.declared.lines.field.Part.TheVariants as part
use Rattle.action_script.specs.declared.lines.sort.Sort.{Sort}
use Rattle.action_script.specs.declared.lines.sort.Sort.TheVariants as sort
use Rattle.action_script.specs.declared.lines.sort.Naming.TheVariants as naming
use Rattle.action_script.specs.declared.lines.kind.Section.{Section}
use Rattle.action_script.specs.declared.lines.kind.Section.TheVariants as section
use Rattle.action_script.specs.declared.lines.kind.Stand.{Stand}
use Rattle.action_script.specs.declared.lines.kind.Stand.TheVariants as stand
use Rattle.action_script.specs.declared.lines.kind.LineKind.{LineKind}
use Rattle.action_script.specs.declared.lines.kind.LineKind.TheVariants as kind

-- ---- where the reader is

-- outside all graphs and actions
abbrev pub at_top : Section → Bool
at_top section.Top = true
at_top _ = false

-- in a graph
abbrev pub in_graph : Section → Bool
in_graph section.Graph = true
in_graph _ = false

-- in an action, be it in a body or a handler or not
abbrev pub in_action : Section → Bool
in_action section.Action = true
in_action section.Body = true
in_action section.Handler = true
in_action _ = false

-- in a body or a handler
abbrev pub in_program : Section → Bool
in_program section.Body = true
in_program section.Handler = true
in_program _ = false

-- in the body of a role
abbrev pub in_body : Section → Bool
in_body section.Body = true
in_body _ = false

-- at a place where lines may stand
abbrev pub is_at : Stand → Section → Bool
is_at stand.Top s = at_top s
is_at stand.Graph s = in_graph s
is_at stand.Action s = in_action s
is_at stand.Program s = in_program s
is_at stand.Body s = in_body s
is_at stand.Block s = not (at_top s)

-- ---- the table of the kinds

-- what all lines of a kind have in common: the word that begins them; what the words after it are asked to be; whether further names
-- may follow; where they may stand; and where the reader is after them, if it doesn't stay where it is
pub record KindRow : Type 0 where
  pub word : List ℕ
  pub parts : List Part
  pub goes_on : Bool
  pub stand : Stand
  pub leads_to : Option Section

abbrev pub row : List ℕ → List Part → Bool → Stand → Option Section → KindRow
row word parts goes_on stand leads_to = record { word = word; parts = parts; goes_on = goes_on; stand = stand; leads_to = leads_to }

-- a name that the line declares as this, one that was declared as this, and one that the nested use named first tells outside
abbrev pub new : Sort → Part
new s = part.Name (naming.New s)

abbrev pub used : Sort → Part
used s = part.Name (naming.Used s)

abbrev pub told : Part
told = part.Name naming.ToldOutside

-- the row of each kind
abbrev pub row_of : LineKind → KindRow
row_of kind.Participant = row (codes "participant") (new sort.Participant ∷ []) false stand.Top None
row_of kind.Object = row (codes "object") (new sort.Object ∷ part.Value ∷ []) false stand.Top None
row_of kind.Drill = row (codes "drill") (used sort.Object ∷ part.Count ∷ []) false stand.Top None
row_of kind.Watch = row (codes "watch") (used sort.Object ∷ []) false stand.Top None
row_of kind.Graph = row (codes "graph") (new sort.Graph ∷ []) false stand.Top (Some section.Graph)
row_of kind.Action = row (codes "action") (new sort.Action ∷ []) false stand.Top (Some section.Action)
row_of kind.Play = row (codes "play") (used sort.Action ∷ used sort.Participant ∷ []) true stand.Top None
row_of kind.Exception = row (codes "exception") (new sort.Own ∷ []) false stand.Graph None
row_of kind.Cover = row (codes "cover") (used sort.Own ∷ used sort.Own ∷ []) false stand.Graph None
row_of kind.End = row (codes "end") [] false stand.Block (Some section.Top)
row_of kind.Internal = row (codes "internal") (used sort.Graph ∷ []) false stand.Action (Some section.Action)
row_of kind.Interface = row (codes "interface") (used sort.Graph ∷ []) false stand.Action (Some section.Action)
row_of kind.Fault = row (codes "fault") (used sort.Inner ∷ []) false stand.Action (Some section.Action)
row_of kind.Use = row (codes "use") (used sort.Object ∷ []) true stand.Action (Some section.Action)
row_of kind.Roles = row (codes "roles") (new sort.Role ∷ []) true stand.Action (Some section.Action)
row_of kind.Nest = row (codes "nest") (new sort.Nest ∷ used sort.Action ∷ used sort.Role ∷ []) true stand.Action (Some section.Action)
row_of kind.Map = row (codes "map") (used sort.Nest ∷ told ∷ used sort.Inner ∷ []) false stand.Action (Some section.Action)
row_of kind.MapUndo = row (codes "mapundo") (used sort.Nest ∷ used sort.Inner ∷ []) false stand.Action (Some section.Action)
row_of kind.MapFailure = row (codes "mapfailure") (used sort.Nest ∷ used sort.Inner ∷ []) false stand.Action (Some section.Action)
row_of kind.Alternate = row (codes "alternate") (used sort.Nest ∷ used sort.Action ∷ []) false stand.Action (Some section.Action)
row_of kind.Abort = row (codes "abort") (used sort.Role ∷ used sort.Outer ∷ []) false stand.Action (Some section.Action)
row_of kind.AbortTest = row (codes "abort") (used sort.Role ∷ part.Test ∷ part.Value ∷ used sort.Outer ∷ []) false stand.Action (Some section.Action)
row_of kind.Body = row (codes "body") (used sort.Role ∷ []) false stand.Action (Some section.Body)
row_of kind.Handler = row (codes "handler") (used sort.Role ∷ used sort.Inner ∷ []) false stand.Action (Some section.Handler)
row_of kind.Read = row (codes "read") (used sort.Object ∷ []) false stand.Program None
row_of kind.Put = row (codes "put") (used sort.Object ∷ part.Value ∷ []) false stand.Program None
row_of kind.Add = row (codes "add") (used sort.Object ∷ part.Value ∷ []) false stand.Program None
row_of kind.Work = row (codes "work") (part.Rounds ∷ []) false stand.Program None
row_of kind.Check = row (codes "check") (part.Test ∷ part.Value ∷ used sort.Inner ∷ []) false stand.Program None
row_of kind.Raise = row (codes "raise") (used sort.Inner ∷ []) false stand.Program None
row_of kind.Enter = row (codes "enter") (used sort.Nest ∷ []) false stand.Body None
row_of kind.Done = row (codes "done") [] false stand.Program (Some section.Action)
row_of kind.Signal = row (codes "signal") (used sort.Outer ∷ []) false stand.Program (Some section.Action)
row_of kind.Undo = row (codes "undo") [] false stand.Program (Some section.Action)

-- the word that begins a line
abbrev pub word_of : LineKind → List ℕ
word_of kind = (row_of kind).word

-- what the words after the first are asked to be; where names may go on, these are the fewest
abbrev pub parts_of : LineKind → List Part
parts_of kind = (row_of kind).parts

-- further names may follow these words
abbrev pub may_go_on : LineKind → Bool
may_go_on kind = (row_of kind).goes_on

-- the line has so many words after the first
abbrev pub takes : LineKind → ℕ → Bool
takes kind count = if may_go_on kind then nat_le (length (parts_of kind)) count else length (parts_of kind) == count

-- the line may stand where the reader is
abbrev pub stands_in : LineKind → Section → Bool
stands_in kind s = is_at (row_of kind).stand s

-- where the reader is after the line
abbrev pub goes_to : LineKind → Section → Section
goes_to kind s = unwrap_or (row_of kind).leads_to s

-- all kinds of lines
abbrev pub kinds : List LineKind
kinds =
    kind.Play
    ∷ kind.Exception
    ∷ kind.Cover
    ∷ kind.Read
    ∷ kind.Put
    ∷ kind.Add
    ∷ kind.Work
    ∷ kind.Check
    ∷ kind.Raise
    ∷ kind.Enter
    ∷ kind.Done
    ∷ kind.Signal
    ∷ kind.Undo
    ∷ kind.Nest
    ∷ kind.Map
    ∷ kind.MapUndo
    ∷ kind.MapFailure
    ∷ kind.Alternate
    ∷ kind.Body
    ∷ kind.Handler
    ∷ kind.Abort
    ∷ kind.AbortTest
    ∷ kind.End
    ∷ kind.Use
    ∷ kind.Roles
    ∷ kind.Graph
    ∷ kind.Action
    ∷ kind.Internal
    ∷ kind.Interface
    ∷ kind.Fault
    ∷ kind.Participant
    ∷ kind.Object
    ∷ kind.Drill
    ∷ kind.Watch
    ∷ []
