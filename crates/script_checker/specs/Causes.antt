-- The causes for which a line is refused, by what the lines before it declare and by the block that it stands in.
use Rattle.std.specs.Prelude.{◌≡◌, ℕ, Bool, true, false, not, List, length, codes}
use Rattle.exception_graph.specs.Chains.{IsFirstInCycle, IsFirstUnjoined}
use Rattle.action_script.specs.declared.lines.sort.Sort.{Sort}
use Rattle.action_script.specs.declared.lines.sort.Sort.TheVariants as sort
use Rattle.action_script.specs.declared.forms.form.Form.{Form}
use Rattle.action_script.specs.declared.forms.form.Form.TheVariants as form
use Rattle.action_script.specs.Forms.Uses.{are_declared}
use Rattle.script_checker.specs.declared.check_error.CheckCause.{CheckCause}
use Rattle.script_checker.specs.declared.check_error.CheckCause.TheVariants as cause
use Rattle.script_checker.specs.declared.declared.SoFar.{SoFar}
use Rattle.script_checker.specs.declared.declared.Declared.{Declared}
use Rattle.script_checker.specs.declared.declared.Block.{Block}
use Rattle.script_checker.specs.declared.declared.Block.TheVariants as block
use Rattle.script_checker.specs.declared.open_graph.DeclaredGraph.{DeclaredGraph}
use Rattle.script_checker.specs.declared.open_action.OpenAction.{OpenAction}
use Rattle.script_checker.specs.Numbers.{is_among}
use Rattle.script_checker.specs.DeclaredSoFar.{inner, outer, face}
use Rattle.script_checker.specs.AtTop.{is_action, twice_at_top, unfilled_at_top, filled_twice_at_top, past_limit_at_top, past_bound_at_top}
use Rattle.script_checker.specs.InGraph.{twice_in_graph, past_limit_in_graph}
use Rattle.script_checker.specs.InAction.{twice_in_action, unfilled_in_action, filled_twice_in_action, enters_otherwise_in_action, not_held_in_action, too_deep_in_action, past_limit_in_action, other_face_in_action}

-- ---- names

-- a test of the graph that the line stands in, and one of the action
abbrev pub in_graph : (DeclaredGraph → Bool) → Block → Bool
in_graph test (block.Graph g) = test g
in_graph test _ = false

abbrev pub in_action : (OpenAction → Bool) → Block → Bool
in_action test (block.Action a) = test a
in_action test _ = false

-- a name is declared as this
abbrev pub is_declared : Declared → Block → Sort → ℕ → Bool
is_declared d b sort.Participant name = is_among d.participants name
is_declared d b sort.Object name = is_among d.objects name
is_declared d b sort.Graph name = is_among d.graph_names name
is_declared d b sort.Action name = is_action d name
is_declared d b sort.Role name = in_action (λ a. is_among a.roles name) b
is_declared d b sort.Nest name = in_action (λ a. is_among a.nest_names name) b
is_declared d b sort.Own name = in_graph (λ g. is_among g.exceptions name) b
is_declared d b sort.Inner name = in_action (λ a. is_among (inner d a) name) b
is_declared d b sort.Outer name = in_action (λ a. is_among (outer d a) name) b
is_declared d b (sort.Told nest) name = in_action (λ a. is_among (face d a nest) name) b

-- a name that the line uses isn't declared as it has to be
abbrev pub is_unknown : Declared → Block → Form → Bool
is_unknown d b f = not (are_declared (is_declared d b) f)

-- ---- tests that each block has

-- the line declares or says again what was declared or said
abbrev pub is_twice : Declared → Block → Form → Bool
is_twice d block.Top f = twice_at_top d f
is_twice d (block.Graph g) f = twice_in_graph g f
is_twice d (block.Action a) f = twice_in_action d a f

-- the line passes a limit
abbrev pub is_past_limit : Declared → Block → Form → Bool
is_past_limit d block.Top f = past_limit_at_top d f
is_past_limit d (block.Graph g) f = past_limit_in_graph g f
is_past_limit d (block.Action a) f = past_limit_in_action d a f

-- ---- tests of lines outside graphs

-- the line fills another number of roles than the action has, or ends an action that has none
abbrev pub is_unfilled : Declared → Block → Form → Bool
is_unfilled d block.Top f = unfilled_at_top d f
is_unfilled d (block.Graph g) f = false
is_unfilled d (block.Action a) f = unfilled_in_action d a f

-- the line fills two roles by one
abbrev pub fills_twice : Block → Form → Bool
fills_twice block.Top f = filled_twice_at_top f
fills_twice (block.Graph g) f = false
fills_twice (block.Action a) f = filled_twice_in_action f

-- ---- tests of one block

-- with the play a journal could have too many entries
abbrev pub is_past_bound : Declared → Block → Form → Bool
is_past_bound d block.Top f = past_bound_at_top d f
is_past_bound d _ f = false

-- the line ends a graph of which this holds
abbrev pub EndsGraph : (DeclaredGraph → Type 0) → Block → Form → Type 0
EndsGraph Holds (block.Graph g) form.End = Holds g
EndsGraph Holds b f = ⊥

-- ---- the cause of a line

-- a line has this cause
abbrev pub HasCause : SoFar → Form → CheckCause → Type 0
HasCause s f cause.Unknown = is_unknown s.declared s.block f ≡ true
HasCause s f cause.Twice = is_twice s.declared s.block f ≡ true
HasCause s f (cause.Cycle at) = EndsGraph (λ g. IsFirstInCycle (length g.exceptions) g.pairs at) s.block f
HasCause s f (cause.NoLeast a b) = EndsGraph (λ g. IsFirstUnjoined (length g.exceptions) g.pairs a b) s.block f
HasCause s f cause.RoleUnfilled = is_unfilled s.declared s.block f ≡ true
HasCause s f cause.RoleTwice = fills_twice s.block f ≡ true
HasCause s f cause.NestOrder = in_action (λ a. enters_otherwise_in_action a f) s.block ≡ true
HasCause s f cause.ObjectNotHeld = in_action (λ a. not_held_in_action s.declared a f) s.block ≡ true
HasCause s f cause.TooDeep = in_action (λ a. too_deep_in_action s.declared f) s.block ≡ true
HasCause s f cause.Limit = is_past_limit s.declared s.block f ≡ true
HasCause s f cause.JournalBound = is_past_bound s.declared s.block f ≡ true
HasCause s f cause.AlternateFace = in_action (λ a. other_face_in_action s.declared a f) s.block ≡ true
HasCause s f cause.OutOfMemory = ⊥

-- ---- how it is told

-- the number of a cause
abbrev pub number_of : CheckCause → ℕ
number_of cause.Unknown = 10
number_of cause.Twice = 11
number_of (cause.Cycle at) = 12
number_of (cause.NoLeast a b) = 13
number_of cause.RoleUnfilled = 14
number_of cause.RoleTwice = 15
number_of cause.NestOrder = 16
number_of cause.ObjectNotHeld = 17
number_of cause.TooDeep = 18
number_of cause.Limit = 19
number_of cause.JournalBound = 20
number_of cause.OutOfMemory = 21
number_of cause.AlternateFace = 22

-- its number and its word
abbrev pub phrase_of : CheckCause → List ℕ
phrase_of cause.Unknown = codes "10 unknown"
phrase_of cause.Twice = codes "11 twice"
phrase_of (cause.Cycle at) = codes "12 cycle"
phrase_of (cause.NoLeast a b) = codes "13 no-least"
phrase_of cause.RoleUnfilled = codes "14 role-unfilled"
phrase_of cause.RoleTwice = codes "15 role-twice"
phrase_of cause.NestOrder = codes "16 nest-order"
phrase_of cause.ObjectNotHeld = codes "17 object-not-held"
phrase_of cause.TooDeep = codes "18 too-deep"
phrase_of cause.Limit = codes "19 limit"
phrase_of cause.JournalBound = codes "20 journal-bound"
phrase_of cause.OutOfMemory = codes "21 out-of-memory"
phrase_of cause.AlternateFace = codes "22 alternate-face"
