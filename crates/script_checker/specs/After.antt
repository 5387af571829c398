-- What is declared after a line, by the block that it stands in.
use Rattle.std.specs.Prelude.{ℕ, Bool, false, List, [], ◌∷◌, ◌++◌}
use Rattle.caa_base.specs.declared.written.entry.Verdict.TheVariants as verdict
use Rattle.action_script.specs.declared.forms.form.Form.{Form}
use Rattle.action_script.specs.declared.forms.form.Form.TheVariants as form
use Rattle.script_checker.specs.declared.declared.SoFar.{SoFar}
use Rattle.script_checker.specs.declared.declared.Declared.{Declared}
use Rattle.script_checker.specs.declared.declared.Block.{Block}
use Rattle.script_checker.specs.declared.declared.Block.TheVariants as block
use Rattle.script_checker.specs.declared.open_graph.DeclaredGraph.{DeclaredGraph}
use Rattle.script_checker.specs.declared.open_action.OpenAction.{OpenAction}
use Rattle.script_checker.specs.AtTop.{declared_with, block_begun}
use Rattle.script_checker.specs.InGraph.{graph_with}
use Rattle.script_checker.specs.InAction.{goes_on, closed, action_with, row_of, with_action}

-- ---- a line that ends no block: it changes the part alone that is open

-- a line at the top declares something, or begins a graph or an action
abbrev pub said_at_top : List (List ℕ) → Declared → Form → SoFar
said_at_top names d f = record { declared = declared_with names d f; block = block_begun d f }

-- a line in a graph says more of the graph
abbrev pub said_in_graph : Declared → DeclaredGraph → Form → SoFar
said_in_graph d g f = record { declared = d; block = block.Graph (graph_with g f) }

-- a line in an action says more of the action
abbrev pub said_in_action : List (List ℕ) → Declared → OpenAction → Form → SoFar
said_in_action names d a f = record { declared = d; block = block.Action (action_with names d a f) }

-- ---- the end of a block

-- what is declared with the graph or the action that ends
abbrev pub ended : List (List ℕ) → Declared → Block → Declared
ended names d block.Top = d
ended names d (block.Graph g) = record d { graphs = d.graphs ++ g ∷ [] }
ended names d (block.Action a) = with_action d (row_of names a)

-- ---- all lines

-- what a line adds, once a body or handler before it has ended
abbrev pub said_in : List (List ℕ) → Declared → Block → Form → SoFar
said_in names d b form.End = record { declared = ended names d b; block = block.Top }
said_in names d block.Top f = said_at_top names d f
said_in names d (block.Graph g) f = said_in_graph d g f
said_in names d (block.Action a) f = said_in_action names d a f

-- what is declared, and what is open, after what a line says
abbrev pub with_said : List (List ℕ) → SoFar → Form → SoFar
with_said names s f = said_in names s.declared s.block f

-- a line that is neither a step nor a verdict line ends a body or a handler without verdict line
abbrev pub settled_block : Bool → Block → Block
settled_block false (block.Action a) = block.Action (closed a verdict.Done)
settled_block goes_on b = b

-- what is declared when a line comes, and is checked by: where no verdict line ended a body or a handler, it has ended before a line
-- that is no step. So a handler that was just declared counts for a second one
abbrev pub settled : SoFar → Form → SoFar
settled s f = record s { block = settled_block (goes_on f) s.block }

-- what is declared after the line
abbrev pub after : List (List ℕ) → SoFar → Form → SoFar
after names s f = with_said names (settled s f) f
