-- The lines of a script stand in the blocks that its grammar says, so a script ends at the top.
use Rattle.std.proofs.Common.{◌≡◌, ℕ, Bool, true, false, List, [], ◌∷◌, refl}
use Rattle.std.proofs.lemmas.Bool.{and_parts, false≢true}
use Rattle.action_script.specs.declared.forms.form.Form.{Form}
use Rattle.action_script.specs.declared.forms.form.Form.TheVariants as form
use Rattle.action_script.specs.declared.forms.script.Line.{Line}
use Rattle.action_script.specs.declared.lines.kind.Section.{Section}
use Rattle.action_script.specs.declared.lines.kind.Section.TheVariants as section
use Rattle.action_script.specs.Lines.Kinds.{stands_in, goes_to, at_top}
use Rattle.action_script.specs.Forms.LineForms.{kind_of}
use Rattle.action_script.specs.Forms.Printing.{forms_of, lead_to_top}
use Rattle.script_checker.specs.declared.declared.SoFar.{SoFar}
use Rattle.script_checker.specs.declared.declared.Declared.{Declared}
use Rattle.script_checker.specs.declared.declared.Block.{Block}
use Rattle.script_checker.specs.declared.declared.Block.TheVariants as block
use Rattle.script_checker.specs.declared.open_graph.DeclaredGraph.{DeclaredGraph}
use Rattle.script_checker.specs.declared.open_action.OpenAction.{OpenAction}
use Rattle.script_checker.specs.InAction.{goes_on}
use Rattle.script_checker.specs.After.{said_in, settled_block, after}
use Rattle.script_checker.specs.Compiled.{declared_after}

-- the block is that of the section
abbrev pub IsAt : Section → Block → Type 0
IsAt section.Top block.Top = Unit {0}
IsAt section.Graph (block.Graph g) = Unit {0}
IsAt section.Action (block.Action a) = Unit {0}
IsAt section.Body (block.Action a) = Unit {0}
IsAt section.Handler (block.Action a) = Unit {0}
IsAt at b = ⊥

module _ (names : List (List ℕ)) (d : Declared) where
  top_at : (f : Form) → stands_in (kind_of f) section.Top ≡ true
      → IsAt (goes_to (kind_of f) section.Top) (said_in names d block.Top f).block
  top_at (form.Participant name) e = tt
  top_at (form.Object name v) e = tt
  top_at (form.Drill object nth) e = tt
  top_at (form.Watch object) e = tt
  top_at (form.Graph name) e = tt
  top_at (form.Action name) e = tt
  top_at (form.Play action who) e = tt
  top_at f e = absurd (false≢true e)

  graph_at : (g : DeclaredGraph) (f : Form) → stands_in (kind_of f) section.Graph ≡ true
      → IsAt (goes_to (kind_of f) section.Graph) (said_in names d (block.Graph g) f).block
  graph_at g (form.Exception name) e = tt
  graph_at g (form.Cover upper lower) e = tt
  graph_at g form.End e = tt
  graph_at g f e = absurd (false≢true e)

  action_at : (a : OpenAction) (f : Form) → stands_in (kind_of f) section.Action ≡ true
      → IsAt (goes_to (kind_of f) section.Action) (said_in names d (block.Action a) f).block
  action_at a (form.Graph name) e = absurd (false≢true e)
  action_at a f e = tt

  body_at : (a : OpenAction) (f : Form) → stands_in (kind_of f) section.Body ≡ true
      → IsAt (goes_to (kind_of f) section.Body) (said_in names d (block.Action a) f).block
  body_at a (form.Graph name) e = absurd (false≢true e)
  body_at a f e = tt

  handler_at : (a : OpenAction) (f : Form) → stands_in (kind_of f) section.Handler ≡ true
      → IsAt (goes_to (kind_of f) section.Handler) (said_in names d (block.Action a) f).block
  handler_at a (form.Graph name) e = absurd (false≢true e)
  handler_at a f e = tt

  says_at : (at : Section) (b : Block) (f : Form) → stands_in (kind_of f) at ≡ true → IsAt at b
      → IsAt (goes_to (kind_of f) at) (said_in names d b f).block
  says_at section.Top block.Top f e h = top_at f e
  says_at section.Graph (block.Graph g) f e h = graph_at g f e
  says_at section.Action (block.Action a) f e h = action_at a f e
  says_at section.Body (block.Action a) f e h = body_at a f e
  says_at section.Handler (block.Action a) f e h = handler_at a f e
  says_at at b f e h = absurd h

settles_at : (at : Section) (b : Block) (goes : Bool) → IsAt at b → IsAt at (settled_block goes b)
settles_at at b true h = h
settles_at at block.Top false h = h
settles_at at (block.Graph g) false h = h
settles_at section.Action (block.Action a) false h = tt
settles_at section.Body (block.Action a) false h = tt
settles_at section.Handler (block.Action a) false h = tt
settles_at section.Top (block.Action a) false h = h
settles_at section.Graph (block.Action a) false h = h

at_the_top : (at : Section) (b : Block) → at_top at ≡ true → IsAt at b → b ≡ block.Top
at_the_top section.Top block.Top e h = refl
at_the_top section.Top (block.Graph g) e h = absurd h
at_the_top section.Top (block.Action a) e h = absurd h
at_the_top section.Graph b e h = absurd (false≢true e)
at_the_top section.Action b e h = absurd (false≢true e)
at_the_top section.Body b e h = absurd (false≢true e)
at_the_top section.Handler b e h = absurd (false≢true e)

pub ends_at_top : (names : List (List ℕ)) (at : Section) (s : SoFar) (lines : List Line) → lead_to_top at (forms_of lines) ≡ true
    → IsAt at s.block → (declared_after names s lines).block ≡ block.Top
ends_at_top names at s [] lead h = at_the_top at s.block lead h
ends_at_top names at s (line ∷ lines) lead h =
    let l = and_parts (stands_in (kind_of line.form) at) (lead_to_top (goes_to (kind_of line.form) at) (forms_of lines)) lead in
    ends_at_top names (goes_to (kind_of line.form) at) (after names s line.form) lines l.1
    (says_at names s.declared at (settled_block (goes_on line.form) s.block) line.form l.0 (settles_at at s.block (goes_on line.form) h))
