-- What every accepted line keeps holds after all lines of a script.
use Rattle.std.proofs.Common.{◌≡◌, ℕ, Bool, true, false, List, [], ◌∷◌, Option, Some, None, refl, sym, ◌∙◌}
use Rattle.std.specs.List.{list_all}
use Rattle.std.proofs.lemmas.Bool.{and_parts, false≢true, false_from_ne_true}
use Rattle.caa_base.specs.declared.written.entry.Verdict.{Verdict}
use Rattle.caa_base.specs.declared.written.entry.Verdict.TheVariants as verdict
use Rattle.action_script.specs.declared.forms.form.Form.{Form}
use Rattle.action_script.specs.declared.forms.form.Form.TheVariants as form
use Rattle.action_script.specs.declared.forms.script.Line.{Line}
use Rattle.action_script.specs.Forms.Printing.{is_sound, forms_of}
use Rattle.script_checker.specs.declared.check_error.CheckCause.TheVariants as cause
use Rattle.script_checker.specs.declared.declared.SoFar.{SoFar}
use Rattle.script_checker.specs.declared.declared.Declared.{Declared}
use Rattle.script_checker.specs.declared.declared.Block.{Block}
use Rattle.script_checker.specs.declared.declared.Block.TheVariants as block
use Rattle.script_checker.specs.declared.open_graph.DeclaredGraph.{DeclaredGraph}
use Rattle.script_checker.specs.declared.open_action.OpenAction.{OpenAction}
use Rattle.script_checker.specs.declared.open_action.OpenProgram.{OpenProgram}
use Rattle.script_checker.specs.AtTop.{twice_at_top, unfilled_at_top, filled_twice_at_top, past_limit_at_top, past_bound_at_top, declared_with, block_begun}
use Rattle.script_checker.specs.InGraph.{twice_in_graph, graph_with}
use Rattle.script_checker.specs.InAction.{goes_on, closed, closed_if, action_with, twice_in_action, unfilled_in_action, filled_twice_in_action, enters_otherwise_in_action, not_held_in_action, too_deep_in_action, past_limit_in_action, other_face_in_action}
use Rattle.script_checker.specs.Causes.{is_unknown}
use Rattle.script_checker.specs.After.{ended, said_in, settled_block, after}
use Rattle.script_checker.specs.Compiled.{HasNone, declared_after, AreAccepted}

-- ---- what a line without cause hasn't: at the top

abbrev pub NoneAtTop : Declared → Form → Type 0
NoneAtTop d f = HasNone (record { declared = d; block = block.Top }) f

module _ (d : Declared) (f : Form) (none : NoneAtTop d f) where
  pub known_at_top : is_unknown d block.Top f ≡ false
  known_at_top = false_from_ne_true (is_unknown d block.Top f) (λ e. none cause.Unknown e)

  pub once_at_top : twice_at_top d f ≡ false
  once_at_top = false_from_ne_true (twice_at_top d f) (λ e. none cause.Twice e)

  pub filled_at_top : unfilled_at_top d f ≡ false
  filled_at_top = false_from_ne_true (unfilled_at_top d f) (λ e. none cause.RoleUnfilled e)

  pub differing_at_top : filled_twice_at_top f ≡ false
  differing_at_top = false_from_ne_true (filled_twice_at_top f) (λ e. none cause.RoleTwice e)

  pub within_at_top : past_limit_at_top d f ≡ false
  within_at_top = false_from_ne_true (past_limit_at_top d f) (λ e. none cause.Limit e)

  pub bounded_at_top : past_bound_at_top d f ≡ false
  bounded_at_top = false_from_ne_true (past_bound_at_top d f) (λ e. none cause.JournalBound e)

-- ---- in a graph

abbrev pub NoneInGraph : Declared → DeclaredGraph → Form → Type 0
NoneInGraph d g f = HasNone (record { declared = d; block = block.Graph g }) f

pub once_in_graph : (d : Declared) (g : DeclaredGraph) (f : Form) → NoneInGraph d g f → twice_in_graph g f ≡ false
once_in_graph d g f none = false_from_ne_true (twice_in_graph g f) (λ e. none cause.Twice e)

-- ---- in an action

abbrev pub NoneInAction : Declared → OpenAction → Form → Type 0
NoneInAction d a f = HasNone (record { declared = d; block = block.Action a }) f

module _ (d : Declared) (a : OpenAction) (f : Form) (none : NoneInAction d a f) where
  pub known : is_unknown d (block.Action a) f ≡ false
  known = false_from_ne_true (is_unknown d (block.Action a) f) (λ e. none cause.Unknown e)

  pub once : twice_in_action d a f ≡ false
  once = false_from_ne_true (twice_in_action d a f) (λ e. none cause.Twice e)

  pub filled : unfilled_in_action d a f ≡ false
  filled = false_from_ne_true (unfilled_in_action d a f) (λ e. none cause.RoleUnfilled e)

  pub differing : filled_twice_in_action f ≡ false
  differing = false_from_ne_true (filled_twice_in_action f) (λ e. none cause.RoleTwice e)

  pub entered : enters_otherwise_in_action a f ≡ false
  entered = false_from_ne_true (enters_otherwise_in_action a f) (λ e. none cause.NestOrder e)

  pub held : not_held_in_action d a f ≡ false
  held = false_from_ne_true (not_held_in_action d a f) (λ e. none cause.ObjectNotHeld e)

  pub shallow : too_deep_in_action d f ≡ false
  shallow = false_from_ne_true (too_deep_in_action d f) (λ e. none cause.TooDeep e)

  pub within : past_limit_in_action d a f ≡ false
  within = false_from_ne_true (past_limit_in_action d a f) (λ e. none cause.Limit e)

  pub faced : other_face_in_action d a f ≡ false
  faced = false_from_ne_true (other_face_in_action d a f) (λ e. none cause.AlternateFace e)

-- ---- induction on the lines

-- a body or handler that ended is none any more
closed_shut : (a : OpenAction) (v : Verdict) (o : Option OpenProgram) → a.program ≡ o → (closed_if a o v).program ≡ None
closed_shut a v None e = e
closed_shut a v (Some p) e = refl

-- each line without cause keeps it, in the block that it stands in: at the top, in a graph, in an action, and at the end of each;
-- and so does the end of a body or a handler without verdict line
pub record IsKept (names : List (List ℕ)) (Holds : Declared → Block → Type 0) : Type 0 where
  pub at_top : (d : Declared) (f : Form) → is_sound names f ≡ true → NoneAtTop d f → Holds d block.Top
      → Holds (declared_with names d f) (block_begun d f)
  pub in_graph : (d : Declared) (g : DeclaredGraph) (f : Form) → is_sound names f ≡ true → NoneInGraph d g f → Holds d (block.Graph g)
      → Holds d (block.Graph (graph_with g f))
  pub in_action : (d : Declared) (a : OpenAction) (f : Form) → is_sound names f ≡ true → NoneInAction d a f
      → (goes_on f ≡ false → a.program ≡ None) → Holds d (block.Action a) → Holds d (block.Action (action_with names d a f))
  pub closes : (d : Declared) (a : OpenAction) → Holds d (block.Action a) → Holds d (block.Action (closed a verdict.Done))
  pub ends : (d : Declared) (b : Block) → HasNone (record { declared = d; block = b }) form.End → Holds d b
      → Holds (ended names d b) block.Top

module _ (names : List (List ℕ)) (Holds : Declared → Block → Type 0) (kept : IsKept names Holds) where
  abbrev HoldsOf : SoFar → Type 0
  HoldsOf s = Holds s.declared s.block

  -- no body or handler is open where the line doesn't go on with one
  abbrev IsShut : Block → Form → Type 0
  IsShut (block.Action a) f = goes_on f ≡ false → a.program ≡ None
  IsShut b f = Unit {0}

  says : (d : Declared) (b : Block) (f : Form) → is_sound names f ≡ true → HasNone (record { declared = d; block = b }) f
      → IsShut b f → Holds d b → HoldsOf (said_in names d b f)
  says d b form.End sound none shut h = kept.ends d b none h
  says d block.Top f sound none shut h = kept.at_top d f sound none h
  says d (block.Graph g) f sound none shut h = kept.in_graph d g f sound none h
  says d (block.Action a) f sound none shut h = kept.in_action d a f sound none shut h

  settles : (d : Declared) (b : Block) (goes : Bool) → Holds d b → Holds d (settled_block goes b)
  settles d b true h = h
  settles d (block.Action a) false h = kept.closes d a h
  settles d block.Top false h = h
  settles d (block.Graph g) false h = h

  shuts : (b : Block) (f : Form) (goes : Bool) → goes_on f ≡ goes → IsShut (settled_block goes b) f
  shuts (block.Action a) f false e = λ g. closed_shut a verdict.Done a.program refl
  shuts (block.Action a) f true e = λ g. absurd (false≢true (sym g ∙ e))
  shuts block.Top f true e = tt
  shuts block.Top f false e = tt
  shuts (block.Graph g) f true e = tt
  shuts (block.Graph g) f false e = tt

  pub holds_after : (s : SoFar) (lines : List Line) → list_all (is_sound names) (forms_of lines) ≡ true → AreAccepted names s lines
      → HoldsOf s → HoldsOf (declared_after names s lines)
  holds_after s [] sound accepted h = h
  holds_after s (line ∷ lines) sound accepted h =
      let p = and_parts (is_sound names line.form) (list_all (is_sound names) (forms_of lines)) sound in
      holds_after (after names s line.form) lines p.1 accepted.1
      (says s.declared (settled_block (goes_on line.form) s.block) line.form p.0 accepted.0
      (shuts s.block line.form (goes_on line.form) refl)
      (settles s.declared s.block (goes_on line.form) h))
