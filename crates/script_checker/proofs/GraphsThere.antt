-- In an accepted script each graph has an exception, and the graphs of an action are there.
use Rattle.std.proofs.Common.{◌≡◌, ℕ, suc, ◌+◌, ◌<◌, nat_lt, Bool, true, List, [], ◌∷◌, ◌++◌, length, unwrap_or, Option, Some, None, refl, arith, length-append}
use Rattle.std.specs.List.{list_all}
use Rattle.std.proofs.lemmas.Bool.{false≢true, ltb-true, lt-ltb}
use Rattle.caa_base.specs.Written.Lists.{index_of}
use Rattle.caa_base.specs.declared.written.entry.Verdict.{Verdict}
use Rattle.caa_base.specs.declared.written.entry.Verdict.TheVariants as verdict
use Rattle.action_script.specs.declared.forms.form.Form.{Form}
use Rattle.action_script.specs.declared.forms.form.Form.TheVariants as form
use Rattle.script_checker.specs.declared.declared.Declared.{Declared}
use Rattle.script_checker.specs.declared.declared.Block.{Block}
use Rattle.script_checker.specs.declared.declared.Block.TheVariants as block
use Rattle.script_checker.specs.declared.open_graph.DeclaredGraph.{DeclaredGraph}
use Rattle.script_checker.specs.declared.open_action.OpenAction.{OpenAction}
use Rattle.script_checker.specs.declared.open_action.OpenProgram.{OpenProgram}
use Rattle.script_checker.specs.Numbers.{is_among}
use Rattle.script_checker.specs.DeclaredSoFar.{exceptions_at, no_graph, nothing_declared}
use Rattle.script_checker.specs.AtTop.{declared_with, block_begun}
use Rattle.script_checker.specs.InGraph.{graph_with}
use Rattle.script_checker.specs.InAction.{closed_if, action_with}
use Rattle.script_checker.specs.After.{ended}
use Rattle.caa_base.proofs.ListLemmas.{at_row}
use Rattle.script_checker.proofs.KnownNames.{one_known}
use Rattle.script_checker.proofs.Accepted.{IsKept, NoneInAction, known}
use Rattle.script_checker.proofs.ListsChange.{all_push}
use Rattle.script_checker.proofs.CountsKept.{open_graphs}
use Rattle.script_checker.proofs.GraphsKept.{first_alone, still_first}

abbrev pub has_exception : DeclaredGraph → Bool
has_exception graph = nat_lt 0 (length graph.exceptions)

-- the graph that is being declared has an exception; the graphs of the action that is are there
abbrev OpenThere : Declared → Block → Type 0
OpenThere d block.Top = Unit {0}
OpenThere d (block.Graph g) = has_exception g ≡ true
OpenThere d (block.Action a) = (unwrap_or a.internal 0 < length d.graphs) × (unwrap_or a.interface 0 < length d.graphs)

-- all graphs are there that were named, but the one that is being declared
pub record GraphsThere (d : Declared) (b : Block) : Type 0 where
  pub many : length d.graphs + open_graphs b ≡ suc (length d.graph_names)
  pub plain : first_alone d.graphs ≡ true
  pub filled : list_all has_exception d.graphs ≡ true
  pub begun : OpenThere d b

-- a graph that is there has an exception
pub some_exception : (graphs : List DeclaredGraph) (g : ℕ) → list_all has_exception graphs ≡ true → g < length graphs
    → 0 < length (exceptions_at graphs g)
some_exception graphs g h l = ltb-true 0 _ (at_row has_exception graphs g no_graph h l)

first_there : (graphs : List DeclaredGraph) → first_alone graphs ≡ true → 0 < length graphs
first_there [] h = absurd (false≢true h)
first_there (graph ∷ graphs) h = omega arith

closed_there : (d : Declared) (a : OpenAction) (v : Verdict) (o : Option OpenProgram) → OpenThere d (block.Action a)
    → OpenThere d (block.Action (closed_if a o v))
closed_there d a v None h = h
closed_there d a v (Some p) h = h

-- one exception more
more_there : (g : DeclaredGraph) (f : Form) → has_exception g ≡ true → has_exception (graph_with g f) ≡ true
more_there g (form.Exception name) h =
    let n : length (g.exceptions ++ name ∷ []) ≡ length g.exceptions + 1 = length-append g.exceptions (name ∷ []) in
    lt-ltb 0 _ (omega arith)
more_there g f h = h

module _ (names : List (List ℕ)) (d : Declared) where
  begins_there : (f : Form) → GraphsThere d block.Top → GraphsThere (declared_with names d f) (block_begun d f)
  begins_there (form.Graph name) h =
      let n : length (d.graph_names ++ name ∷ []) ≡ length d.graph_names + 1 = length-append d.graph_names (name ∷ []) in
      record { many = omega (arith, h.many); plain = h.plain; filled = h.filled; begun = refl }
  begins_there (form.Action name) h =
      let first = first_there d.graphs h.plain in
      record { many = h.many; plain = h.plain; filled = h.filled; begun = (first, first) }
  begins_there f h = record { many = h.many; plain = h.plain; filled = h.filled; begun = tt }

  -- a graph that is named in an action is there
  pub named_there : (a : OpenAction) (graph : ℕ) → is_among d.graph_names graph ≡ true → GraphsThere d (block.Action a)
      → index_of graph d.graph_names + 1 < length d.graphs
  named_there a graph among h =
      let low = ltb-true (index_of graph d.graph_names) (length d.graph_names) among in
      omega (arith, h.many)

  acts_there : (a : OpenAction) (f : Form) → NoneInAction d a f → GraphsThere d (block.Action a)
      → OpenThere d (block.Action (action_with names d a f))
  acts_there a (form.Internal graph) none h = (named_there a graph (one_known (is_among d.graph_names graph) (known d a (form.Internal graph) none)) h, h.begun.1)
  acts_there a (form.Interface graph) none h = (h.begun.0, named_there a graph (one_known (is_among d.graph_names graph) (known d a (form.Interface graph) none)) h)
  acts_there a form.DoneLine none h = closed_there d a _ a.program h.begun
  acts_there a (form.SignalLine x) none h = closed_there d a _ a.program h.begun
  acts_there a form.UndoLine none h = closed_there d a _ a.program h.begun
  acts_there a f none h = h.begun

  ends_there : (b : Block) → GraphsThere d b → GraphsThere (ended names d b) block.Top
  ends_there (block.Graph g) h =
      let n : length (d.graphs ++ g ∷ []) ≡ length d.graphs + 1 = length-append d.graphs (g ∷ []) in
      record {
        many = omega (arith, h.many);
        plain = still_first d.graphs _ h.plain;
        filled =
            all_push has_exception d.graphs g h.filled h.begun;
        begun = tt;
      }
  ends_there block.Top h = h
  ends_there (block.Action a) h = record { many = h.many; plain = h.plain; filled = h.filled; begun = tt }

pub there_kept : (names : List (List ℕ)) → IsKept names GraphsThere
there_kept names = record {
  at_top = λ d f sound none h. begins_there names d f h;
  in_graph = λ d g f sound none h. record { many = h.many; plain = h.plain; filled = h.filled; begun = more_there g f h.begun };
  in_action =
      λ d a f sound none shut h. record { many = h.many; plain = h.plain; filled = h.filled; begun = acts_there names d a f none h };
  closes = λ d a h. record { many = h.many; plain = h.plain; filled = h.filled; begun = closed_there d a verdict.Done a.program h.begun };
  ends = λ d b none h. ends_there names d b h;
}

pub there_at_first : (universal : ℕ) → GraphsThere (nothing_declared universal) block.Top
there_at_first universal = record { many = refl; plain = refl; filled = refl; begun = tt }
