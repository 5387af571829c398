-- The graphs of an accepted script: the plain one stands first, each row has its names, and each use of a graph is of one that is
-- there.
use Rattle.std.proofs.Common.{◌≡◌, ℕ, suc, zero, Bool, true, false, ◌==◌, List, [], ◌∷◌, ◌++◌, length, slice_index_or, refl, sym, ap, ◌∙◌}
use Rattle.std.proofs.lemmas.List.{length-map}
use Rattle.std.specs.List.{list_all}
use Rattle.std.proofs.lemmas.Bool.{false≢true, eq-eqb}
use Rattle.place_plan.specs.declared.drafts.draft_rows.GraphRow.{GraphRow}
use Rattle.place_plan.specs.Plans.Places.{no_graph as no_row}
use Rattle.place_plan.specs.Drafts.DraftRules.{first_is_plain, is_named}
use Rattle.action_script.specs.declared.forms.form.Form.{Form}
use Rattle.action_script.specs.declared.forms.form.Form.TheVariants as form
use Rattle.script_checker.specs.declared.declared.Declared.{Declared}
use Rattle.script_checker.specs.declared.declared.Block.{Block}
use Rattle.script_checker.specs.declared.declared.Block.TheVariants as block
use Rattle.script_checker.specs.declared.open_graph.DeclaredGraph.{DeclaredGraph}
use Rattle.script_checker.specs.DeclaredSoFar.{exceptions_at}
use Rattle.script_checker.specs.AtTop.{declared_with}
use Rattle.script_checker.specs.After.{ended}
use Rattle.script_checker.specs.Compiled.{AreRowsOf, exception_name}
use Rattle.script_checker.proofs.Accepted.{IsKept}

-- the first graph has one exception
abbrev pub first_alone : List DeclaredGraph → Bool
first_alone [] = false
first_alone (graph ∷ graphs) = length graph.exceptions == 1

pub still_first : (graphs more : List DeclaredGraph) → first_alone graphs ≡ true → first_alone (graphs ++ more) ≡ true
still_first [] more h = absurd (false≢true h)
still_first (graph ∷ graphs) more h = h

abbrev pub IsPlainFirst : Declared → Block → Type 0
IsPlainFirst d b = first_alone d.graphs ≡ true

module _ (names : List (List ℕ)) (d : Declared) where
  says_first : (f : Form) → first_alone d.graphs ≡ true → first_alone (declared_with names d f).graphs ≡ true
  says_first (form.Graph name) h = h
  says_first f h = h

  ends_first : (b : Block) → first_alone d.graphs ≡ true → first_alone (ended names d b).graphs ≡ true
  ends_first (block.Graph g) h = still_first d.graphs _ h
  ends_first b h = h

pub first_kept : (names : List (List ℕ)) → IsKept names IsPlainFirst
first_kept names = record {
  at_top = λ d f sound none h. says_first names d f h;
  in_graph = λ d g f sound none h. h;
  in_action = λ d a f sound none shut h. h;
  closes = λ d a h. h;
  ends = λ d b none h. ends_first names d b h;
}

-- ---- the rows

-- the rows are as many, each with its count of exceptions and a name for each
pub rows_named : (names : List (List ℕ)) (graphs : List DeclaredGraph) (rows : List GraphRow) → AreRowsOf names graphs rows
    → list_all is_named rows ≡ true
rows_named names [] [] h = refl
rows_named names [] (row ∷ rows) h = absurd h
rows_named names (graph ∷ graphs) [] h = absurd h
rows_named names (graph ∷ graphs) (row ∷ rows) h =
    let m : length row.names ≡ length graph.exceptions =
    ap (λ (xs : List (List ℕ)). length xs) h.0.named ∙ length-map graph.exceptions (exception_name names) in
    rw (eq-eqb (length row.names) row.graph.count (m ∙ sym h.0.order.counts), rows_named names graphs rows h.1) refl

pub rows_first : (names : List (List ℕ)) (graphs : List DeclaredGraph) (rows : List GraphRow) → AreRowsOf names graphs rows
    → first_alone graphs ≡ true → first_is_plain rows ≡ true
rows_first names [] rows h e = absurd (false≢true e)
rows_first names (graph ∷ graphs) [] h e = absurd h
rows_first names (graph ∷ graphs) (row ∷ rows) h e = rw h.0.order.counts e

pub rows_many : (names : List (List ℕ)) (graphs : List DeclaredGraph) (rows : List GraphRow) → AreRowsOf names graphs rows
    → length rows ≡ length graphs
rows_many names [] [] h = refl
rows_many names [] (row ∷ rows) h = absurd h
rows_many names (graph ∷ graphs) [] h = absurd h
rows_many names (graph ∷ graphs) (row ∷ rows) h = ap suc (rows_many names graphs rows h.1)

-- each row counts the exceptions of its graph
pub rows_count : (names : List (List ℕ)) (graphs : List DeclaredGraph) (rows : List GraphRow) (g : ℕ) → AreRowsOf names graphs rows
    → (slice_index_or rows g no_row).graph.count ≡ length (exceptions_at graphs g)
rows_count names [] [] g h = refl
rows_count names [] (row ∷ rows) g h = absurd h
rows_count names (graph ∷ graphs) [] g h = absurd h
rows_count names (graph ∷ graphs) (row ∷ rows) zero h = h.0.order.counts
rows_count names (graph ∷ graphs) (row ∷ rows) (suc g) h = rows_count names graphs rows g h.1
