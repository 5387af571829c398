-- The rows of graphs stand for the graphs that are declared.
use Rattle.std.proofs.Common.{◌≡◌, ℕ, ◌+◌, suc, Bool, true, false, cond, List, [], ◌∷◌, ◌++◌, slice_index_or, bytes_eq, codes, refl, sym, ap, ◌∙◌, subst, arith}
use Rattle.std.proofs.lemmas.Slice.Eq.{bytes_eq-Decides}
use Rattle.cover_table.specs.Cover.{IsSound}
use Rattle.exception_graph.specs.Chains.{IsOrderOf}
use Rattle.place_plan.specs.declared.drafts.draft_rows.GraphRow.{GraphRow}
use Rattle.action_script.specs.Words.NumberedNames.{number_in}
use Rattle.script_checker.specs.declared.open_graph.DeclaredGraph.{DeclaredGraph}
use Rattle.script_checker.specs.DeclaredSoFar.{plain_graph}
use Rattle.script_checker.specs.Compiled.{IsRowOf, AreRowsOf}

-- ---- the plain graph

-- a word that is found among names, or isn't there and stands for itself
found_by : (word name : List ℕ) (names : List (List ℕ)) → slice_index_or names (number_in names word) word ≡ word → (b : Bool)
    → (b ≡ true → word ≡ name) → slice_index_or (name ∷ names) (cond b 0 (1 + number_in names word)) word ≡ word
found_by word name names more true same = sym (same refl)
found_by word name names more false same =
    let e : suc (number_in names word) ≡ 1 + number_in names word = omega arith in
    subst (λ (k : ℕ). slice_index_or (name ∷ names) k word ≡ word) e more

pub found : (names : List (List ℕ)) (word : List ℕ) → slice_index_or names (number_in names word) word ≡ word
found [] word = refl
found (name ∷ names) word = found_by word name names (found names word) (bytes_eq word name) (λ e. (bytes_eq-Decides word name).0 e)

-- the row of the plain graph
pub plain_rows : (names : List (List ℕ)) (row : GraphRow) → row.names ≡ codes "universal" ∷ [] → IsOrderOf 1 [] row.graph
    → IsSound row.graph → AreRowsOf names (plain_graph (number_in names (codes "universal")) ∷ []) (row ∷ [])
plain_rows names row named order sound =
    (record { named = named ∙ ap (λ (name : List ℕ). name ∷ []) (sym (found names (codes "universal"))); order = order; sound = sound }, tt)

-- ---- one more graph

pub rows_push : (names : List (List ℕ)) (graphs : List DeclaredGraph) (rows : List GraphRow) (graph : DeclaredGraph) (row : GraphRow)
    → AreRowsOf names graphs rows → IsRowOf names graph row → AreRowsOf names (graphs ++ graph ∷ []) (rows ++ row ∷ [])
rows_push names [] [] graph row h g = (g, tt)
rows_push names [] (r ∷ rows) graph row h g = absurd h
rows_push names (d ∷ graphs) [] graph row h g = absurd h
rows_push names (d ∷ graphs) (r ∷ rows) graph row h g = (h.0, rows_push names graphs rows graph row h.1 g)
