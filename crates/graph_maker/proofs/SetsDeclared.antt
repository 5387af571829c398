-- A made script is accepted, and declares the graph of sets.
use Rattle.std.proofs.Common.{◌≡◌, ℕ, suc, ◌<◌, ◌≤◌, inl, inr, true, List, [], ◌∷◌, length, map, get_or, codes, Contains, All, refl, sym, ap, ◌∙◌, subst, arith}
use Rattle.std.specs.List.{list_all}
use Rattle.std.proofs.lemmas.Bool.{and_parts, both_ways, cases_eq}
use Rattle.std.proofs.lemmas.List.{get_or_default, length-map}
use Rattle.std.proofs.lemmas.List.Elements.{Contains-get_or}
use Rattle.caa_base.specs.Written.Names.{name_at}
use Rattle.cover_table.specs.Cover.{has_bit}
use Rattle.cover_table.proofs.Bits.{had_in_zero}
use Rattle.exception_graph.specs.Chains.{IsOrderOf, none, more, pair}
use Rattle.place_plan.specs.declared.drafts.draft_rows.GraphRow.{GraphRow}
use Rattle.place_plan.specs.Plans.PlanValue.{Plan}
use Rattle.action_script.specs.Forms.ScriptValue.{Script}
use Rattle.action_script.specs.Words.NumberedNames.{is_among, number_in, with_names}
use Rattle.action_script.proofs.OnForms.Fits.{name-number}
use Rattle.action_script.proofs.OnLines.Steadiness.{all_among-with_names}
use Rattle.script_checker.specs.declared.open_graph.DeclaredGraph.{DeclaredGraph}
use Rattle.script_checker.specs.DeclaredSoFar.{nothing_yet, plain_graph}
use Rattle.script_checker.specs.Compiled.{exception_name, AreRowsOf, IsRowOf}
use Rattle.script_checker.proofs.GraphRows.{found}
use Rattle.set_graphs.specs.Sets.{exception_count, members_of, pairs_of, table}
use Rattle.set_graphs.proofs.Lowered.{lowered_is, pair_is, pairs_in_range}
use Rattle.set_graphs.proofs.SetChains.{over_from, top, within, IsOver}
use Rattle.set_graphs.proofs.Unions.{all_joined, covers_subsets, joins_unions, no_cycle}
use Rattle.graph_maker.specs.Refusals.{graph_of, primitive_count}
use Rattle.graph_maker.specs.MadeScripts.{exception_names, primitive_names, script_of_sets, words_of, HaveOwnNames}
use Rattle.graph_maker.specs.MadeGraphs.{DeclaresSets, IsGraphOfSets}
use Rattle.graph_maker.proofs.MadeWords.{length-words, HasRoom}
use Rattle.graph_maker.proofs.Distinct.{present}
use Rattle.graph_maker.proofs.NumbersApart.{fresh, numbers_apart, placed, AreApart, IsInside}
use Rattle.graph_maker.proofs.OneGraph.{one_graph, GoesTo, IsFaultless}

-- ---- the pairs of sets

module _ (n most : ℕ) where
  abbrev ArePlaces : ℕ × ℕ → Type 0
  ArePlaces p = IsInside (exception_count n most) p.0 × IsInside (exception_count n most) p.1

  -- what a set is over is a set
  below_some : (a b : ℕ) → 0 < a → IsOver n most a b → 0 < b
  below_some a b some top = absurd (omega (arith, some))
  below_some a b some (within _ b_some _) = b_some

  -- a declared pair is of two sets
  of_sets : (a b : ℕ) → Contains (pairs_of n most) (a, b) → (0 < a) × (0 < b)
  of_sets a b among =
      let is = (pair_is n (table n most) (exception_count n most) a b among).1 in
      let lowered = lowered_is n (members_of n most a) is.low is.among in
      let had = lowered.1.had in
      let a_some : 0 < a = elim (cases_eq a 0) [
        | inl zero_is ↦ absurd
            (both_ways (has_bit 0 lowered.0) (had_in_zero lowered.0)
            (subst (λ (x : ℕ). has_bit (members_of n most x) lowered.0 ≡ true) zero_is had))
        | inr apart ↦ omega (arith, apart)
      ] in
      (a_some, below_some a b a_some (over_from n most (more (pair among) none)))

  pairs_inside : All ArePlaces (pairs_of n most)
  pairs_inside k d lt =
      let p = get_or (pairs_of n most) k d in
      let range = pairs_in_range n (table n most) (exception_count n most) (omega arith) k d lt in
      let some = of_sets p.0 p.1 (Contains-get_or (pairs_of n most) k d lt) in
      ((some.0, range.0), (some.1, range.1))

-- ---- names, and rows

-- the names of these words' numbers are the words
named : (names words : List (List ℕ)) → list_all (is_among names) words ≡ true
    → map (exception_name names) (map (number_in names) words) ≡ words
named names [] there = refl
named names (word ∷ words) there =
    let p = and_parts (is_among names word) (list_all (is_among names) words) there in
    let own : exception_name names (number_in names word) ≡ word =
    get_or_default names (number_in names word) (codes "universal") [] (present names word p.0) ∙ name-number names word p.0 in
    let rest = named names words p.1 in
    (λ j. own j ∷ rest j)

-- two graphs have two rows
record AreTwo (names : List (List ℕ)) (graph : DeclaredGraph) (rows : List GraphRow) : Type 0 where
  first : GraphRow
  second : GraphRow
  both : rows ≡ first ∷ second ∷ []
  is : IsRowOf names graph second

two_rows : (names : List (List ℕ)) (first second : DeclaredGraph) (rows : List GraphRow) → AreRowsOf names (first ∷ second ∷ []) rows
    → AreTwo names second rows
two_rows names first second [] h = absurd h
two_rows names first second (a ∷ []) h = absurd h.1
two_rows names first second (a ∷ b ∷ []) h = record { first = a; second = b; both = refl; is = h.1.0 }
two_rows names first second (a ∷ b ∷ c ∷ rows) h = absurd h.1.1

-- ---- the made script

module _ (script : Script) (most : ℕ) (room : HasRoom (primitive_count script) most)
    (own_names : HaveOwnNames (codes "universal" ∷ exception_names (primitive_names script) most)) where
  abbrev n : ℕ
  n = primitive_count script

  abbrev words : List (List ℕ)
  words = exception_names (primitive_names script) most

  abbrev names : List (List ℕ)
  names = with_names [] (words_of script most)

  abbrev universal : ℕ
  universal = number_in names (codes "universal")

  abbrev own : List ℕ
  own = map (number_in names) words

  abbrev graph : DeclaredGraph
  graph = record { exceptions = universal ∷ own; pairs = pairs_of n most }

  there : list_all (is_among names) words ≡ true
  there =
      (and_parts (is_among names (name_at script.names (graph_of script.lines))) (list_all (is_among names) words)
      (all_among-with_names [] (words_of script most))).1

  apart : AreApart (universal ∷ own)
  apart = numbers_apart names (codes "universal") words there own_names

  count : length (universal ∷ own) ≡ exception_count n most
  count = ap suc (length-map words (number_in names)) ∙ length-words script most room.primitives

  goes_to : GoesTo names (nothing_yet names) (script_of_sets script most).lines (plain_graph universal ∷ graph ∷ [])
  goes_to =
      let few = room.exceptions in
      let size = count in
      let first = number_in names (name_at script.names (graph_of script.lines)) in
      let fits : length (universal ∷ own) ≤ 128 = omega (arith, few, size) in
      one_graph names first own (first ∷ own) (pairs_of n most)
      (fresh (universal ∷ []) own apart fits)
      (placed first universal own (pairs_of n most) apart
      (subst (λ k. All (λ (p : ℕ × ℕ). IsInside k p.0 × IsInside k p.1) (pairs_of n most)) (sym count) (pairs_inside n most)))
      (subst (λ k. IsFaultless k (pairs_of n most)) (sym count) (record { acyclic = no_cycle n most; joined = all_joined n most }))

  graph_of_sets : (row : GraphRow) → IsRowOf names graph row → IsGraphOfSets script most row
  graph_of_sets row is =
      let order : IsOrderOf (exception_count n most) (pairs_of n most) row.graph =
      subst (λ k. IsOrderOf k (pairs_of n most) row.graph) count is.order in
      let both = named names words there in
      record {
        named = is.named ∙ (λ j. found names (codes "universal") j ∷ both j);
        order = order;
        covers = covers_subsets n most row.graph order;
        joins = joins_unions n most row.graph order;
      }

  pub declares_sets : DeclaresSets script most (script_of_sets script most)
  declares_sets = record {
    accepted = goes_to.accepted;
    planned = λ plan is.
        let rows : AreRowsOf names (plain_graph universal ∷ graph ∷ []) is.draft.graphs =
        subst (λ (graphs : List DeclaredGraph). AreRowsOf names graphs is.draft.graphs) goes_to.declares is.declared.graphs in
        let two = two_rows names (plain_graph universal) graph is.draft.graphs rows in
        record {
          plain = two.first;
          sets = two.second;
          graphs = ap (λ (p : Plan). p.graphs) is.unfolded ∙ two.both;
          is_of_sets = graph_of_sets two.second two.is;
        };
  }
