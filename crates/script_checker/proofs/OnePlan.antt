-- A script has one plan: what its lines declare leaves no part of a draft open.
use Rattle.std.proofs.Common.{◌≡◌, ℕ, List, [], ◌∷◌, refl, sym, ap, ◌∙◌}
use Rattle.place_plan.specs.declared.drafts.draft_rows.GraphRow.{GraphRow}
use Rattle.place_plan.specs.Plans.PlanValue.{Plan}
use Rattle.place_plan.specs.Plans.Unfolding.{plan_of}
use Rattle.action_script.specs.Forms.ScriptValue.{Script}
use Rattle.exception_graph.proofs.GraphCauses.{order-same}
use Rattle.script_checker.specs.declared.open_graph.DeclaredGraph.{DeclaredGraph}
use Rattle.script_checker.specs.DeclaredSoFar.{nothing_yet}
use Rattle.script_checker.specs.Compiled.{declared_after, IsRowOf, AreRowsOf, IsPlanOf}

module _ (names : List (List ℕ)) where
  row-same : (graph : DeclaredGraph) (row other : GraphRow) → IsRowOf names graph row → IsRowOf names graph other → row ≡ other
  row-same graph row other h k =
      let order = order-same _ graph.pairs row.graph other.graph h.order k.order in
      let named = h.named ∙ sym k.named in
      (λ j. record { graph = order j; names = named j })

  rows-same : (graphs : List DeclaredGraph) (rows others : List GraphRow) → AreRowsOf names graphs rows → AreRowsOf names graphs others
      → rows ≡ others
  rows-same [] [] [] h k = refl
  rows-same [] [] (other ∷ others) h k = absurd k
  rows-same [] (row ∷ rows) others h k = absurd h
  rows-same (graph ∷ graphs) [] others h k = absurd h
  rows-same (graph ∷ graphs) (row ∷ rows) [] h k = absurd k
  rows-same (graph ∷ graphs) (row ∷ rows) (other ∷ others) h k =
      let first = row-same graph row other h.0 k.0 in
      let rest = rows-same graphs rows others h.1 k.1 in
      (λ j. first j ∷ rest j)

pub plan-same : (script : Script) (plan other : Plan) → IsPlanOf script plan → IsPlanOf script other → plan ≡ other
plan-same script plan other h k =
    let d = (declared_after script.names (nothing_yet script.names) script.lines).declared in
    let a = h.declared in
    let b = k.declared in
    let participants = a.participants ∙ sym b.participants in
    let objects = a.objects ∙ sym b.objects in
    let graphs = rows-same script.names d.graphs h.draft.graphs k.draft.graphs a.graphs b.graphs in
    let actions = a.actions ∙ sym b.actions in
    let plays = a.plays ∙ sym b.plays in
    let drills = a.drills ∙ sym b.drills in
    let watches = a.watches ∙ sym b.watches in
    let draft : h.draft ≡ k.draft = (λ j. record {
      participants = participants j;
      objects = objects j;
      graphs = graphs j;
      actions = actions j;
      plays = plays j;
      drills = drills j;
      watches = watches j;
    }) in
    h.unfolded ∙ ap plan_of draft ∙ sym k.unfolded
