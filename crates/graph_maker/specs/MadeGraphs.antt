-- What a made script declares: the graph of sets, under the names of the script that it was made of.
use Rattle.std.specs.Prelude.{◌≡◌, ℕ, [], ◌∷◌, codes}
use Rattle.exception_graph.specs.Chains.{IsOrderOf}
use Rattle.place_plan.specs.declared.drafts.draft_rows.GraphRow.{GraphRow}
use Rattle.place_plan.specs.Plans.PlanValue.{Plan}
use Rattle.action_script.specs.Forms.ScriptValue.{Script}
use Rattle.script_checker.specs.DeclaredSoFar.{nothing_yet}
use Rattle.script_checker.specs.Compiled.{AreAccepted, IsPlanOf}
use Rattle.set_graphs.specs.Sets.{exception_count, pairs_of}
use Rattle.set_graphs.specs.SetGraph.{CoversSubsets, JoinsUnions}
use Rattle.graph_maker.specs.Refusals.{primitive_count}
use Rattle.graph_maker.specs.MadeScripts.{exception_names, primitive_names}

-- a graph of a plan is that of the sets of at most so many primitives of a script: its exceptions are `universal` and the sets, by the
-- names that they have there, and it has the order of sets, in which a set covers what is within it, and several are joined to their union
pub record IsGraphOfSets (script : Script) (most : ℕ) (row : GraphRow) : Type 0 where
  pub named : row.names ≡ codes "universal" ∷ exception_names (primitive_names script) most
  pub order : IsOrderOf (exception_count (primitive_count script) most) (pairs_of (primitive_count script) most) row.graph
  pub covers : CoversSubsets (primitive_count script) most row.graph
  pub joins : JoinsUnions (primitive_count script) most row.graph

-- a plan has two graphs, the plain one and that of the sets
pub record HasGraphOfSets (script : Script) (most : ℕ) (plan : Plan) : Type 0 where
  pub plain : GraphRow
  pub sets : GraphRow
  pub graphs : plan.graphs ≡ plain ∷ sets ∷ []
  pub is_of_sets : IsGraphOfSets script most sets

-- no line of a made script has a cause to be refused, and the plan of the made script has the graph of the sets of the other one
pub record DeclaresSets (script : Script) (most : ℕ) (made : Script) : Type 0 where
  pub accepted : AreAccepted made.names (nothing_yet made.names) made.lines
  pub planned : (plan : Plan) → IsPlanOf made plan → HasGraphOfSets script most plan
