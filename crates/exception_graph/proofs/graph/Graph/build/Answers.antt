use Rattle.std.proofs.Common.{ℕ, Ok, Err}
use Rattle.exception_graph.specs.Chains.{IsSoundGraph}
use Rattle.exception_graph.proofs.Mutual.{universal_covers}
use Rattle.exception_graph.proofs.GraphCauses.{accepted_where_sound, cycle_exactly, no_least_exactly}
use Rattle.exception_graph.proofs.graph.Graph.build.Goals as goal
use Rattle.exception_graph.proofs.graph.Graph.build.Goals.{In-Ok}

-- a table of the order of these pairs makes them a sound graph
sound_by_table : (c : In-Ok) → IsSoundGraph c.args.count c.args.pairs.now
sound_by_table c = record {
  few = c.in-Ok.ensures.few;
  order = c.in-Ok.table;
  is_order_of = c.in-Ok.ensures.same;
  sound = c.in-Ok.ensures.sound;
}

pub invariant_of-result : goal.invariant_of-result
invariant_of-result c = universal_covers _ _ c.in-Ok.table c.in-Ok.ensures.same c.requires.some

pub returns-in-Ok-clause-no_least : goal.returns-in-Ok-clause-no_least
returns-in-Ok-clause-no_least c = no_least_exactly _ _ (Ok _) (sound_by_table (goal.at.returns-in-Ok-clause-no_least c).In-Ok)

pub returns-in-Err-clause-cycle : goal.returns-in-Err-clause-cycle
returns-in-Err-clause-cycle c = cycle_exactly _ _ (Err c.in-Err.refusal) c.in-Err.ensures.refusal

pub returns-in-Err-clause-no_least : goal.returns-in-Err-clause-no_least
returns-in-Err-clause-no_least c = no_least_exactly _ _ (Err c.in-Err.refusal) c.in-Err.ensures.refusal

pub returns-in-Err-clause-accepted : goal.returns-in-Err-clause-accepted
returns-in-Err-clause-accepted c = accepted_where_sound _ _ {T = ℕ} (Err c.in-Err.refusal) c.in-Err.ensures.refusal
