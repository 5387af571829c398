use Rattle.std.proofs.Common.{ℕ, ◌<◌}
use Rattle.reach_laws.specs.CanCome.{action_of}
use Rattle.reach_tables.specs.ReachTable.{row_of, TellsAll}
use Rattle.reach_tables.proofs.checking.leaves_nothing_out.Given as goal

abbrev pub invariant-loop-index : goal.invariant-loop-index
invariant-loop-index l = (a : ℕ) → a < l.index → TellsAll l.plan l.table (action_of l.plan a) (row_of l.table a)
