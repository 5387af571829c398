use Rattle.std.proofs.Common.{◌≡◌, drop}
use Rattle.reach_tables.specs.ReachTable.{enters_in_turn}
use Rattle.reach_tables.proofs.steps.enters_in_turn.Given as goal

abbrev pub invariant-loop-index : goal.invariant-loop-index
invariant-loop-index l = enters_in_turn l.first l.second (drop l.index l.steps) ≡ enters_in_turn l.first l.second l.steps
