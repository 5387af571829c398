use Rattle.std.proofs.Common.{◌≡◌, drop}
use Rattle.reach_tables.specs.ReachTable.{tells_order}
use Rattle.reach_tables.proofs.order.tells_order.Given as goal

abbrev pub invariant-loop-index : goal.invariant-loop-index
invariant-loop-index l = tells_order l.action (drop l.index l.order) ≡ tells_order l.action l.order
