use Rattle.std.proofs.Common.{◌≤◌}
use Rattle.play_orders.proofs.schedule.count_awake.Given as goal

abbrev pub invariant-loop-by : goal.invariant-loop-by
invariant-loop-by l = l.count ≤ l.by
