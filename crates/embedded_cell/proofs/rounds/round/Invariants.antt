use Rattle.std.proofs.Common.{◌≡◌}
use Rattle.embedded_cell.proofs.rounds.round.Given as goal

abbrev pub invariant-loop-by : goal.invariant-loop-by
invariant-loop-by g l = g.M.Machine.plan_of l.machine ≡ g.M.Machine.plan_of l.fn.machine
