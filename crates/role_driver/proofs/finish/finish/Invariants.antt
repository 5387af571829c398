use Rattle.std.proofs.Common.{◌≡◌, ◌≤◌, ◌-◌, length}
use Rattle.place_plan.specs.Plans.Bound.{bound}
use Rattle.role_driver.specs.Schedule.{GrewBy, always_least}
use Rattle.role_driver.specs.Working.{TellsPlaces}
use Rattle.role_driver.specs.inner.Sleeping.{AllSleep}
use Rattle.role_driver.proofs.finish.finish.Given as goal

abbrev pub invariant-loop-machine : goal.invariant-loop-machine
invariant-loop-machine g l = record {
  plan : g.M.Machine.plan_of l.machine ≡ g.M.Machine.plan_of l.fn.machine;
  base : g.M.Machine.base_of l.machine ≡ g.M.Machine.base_of l.fn.machine;
  count : g.M.Machine.count_of l.fn.machine ≤ g.M.Machine.count_of l.machine;
  grown : GrewBy always_least (g.M.Machine.plan_of l.fn.machine) (g.M.Machine.journal_of l.fn.machine) (g.M.Machine.journal_of l.machine);
  sleep : AllSleep (g.M.Machine.plan_of l.machine) (g.M.Machine.journal_of l.machine) l.asleep;
  told : TellsPlaces (g.G.Gate.was_told l.gate) (g.M.Machine.journal_of l.fn.machine) (g.M.Machine.journal_of l.machine);
}

abbrev pub decreases-loop-machine : goal.decreases-loop-machine
decreases-loop-machine g l = bound (g.M.Machine.plan_of l.machine) - length (g.M.Machine.journal_of l.machine)
