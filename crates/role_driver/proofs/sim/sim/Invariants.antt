use Rattle.std.proofs.Common.{◌≡◌, ◌<◌, ◌≤◌, ◌-◌, ◌^◌, suc, length}
use Rattle.caa_base.specs.Written.Mixing.{state_after, turn_number}
use Rattle.place_plan.specs.Plans.Bound.{bound}
use Rattle.role_driver.specs.Schedule.{GrewBy}
use Rattle.role_driver.specs.inner.Sleeping.{AllSleep}
use Rattle.role_driver.proofs.sim.sim.Given as goal

abbrev pub invariant-loop-state : goal.invariant-loop-state
invariant-loop-state g l = record {
  plan : g.M.Machine.plan_of l.machine ≡ g.M.Machine.plan_of l.fn.machine;
  base : g.M.Machine.base_of l.machine ≡ g.M.Machine.base_of l.fn.machine;
  count : g.M.Machine.count_of l.fn.machine ≤ g.M.Machine.count_of l.machine;
  small : l.state < 2 ^ 31;
  sleep : AllSleep (g.M.Machine.plan_of l.machine) (g.M.Machine.journal_of l.machine) l.asleep;
  scheduled : (s : GrewBy (turn_number l.seed) (g.M.Machine.plan_of l.fn.machine) (g.M.Machine.journal_of l.fn.machine)
      (g.M.Machine.journal_of l.machine)) × (l.state ≡ state_after l.seed (suc (length s.added)));
}

abbrev pub decreases-loop-state : goal.decreases-loop-state
decreases-loop-state g l = bound (g.M.Machine.plan_of l.machine) - length (g.M.Machine.journal_of l.machine)
