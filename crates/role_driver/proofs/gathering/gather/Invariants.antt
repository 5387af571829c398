use Rattle.std.proofs.Common.{◌≡◌, ◌*◌, length, map, reverse, suc}
use Rattle.role_driver.specs.inner.Watchers.{task_of}
use Rattle.role_driver.specs.inner.Gathering.{task_by, AreRightSoFar}
use Rattle.role_driver.proofs.gathering.gather.Given as goal

abbrev pub invariant-loop-watch : goal.invariant-loop-watch
invariant-loop-watch g l =
    let plan = g.M.Machine.plan_of l.machine in
    record {
      writer : l.writer ≡ l.fn.writer;
      tasks : map task_of l.watchers.items ≡ map (task_by l.fn.writer) plan.watches;
      right : AreRightSoFar plan (reverse (g.M.Machine.journal_of l.machine)) l.watch l.seens.seens;
      room : l.seens.room ≡ length plan.watches * suc (length plan.plays);
    }
