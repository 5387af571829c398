use Rattle.std.proofs.Common.{◌≡◌}
use Rattle.role_driver.specs.inner.Watchers.{task_of}
use Rattle.role_driver.proofs.watcher.Watcher.watch.Given as goal

abbrev pub invariant-loop : goal.invariant-loop
invariant-loop g l = record {
  task : task_of l.self ≡ task_of l.fn.self;
  goes : (goal.iterator-loop g).can_next l.iterator' × (goal.iterator-loop g).is_finite l.iterator';
}
