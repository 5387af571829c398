use Rattle.std.proofs.Common.{◌≡◌, ◌+◌, ◌<◌, ◌++◌, All, length, map, replicate, vec_capacity, vec_len}
use Rattle.shared_views.specs.Committing.{placeless}
use Rattle.role_driver.specs.inner.Watchers.{task_of}
use Rattle.role_driver.specs.inner.WatchRooms.{task_with, observer_of}
use Rattle.role_driver.proofs.assigning.watchers_for.Given as goal

abbrev pub invariant-loop-blank : goal.invariant-loop-blank
invariant-loop-blank g l =
    let left = l.blank-iterator.rest.items in let observer = observer_of l._manager in
    record {
      room : vec_len l.watchers + length left ≡ vec_capacity l.watchers;
      observers : map placeless l.observers.items ≡ replicate (length left) observer;
      objects : All (λ b. b.object < length observer.initials) left;
      tasks : map task_of l.watchers.items ++ map (λ b. task_with observer b.object) left
          ≡ map (λ b. task_with observer b.object) l.fn.blanks.items;
    }
