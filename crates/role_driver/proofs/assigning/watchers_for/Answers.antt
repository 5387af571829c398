use Rattle.std.proofs.Common.{◌∙◌, ◌<◌, ap, arith, length, replicate}
use Rattle.shared_views.specs.Committing.{Watching, placeless}
use Rattle.role_driver.specs.declared.watch_room.Blank.{Blank}
use Rattle.role_driver.specs.inner.Watchers.{task_of}
use Rattle.role_driver.specs.inner.WatchRooms.{task_with, observer_of}
use Rattle.role_driver.proofs.Complete.{moved_on, all_first}
use Rattle.shared_views.proofs.AllAlike.{last_alike}
use Rattle.role_driver.proofs.assigning.watchers_for.Goals as goal

pub loop-blank-preserved : goal.loop-blank-preserved
loop-blank-preserved g c =
    let inv = c.loop-blank.invariant in let observer = observer_of c.args._manager.now in
    let took = c.in-Some.ensures.steps.0 in let one = ap length took in
    let pushed = c.push_reserved.ensures in
    let alike = last_alike placeless (length c.next.new.self.rest.items) observer c.loop-blank.observers.items
    c.pop.new.self.items c.in-Some-pop.observer c.pop.result (inv.observers ∙ ap (λ l. replicate (length l) observer) took)
    c.pop.ensures.items c.in-Some-pop.is in
    record {
      room = omega (arith, inv.room, one, pushed.len, pushed.capacity);
      observers = alike.0;
      objects =
          (all_first (λ (b : Blank). b.object < length observer.initials) c.in-Some.blank c.next.new.self.rest.items
          c.loop-blank.blank-iterator.rest.items took inv.objects).1;
      tasks = moved_on (λ (b : Blank). task_with observer b.object) task_of c.loop-blank.blank-iterator.rest.items
          c.next.new.self.rest.items c.loop-blank.watchers.items c.push_reserved.new.self.items c.in-Some.blank c.new.result
          pushed.items took (c.new.ensures ∙ ap (λ (w : Watching). task_with w c.in-Some.blank.object) alike.1) ∙ inv.tasks;
    }
