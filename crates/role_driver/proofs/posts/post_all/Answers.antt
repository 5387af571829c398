use Rattle.std.proofs.Common.{◌∙◌, ap, arith, length}
use Rattle.role_driver.specs.inner.Watchers.{task_of, task_at}
use Rattle.role_driver.proofs.Complete.{moved_on}
use Rattle.role_driver.proofs.posts.post_all.Goals as goal

pub loop-watcher-preserved : goal.loop-watcher-preserved
loop-watcher-preserved g c =
    let inv = c.loop-watcher.invariant in
    let took = c.in-Some.ensures.steps.0 in let one = ap length took in
    let pushed = c.push_reserved.ensures in
    record {
      room = (omega (arith, inv.room.0, one, pushed.len, pushed.capacity), pushed.capacity ∙ inv.room.1);
      tasks = moved_on task_of (λ p. task_at (λ h. h.promise.watcher.value) p) c.loop-watcher.watcher-iterator.rest.items
          c.next.new.self.rest.items c.loop-watcher.posts.items c.push_reserved.new.self.items c.in-Some.watcher c.post.result
          pushed.items took c.post.ensures ∙ inv.tasks;
    }
