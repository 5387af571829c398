use Rattle.std.proofs.Common.{◌∙◌, ap, arith, length}
use Rattle.role_driver.specs.inner.Watchers.{task_of, task_at}
use Rattle.role_driver.proofs.Complete.{moved_on}
use Rattle.role_driver.proofs.posts.call_all_back.Goals as goal

pub push_reserved-requires : goal.push_reserved-requires
push_reserved-requires g c =
    let inv = c.loop-post.invariant in let one = ap length c.in-Some.ensures.steps.0 in
    omega (arith, inv.room, one)

pub loop-post-preserved : goal.loop-post-preserved
loop-post-preserved g c =
    let inv = c.loop-post.invariant in
    let took = c.in-Some.ensures.steps.0 in let one = ap length took in
    let pushed = c.push_reserved.ensures in
    record {
      room = omega (arith, inv.room, one, pushed.len, pushed.capacity);
      tasks = moved_on (λ p. task_at (λ h. h.promise.watcher.value) p) task_of c.loop-post.post-iterator.rest.items
          c.next.new.self.rest.items c.loop-post.back.items c.push_reserved.new.self.items c.in-Some.post c.call_back.result
          pushed.items took c.call_back.ensures ∙ inv.tasks;
    }
