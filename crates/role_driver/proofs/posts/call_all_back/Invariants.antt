use Rattle.std.proofs.Common.{◌≡◌, ◌++◌, ◌+◌, length, map, vec_capacity, vec_len}
use Rattle.role_driver.specs.inner.Watchers.{task_of, task_at}
use Rattle.role_driver.proofs.posts.call_all_back.Given as goal

abbrev pub invariant-loop-post : goal.invariant-loop-post
invariant-loop-post g l =
    let left = l.post-iterator.rest.items in
    record {
      room : vec_len l.back + length left ≡ vec_capacity l.back;
      tasks : map task_of l.back.items ++ map (λ p. task_at (λ h. h.promise.watcher.value) p) left
          ≡ map (λ p. task_at (λ h. h.promise.watcher.value) p) l.fn.posts.items;
    }
