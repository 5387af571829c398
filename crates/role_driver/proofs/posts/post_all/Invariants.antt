use Rattle.std.proofs.Common.{◌≡◌, ◌++◌, ◌+◌, length, map, vec_capacity, vec_len}
use Rattle.role_driver.specs.inner.Watchers.{task_of, task_at}
use Rattle.role_driver.proofs.posts.post_all.Given as goal

abbrev pub invariant-loop-watcher : goal.invariant-loop-watcher
invariant-loop-watcher g l =
    let left = l.watcher-iterator.rest.items in
    record {
      room : (vec_len l.posts + length left ≡ vec_capacity l.posts) × (vec_capacity l.posts ≡ length l.over);
      tasks : map (λ p. task_at (λ h. h.promise.watcher.value) p) l.posts.items ++ map task_of left ≡ map task_of l.fn.watchers.items;
    }
