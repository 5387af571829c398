use Rattle.std.proofs.Common.{◌≡◌, [], arith, vec_capacity}
use Rattle.action_manager.proofs.Gathered.{all_more}
use Rattle.worker_pool.proofs.pool_room.vectors.Goals as goal

pub loop-worker-preserved : goal.loop-worker-preserved
loop-worker-preserved g c =
    let before = c.loop-worker.invariant in let pushed = c.in_ok-push.ensures in let empty = c.in_ok-with_capacity.ensures in
    record {
      many = omega (arith, pushed.len, before.many);
      room = all_more (λ v. (v.items ≡ []) × (vec_capacity v ≡ c.args.seats)) c.loop-worker.kept.items
          c.in_ok-with_capacity.field-0 c.push.new.self.items pushed.items before.room (empty.items, empty.exact);
    }
