use Rattle.std.proofs.Common.{◌∙◌, ap, arith, length, All}
use Rattle.action_manager.proofs.Gathered.{all_more}
use Rattle.role_driver.proofs.Complete.{moved_on, all_first}
use Rattle.worker_pool.specs.Relays.{weight_of}
use Rattle.worker_pool.specs.Hands.{IsHandOf, IsOpened, number_of}
use Rattle.worker_pool.specs.inner.Workers.{IsMember, number_by}
use Rattle.worker_pool.proofs.Members.{held_back}
use Rattle.worker_pool.proofs.worker_crew.join_all.Goals as goal

pub join_one-worker-requires : goal.join_one-worker-requires
join_one-worker-requires g c =
    (all_first (λ r. IsMember c.args.relay.now (λ h. h.promise.relay.value) r) c.in-Some.member c.next.new.self.rest.items
    c.loop-member.member-iterator.rest.items c.in-Some.ensures.steps.0 c.loop-member.invariant.members).0

pub loop-member-preserved : goal.loop-member-preserved
loop-member-preserved g c =
    let inv = c.loop-member.invariant in
    let relay = c.args.relay.now in
    let took = c.in-Some.ensures.steps.0 in let one = ap length took in
    let hands = c.push_reserved.ensures in let kept = c.push_reserved-in-loop-member.ensures in
    let worker = c.join_one-worker.result in let at = c.join_one-worker.ensures in
    record {
      room = (omega (arith, inv.room.0, one, hands.len, hands.capacity), omega (arith, inv.room.1, one, kept.len, kept.capacity));
      members =
          (all_first (λ r. IsMember relay (λ h. h.promise.relay.value) r) c.in-Some.member c.next.new.self.rest.items
          c.loop-member.member-iterator.rest.items took inv.members).1;
      hands = all_more (IsHandOf relay) c.loop-member.hands.items worker.hand c.push_reserved.new.self.items hands.items inv.hands at.hand;
      kept = all_more (λ v. All (λ s. IsOpened relay s) v.items) c.loop-member.kept.items worker.kept
          c.push_reserved-in-loop-member.new.self.items kept.items inv.kept at.opened;
      held = λ h. held_back h c.loop-member.hands.items c.push_reserved.new.self.items c.loop-member.kept.items
          c.push_reserved-in-loop-member.new.self.items worker.hand worker.kept (λ v. weight_of h v.items) hands.items
          kept.items (at.held h) (inv.held h);
      order = moved_on (λ r. number_by (λ h. h.promise.number) r) number_of c.loop-member.member-iterator.rest.items
          c.next.new.self.rest.items c.loop-member.hands.items c.push_reserved.new.self.items c.in-Some.member worker.hand
          hands.items took at.numbered ∙ inv.order;
    }
