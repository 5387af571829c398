use Rattle.std.proofs.Common.{◌∙◌, ap, arith, length, subst, All, [], vec_capacity, ◌≤◌, ◌≡◌}
use Rattle.action_manager.proofs.Gathered.{all_more, all_split}
use Rattle.role_driver.proofs.Complete.{moved_on, all_first}
use Rattle.worker_pool.specs.Hands.{IsHandOf, held_by, number_of, opened_in}
use Rattle.worker_pool.specs.inner.Workers.{IsMember, number_by}
use Rattle.worker_pool.proofs.Members.{fresh_worker, number_started, member_started}
use Rattle.worker_pool.proofs.worker_crew.start_all.Goals as goal

pub start-requires-clause-worker : goal.start-requires-clause-worker
start-requires-clause-worker g c κs within =
    let inv = c.loop-hand.invariant in
    let relay = c.args.relay.now in
    let front = all_first (λ h. IsHandOf relay h × (held_by h ≡ [])) c.in-Some.hand c.next.new.self.rest.items
    c.loop-hand.hand-iterator.rest.items c.in-Some.ensures.steps.0 inv.hands in
    fresh_worker relay _ front.0 (all_split (λ v. (v.items ≡ []) × (length (opened_in relay) ≤ vec_capacity v))
    c.pop.new.self.items c.in-Some-pop.room
    (subst (All (λ v. (v.items ≡ []) × (length (opened_in relay) ≤ vec_capacity v))) c.in-Some-pop.ensures.items inv.kept)).1

pub loop-hand-preserved : goal.loop-hand-preserved
loop-hand-preserved g c =
    let inv = c.loop-hand.invariant in
    let relay = c.args.relay.now in
    let took = c.in-Some.ensures.steps.0 in let one = ap length took in
    let pushed = c.push_reserved.ensures in let started = c.start.ensures in
    let front = all_first (λ h. IsHandOf relay h × (held_by h ≡ [])) c.in-Some.hand c.next.new.self.rest.items
    c.loop-hand.hand-iterator.rest.items took inv.hands in
    let number = number_started relay (λ h. h.promise.relay.value) (λ h. h.promise.number) (number_of c.in-Some.hand)
    c.start.result started.ok started.err in
    let member = member_started relay (λ h. h.promise.relay.value) (λ h. h.promise.number) (number_of c.in-Some.hand)
    c.start.result started.ok started.err in
    record {
      room = (omega (arith, inv.room.0, one, pushed.len, pushed.capacity), pushed.capacity ∙ inv.room.1);
      hands = front.1;
      kept = (all_split (λ v. (v.items ≡ []) × (length (opened_in relay) ≤ vec_capacity v)) c.pop.new.self.items
          c.in-Some-pop.room (subst (All (λ v. (v.items ≡ []) × (length (opened_in relay) ≤ vec_capacity v)))
          c.in-Some-pop.ensures.items inv.kept)).0;
      many = (let many = inv.many in let popped = c.in-Some-pop.ensures.cases in omega (arith, many, one, popped));
      members = all_more (λ r. IsMember relay (λ h. h.promise.relay.value) r) c.loop-hand.members.items c.start.result
          c.push_reserved.new.self.items pushed.items inv.members member;
      order = moved_on number_of (λ r. number_by (λ h. h.promise.number) r) c.loop-hand.hand-iterator.rest.items
          c.next.new.self.rest.items c.loop-hand.members.items c.push_reserved.new.self.items c.in-Some.hand c.start.result
          pushed.items took number ∙ inv.order;
    }
