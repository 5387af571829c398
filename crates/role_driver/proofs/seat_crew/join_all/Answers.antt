use Rattle.std.proofs.Common.{◌∙◌, ap, arith, length}
use Rattle.action_manager.specs.Seats.{participant_of}
use Rattle.action_manager.proofs.Gathered.{all_more}
use Rattle.role_driver.specs.SeatsDriven.{IsDone, IsServed}
use Rattle.role_driver.specs.inner.Crew.{IsMember, who_of}
use Rattle.role_driver.proofs.Complete.{moved_on, all_first}
use Rattle.role_driver.proofs.seat_crew.join_all.Goals as goal

pub push_reserved-requires : goal.push_reserved-requires
push_reserved-requires g c =
    let inv = c.loop-member.invariant in let one = ap length c.in-Some.ensures.steps.0 in
    omega (arith, inv.room, one)

pub join_one-requires : goal.join_one-requires
join_one-requires g c =
    let manager = c.args.manager.now in let base_of = g.M.Machine.base_of in
    record {
      member =
          (all_first (λ r. IsMember base_of g.M.Machine.journal_of g.G.ToldGate.was_told g.G.ToldGate.was_handed
          manager c.args.gate.now (λ h. (h.promise.seat.value, h.promise.gate.value)) r)
          c.in-Some.member c.next.new.self.rest.items
          c.loop-member.member-iterator.rest.items c.in-Some.ensures.steps.0 c.loop-member.invariant.crew).0;
    }

pub loop-member-preserved : goal.loop-member-preserved
loop-member-preserved g c =
    let inv = c.loop-member.invariant in
    let manager = c.args.manager.now in let base_of = g.M.Machine.base_of in
    let took = c.in-Some.ensures.steps.0 in let one = ap length took in
    let pushed = c.push_reserved.ensures in
    record {
      room = omega (arith, inv.room, one, pushed.len, pushed.capacity);
      crew = (all_first (λ r. IsMember base_of g.M.Machine.journal_of g.G.ToldGate.was_told g.G.ToldGate.was_handed
          manager c.args.gate.now (λ h. (h.promise.seat.value, h.promise.gate.value)) r) c.in-Some.member
          c.next.new.self.rest.items c.loop-member.member-iterator.rest.items took inv.crew).1;
      done = all_more (IsDone base_of manager) c.loop-member.seats.items c.join_one.result c.push_reserved.new.self.items
          pushed.items inv.done c.join_one.ensures.done;
      served = all_more (IsServed base_of g.M.Machine.journal_of g.G.ToldGate.was_told g.G.ToldGate.was_handed
          manager c.args.gate.now) c.loop-member.seats.items
          c.join_one.result c.push_reserved.new.self.items pushed.items inv.served c.join_one.ensures.served;
      order = moved_on (λ r. who_of (λ h. h.promise.seat.value) r) participant_of c.loop-member.member-iterator.rest.items
          c.next.new.self.rest.items c.loop-member.seats.items c.push_reserved.new.self.items c.in-Some.member c.join_one.result
          pushed.items took c.join_one.ensures.same ∙ inv.order;
    }
