use Rattle.std.proofs.Common.{◌≡◌, ◌∙◌, ap, arith, length}
use Rattle.action_manager.specs.Seats.{participant_of}
use Rattle.action_manager.proofs.Gathered.{all_more}
use Rattle.role_driver.specs.SeatsDriven.{IsServed}
use Rattle.role_driver.specs.inner.Crew.{IsMember, who_of}
use Rattle.role_driver.proofs.Complete.{moved_on, all_first, who_is, member_is}
use Rattle.role_driver.proofs.seat_crew.start_all.Goals as goal

pub loop-seat-preserved : goal.loop-seat-preserved
loop-seat-preserved g c =
    let inv = c.loop-seat.invariant in
    let manager = c.args.manager.now in let base_of = g.M.Machine.base_of in
    let took = c.in-Some.ensures.steps.0 in let one = ap length took in
    let pushed = c.push_reserved.ensures in let started = c.start.ensures in
    let front = all_first (IsServed base_of g.M.Machine.journal_of g.G.ToldGate.was_told g.G.ToldGate.was_handed
    manager c.args.gate.now) c.in-Some.seat c.next.new.self.rest.items
    c.loop-seat.seat-iterator.rest.items took inv.served in
    let who =
    who_is (λ h. h.promise.seat.value) (participant_of c.in-Some.seat)
    (λ h. (IsServed base_of g.M.Machine.journal_of g.G.ToldGate.was_told g.G.ToldGate.was_handed
    manager c.args.gate.now h.promise.seat.value × (h.promise.gate.value ≡ c.args.gate.now)))
    (IsServed base_of g.M.Machine.journal_of g.G.ToldGate.was_told g.G.ToldGate.was_handed manager c.args.gate.now)
    c.start.result started.ok started.err in
    let member = member_is base_of g.M.Machine.journal_of g.G.ToldGate.was_told g.G.ToldGate.was_handed manager c.args.gate.now
    (λ h. (h.promise.seat.value, h.promise.gate.value)) (participant_of c.in-Some.seat) c.start.result started.ok started.err in
    record {
      room = (omega (arith, inv.room.0, one, pushed.len, pushed.capacity), pushed.capacity ∙ inv.room.1);
      served = front.1;
      crew = all_more (λ r. IsMember base_of g.M.Machine.journal_of g.G.ToldGate.was_told g.G.ToldGate.was_handed
          manager c.args.gate.now (λ h. (h.promise.seat.value, h.promise.gate.value)) r) c.loop-seat.crew.items c.start.result
          c.push_reserved.new.self.items pushed.items inv.crew member;
      order = moved_on participant_of (λ r. who_of (λ h. h.promise.seat.value) r) c.loop-seat.seat-iterator.rest.items
          c.next.new.self.rest.items c.loop-seat.crew.items c.push_reserved.new.self.items c.in-Some.seat c.start.result
          pushed.items took who ∙ inv.order;
    }
