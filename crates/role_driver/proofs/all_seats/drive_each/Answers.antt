use Rattle.std.proofs.Common.{◌≡◌, ◌∙◌, ap, sym, subst, arith, length, true, reverse}
use Rattle.place_plan.specs.RulesOfJournals.Roles.{is_over}
use Rattle.action_manager.specs.Managers.{plan_in, IsSeatIn}
use Rattle.action_manager.specs.Seats.{participant_of, seen_by}
use Rattle.action_manager.proofs.Gathered.{all_more}
use Rattle.role_driver.specs.SeatsDriven.{IsDone}
use Rattle.role_driver.proofs.Complete.{moved_on, all_first}
use Rattle.role_driver.proofs.all_seats.drive_each.Goals as goal

pub push_reserved-requires : goal.push_reserved-requires
push_reserved-requires g c =
    let inv = c.loop-seat.invariant in let one = ap length c.in-Some.ensures.steps.0 in
    omega (arith, inv.room, one)

pub loop-seat-preserved : goal.loop-seat-preserved
loop-seat-preserved g c =
    let inv = c.loop-seat.invariant in
    let manager = c.args.manager.now in let base_of = g.M.Machine.base_of in
    let took = c.in-Some.ensures.steps.0 in let one = ap length took in
    let pushed = c.push_reserved.ensures in
    let front = all_first (IsSeatIn base_of manager) c.in-Some.seat c.next.new.self.rest.items
    c.loop-seat.seat-iterator.rest.items took inv.opened in
    let mine : IsDone base_of manager c.drive.result =
    record {
      opened = c.drive.ensures.opened;
      over =
          subst (λ t. is_over (plan_in manager) (reverse (seen_by c.drive.result)) t ≡ true) (sym c.drive.ensures.same)
          c.drive.ensures.over;
    } in
    record {
      room = omega (arith, inv.room, one, pushed.len, pushed.capacity);
      opened = front.1;
      done = all_more (IsDone base_of manager) c.loop-seat.driven.items c.drive.result c.push_reserved.new.self.items
          pushed.items inv.done mine;
      order = moved_on participant_of participant_of c.loop-seat.seat-iterator.rest.items c.next.new.self.rest.items
          c.loop-seat.driven.items c.push_reserved.new.self.items c.in-Some.seat c.drive.result pushed.items took
          c.drive.ensures.same ∙ inv.order;
    }
