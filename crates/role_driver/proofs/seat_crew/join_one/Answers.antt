use Rattle.std.proofs.Common.{◌≡◌, true, reverse, subst, sym}
use Rattle.action_manager.specs.Managers.{plan_in}
use Rattle.action_manager.specs.Seats.{seen_by}
use Rattle.place_plan.specs.RulesOfJournals.Roles.{is_over}
use Rattle.role_driver.proofs.Served.{served_on}
use Rattle.role_driver.proofs.seat_crew.join_one.Goals as goal

pub drive-requires : goal.drive-requires
drive-requires g c = record { opened = c.come_back-seat.ensures.served.opened }

pub returns-clause-done : goal.returns-clause-done
returns-clause-done g c =
    let driven = c.drive.ensures in
    record {
      opened = driven.opened;
      over = subst (λ t. is_over (plan_in c.args.manager.now) (reverse (seen_by c.drive.result)) t ≡ true) (sym driven.same) driven.over;
    }

pub returns-clause-served : goal.returns-clause-served
returns-clause-served g c =
    let driven = c.drive.ensures in
    served_on g.M.Machine.base_of g.M.Machine.journal_of g.G.ToldGate.was_told g.G.ToldGate.was_handed c.args.manager.now
    c.args.gate.now c.come_back-seat.result c.drive.result c.come_back-seat.ensures.served driven.opened driven.same driven.told
    driven.handed
