use Rattle.std.proofs.Common.{◌≡◌}
use mathlib.Core.List.{IsPrefix}
use Rattle.action_manager.specs.Managers.{plan_in, IsSeatIn}
use Rattle.action_manager.specs.Seats.{participant_of, seen_by}
use Rattle.role_driver.specs.Handling.{TellsOwnHandlers}
use Rattle.role_driver.specs.Working.{AsksStill, TellsOwnWork}
use Rattle.role_driver.proofs.driving.drive.Given as goal

abbrev pub invariant-loop : goal.invariant-loop
invariant-loop g l = record {
  opened : IsSeatIn g.M.Machine.base_of l.manager l.seat;
  same : participant_of l.seat ≡ participant_of l.initial.seat;
  seen : IsPrefix (seen_by l.initial.seat) (seen_by l.seat);
  told : TellsOwnWork (g.G.ToldGate.was_told l.gate) (participant_of l.initial.seat) (seen_by l.initial.seat) (seen_by l.seat);
  handed :
      TellsOwnHandlers (g.G.ToldGate.was_handed l.gate) (participant_of l.initial.seat) (seen_by l.initial.seat) (seen_by l.seat);
  asks : AsksStill (plan_in l.manager) (seen_by l.seat) (participant_of l.initial.seat) l.answer;
  goes : (goal.iterator-loop g).can_next l.iterator' × (goal.iterator-loop g).is_finite l.iterator';
}
