use Rattle.std.proofs.Common.{◌≡◌}
use Rattle.action_manager.specs.Managers.{plan_in, IsSeatIn}
use Rattle.action_manager.specs.Seats.{participant_of, seen_by}
use Rattle.role_driver.specs.Handling.{TellsOwnHandlers}
use Rattle.role_driver.specs.Working.{AsksStill, TellsOwnWork}
use Rattle.worker_pool.proofs.working.step_while_due.Given as goal

abbrev pub invariant-loop : goal.invariant-loop
invariant-loop g l = record {
  opened : IsSeatIn g.M.Machine.base_of l.manager l.seat;
  same : participant_of l.seat ≡ participant_of l.initial.seat;
  asks : AsksStill (plan_in l.manager) (seen_by l.seat) (participant_of l.seat) l.answer;
  told : TellsOwnWork (g.G.ToldGate.was_told l.gate) (participant_of l.initial.seat) (seen_by l.initial.seat) (seen_by l.seat);
  handed : TellsOwnHandlers (g.G.ToldGate.was_handed l.gate) (participant_of l.initial.seat) (seen_by l.initial.seat) (seen_by l.seat);
}
