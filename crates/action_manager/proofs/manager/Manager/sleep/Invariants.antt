use Rattle.std.proofs.Common.{◌≡◌}
use Rattle.action_manager.specs.Stepping.{GrowsWithout}
use Rattle.action_manager.specs.Managers.{table_of, terms_in}
use Rattle.action_manager.specs.Seats.{IsSeatOf, participant_of, seen_by, told_to}
use Rattle.action_manager.proofs.manager.Manager.sleep.Given as goal

abbrev pub invariant-loop : goal.invariant-loop
invariant-loop g l = record {
  opened : IsSeatOf (table_of l.self) (terms_in g.M.Machine.base_of l.self) l.seat;
  same : (participant_of l.seat ≡ participant_of l.initial.seat) × (told_to l.seat ≡ told_to l.initial.seat);
  grown : GrowsWithout (seen_by l.initial.seat) (seen_by l.seat) (participant_of l.initial.seat);
  goes : (goal.iterator-loop g).can_next l.iterator' × (goal.iterator-loop g).is_finite l.iterator';
}
