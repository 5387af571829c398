use Rattle.std.proofs.Common.{All}
use Rattle.action_manager.specs.Managers.{IsSeatIn}
use Rattle.thread_tests.proofs.driving.go_rounds.Given as goal

abbrev pub invariant-loop : goal.invariant-loop
invariant-loop g l = All (λ s. IsSeatIn g.M.Machine.base_of l.manager s) l.seats.items
