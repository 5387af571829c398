use Rattle.std.proofs.Common.{◌≡◌, All, vec_len}
use Rattle.action_manager.specs.Managers.{IsSeatIn}
use Rattle.thread_tests.proofs.driving.go_round.Given as goal

abbrev pub invariant-loop-index : goal.invariant-loop-index
invariant-loop-index g l = (l.index-end ≡ vec_len l.seats) × All (λ s. IsSeatIn g.M.Machine.base_of l.manager s) l.seats.items
