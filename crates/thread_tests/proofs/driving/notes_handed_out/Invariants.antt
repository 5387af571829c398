use Rattle.std.proofs.Common.{All}
use Rattle.journal_replay.specs.Hall.{base_in}
use Rattle.action_manager.specs.Managers.{IsSeatIn}
use Rattle.thread_tests.proofs.driving.notes_handed_out.Given as goal

abbrev pub invariant-loop-index : goal.invariant-loop-index
invariant-loop-index g l = All (λ s. IsSeatIn base_in l.manager s) l.seats.items
