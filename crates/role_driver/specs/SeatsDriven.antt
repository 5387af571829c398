-- Seats while they are driven, and when they were driven to their end.
use Rattle.std.specs.Prelude.{◌≡◌, ℕ, true, List, reverse}
use Rattle.caa_base.specs.declared.written.entry.Entry.{Entry}
use Rattle.place_plan.specs.declared.rules.machine.Base.{Base}
use Rattle.place_plan.specs.RulesOfJournals.Roles.{is_over}
use Rattle.action_manager.specs.Managers.{plan_in, handed_in, IsSeatIn}
use Rattle.action_manager.specs.Seats.{participant_of, seen_by}
use Rattle.action_manager.specs.declared.manager.Manager.{Manager}
use Rattle.action_manager.specs.declared.seat.Seat.{Seat}
use Rattle.role_driver.specs.Handling.{TellsOwnHandlers}
use Rattle.role_driver.specs.Working.{TellsOwnWork}

-- the seat is one of this manager's, and the gate was told of each work that its participant did since the manager was opened, and
-- of each handler that it began
pub record IsServed {M G : Type 0} (base_of : M → Base) (journal_of : M → List Entry) (was_told : G → ℕ → ℕ → ℕ → Type 0)
    (was_handed : G → ℕ → ℕ → ℕ → Type 0) (manager : Manager M) (gate : G) (seat : Seat M) : Type 0 where
  pub opened : IsSeatIn base_of manager seat
  pub told : TellsOwnWork (was_told gate) (participant_of seat) (journal_of (handed_in manager)) (seen_by seat)
  pub handed : TellsOwnHandlers (was_handed gate) (participant_of seat) (journal_of (handed_in manager)) (seen_by seat)

-- the seat is one of this manager's, and its participant is over in what it has seen
pub record IsDone {M : Type 0} (base_of : M → Base) (manager : Manager M) (seat : Seat M) : Type 0 where
  pub opened : IsSeatIn base_of manager seat
  pub over : is_over (plan_in manager) (reverse (seen_by seat)) (participant_of seat) ≡ true
