-- A manager, as its owner sees it.
use Rattle.std.specs.Prelude.{ℕ, List}
use Rattle.atomic_table.specs.Seated.{TableId}
use Rattle.place_plan.specs.declared.rules.machine.Base.{Base}
use Rattle.place_plan.specs.Plans.PlanValue.{Plan}
use Rattle.logbook.specs.Pages.{Book}
use Rattle.shared_views.specs.Telling.{cells_of}
use Rattle.action_manager.specs.declared.lock_view.Terms.{Terms}
use Rattle.action_manager.specs.declared.manager.Manager.{Manager}
use Rattle.action_manager.specs.Publishing.{book_of}
use Rattle.action_manager.specs.Stepping.{terms_of}
use Rattle.action_manager.specs.Locks.{id_of, home_at, plan_at}
use Rattle.action_manager.specs.Seats.{IsSeatOf}
use Rattle.action_manager.specs.declared.seat.Seat.{Seat}

-- the table on which it takes turns, which tells it from other managers
abbrev pub table_of : {M : Type 0} → Manager M → TableId
table_of manager = id_of manager.lock

-- the plan of its machine
abbrev pub plan_in : {M : Type 0} → Manager M → Plan
plan_in manager = plan_at manager.lock

-- the machine as it was handed in
abbrev pub handed_in : {M : Type 0} → Manager M → M
handed_in manager = (home_at manager.lock).machine

-- the names of its cells of resolved exceptions
abbrev pub cells_in : {M : Type 0} → Manager M → List ℕ
cells_in manager = cells_of (home_at manager.lock).bulletin

-- the name of its list of publications, of which its observers and its writer are
abbrev pub book_in : {M : Type 0} → Manager M → Book
book_in manager = book_of (home_at manager.lock).publishing

-- what its machine keeps to in every turn
abbrev pub terms_in : {M : Type 0} → (M → Base) → Manager M → Terms
terms_in base_of manager = terms_of (plan_in manager) (base_of (handed_in manager)) (cells_in manager) (book_in manager)

-- the seat is one of this manager's, and is at rest
abbrev pub IsSeatIn : {M : Type 0} → (M → Base) → Manager M → Seat M → Type 0
IsSeatIn base_of manager seat = IsSeatOf (table_of manager) (terms_in base_of manager) seat
