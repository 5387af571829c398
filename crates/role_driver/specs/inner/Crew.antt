-- The threads that drive seats to their end.
use Rattle.std.specs.Prelude.{◌≡◌, ◌<◌, ◌⊎◌, ℕ, true, List, reverse, Result, Ok, Err}
use Rattle.caa_base.specs.declared.written.entry.Entry.{Entry}
use Rattle.place_plan.specs.Plans.PlanValue.{Plan}
use Rattle.place_plan.specs.declared.rules.machine.Base.{Base}
use Rattle.place_plan.specs.RulesOfJournals.Roles.{is_over}
use Rattle.action_manager.specs.Seats.{participant_of, seen_by, token_of}
use Rattle.action_manager.specs.declared.manager.Manager.{Manager}
use Rattle.action_manager.specs.declared.seat.Seat.{Seat}
use Rattle.role_driver.specs.SeatsDriven.{IsServed}
use Rattle.role_driver.specs.declared.seat_crew.Progress.{Progress}
use Rattle.role_driver.specs.declared.seat_crew.Progress.TheVariants as progress

-- the plan of the machine at which the seat takes turns
abbrev pub plan_at : {M : Type 0} → Seat M → Plan
plan_at seat = (token_of seat).me.0.terms.plan

-- how a seat comes back from its thread: its participant is over in what it has seen; or it is untouched, and this was seen
abbrev pub IsBack : {M : Type 0} → Type 0 → Seat M → Seat M → Type 0
IsBack was_seen before after =
    (is_over (plan_at before) (reverse (seen_by after)) (participant_of before) ≡ true) ⊎ ((after ≡ before) × was_seen)

-- a member of the crew: a thread that drives a seat of this manager and tells this gate, or such a seat that was handed back
abbrev pub IsMember : {M G H : Type 0} → (M → Base) → (M → List Entry) → (G → ℕ → ℕ → ℕ → Type 0) → (G → ℕ → ℕ → ℕ → Type 0) → Manager M
    → G → (H → Seat M × G) → Result H (Seat M) → Type 0
IsMember base_of journal_of was_told was_handed manager gate went (Ok thread) =
    IsServed base_of journal_of was_told was_handed manager gate (went thread).0 × ((went thread).1 ≡ gate)
IsMember base_of journal_of was_told was_handed manager gate went (Err seat) =
    IsServed base_of journal_of was_told was_handed manager gate seat

-- whose seat it is
abbrev pub who_of : {M H : Type 0} → (H → Seat M) → Result H (Seat M) → ℕ
who_of seat_of (Ok thread) = participant_of (seat_of thread)
who_of seat_of (Err seat) = participant_of seat

-- what a round of the first so many came to: where all wait who aren't over, the first of these is one of them
abbrev pub IsProgressOf : ℕ → Progress → Type 0
IsProgressOf count (progress.Waits index) = index < count
IsProgressOf count _ = Unit {0}
