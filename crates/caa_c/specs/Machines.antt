-- What C sees of the machine behind its handle, and what its calls leave of it.
use Rattle.std.specs.Prelude.{◌≡◌, ◌<◌, ◌≤◌, ℕ, Bool, List, length, Option, Some, None, is_some, if◌then◌else◌}
use Rattle.std.specs.Option.{option_map}
use Rattle.caa_base.specs.declared.written.entry.Entry.{Entry}
use Rattle.place_plan.specs.Plans.PlanValue.{Plan}
use Rattle.told_machine.specs.declared.next.Next.{Next}
use Rattle.told_machine.specs.Told.{Nexts, Answered, Worked}
use Rattle.caa_c.specs.inner.Kept.{SessionValue}
use Rattle.caa_c.specs.Codes.{number_of}
use Rattle.caa_c.specs.Steps.{bare_step, step_of}
use Rattle.caa_c.specs.declared.code.Code.TheVariants as code
use Rattle.caa_c.specs.declared.step.Step.{Step}
use Rattle.caa_c.specs.declared.handle.Caa.{Caa}

-- a machine: its plan, its journal, the oldest entry first, and the put that it has asked for and not been told of yet
pub record Machine : Type 0 where
  pub plan : Plan
  pub journal : List Entry
  pub asked : Option Entry

abbrev pub machine_of : SessionValue → Machine
machine_of s = record { plan = s.told.plan; journal = s.told.journal.entries; asked = s.told.asked }

-- the machine that is open behind a handle, if one is
abbrev pub machine_in : Caa → Option Machine
machine_in caa = option_map machine_of caa.seat.value

-- this holds of the machine that is open; or, where none is, that
abbrev pub Holds : Option Machine → (Machine → Type 0) → Type 0 → Type 0
Holds None P closed = closed
Holds (Some m) P closed = P m

-- the machine goes on so, and its plan stays; or, where none is open, none is after, and that holds
abbrev pub Goes : Option Machine → Option Machine → (Machine → Machine → Type 0) → Type 0 → Type 0
Goes None None R closed = closed
Goes (Some old) (Some new) R closed = (new.plan ≡ old.plan) × R old new
Goes _ _ R closed = ⊥

-- ---- what its calls leave

-- C is told by `step` what `next` for t answered
pub record NextTold (old new : Machine) (t : ℕ) (step : Step) : Type 0 where
  pub next : Next
  pub answered : Nexts old.plan old.journal new.journal t old.asked new.asked next
  pub told : step ≡ step_of next (length old.journal)

-- a participant of the plan is asked, or somebody else, for whom nothing is next and nothing changes
pub record Stepped (t : ℕ) (step : Step) (old new : Machine) : Type 0 where
  pub known : t < length old.plan.participants → NextTold old new t step
  pub unknown : length old.plan.participants ≤ t → (new ≡ old) × (step ≡ bare_step code.Unfit)

-- the number of the answer of a call that adds an entry, if it fits
abbrev pub number_fit : Option Entry → ℕ
number_fit made = if is_some made then number_of code.Done else number_of code.Unfit

-- the put that was asked for is answered
pub record TookAnswer (done : Bool) (answer : ℕ) (old new : Machine) : Type 0 where
  pub entry : Option Entry
  pub answered : Answered old.journal new.journal old.asked new.asked done entry
  pub told : answer ≡ number_fit entry

-- the work of t with this ticket has ended
pub record EndedWork (t ticket answer : ℕ) (old new : Machine) : Type 0 where
  pub entry : Option Entry
  pub worked : Worked old.plan old.journal new.journal t old.asked ticket entry
  pub kept : new.asked ≡ old.asked
  pub told : answer ≡ number_fit entry

-- the same of a participant of the plan, or of somebody else, who is at no work
pub record TookWork (t ticket answer : ℕ) (old new : Machine) : Type 0 where
  pub known : t < length old.plan.participants → EndedWork t ticket answer old new
  pub unknown : length old.plan.participants ≤ t → (new ≡ old) × (answer ≡ number_of code.Unfit)
