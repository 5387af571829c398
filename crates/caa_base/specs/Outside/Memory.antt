-- What sources, sinks and plants in memory are seen as.
use Rattle.std.specs.Prelude.{ℕ, Bool, List, [], length, nat_lt, if◌then◌else◌, Result, Contains}
use Rattle.caa_base.specs.Outside.Counts.{counted_up, faults_after}
use Rattle.caa_base.specs.Outside.PlantState.{PlantState, Drilling}

-- the numbers of the calls that fail, how many calls came, and how many of them failed
pub record Failures : Type 0 where
  pub at : List ℕ
  pub calls : ℕ
  pub faults : ℕ

-- the next call is one of those that fail
abbrev pub FailsNext : Failures → Type 0
FailsNext failures = Contains failures.at (counted_up failures.calls)

-- the failures after one more call, which gave this answer
abbrev pub failures_after : {T E : Type 0} → Result T E → Failures → Failures
failures_after result failures =
    record { at = failures.at; calls = counted_up failures.calls; faults = faults_after result failures.faults }

-- a source that fails at some calls: what is left, and the reads that fail
pub record FailingSource : Type 0 where
  pub left : List ℕ
  pub failures : Failures

-- a sink that fails only where it is full: what it holds, how much it can hold, and how many writes it refused
pub record WillingSink : Type 0 where
  pub held : List ℕ
  pub room : ℕ
  pub refused : ℕ

-- the writes that such a sink refused: none while it isn't full
abbrev pub refused_by : WillingSink → ℕ
refused_by sink = if nat_lt (length sink.held) sink.room then 0 else sink.refused

-- a sink that fails at some calls, and where it is full: what it holds, how much it can hold, and the writes that fail
pub record FailingSink : Type 0 where
  pub held : List ℕ
  pub room : ℕ
  pub failures : Failures

-- a plant that never fails: its state, how many calls of `put` came since it was laid out, and how many there is room for
pub record WillingPlant : Type 0 where
  pub state : PlantState
  pub calls : ℕ
  pub room : ℕ

-- a plant that wasn't laid out yet
abbrev pub empty_plant : WillingPlant
empty_plant = record { state = record { values = []; puts = [] }; calls = 0; room = 0 }

-- a plant that fails where that was asked for: its state and calls as above, its drills and tries, whether `lay` fails,
-- and how many calls of `lay` and of `put` failed
pub record FailingPlant : Type 0 where
  pub plant : WillingPlant
  pub drilling : Drilling
  pub fail_lay : Bool
  pub lay_faults : ℕ
  pub faults : ℕ
