-- What a device keeps from one call to the next of what went over its wire.
use Rattle.std.specs.Prelude.{◌≡◌, ℕ, true, false, List, [], Option}
use Rattle.std.specs.Io.KnownBytes.{append_known, prepend_known}
use Rattle.std.specs.List.{list_any}
use Rattle.caa_base.specs.declared.outside.plant.Asked.{Asked}
use Rattle.caa_base.specs.declared.outside.source.Source.{Ghosts as SourceGhosts}
use Rattle.caa_base.specs.declared.outside.sink.Sink.{Ghosts as SinkGhosts}
use Rattle.line_plant.specs.declared.told.Told.{Told}
use Rattle.line_plant.specs.declared.wire.Wire.{Wire}
use Rattle.line_plant.specs.GivenUp.{tells_failed, StaysStill}
use Rattle.line_plant.specs.Lines.{stop_line}
use Rattle.line_plant.specs.Sent.{WasSent, IsUncut}
use Rattle.line_plant.specs.Wires.{IsStopped}

-- all that was sent is what the device was asked for, and as long as the wire holds, everything was answered
pub record Keeps {S K : Type 0} (sources : SourceGhosts S) (sinks : SinkGhosts K) (names : List (List ℕ)) (listened : Told S) (told : Told K)
    (wire : Wire S K) : Type 0 where
  pub bytes : List ℕ
  pub stop : List ℕ
  pub answers : List ℕ
  pub sent : WasSent names told.asked stop bytes answers
  pub held : sinks.held wire.commands ≡ append_known (sinks.held told.opened) bytes
  pub rest : Option (List ℕ)
  pub heard : sources.left listened.opened ≡ prepend_known answers rest
  pub uncut : wire.is_cut ≡ false → IsUncut names sent.next sent.unanswered sent.last
  pub unstopped : wire.is_cut ≡ false → wire.was_stopped ≡ false → stop ≡ []
  pub stopped : wire.is_cut ≡ false → wire.was_stopped ≡ true → stop ≡ stop_line
  pub whole : wire.is_broken ≡ false
      → (sent.unanswered ≡ []) × (sent.next ≡ wire.next) × (stop ≡ []) × (rest ≡ sources.left wire.answers) × (wire.was_stopped ≡ false)

-- a device that was told that one of these places failed did nothing after that, and is stopped
pub record KeepsStill {S K : Type 0} (fatal : List ℕ) (asked : List Asked) (wire : Wire S K) : Type 0 where
  pub still : StaysStill fatal asked
  pub stopped : list_any (tells_failed fatal) asked ≡ true → IsStopped wire
