-- A device that is spoken to in lines, and what a call of it comes to.
use Rattle.std.specs.Prelude.{◌≡◌, ◌≢◌, ◌⊎◌, ℕ, ℤ, true, false, List, [], ◌∷◌, length, Option, None, Some, Result, Ok, Err}
use Rattle.std.specs.Io.KnownBytes.{append_known, prepend_known}
use Rattle.std.specs.List.{list_any}
use Rattle.caa_base.specs.Written.Names.{name_at}
use Rattle.caa_base.specs.declared.outside.source.Source.{Ghosts as SourceGhosts}
use Rattle.caa_base.specs.declared.outside.sink.Sink.{Ghosts as SinkGhosts}
use Rattle.caa_base.specs.declared.outside.plant.Asked.{Asked}
use Rattle.caa_base.specs.declared.outside.plant.PlantError.{PlantError}
use Rattle.caa_base.specs.declared.outside.plant.PlantError.TheVariants as refusal
use Rattle.line_plant.specs.declared.hearing.Answer.TheVariants as answer
use Rattle.line_plant.specs.declared.wire.Wire.{Wire}
use Rattle.line_plant.specs.Lines.{lay_line, asking_line, stop_line}
use Rattle.line_plant.specs.Wires.{WasAnswered, AskCame}
use Rattle.line_plant.specs.Sent.{WasSent}
use Rattle.line_plant.specs.GivenUp.{tells_failed, StaysStill}

-- a device: the names of its objects, and the places whose failure ends its use; the wire to it; what the sink held at first, and what
-- was left of the source; all that came to the device since; how many objects were laid out; the calls of `put` since then, and the room
-- for them; how many calls of `lay` and of `put` failed
pub record LineDevice (S K : Type 0) : Type 0 where
  pub names : List (List ℕ)
  pub fatal : List ℕ
  pub wire : Wire S K
  pub start : Option (List ℕ)
  pub to_come : Option (List ℕ)
  pub asked : List Asked
  pub objects : ℕ
  pub calls : ℕ
  pub room : ℕ
  pub lay_faults : ℕ
  pub faults : ℕ

-- the line was sent and answered `well`
abbrev pub WasDone : {S K : Type 0} → SourceGhosts S → SinkGhosts K → Wire S K → Wire S K → List ℕ → Type 0
WasDone sources sinks before after text = WasAnswered sources sinks before after text answer.Well

-- the line was refused, or its answer is lost
abbrev pub WasNotDone : {S K : Type 0} → SourceGhosts S → SinkGhosts K → Wire S K → Wire S K → List ℕ → Type 0
WasNotDone sources sinks before after text =
    AskCame sources sinks before after text answer.Failed ⊎ AskCame sources sinks before after text answer.Lost

-- what a put or a restore comes to, by its word: it succeeds only where its line was sent with its number, and answered `well` with
-- that number
abbrev pub PutCame : {S K : Type 0} → SourceGhosts S → SinkGhosts K → List ℕ → LineDevice S K → LineDevice S K → ℕ → ℤ
    → {T E : Type 0} → Result T E → Type 0
PutCame sources sinks word before after object value (Ok v) =
    WasDone sources sinks before.wire after.wire (asking_line word before.wire.next (name_at before.names object) value)
PutCame sources sinks word before after object value (Err e) =
    WasNotDone sources sinks before.wire after.wire (asking_line word before.wire.next (name_at before.names object) value)

-- there are other objects than those of the device, and it wasn't asked
pub record IsUnfit {S K : Type 0} (names : List (List ℕ)) (before after : Wire S K) (values : List ℤ) : Type 0 where
  pub cause : length names ≢ length values
  pub kept : after ≡ before

-- what a laying out comes to: it succeeds only where the line of these values was sent with its number, and answered `well` with that
-- number; where no memory is found for the line, the device isn't asked
abbrev pub LayCame : {S K : Type 0} → SourceGhosts S → SinkGhosts K → List (List ℕ) → Wire S K → Wire S K → List ℤ → {T : Type 0}
    → Result T PlantError → Type 0
LayCame sources sinks names before after values (Ok v) = WasDone sources sinks before after (lay_line before.next names values)
LayCame sources sinks names before after values (Err refusal.Failed) =
    WasNotDone sources sinks before after (lay_line before.next names values) ⊎ IsUnfit names before after values
LayCame sources sinks names before after values (Err refusal.OutOfMemory) = after ≡ before

-- what is known, written as numbers
abbrev pub coded : Option (List ℕ) → List ℕ
coded None = []
coded (Some bytes) = 1 ∷ bytes

-- what a device was made with: what its streams held at first, the places whose failure ends its use, and the names of its objects
abbrev pub constants_of : {S K : Type 0} → LineDevice S K → List (List ℕ)
constants_of device = coded device.start ∷ coded device.to_come ∷ device.fatal ∷ device.names

-- what went over the wire. Since it held what it held at first, the sink got the lines of all that the device was asked for; and what was
-- left of the source at first begins with the answers to them, `well` to just those that were done. Once the device was told that a place
-- failed whose failure ends its use, it did nothing, and `stop` was sent, unless a write failed
pub record WireCarried {S K : Type 0} (sources : SourceGhosts S) (sinks : SinkGhosts K) (device : LineDevice S K) : Type 0 where
  pub bytes : List ℕ
  pub stop : List ℕ
  pub answers : List ℕ
  pub sent : WasSent device.names device.asked stop bytes answers
  pub held : sinks.held device.wire.commands ≡ append_known device.start bytes
  pub rest : Option (List ℕ)
  pub heard : device.to_come ≡ prepend_known answers rest
  pub still : StaysStill device.fatal device.asked
  pub stopped : list_any (tells_failed device.fatal) device.asked ≡ true → device.wire.is_cut ≡ false → stop ≡ stop_line
