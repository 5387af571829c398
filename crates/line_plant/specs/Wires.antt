-- A line that is sent, and the answer to it.
use Rattle.std.specs.Prelude.{◌≡◌, ◌⊎◌, ℕ, Bool, true, false, List}
use Rattle.std.specs.Io.KnownBytes.{append_known}
use Rattle.caa_base.specs.Outside.Counts.{counted_up}
use Rattle.caa_base.specs.Outside.Writing.{WrotePart}
use Rattle.caa_base.specs.declared.outside.source.Source.{Ghosts as SourceGhosts}
use Rattle.caa_base.specs.declared.outside.sink.Sink.{Ghosts as SinkGhosts}
use Rattle.line_plant.specs.declared.hearing.Answer.{Answer}
use Rattle.line_plant.specs.declared.hearing.Answer.TheVariants.{Well, Failed, Lost}
use Rattle.line_plant.specs.declared.wire.Wire.{Wire}
use Rattle.line_plant.specs.Answers.{Heard}
use Rattle.line_plant.specs.Lines.{stop_line}

-- the answer is lost
abbrev pub is_lost : Answer → Bool
is_lost Well = false
is_lost Failed = false
is_lost Lost = true

-- the whole line was sent, and this was heard of its number; nothing is sent any longer where the answer is lost
pub record WasAnswered {S K : Type 0} (sources : SourceGhosts S) (sinks : SinkGhosts K) (before after : Wire S K)
    (text : List ℕ) (answer : Answer) : Type 0 where
  pub able : before.is_broken ≡ false
  pub sent : sinks.held after.commands ≡ append_known (sinks.held before.commands) text
  pub unfailed : sinks.faults after.commands ≡ sinks.faults before.commands
  pub heard : Heard sources before.next before.answers after.answers answer
  pub numbered : after.next ≡ counted_up before.next
  pub broken : after.is_broken ≡ is_lost answer
  pub cut : after.is_cut ≡ before.is_cut
  pub stopped : after.was_stopped ≡ before.was_stopped

-- a write failed and a part of the line was sent; no answer was awaited, and nothing is sent any longer
pub record WasCutOff {S K : Type 0} (sinks : SinkGhosts K) (before after : Wire S K) (text : List ℕ) : Type 0 where
  pub able : before.is_broken ≡ false
  pub part : WrotePart (sinks.held before.commands) (sinks.held after.commands) text
  pub cause : sinks.faults after.commands ≡ counted_up (sinks.faults before.commands)
  pub unheard : after.answers ≡ before.answers
  pub numbered : after.next ≡ counted_up before.next
  pub broken : after.is_broken ≡ true
  pub cut : after.is_cut ≡ true
  pub stopped : after.was_stopped ≡ before.was_stopped

-- the wire was broken before, by a lost answer or a failed write, or it was stopped, so nothing was sent or heard
pub record IsOut {S K : Type 0} (before after : Wire S K) : Type 0 where
  pub cause : before.is_broken ≡ true
  pub kept : after ≡ before

-- nothing was awaited: the line was cut off by a failed write, or the wire was broken before. The answer counts as lost
abbrev pub IsUnasked : {S K : Type 0} → SinkGhosts K → Wire S K → Wire S K → List ℕ → Answer → Type 0
IsUnasked sinks before after text Well = ⊥
IsUnasked sinks before after text Failed = ⊥
IsUnasked sinks before after text Lost = WasCutOff sinks before after text ⊎ IsOut before after

-- what asking by a line comes to
abbrev pub AskCame : {S K : Type 0} → SourceGhosts S → SinkGhosts K → Wire S K → Wire S K → List ℕ → Answer → Type 0
AskCame sources sinks before after text answer =
    WasAnswered sources sinks before after text answer ⊎ IsUnasked sinks before after text answer

-- the whole of a line was written
pub record WroteLine {K : Type 0} (sinks : SinkGhosts K) (before after : K) (text : List ℕ) : Type 0 where
  pub whole : sinks.held after ≡ append_known (sinks.held before) text
  pub unfailed : sinks.faults after ≡ sinks.faults before

-- a write failed, and a part of a line was written
pub record WroteLinePart {K : Type 0} (sinks : SinkGhosts K) (before after : K) (text : List ℕ) : Type 0 where
  pub part : WrotePart (sinks.held before) (sinks.held after) text
  pub cause : sinks.faults after ≡ counted_up (sinks.faults before)

-- `stop` was sent, or a part of it where a write failed
pub record SentStop {S K : Type 0} (sinks : SinkGhosts K) (before after : Wire S K) : Type 0 where
  pub uncut : before.is_cut ≡ false
  pub first : before.was_stopped ≡ false
  pub sent :
      (WroteLine sinks before.commands after.commands stop_line × (after.is_cut ≡ false))
      ⊎ (WroteLinePart sinks before.commands after.commands stop_line × (after.is_cut ≡ true))

-- `stop` was sent before, or a line was cut off, behind which it could be taken for a part of that line; nothing was sent
pub record SentNoStop {S K : Type 0} (before after : Wire S K) : Type 0 where
  pub cause : (before.is_cut ≡ true) ⊎ (before.was_stopped ≡ true)
  pub kept : after.commands ≡ before.commands
  pub cut : after.is_cut ≡ before.is_cut

-- nothing is sent on the wire any longer, since `stop` was sent or a line was cut off
pub record IsStopped {S K : Type 0} (wire : Wire S K) : Type 0 where
  pub broken : wire.is_broken ≡ true
  pub spent : (wire.is_cut ≡ true) ⊎ (wire.was_stopped ≡ true)

-- what giving up comes to: `stop` is sent once, at most, nobody has to answer it, and nothing is sent any longer
pub record WasStopped {S K : Type 0} (sinks : SinkGhosts K) (before after : Wire S K) : Type 0 where
  pub came : SentStop sinks before after ⊎ SentNoStop before after
  pub unheard : after.answers ≡ before.answers
  pub numbered : after.next ≡ before.next
  pub ended : IsStopped after
