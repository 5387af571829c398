-- What a log in a sink tells of a journal.
use Rattle.std.specs.Prelude.{◌≡◌, ℕ, List, [], ◌∷◌, ◌++◌, IfSome, Result, Ok, Err}
use Rattle.std.specs.Io.KnownBytes.{append_known}
use Rattle.caa_base.specs.Outside.Counts.{counted_up}
use Rattle.caa_base.specs.Outside.Writing.{WrotePart}
use Rattle.caa_base.specs.declared.outside.sink.Sink.{Ghosts as SinkGhosts}
use Rattle.caa_base.specs.declared.written.entry.Entry.{Entry}
use Rattle.place_plan.specs.Plans.PlanValue.{Plan}
use Rattle.journal_text.specs.Texts.Text.{entry_line, entries_text}
use Rattle.entry_log.specs.declared.sink_log.LogState.{LogState}
use Rattle.entry_log.specs.declared.sink_log.LogState.TheVariants as state

-- a log in a sink: the sink, what it was when the log was opened, and whether the log still writes
pub record SinkLog (K : Type 0) : Type 0 where
  pub sink : K
  pub opened : K
  pub state : LogState

-- all of these bytes were written, and no write failed
pub record WasWritten {K : Type 0} (sinks : SinkGhosts K) (before after : K) (bytes : List ℕ) : Type 0 where
  pub written : sinks.held after ≡ append_known (sinks.held before) bytes
  pub unfailed : sinks.faults after ≡ sinks.faults before

-- one write failed, and of these bytes a front was written and not all
pub record WasCut {K : Type 0} (sinks : SinkGhosts K) (before after : K) (bytes : List ℕ) : Type 0 where
  pub part : WrotePart (sinks.held before) (sinks.held after) bytes
  pub cause : sinks.faults after ≡ counted_up (sinks.faults before)

-- what writing these bytes comes to
abbrev pub TextCame : {K T E : Type 0} → SinkGhosts K → K → K → List ℕ → Result T E → Type 0
TextCame sinks before after bytes (Ok v) = WasWritten sinks before after bytes
TextCame sinks before after bytes (Err e) = WasCut sinks before after bytes

-- since it was opened just the text of the entries so far was written, and no write failed
abbrev pub IsWhole : {K : Type 0} → SinkGhosts K → SinkLog K → Plan → List Entry → Type 0
IsWhole sinks log plan journal = WasWritten sinks log.opened log.sink (entries_text plan journal)

-- it has stopped at one of the entries: the text of the entries before it was written, and of its line at most a front and not all;
-- nothing was written since
pub record HasStopped {K : Type 0} (sinks : SinkGhosts K) (log : SinkLog K) (plan : Plan) (journal : List Entry) : Type 0 where
  pub before : List Entry
  pub entry : Entry
  pub after : List Entry
  pub all : journal ≡ before ++ entry ∷ after
  pub part :
      WrotePart (append_known (sinks.held log.opened) (entries_text plan before)) (sinks.held log.sink) (entry_line plan entry)

-- what a log of each state tells of a journal: it is whole; or it has stopped, and one write failed, or no memory was found for a line
-- and no write failed
abbrev pub TellsBy : {K : Type 0} → LogState → SinkGhosts K → SinkLog K → Plan → List Entry → Type 0
TellsBy state.Whole sinks log plan journal = IsWhole sinks log plan journal
TellsBy state.Failed sinks log plan journal =
    HasStopped sinks log plan journal × (sinks.faults log.sink ≡ counted_up (sinks.faults log.opened))
TellsBy state.NoMemory sinks log plan journal =
    HasStopped sinks log plan journal × (sinks.faults log.sink ≡ sinks.faults log.opened)

-- a sink that no write failed of, and that holds nothing where it tells what it holds
abbrev pub IsFresh : {K : Type 0} → SinkGhosts K → K → Type 0
IsFresh sinks sink = (sinks.faults sink ≡ 0) × IfSome (sinks.held sink) (λ bytes. bytes ≡ [])

-- what a log in a sink tells of a journal: it was opened in a fresh sink, and goes on as its state says
abbrev pub Tells : {K : Type 0} → SinkGhosts K → SinkLog K → Plan → List Entry → Type 0
Tells sinks log plan journal = IsFresh sinks log.opened × TellsBy log.state sinks log plan journal

-- what writing a line comes to, for which memory is wanted
abbrev pub LineCame : {K : Type 0} → SinkGhosts K → K → K → List ℕ → LogState → Type 0
LineCame sinks before after line state.Whole = WasWritten sinks before after line
LineCame sinks before after line state.Failed = WasCut sinks before after line
LineCame sinks before after line state.NoMemory = after ≡ before
