-- What a log in a sink tells of the entries so far.
use Rattle.std.specs.Prelude.{◌≡◌, ℕ, List, [], Result, Ok, Err}
use Rattle.caa_base.specs.declared.outside.sink.Sink.{Ghosts as SinkGhosts}
use Rattle.caa_base.specs.declared.written.entry.Entry.{Entry}
use Rattle.place_plan.specs.Plans.PlanValue.{Plan}
use Rattle.journal_text.specs.Texts.Text.{entries_text}
use Rattle.entry_log.specs.declared.line_log.LineLog.{LineLog}
use Rattle.entry_log.specs.declared.line_log.LogStage.{LogStage}
use Rattle.entry_log.specs.declared.line_log.LogStage.TheVariants as stage
use Rattle.entry_log.specs.Live.{Opening, TookAll, TookFront}

-- what a log at each stage tells of entries: there are none yet, and its sink took nothing; or the sink took just their text; or a write
-- failed, and it took a front of that
abbrev pub TellsAt : {K : Type 0} → LogStage → SinkGhosts K → Plan → Opening → K → List Entry → Type 0
TellsAt stage.Unopened sinks plan opening sink entries = (entries ≡ []) × TookAll sinks opening sink []
TellsAt stage.Whole sinks plan opening sink entries = TookAll sinks opening sink (entries_text plan entries)
TellsAt stage.Failed sinks plan opening sink entries = TookFront sinks opening sink (entries_text plan entries)

-- what a log tells of entries
abbrev pub Tells : {K : Type 0} → SinkGhosts K → Plan → Opening → LineLog K → List Entry → Type 0
Tells sinks plan opening log entries = TellsAt log.stage sinks plan opening log.sink entries

-- how a log stands after a write
abbrev pub stage_after : {T E : Type 0} → Result T E → LogStage
stage_after (Ok v) = stage.Whole
stage_after (Err e) = stage.Failed

-- what writing these bytes in all comes to
abbrev pub AllCame : {K T E : Type 0} → SinkGhosts K → Opening → K → List ℕ → Result T E → Type 0
AllCame sinks opening sink bytes (Ok v) = TookAll sinks opening sink bytes
AllCame sinks opening sink bytes (Err e) = TookFront sinks opening sink bytes
