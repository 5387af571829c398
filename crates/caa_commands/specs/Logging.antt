-- What a call that writes its journal as it plays leaves in its sink, and what it answers.
use Rattle.std.specs.Prelude.{◌≡◌, ◌⊎◌, ◌<◌, ◌≤◌, ℕ, true, List, [], length, take, Some, is_some}
use Rattle.std.specs.Io.KnownBytes.{append_known}
use Rattle.caa_base.specs.Outside.Counts.{counted_up}
use Rattle.caa_base.specs.Outside.Writing.{WrotePart}
use Rattle.caa_base.specs.declared.outside.sink.Sink.{Ghosts as SinkGhosts}
use Rattle.caa_base.specs.declared.written.entry.Entry.{Entry}
use Rattle.place_plan.specs.Plans.PlanValue.{Plan}
use Rattle.journal_text.specs.declared.looks.seens.Seen.{Seen}
use Rattle.journal_text.specs.Texts.Text.{first_line, entries_text}
use Rattle.entry_log.specs.Logs.{SinkLog, WasCut, Tells as LogTells}
use Rattle.caa_commands.specs.declared.command.Command.{Command}
use Rattle.caa_commands.specs.declared.finding.Finding.{Finding}
use Rattle.caa_commands.specs.declared.finding.Finding.TheVariants as finding
use Rattle.caa_commands.specs.declared.logging.LogUse.{LogUse}
use Rattle.caa_commands.specs.declared.logging.LogUse.TheVariants as log
use Rattle.caa_commands.specs.declared.status.Status.{Status}
use Rattle.caa_commands.specs.declared.status.Status.TheVariants as status
use Rattle.caa_commands.specs.Commands.{reads_input}
use Rattle.caa_commands.specs.Inputs.{most_bytes, script_in}
use Rattle.caa_commands.specs.Scripts.{IsThePlan}
use Rattle.caa_commands.specs.OutsideUse.{SinkUse, Left, Call, sink_use}
use Rattle.caa_commands.specs.Calls.{EndsAs, PlanComesTo, WasRead, CameTo, Tells, Answers}

-- ---- the log of a play

-- a play that ended: the log tells of its journal, and with some looks this is what is found
pub record IsLogged {K : Type 0} (sinks : SinkGhosts K) (plan : Plan) (journal : List Entry) (found : Finding) (log : SinkLog K) :
    Type 0 where
  pub told : ∥ LogTells sinks log plan journal ∥₁
  pub seens : List Seen
  pub ends : EndsAs plan journal seens found

-- what became of the sink: nothing was written yet; or its first line couldn't be written, so no play began; or this holds of the log
abbrev pub WasUsed : {K : Type 0} → SinkGhosts K → K → (SinkLog K → Type 0) → Finding → List Entry → LogUse K → Type 0
WasUsed sinks sink holds found journal (log.Untouched left) = left ≡ sink
WasUsed sinks sink holds found journal (log.Unopened left) =
    WasCut sinks sink left first_line × ((found ≡ finding.OutOfMemory) × (journal ≡ []))
WasUsed sinks sink holds found journal (log.Kept kept) = holds kept

-- the script among these bytes was played, and the log tells of that
pub record ScriptInLog {K P : Type 0} (sinks : SinkGhosts K) (command : Command) (bytes : List ℕ) (left : Left P) (found : Finding)
    (log : SinkLog K) : Type 0 where
  pub plan : Plan
  pub script : IsThePlan (script_in command bytes) plan
  pub comes : PlanComesTo command plan bytes found left
  pub logged : IsLogged sinks plan left.journal found log

-- the input was read, and the script in it was played so
pub record PlayedInLog {K P : Type 0} (sinks : SinkGhosts K) (call : Call P) (found : Finding) (log : SinkLog K) : Type 0 where
  pub command : Command
  pub given : call.asked ≡ Some command
  pub bytes : List ℕ
  pub read : WasRead call.source (most_bytes command) bytes
  pub reads : reads_input command ≡ true
  pub played : ScriptInLog sinks command bytes call.left found log

-- ---- the end

-- whether a sink tells what it holds goes by its type
abbrev pub TellsAlike : {K : Type 0} → SinkGhosts K → Type 0
TellsAlike {K} sinks = (a b : K) → is_some (sinks.held a) ≡ is_some (sinks.held b)

-- the sink took a front of these bytes: all, and no write failed; or not all, and one write failed or none did
pub record TookFront (bytes : List ℕ) (sink : SinkUse) : Type 0 where
  pub count : ℕ
  pub within : count ≤ length bytes
  pub front : sink.held_after ≡ append_known sink.held_before (take count bytes)
  pub cause :
      (sink.faults_after ≡ sink.faults_before) ⊎ ((sink.faults_after ≡ counted_up sink.faults_before) × (count < length bytes))

-- what was found is told behind the entries of the journal; or no memory was found for the rest, and of the text of the entries the
-- sink took a front
abbrev pub EndsLog : Plan → Finding → List Entry → SinkUse → Status → Type 0
EndsLog plan found journal sink answer =
    Tells found journal journal sink answer ⊎ ((answer ≡ status.OutOfMemory) × TookFront (entries_text plan journal) sink)

-- what was found is told where this became of the sink: as without a log; or the first line couldn't be written; or in the log, which
-- told of the journal
abbrev pub ToldBy : {K : Type 0} → SinkGhosts K → Finding → List Entry → List Entry → LogUse K → K → Status → Type 0
ToldBy sinks found journal handed (log.Untouched left) after answer = Tells found journal handed (sink_use sinks left after) answer
ToldBy sinks found journal handed (log.Unopened left) after answer =
    (handed ≡ journal) × (after ≡ left) × (answer ≡ status.SinkFault)
ToldBy sinks found journal handed (log.Kept kept) after answer =
    (handed ≡ journal)
    × ((plan : Plan) (seens : List Seen) → LogTells sinks kept plan journal → EndsAs plan journal seens found
    → EndsLog plan found journal (sink_use sinks kept.opened after) answer)

-- ---- what a call with a log answers

-- the script was played, and no memory was found for the rest of the text: of the text of the entries the sink took a front, and the
-- played journal is handed back
pub record WasLeftOff {P : Type 0} (call : Call P) (sink : SinkUse) (answer : Status) : Type 0 where
  pub command : Command
  pub given : call.asked ≡ Some command
  pub bytes : List ℕ
  pub read : WasRead call.source (most_bytes command) bytes
  pub reads : reads_input command ≡ true
  pub plan : Plan
  pub script : IsThePlan (script_in command bytes) plan
  pub comes : PlanComesTo command plan bytes finding.OutOfMemory call.left
  pub answered : answer ≡ status.OutOfMemory
  pub front : TookFront (entries_text plan call.left.journal) sink

-- a write of the first line failed, so nothing was played; the rest is as where no memory is found for a play
pub record WasNotBegun {P : Type 0} (call : Call P) (sink : SinkUse) (answer : Status) : Type 0 where
  pub came : CameTo call finding.OutOfMemory
  pub unplayed : call.left.journal ≡ []
  pub answered : answer ≡ status.SinkFault
  pub part : WrotePart sink.held_before sink.held_after first_line
  pub cause : sink.faults_after ≡ counted_up sink.faults_before

-- a call with a log answers as one without, but for these two ends
abbrev pub LogAnswers : {P : Type 0} → Call P → SinkUse → Status → Type 0
LogAnswers call sink answer = Answers call sink answer ⊎ (WasLeftOff call sink answer ⊎ WasNotBegun call sink answer)
