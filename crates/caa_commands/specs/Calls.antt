-- How a call of the program ends, and what it leaves.
use Rattle.std.specs.Prelude.{◌≡◌, ◌⊎◌, ℕ, ◌≤◌, if◌then◌else◌, true, List, [], length, Some, None, IfSome}
use Rattle.std.specs.Io.KnownBytes.{append_known}
use Rattle.caa_base.specs.Written.Mixing.{turn_number}
use Rattle.caa_base.specs.Outside.Counts.{counted_up}
use Rattle.caa_base.specs.Outside.Reading.{emptied, TookUntil}
use Rattle.caa_base.specs.Outside.Writing.{WrotePart}
use Rattle.caa_base.specs.declared.written.entry.Entry.{Entry}
use Rattle.caa_base.specs.declared.outside.reading.ReadError.{ReadError}
use Rattle.caa_base.specs.declared.outside.reading.ReadError.TheVariants as error
use Rattle.place_plan.specs.Plans.PlanValue.{Plan}
use Rattle.script_checker.specs.PlanSizes.{counts_of}
use Rattle.role_driver.specs.Schedule.{GrewBy}
use Rattle.journal_text.specs.declared.looks.seens.Seen.{Seen}
use Rattle.journal_text.specs.Watching.Right.{first_wrong}
use Rattle.journal_text.specs.Texts.Text.{text_of}
use Rattle.cell_workload.specs.CellScript.{cell_script}
use Rattle.cell_workload.specs.Summary.{summary_text}
use Rattle.message_plays.specs.Texts.{IsPlayedByMessages}
use Rattle.action_script.specs.declared.script_error.ScriptCause.TheVariants as spelling
use Rattle.caa_commands.specs.declared.command.Command.{Command}
use Rattle.caa_commands.specs.declared.command.Command.TheVariants as command
use Rattle.caa_commands.specs.declared.fault.Fault.TheVariants as fault
use Rattle.caa_commands.specs.declared.finding.Finding.{Finding}
use Rattle.caa_commands.specs.declared.finding.Finding.TheVariants as finding
use Rattle.caa_commands.specs.declared.finding.Text.{Text}
use Rattle.caa_commands.specs.declared.finding.Text.TheVariants as text
use Rattle.caa_commands.specs.declared.status.Status.{Status}
use Rattle.caa_commands.specs.declared.status.Status.TheVariants as status
use Rattle.caa_commands.specs.declared.fault.Refusal.{Refusal}
use Rattle.caa_commands.specs.Graphs.{IsAcceptedGraph, IsRefusedGraph}
use Rattle.caa_commands.specs.Commands.{reads_input}
use Rattle.caa_commands.specs.Findings.{text_bytes, IsWritable, status_of, finding_text, is_played, needs_memory}
use Rattle.action_script.specs.Words.JournalStarts.{journal_part}
use Rattle.caa_commands.specs.Inputs.{most_bytes, script_in}
use Rattle.caa_commands.specs.Judging.{IsLawful, IsIllegal, HasTooManyEntries}
use Rattle.caa_commands.specs.FailedPlays.{IsPlayed, has_failed_play}
use Rattle.caa_commands.specs.Scripts.{IsThePlan, IsOnlyPlan, IsRefusedScript}
use Rattle.caa_commands.specs.OutsideUse.{SourceUse, SinkUse, Left, Call, IsIdle, IsUnplayed}

-- ---- what each command comes to over a plan

-- `check` tells how large the plan is, and does nothing else
abbrev pub CheckComesTo : {P : Type 0} → Plan → Finding → Left P → Type 0
CheckComesTo plan (finding.Checked counts) left = (counts ≡ counts_of plan) × IsIdle left
CheckComesTo plan _ left = ⊥

-- a command that prints one text and does nothing else; this holds of the text, if memory was found for it
abbrev pub Prints : {P : Type 0} → (List ℕ → Type 0) → Finding → Left P → Type 0
Prints holds (finding.Printed text) left = holds text.items × IsIdle left
Prints holds finding.OutOfMemory left = IsIdle left
Prints holds _ left = ⊥

-- a text of this plan, if it is that of a journal
abbrev pub IsOfPlan : Plan → Text → Type 0
IsOfPlan plan (text.OfJournal own rest) = own ≡ plan
IsOfPlan plan _ = Unit {0}

-- a play that ended: status clause, and printed clause with this text, which can be written. The text may have found no memory
abbrev pub EndsWith : Plan → List Entry → List ℕ → Finding → Type 0
EndsWith plan journal printed (finding.Played failed text) =
    (failed ≡ has_failed_play plan journal) × ((text_bytes text journal ≡ printed) × (IsOfPlan plan text × IsWritable text journal))
EndsWith plan journal printed finding.OutOfMemory = Unit {0}
EndsWith plan journal printed _ = ⊥

-- the text of the journal is printed, with these looks
abbrev pub EndsAs : Plan → List Entry → List Seen → Finding → Type 0
EndsAs plan journal seens found = EndsWith plan journal (text_of plan journal seens) found

-- no play began: the device refused once to be laid out, or no memory was found and it refused nothing
abbrev pub DoesNotBegin : {P : Type 0} → Plan → Finding → Left P → Type 0
DoesNotBegin plan finding.PlantFault left = (left.plant.lay_faults_after ≡ counted_up left.plant.lay_faults_before) × IsUnplayed plan left
DoesNotBegin plan finding.OutOfMemory left = (left.plant.lay_faults_after ≡ left.plant.lay_faults_before) × IsUnplayed plan left
DoesNotBegin plan _ left = ⊥

-- the plan is played by the schedule of the seed
pub record IsSimulated {P : Type 0} (plan : Plan) (seed : ℕ) (left : Left P) : Type 0 where
  pub played : IsPlayed plan left
  pub schedule : GrewBy (turn_number seed) plan [] left.journal

-- `sim` plays so, and nobody watches; or no play begins
abbrev pub SimComesTo : {P : Type 0} → Plan → ℕ → Finding → Left P → Type 0
SimComesTo plan seed found left = (IsSimulated plan seed left × EndsAs plan left.journal [] found) ⊎ DoesNotBegin plan found left

-- `cell` plays so too, by the number of its cycles, and tells the summary of the journal; or no play begins
abbrev pub CellComesTo : {P : Type 0} → Plan → ℕ → Finding → Left P → Type 0
CellComesTo plan cycles found left =
    (IsSimulated plan cycles left × EndsWith plan left.journal (summary_text plan left.journal cycles) found) ⊎ DoesNotBegin plan found left

-- `run` plays the plan in threads, and what is told of its watches is right (observer clause)
pub record IsRun {P : Type 0} (plan : Plan) (found : Finding) (left : Left P) : Type 0 where
  pub played : IsPlayed plan left
  pub seens : List Seen
  pub right : is_played found ≡ true → first_wrong plan left.journal seens ≡ None
  pub ends : EndsAs plan left.journal seens found

-- `run` plays, or no play begins
abbrev pub RunComesTo : {P : Type 0} → Plan → Finding → Left P → Type 0
RunComesTo plan found left = IsRun plan found left ⊎ DoesNotBegin plan found left

-- `pool` plays the plan by workers, and nobody watches
pub record IsPooled {P : Type 0} (plan : Plan) (found : Finding) (left : Left P) : Type 0 where
  pub played : IsPlayed plan left
  pub ends : EndsAs plan left.journal [] found

-- `pool` plays, or no play begins
abbrev pub PoolComesTo : {P : Type 0} → Plan → Finding → Left P → Type 0
PoolComesTo plan found left = IsPooled plan found left ⊎ DoesNotBegin plan found left

-- the journal that was read is legal and complete, has so many entries, and is handed back
pub record IsLegalInput {P : Type 0} (plan : Plan) (bytes : List ℕ) (entries : ℕ) (left : Left P) : Type 0 where
  pub lawful : IsLawful plan (journal_part bytes) left.journal
  pub number : entries ≡ length left.journal
  pub plant : left.plant.after ≡ left.plant.before

-- `audit` judges the journal that stands after the script
abbrev pub AuditComesTo : {P : Type 0} → Plan → List ℕ → Finding → Left P → Type 0
AuditComesTo plan bytes (finding.Legal entries) left = IsLegalInput plan bytes entries left
AuditComesTo plan bytes (finding.Illegal line) left = IsIllegal plan bytes line × IsIdle left
AuditComesTo plan bytes (finding.Refused refusal) left = HasTooManyEntries plan bytes refusal × IsIdle left
AuditComesTo plan bytes finding.OutOfMemory left = IsIdle left
AuditComesTo plan bytes _ left = ⊥

-- what the command comes to over this plan, where these are all bytes that were read; `graph` and `cell` aren't served over one
abbrev pub PlanComesTo : {P : Type 0} → Command → Plan → List ℕ → Finding → Left P → Type 0
PlanComesTo command.Check plan bytes found left = CheckComesTo plan found left
PlanComesTo (command.Sim seed) plan bytes found left = SimComesTo plan seed found left
PlanComesTo command.Run plan bytes found left = RunComesTo plan found left
PlanComesTo command.Audit plan bytes found left = AuditComesTo plan bytes found left
PlanComesTo (command.Graph most) plan bytes found left = ⊥
PlanComesTo (command.Messages seed) plan bytes found left = Prints (IsPlayedByMessages plan seed) found left
PlanComesTo (command.Pool workers) plan bytes found left = PoolComesTo plan found left
PlanComesTo (command.Cell cycles) plan bytes found left = ⊥

-- ---- what each command comes to over the bytes that were read

-- input clause: this is the plan of the script among them, which has no other
pub record IsServed {P : Type 0} (command : Command) (bytes : List ℕ) (found : Finding) (left : Left P) : Type 0 where
  pub plan : Plan
  pub script : IsThePlan (script_in command bytes) plan
  pub comes : PlanComesTo command plan bytes found left

-- why the bytes are refused for a command: for `graph` there are rules of its own
abbrev pub IsRefusedFor : Command → List ℕ → Refusal → Type 0
IsRefusedFor (command.Graph most) bytes refusal = IsRefusedGraph most bytes refusal
IsRefusedFor command bytes refusal = IsRefusedScript (script_in command bytes) refusal

-- the script among them is refused, or no memory was found for its plan
abbrev pub IsNotServed : {P : Type 0} → Command → List ℕ → Finding → Left P → Type 0
IsNotServed command bytes (finding.Refused refusal) left = IsRefusedFor command bytes refusal × IsIdle left
IsNotServed command bytes finding.OutOfMemory left = IsIdle left
IsNotServed command bytes _ left = ⊥

-- `graph` makes a script of sets and prints it; the checks accept what is printed
pub record MakesGraph {P : Type 0} (given : Command) (bytes : List ℕ) (found : Finding) (left : Left P) : Type 0 where
  pub most : ℕ
  pub asked : given ≡ command.Graph most
  pub prints : Prints (IsAcceptedGraph most bytes) found left

-- the script is served, or it isn't, or a graph is made of it
abbrev pub InputComesTo : {P : Type 0} → Command → List ℕ → Finding → Left P → Type 0
InputComesTo command bytes found left =
    IsServed command bytes found left ⊎ (IsNotServed command bytes found left ⊎ MakesGraph command bytes found left)

-- ---- what `cell` comes to, for which nothing is read

-- input clause: this is the plan of the cell's script, which has no other
pub record IsWorked {P : Type 0} (cycles : ℕ) (found : Finding) (left : Left P) : Type 0 where
  pub plan : Plan
  pub script : IsOnlyPlan (cell_script cycles) plan
  pub comes : CellComesTo plan cycles found left

-- no memory was found for that plan; no line of the script is refused
abbrev pub IsNotWorked : {P : Type 0} → Finding → Left P → Type 0
IsNotWorked finding.OutOfMemory left = IsIdle left
IsNotWorked _ left = ⊥

-- ---- what a call comes to, in the order in which things are tried

-- the words are no command that is served, and nothing was read
pub record IsUsage {P : Type 0} (call : Call P) (found : Finding) : Type 0 where
  pub finding : found ≡ finding.Usage
  pub cause : call.asked ≡ None
  pub unread : call.source.left_after ≡ call.source.left_before
  pub unfailed : call.source.faults_after ≡ call.source.faults_before
  pub idle : IsIdle call.left

-- the words are `cell` and a number of cycles: nothing was read, and this is what the cell comes to
pub record IsCell {P : Type 0} (call : Call P) (found : Finding) : Type 0 where
  pub cycles : ℕ
  pub given : call.asked ≡ Some (command.Cell cycles)
  pub unread : call.source.left_after ≡ call.source.left_before
  pub unfailed : call.source.faults_after ≡ call.source.faults_before
  pub comes : IsWorked cycles found call.left ⊎ IsNotWorked found call.left

-- a reading came to no end: one read failed; or none did, and the input has more bytes than that of the command may have, or no
-- memory was found
abbrev pub HasStopped : SourceUse → ReadError → Type 0
HasStopped source error.Fault = source.faults_after ≡ counted_up source.faults_before
HasStopped source _ = source.faults_after ≡ source.faults_before

-- what is found where the input wasn't read to its end
abbrev pub unread_finding : ReadError → Finding
unread_finding error.Fault = finding.SourceFault
unread_finding error.TooLong = finding.Refused (record { line = 0; fault = fault.Text spelling.TooLong })
unread_finding error.OutOfMemory = finding.OutOfMemory

-- the input wasn't read to its end: what was taken of it, and why
pub record IsUnread {P : Type 0} (call : Call P) (found : Finding) : Type 0 where
  pub command : Command
  pub given : call.asked ≡ Some command
  pub reads : reads_input command ≡ true
  pub error : ReadError
  pub finding : found ≡ unread_finding error
  pub taken : TookUntil call.source.left_before call.source.left_after (most_bytes command) error
  pub cause : HasStopped call.source error
  pub idle : IsIdle call.left

-- the reading came to the end of the source; the bytes are all that it had left, no more than the input of the command may have
pub record WasRead (source : SourceUse) (most : ℕ) (bytes : List ℕ) : Type 0 where
  pub all : IfSome source.left_before (λ rest. bytes ≡ rest)
  pub fits : length bytes ≤ most
  pub ended : source.left_after ≡ emptied source.left_before
  pub unfailed : source.faults_after ≡ source.faults_before

-- the input was read, and this is what the command comes to over it
pub record IsRead {P : Type 0} (call : Call P) (found : Finding) : Type 0 where
  pub command : Command
  pub given : call.asked ≡ Some command
  pub reads : reads_input command ≡ true
  pub bytes : List ℕ
  pub read : WasRead call.source (most_bytes command) bytes
  pub comes : InputComesTo command bytes found call.left

-- words that are no command, or `cell`, or an input that wasn't read, or one that was
abbrev pub CameTo : {P : Type 0} → Call P → Finding → Type 0
CameTo call found = IsUsage call found ⊎ (IsCell call found ⊎ (IsUnread call found ⊎ IsRead call found))

-- ---- what a call answers

-- the call, where it hands back this journal
abbrev pub with_journal : {P : Type 0} → Call P → List Entry → Call P
with_journal call journal =
    record { asked = call.asked; source = call.source; left = record { plant = call.left.plant; journal = journal } }

-- the journal that is handed back where the text of a finding wasn't written: a played one
abbrev pub journal_kept : Finding → List Entry → List Entry
journal_kept found journal = if is_played found then journal else []

-- the whole text of what was found was written without a failed write, and its status is answered
pub record WroteAll (found : Finding) (journal handed : List Entry) (sink : SinkUse) (answer : Status) : Type 0 where
  pub kept : handed ≡ journal
  pub answered : answer ≡ status_of found
  pub written : sink.held_after ≡ append_known sink.held_before (finding_text found journal)
  pub unfailed : sink.faults_after ≡ sink.faults_before

-- one write failed, and the sink took a part of the text of what was found
pub record WasCutOff (found : Finding) (journal handed : List Entry) (sink : SinkUse) (answer : Status) : Type 0 where
  pub kept : handed ≡ journal_kept found journal
  pub answered : answer ≡ status.SinkFault
  pub part : WrotePart sink.held_before sink.held_after (finding_text found journal)
  pub cause : sink.faults_after ≡ counted_up sink.faults_before

-- no memory was found for the text of what was found, and nothing was written
pub record WasLost (found : Finding) (handed : List Entry) (sink : SinkUse) (answer : Status) : Type 0 where
  pub kept : handed ≡ []
  pub large : needs_memory found ≡ true
  pub answered : answer ≡ status.OutOfMemory
  pub unwritten : sink.held_after ≡ sink.held_before
  pub unfailed : sink.faults_after ≡ sink.faults_before

-- what was found with this journal is told, and a journal is handed back
abbrev pub Tells : Finding → List Entry → List Entry → SinkUse → Status → Type 0
Tells found journal handed sink answer =
    WroteAll found journal handed sink answer ⊎ (WasCutOff found journal handed sink answer ⊎ WasLost found handed sink answer)

-- what a call answers: it came to some finding, with some journal, and that was told
pub record Answers {P : Type 0} (call : Call P) (sink : SinkUse) (answer : Status) : Type 0 where
  pub finding : Finding
  pub journal : List Entry
  pub came : CameTo (with_journal call journal) finding
  pub tells : Tells finding journal call.left.journal sink answer
