-- Which calls are served, and which are turned away, where no read and no write fails.
use Rattle.std.specs.Prelude.{◌≡◌, ◌⊎◌, ℕ, ◌<◌, ◌≤◌, true, false, List, length, Some}
use Rattle.std.specs.Io.KnownBytes.{append_known}
use Rattle.caa_base.specs.Outside.Counts.{Rose}
use Rattle.caa_base.specs.declared.written.entry.Entry.{Entry}
use Rattle.place_plan.specs.Plans.PlanValue.{Plan}
use Rattle.place_plan.specs.RulesOfJournals.Journals.{faults_in}
use Rattle.caa_commands.specs.declared.command.Command.{Command}
use Rattle.caa_commands.specs.declared.command.Command.TheVariants as command
use Rattle.caa_commands.specs.declared.fault.Refusal.{Refusal}
use Rattle.caa_commands.specs.declared.finding.Finding.{Finding}
use Rattle.caa_commands.specs.declared.finding.Finding.TheVariants as finding
use Rattle.caa_commands.specs.declared.status.Status.{Status}
use Rattle.caa_commands.specs.declared.status.Status.TheVariants as status
use Rattle.caa_commands.specs.Commands.{reads_input}
use Rattle.caa_commands.specs.Findings.{status_of, finding_text, tells_fault}
use Rattle.action_script.specs.Words.JournalStarts.{journal_part}
use Rattle.caa_commands.specs.Inputs.{most_bytes, script_in}
use Rattle.caa_commands.specs.Judging.{IsLawful, IsIllegal, HasTooManyEntries}
use Rattle.caa_commands.specs.Calls.{IsRefusedFor}
use Rattle.caa_commands.specs.Graphs.{IsGraphText}
use Rattle.caa_commands.specs.Scripts.{HasPlan, SpellAccepted}
use Rattle.caa_commands.specs.OutsideUse.{SinkUse, Call}

-- the words are this command, the source tells these bytes, and no count of failed reads or failed writes rose
pub record IsGiven {P : Type 0} (call : Call P) (sink : SinkUse) (command : Command) (bytes : List ℕ) : Type 0 where
  pub asked : call.asked ≡ Some command
  pub told : call.source.left_before ≡ Some bytes
  pub read : Rose call.source.faults_before call.source.faults_after → ⊥
  pub written : Rose sink.faults_before sink.faults_after → ⊥

-- this was found with this journal and told, or no memory was found
abbrev pub WasTold : Finding → List Entry → SinkUse → Status → Type 0
WasTold found journal sink answer =
    ((answer ≡ status_of found) × (sink.held_after ≡ append_known sink.held_before (finding_text found journal)))
    ⊎ (answer ≡ status.OutOfMemory)

-- ---- `check`, `sim SEED`, `run`, `messages SEED` and `pool W`

-- a command that serves each script which it reads and which is accepted
abbrev pub ServesPlans : Command → Type 0
ServesPlans command.Audit = ⊥
ServesPlans (command.Graph most) = ⊥
ServesPlans (command.Cell cycles) = ⊥
ServesPlans _ = Unit {0}

-- the bytes spell a script that is accepted, and the device didn't refuse to be laid out
pub record IsServable {P : Type 0} (call : Call P) (sink : SinkUse) : Type 0 where
  pub served : Command
  pub plans : ServesPlans served
  pub bytes : List ℕ
  pub given : IsGiven call sink served bytes
  pub script : SpellAccepted bytes
  pub laid : Rose call.left.plant.lay_faults_before call.left.plant.lay_faults_after → ⊥

-- the command was served, or no memory was found
abbrev pub WasServed : Status → Type 0
WasServed answer = (answer ≡ status.Done) ⊎ ((answer ≡ status.SomeFailed) ⊎ (answer ≡ status.OutOfMemory))

-- ---- `cell N`

-- the words are `cell` and this number of cycles, and no count of failed writes rose
pub record IsCellAsked {P : Type 0} (call : Call P) (sink : SinkUse) (cycles : ℕ) : Type 0 where
  pub asked : call.asked ≡ Some (command.Cell cycles)
  pub written : Rose sink.faults_before sink.faults_after → ⊥

-- that is all that is needed: the script of the cell is accepted, whatever the number; and the device didn't refuse to be laid out
pub record IsWorkable {P : Type 0} (call : Call P) (sink : SinkUse) : Type 0 where
  pub cycles : ℕ
  pub given : IsCellAsked call sink cycles
  pub laid : Rose call.left.plant.lay_faults_before call.left.plant.lay_faults_after → ⊥

-- ---- `graph K`

-- the bytes aren't too many, and spell a script of which this text is made
pub record IsMakeable {P : Type 0} (call : Call P) (sink : SinkUse) (text : List ℕ) : Type 0 where
  pub most : ℕ
  pub bytes : List ℕ
  pub given : IsGiven call sink (command.Graph most) bytes
  pub fits : length bytes ≤ most_bytes (command.Graph most)
  pub made : IsGraphText most bytes text

-- this text was printed, or no memory was found
abbrev pub WasPrinted : List ℕ → SinkUse → Status → Type 0
WasPrinted text sink answer =
    ((answer ≡ status.Done) × (sink.held_after ≡ append_known sink.held_before text)) ⊎ (answer ≡ status.OutOfMemory)

-- ---- `audit`

-- by this plan a legal and complete journal of so many entries stands behind the script
pub record HoldsLegal (plan : Plan) (bytes : List ℕ) (entries : ℕ) : Type 0 where
  pub journal : List Entry
  pub lawful : IsLawful plan (journal_part bytes) journal
  pub number : entries ≡ length journal

-- what an audit is to find by this plan
pub data IsToFind (plan : Plan) (bytes : List ℕ) : Finding → Type 0 where
  legal_journal : {entries : ℕ} → HoldsLegal plan bytes entries → IsToFind plan bytes (finding.Legal entries)
  illegal_line : {line : ℕ} → IsIllegal plan bytes line → IsToFind plan bytes (finding.Illegal line)
  too_many_entries : {refusal : Refusal} → HasTooManyEntries plan bytes refusal → IsToFind plan bytes (finding.Refused refusal)

-- the bytes aren't too many, the script among them has a plan, and by that plan this is to be found
pub record IsAuditable {P : Type 0} (call : Call P) (sink : SinkUse) (found : Finding) : Type 0 where
  pub bytes : List ℕ
  pub given : IsGiven call sink command.Audit bytes
  pub fits : length bytes ≤ most_bytes command.Audit
  pub plan : Plan
  pub script : HasPlan (script_in command.Audit bytes) plan
  pub finds : IsToFind plan bytes found

-- ---- what is refused

-- the bytes aren't too many, and the script among them is refused for this command
pub record HoldsRefused (command : Command) (bytes : List ℕ) : Type 0 where
  pub fits : length bytes ≤ most_bytes command
  pub refusal : Refusal
  pub script : IsRefusedFor command bytes refusal

-- the bytes are more than those of the command may be, or the script among them is refused
pub record IsRefusable {P : Type 0} (call : Call P) (sink : SinkUse) : Type 0 where
  pub served : Command
  pub reads : reads_input served ≡ true
  pub bytes : List ℕ
  pub given : IsGiven call sink served bytes
  pub cause : (most_bytes served < length bytes) ⊎ HoldsRefused served bytes

-- the input was refused, or no memory was found
abbrev pub WasRefused : Status → Type 0
WasRefused answer = (answer ≡ status.Refused) ⊎ (answer ≡ status.OutOfMemory)

-- ---- where nothing outside fails

-- no count of failed reads, writes, layings out and puts rose
pub record NothingFailed {P : Type 0} (call : Call P) (sink : SinkUse) : Type 0 where
  pub read : Rose call.source.faults_before call.source.faults_after → ⊥
  pub written : Rose sink.faults_before sink.faults_after → ⊥
  pub laid : Rose call.left.plant.lay_faults_before call.left.plant.lay_faults_after → ⊥
  pub put : Rose call.left.plant.faults_before call.left.plant.faults_after → ⊥

-- the answer tells of no fault, and the journal that is handed back has no refused put or restore, but for one that `audit` read
pub record IsSpared {P : Type 0} (call : Call P) (answer : Status) : Type 0 where
  pub answered : tells_fault answer ≡ false
  pub played : (call.asked ≡ Some command.Audit) ⊎ (faults_in call.left.journal ≡ 0)

-- ---- all

-- what can be served is served, what is to be found is told, what is to be refused is refused, and no fault is told where none came
pub record MissesNothing {P : Type 0} (call : Call P) (sink : SinkUse) (answer : Status) : Type 0 where
  pub served : IsServable call sink → WasServed answer
  pub worked : IsWorkable call sink → WasServed answer
  pub printed : (text : List ℕ) → IsMakeable call sink text → WasPrinted text sink answer
  pub audited : (found : Finding) → IsAuditable call sink found → WasTold found call.left.journal sink answer
  pub refused : IsRefusable call sink → WasRefused answer
  pub spared : NothingFailed call sink → IsSpared call answer
