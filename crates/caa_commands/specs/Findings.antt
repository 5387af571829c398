-- What a call of the program may come to: the status and the text of each.
use Rattle.std.specs.Prelude.{◌≡◌, ℕ, Bool, true, false, List, [], ◌∷◌, ◌++◌, codes, decimal}
use Rattle.caa_base.specs.Written.Lines.{line}
use Rattle.caa_base.specs.declared.written.entry.Entry.{Entry}
use Rattle.action_script.specs.Phrases.{phrase_of as spelling_phrase}
use Rattle.place_plan.specs.RulesOfJournals.WellFormed.{AllWellFormed}
use Rattle.journal_text.specs.Texts.Naming.{is_well_named}
use Rattle.journal_text.specs.Texts.Text.{entries_text}
use Rattle.script_checker.specs.Causes.{phrase_of as check_phrase}
use Rattle.script_checker.specs.declared.plan_counts.PlanCounts.{PlanCounts}
use Rattle.caa_commands.specs.declared.fault.Fault.{Fault}
use Rattle.caa_commands.specs.declared.fault.Fault.TheVariants as fault
use Rattle.caa_commands.specs.declared.fault.Refusal.{Refusal}
use Rattle.caa_commands.specs.declared.finding.Finding.{Finding}
use Rattle.caa_commands.specs.declared.finding.Finding.TheVariants as finding
use Rattle.caa_commands.specs.declared.finding.Text.{Text}
use Rattle.caa_commands.specs.declared.finding.Text.TheVariants as text
use Rattle.caa_commands.specs.declared.status.Status.{Status}
use Rattle.caa_commands.specs.declared.status.Status.TheVariants as status

-- the bytes of a text; if it is that of a journal, then of this one
abbrev pub text_bytes : Text → List Entry → List ℕ
text_bytes (text.Fixed bytes) journal = bytes.now
text_bytes (text.Written bytes) journal = bytes.items
text_bytes (text.OfJournal plan rest) journal = entries_text plan journal ++ rest.items

-- a text can be written with this journal: if it is that of one, the plan is well named and each entry is well formed
abbrev pub IsWritable : Text → List Entry → Type 0
IsWritable (text.OfJournal plan rest) journal = (is_well_named plan ≡ true) × AllWellFormed plan journal
IsWritable _ journal = Unit {0}

-- ---- refusals

-- the number and the word of a fault
abbrev pub fault_phrase : Fault → List ℕ
fault_phrase (fault.Text cause) = spelling_phrase cause
fault_phrase (fault.Line cause names) = check_phrase cause

-- the names of its exceptions
abbrev pub fault_names : Fault → List (List ℕ)
fault_names (fault.Text cause) = []
fault_names (fault.Line cause names) = names

-- the line of a refusal
abbrev pub refusal_text : Refusal → List ℕ
refusal_text refusal = line (codes "refused") (decimal refusal.line ∷ fault_phrase refusal.fault ∷ fault_names refusal.fault)

-- ---- plans

-- the line that tells how large a plan is
abbrev pub checked_text : PlanCounts → List ℕ
checked_text counts =
    line (codes "ok participants")
    (decimal counts.participants ∷ codes "objects" ∷ decimal counts.objects ∷ codes "places" ∷ decimal counts.places
    ∷ codes "bound" ∷ decimal counts.bound ∷ [])

-- ---- findings

-- a word and a number
abbrev pub numbered_text : List ℕ → ℕ → List ℕ
numbered_text word number = line word (decimal number ∷ [])

-- what is printed, where this is the journal that was found with it
abbrev pub finding_text : Finding → List Entry → List ℕ
finding_text finding.Usage journal = codes "usage: check | sim SEED | run | audit | cell N | graph K | messages SEED | pool W\n"
finding_text finding.SourceFault journal = codes "fault source\n"
finding_text (finding.Refused refusal) journal = refusal_text refusal
finding_text (finding.Checked counts) journal = checked_text counts
finding_text finding.PlantFault journal = codes "fault plant\n"
finding_text (finding.Played failed text) journal = text_bytes text journal
finding_text (finding.Printed text) journal = text.items
finding_text (finding.Legal entries) journal = numbered_text (codes "legal") entries
finding_text (finding.Illegal line) journal = numbered_text (codes "illegal") line
finding_text finding.OutOfMemory journal = []

-- what was found can be told with this journal
abbrev pub CanBeTold : Finding → List Entry → Type 0
CanBeTold (finding.Played failed text) journal = IsWritable text journal
CanBeTold _ journal = Unit {0}

-- the status that is answered
abbrev pub status_of : Finding → Status
status_of finding.Usage = status.Usage
status_of finding.SourceFault = status.SourceFault
status_of (finding.Refused refusal) = status.Refused
status_of (finding.Checked counts) = status.Done
status_of finding.PlantFault = status.PlantFault
status_of (finding.Played true text) = status.SomeFailed
status_of (finding.Played false text) = status.Done
status_of (finding.Printed text) = status.Done
status_of (finding.Legal entries) = status.Done
status_of (finding.Illegal line) = status.Illegal
status_of finding.OutOfMemory = status.OutOfMemory

-- the answer tells of something outside that failed: a read, a write, a laying out, or an undo that was refused
abbrev pub tells_fault : Status → Bool
tells_fault status.SourceFault = true
tells_fault status.SinkFault = true
tells_fault status.PlantFault = true
tells_fault status.SomeFailed = true
tells_fault _ = false

-- the number of a status, with which the program ends
abbrev pub code_of : Status → ℕ
code_of status.Done = 0
code_of status.SomeFailed = 1
code_of status.Usage = 2
code_of status.SourceFault = 3
code_of status.Refused = 4
code_of status.SinkFault = 5
code_of status.PlantFault = 6
code_of status.Illegal = 7
code_of status.OutOfMemory = 8

-- the script was played to its end
abbrev pub is_played : Finding → Bool
is_played (finding.Played failed text) = true
is_played _ = false

-- the text is put together, which takes memory
abbrev pub needs_memory : Finding → Bool
needs_memory (finding.Refused refusal) = true
needs_memory (finding.Checked counts) = true
needs_memory (finding.Legal entries) = true
needs_memory (finding.Illegal line) = true
needs_memory _ = false
