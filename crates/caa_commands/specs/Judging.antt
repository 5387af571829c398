-- What an audit finds in the text of a journal.
use Rattle.std.specs.Prelude.{◌≡◌, ◌⊎◌, ℕ, ◌+◌, List, [], ◌∷◌, length, Option, Some, None}
use Rattle.caa_base.specs.declared.written.entry.Entry.{Entry}
use Rattle.caa_base.specs.Written.Limits.{most_audited}
use Rattle.place_plan.specs.Plans.PlanValue.{Plan}
use Rattle.place_plan.specs.RulesOfJournals.Journals.{IsLegal, IsComplete}
use Rattle.journal_text.specs.declared.looks.seens.Seen.{Seen}
use Rattle.journal_text.specs.Texts.TextOfJournal.{IsText, HasTooMany, IsFirstBad}
use Rattle.journal_text.specs.Watching.Right.{first_wrong}
use Rattle.journal_replay.specs.Audited.{IsFirstIllegal, IsUnfinished}
use Rattle.script_checker.specs.declared.check_error.CheckCause.TheVariants as cause
use Rattle.caa_commands.specs.declared.fault.Fault.TheVariants as fault
use Rattle.caa_commands.specs.declared.fault.Refusal.{Refusal}
use Rattle.caa_commands.specs.declared.judging.Judgement.{Judgement}
use Rattle.caa_commands.specs.declared.judging.Judgement.TheVariants as judgement
use Rattle.action_script.specs.Words.JournalStarts.{script_lines, journal_part}

-- the number of the first wrong look; a text without looks has none
abbrev pub wrong_look : Plan → List Entry → List Seen → Option ℕ
wrong_look plan journal [] = None
wrong_look plan journal (s ∷ seens) = first_wrong plan journal (s ∷ seens)

-- the text is one of this journal, which is legal and complete, and what was seen is right
pub record IsLawful (plan : Plan) (text : List ℕ) (journal : List Entry) : Type 0 where
  pub seens : List Seen
  pub spelled : IsText plan most_audited text journal seens
  pub legal : IsLegal plan journal
  pub complete : IsComplete plan journal
  pub right : wrong_look plan journal seens ≡ None

-- the text is one of a journal that isn't legal and complete; line n of the text is that of its first entry which isn't legal
-- after those before it, or the one after the last entry
pub record IsUnlawful (plan : Plan) (text : List ℕ) (n : ℕ) : Type 0 where
  pub journal : List Entry
  pub seens : List Seen
  pub spelled : IsText plan most_audited text journal seens
  pub index : ℕ
  pub line : n ≡ index + 2
  pub wrong : IsFirstIllegal plan journal index ⊎ IsUnfinished plan journal index

-- the text is one of a legal and complete journal; line n of the text is that of the first wrong look
pub record IsWronglySeen (plan : Plan) (text : List ℕ) (n : ℕ) : Type 0 where
  pub journal : List Entry
  pub seens : List Seen
  pub spelled : IsText plan most_audited text journal seens
  pub legal : IsLegal plan journal
  pub complete : IsComplete plan journal
  pub look : ℕ
  pub line : n ≡ 2 + length journal + length plan.objects + length plan.places + look
  pub wrong : wrong_look plan journal seens ≡ Some look

-- the text is refused at its line n: it is no text, or one of a journal that isn't legal and complete, or shows a wrong value
abbrev pub IsIllegalAt : Plan → List ℕ → ℕ → Type 0
IsIllegalAt plan text n = IsFirstBad plan most_audited text n ⊎ (IsUnlawful plan text n ⊎ IsWronglySeen plan text n)

-- what was found in the text of a journal
abbrev pub Judges : Plan → List ℕ → Judgement → Type 0
Judges plan text (judgement.Lawful journal) = IsLawful plan text journal.entries
Judges plan text (judgement.Illegal number) = IsIllegalAt plan text number
Judges plan text judgement.TooMany = HasTooMany plan most_audited text
Judges plan text judgement.OutOfMemory = Unit {0}

-- the same by the lines of the whole input
pub record IsIllegal (plan : Plan) (bytes : List ℕ) (line : ℕ) : Type 0 where
  pub number : ℕ
  pub counted : line ≡ script_lines bytes + number
  pub cause : IsIllegalAt plan (journal_part bytes) number

-- the journal has more entries than are audited, and this is the line of the first past them
pub record HasTooManyEntries (plan : Plan) (bytes : List ℕ) (refusal : Refusal) : Type 0 where
  pub many : HasTooMany plan most_audited (journal_part bytes)
  pub line : refusal.line ≡ script_lines bytes + (most_audited + 2)
  pub fault : refusal.fault ≡ fault.Line cause.Limit []
