-- The text of a journal and of what was seen while it was made.
use Rattle.std.specs.Prelude.{ℕ, ℤ, ◌==◌, if◌then◌else◌, List, [], ◌∷◌, ◌++◌, length, reverse, slice_index_or, Option, None, Some, codes, decimal}
use Rattle.std.specs.Option.{option_map}
use Rattle.std.specs.Fmt.{signed_decimal}
use Rattle.std.specs.List.{flat_map, range_with_len}
use Rattle.caa_base.specs.Written.Marks.{naming_mark, taken_mark}
use Rattle.caa_base.specs.declared.written.entry.Entry.{Entry}
use Rattle.caa_base.specs.declared.written.entry.Kind.{Kind}
use Rattle.caa_base.specs.declared.written.entry.Kind.TheVariants as kind
use Rattle.caa_base.specs.declared.written.entry.Verdict.{Verdict}
use Rattle.caa_base.specs.declared.written.entry.Verdict.TheVariants as verdict
use Rattle.caa_base.specs.declared.written.entry.Outcome.{Outcome}
use Rattle.caa_base.specs.declared.written.entry.Outcome.TheVariants as outcome
use Rattle.caa_base.specs.Written.Lines.{line}
use Rattle.place_plan.specs.Plans.PlanValue.{Plan}
use Rattle.place_plan.specs.Plans.Places.{no_object, action_at, parent, exception_name}
use Rattle.place_plan.specs.RulesOfJournals.Entries.{is_in, newest}
use Rattle.place_plan.specs.RulesOfJournals.Objects.{value_of}
use Rattle.place_plan.specs.RulesOfJournals.Roles.{verdict_at}
use Rattle.place_plan.specs.RulesOfJournals.Whereabouts.{outcome_at}
use Rattle.journal_text.specs.declared.looks.seens.Seen.{Seen}

-- ---- names; past the end of a table they are empty

-- the name of a participant
abbrev pub participant_name : Plan → ℕ → List ℕ
participant_name plan t = slice_index_or plan.participants t []

-- the name of an object
abbrev pub object_name : Plan → ℕ → List ℕ
object_name plan o = (slice_index_or plan.objects o no_object).name

-- the name of the action that p is an instance of
abbrev pub action_name : Plan → ℕ → List ℕ
action_name plan p = (action_at plan p).name

-- the name of an exception that is raised in p
abbrev pub internal_name : Plan → ℕ → ℕ → List ℕ
internal_name plan p x = exception_name plan (action_at plan p).internal x

-- the name of an exception that p tells outside
abbrev pub interface_name : Plan → ℕ → ℕ → List ℕ
interface_name plan p x = exception_name plan (action_at plan p).interface x

-- ---- the line of an entry

-- the word of a kind
abbrev pub kind_word : Kind → List ℕ
kind_word kind.Arrive = codes "arrive"
kind_word kind.Withdraw = codes "withdraw"
kind_word kind.Start = codes "start"
kind_word kind.Read = codes "read"
kind_word kind.Work = codes "work"
kind_word kind.Write = codes "write"
kind_word kind.Check = codes "check"
kind_word kind.PutFault = codes "putfault"
kind_word kind.Raise = codes "raise"
kind_word kind.Inform = codes "inform"
kind_word kind.Resolve = codes "resolve"
kind_word kind.Handle = codes "handle"
kind_word kind.Verdict = codes "verdict"
kind_word kind.Abort = codes "abort"
kind_word kind.Undo = codes "undo"
kind_word kind.Restore = codes "restore"
kind_word kind.End = codes "end"
kind_word kind.Leave = codes "leave"

-- an object, and its value
abbrev pub object_words : Plan → ℕ → ℤ → List (List ℕ)
object_words plan o value = object_name plan o ∷ signed_decimal value ∷ []

-- whether the device took a restore
abbrev pub restore_word : ℕ → List ℕ
restore_word mark = if mark == taken_mark then codes "well" else codes "failed"

-- a verdict in p, with the exception that it signals
abbrev pub verdict_words : Plan → ℕ → Verdict → List (List ℕ)
verdict_words plan p verdict.Done = codes "done" ∷ []
verdict_words plan p (verdict.Signal x) = codes "signal" ∷ interface_name plan p x ∷ []
verdict_words plan p verdict.Undo = codes "undo" ∷ []

-- an outcome of p, with the exception that it signals
abbrev pub outcome_words : Plan → ℕ → Outcome → List (List ℕ)
outcome_words plan p outcome.Commit = codes "commit" ∷ []
outcome_words plan p (outcome.Signal x) = codes "signal" ∷ interface_name plan p x ∷ []
outcome_words plan p outcome.Undone = codes "undone" ∷ []
outcome_words plan p outcome.Aborted = codes "aborted" ∷ []
outcome_words plan p outcome.Failed = codes "failed" ∷ []

-- the exception of graph g that an entry names, if its mark says that it names one
abbrev pub marked_name : Plan → ℕ → Entry → Option (List ℕ)
marked_name plan g e = if e.mark == naming_mark then Some (exception_name plan g e.arg) else None

-- the exception that a Verdict, an Abort or an End tells outside, if it names one
abbrev pub told_name : Plan → Entry → Option (List ℕ)
told_name plan e = marked_name plan (action_at plan e.place).interface e

-- the exception that a Leave carries into the place round its own, if it carries one; nothing is carried out of a play
abbrev pub carried_name : Plan → Option ℕ → Entry → Option (List ℕ)
carried_name plan None e = None
carried_name plan (Some q) e = marked_name plan (action_at plan q).internal e

-- a name, if there is one
abbrev pub name_words : Option (List ℕ) → List (List ℕ)
name_words None = []
name_words (Some name) = name ∷ []

-- what an entry says further, by its kind
abbrev pub field_words : Kind → Plan → Entry → List (List ℕ)
field_words kind.Read plan e = object_words plan e.arg e.value
field_words kind.Work plan e = decimal e.arg ∷ signed_decimal e.value ∷ []
field_words kind.Write plan e = object_words plan e.arg e.value
field_words kind.PutFault plan e = object_words plan e.arg e.value
field_words kind.Raise plan e = internal_name plan e.place e.arg ∷ []
field_words kind.Resolve plan e = internal_name plan e.place e.arg ∷ []
field_words kind.Handle plan e = internal_name plan e.place e.arg ∷ []
field_words kind.Verdict plan e = verdict_words plan e.place (verdict_at e)
field_words kind.Abort plan e = name_words (told_name plan e)
field_words kind.Restore plan e = object_words plan e.arg e.value ++ restore_word e.mark ∷ []
field_words kind.End plan e = outcome_words plan e.place (outcome_at e)
field_words kind.Leave plan e = name_words (carried_name plan (parent plan e.place) e)
field_words _ plan e = []

-- the line of an entry: its kind, its place, who made it, and what it says further
abbrev pub entry_line : Plan → Entry → List ℕ
entry_line plan e = line (kind_word e.kind) (decimal e.place ∷ participant_name plan e.by ∷ field_words e.kind plan e)

-- ---- the lines after the entries; `past` is the journal, the newest entry first

-- the line of an object, with its value
abbrev pub object_line : Plan → List Entry → ℕ → List ℕ
object_line plan past o = line (codes "object") (object_words plan o (value_of plan past o))

-- the outcome that the last End of p says
abbrev pub last_outcome : List Entry → ℕ → Option Outcome
last_outcome past p = option_map outcome_at (newest (is_in kind.End p) past)

-- how p ended, or `none`
abbrev pub ending_words : Plan → ℕ → Option Outcome → List (List ℕ)
ending_words plan p None = codes "none" ∷ []
ending_words plan p (Some outcome) = outcome_words plan p outcome

-- the line of a place, with its outcome
abbrev pub outcome_line : Plan → List Entry → ℕ → List ℕ
outcome_line plan past p = line (codes "outcome") (decimal p ∷ action_name plan p ∷ ending_words plan p (last_outcome past p))

-- one line for each object
abbrev pub object_lines : Plan → List Entry → List ℕ
object_lines plan past = flat_map (object_line plan past) (range_with_len 0 (length plan.objects))

-- one line for each place
abbrev pub outcome_lines : Plan → List Entry → List ℕ
outcome_lines plan past = flat_map (outcome_line plan past) (range_with_len 0 (length plan.places))

-- the lines that follow from the entries
abbrev pub closing_lines : Plan → List Entry → List ℕ
closing_lines plan past = object_lines plan past ++ outcome_lines plan past

-- ---- what was seen

-- the object of a watch
abbrev pub watched_object : Plan → ℕ → ℕ
watched_object plan w = slice_index_or plan.watches w 0

-- the line of one look: the object, how many plays had ended, and the value
abbrev pub seen_line : Plan → Seen → List ℕ
seen_line plan s =
    line (codes "seen") (object_name plan (watched_object plan s.watch) ∷ decimal s.ends ∷ signed_decimal s.value ∷ [])

-- ---- the text

-- the first line of each text
abbrev pub first_line : List ℕ
first_line = codes "journal" ++ 10 ∷ []

-- the text of the entries: the first line, and one line for each
abbrev pub entries_text : Plan → List Entry → List ℕ
entries_text plan journal = first_line ++ flat_map (entry_line plan) journal

-- what stands behind it: the lines that follow from the entries, and one for each look
abbrev pub rest_lines : Plan → List Entry → List Seen → List ℕ
rest_lines plan journal seens = closing_lines plan (reverse journal) ++ flat_map (seen_line plan) seens

-- the first line, one line for each entry, the lines that follow from the entries, and one for each look
abbrev pub text_of : Plan → List Entry → List Seen → List ℕ
text_of plan journal seens =
    first_line
    ++ flat_map (entry_line plan) journal
    ++ closing_lines plan (reverse journal)
    ++ flat_map (seen_line plan) seens
