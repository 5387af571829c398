-- What the bytes of a script spell: its lines and names, or its first fault.
use Rattle.std.specs.Prelude.{◌≡◌, ℕ, pos, ◌+◌, nat_lt, if◌then◌else◌, Bool, true, false, not, ◌&&◌, List, [], ◌∷◌, length, map, filter, Option, Some, None, is_some, unwrap_or, Result, Ok, Err, bytes_eq, find}
use Rattle.std.specs.List.{list_all, flat_map}
use Rattle.caa_base.specs.declared.written.entry.Test.TheVariants as test
use Rattle.action_script.specs.declared.script_error.ScriptCause.{ScriptCause}
use Rattle.action_script.specs.declared.script_error.ScriptCause.TheVariants as cause
use Rattle.action_script.specs.declared.script_error.ScriptError.{ScriptError}
use Rattle.action_script.specs.declared.lines.field.Part.{Part}
use Rattle.action_script.specs.declared.lines.field.Part.TheVariants as part
use Rattle.action_script.specs.declared.lines.sort.Naming.TheVariants as naming
use Rattle.action_script.specs.declared.lines.field.Field.{Field}
use Rattle.action_script.specs.declared.lines.field.Field.TheVariants as field
use Rattle.action_script.specs.declared.lines.kind.Section.{Section}
use Rattle.action_script.specs.declared.lines.kind.Section.TheVariants as section
use Rattle.action_script.specs.declared.lines.kind.LineKind.{LineKind}
use Rattle.action_script.specs.declared.forms.script.Line.{Line}
use Rattle.action_script.specs.Lines.Asked.{Asked, Said}
use Rattle.action_script.specs.Words.ScriptWords.{value_of, count_of, rounds_of, test_of}
use Rattle.caa_base.specs.Written.Names.{is_name}
use Rattle.caa_base.specs.Written.Limits.{most_script_bytes, most_line_bytes}
use Rattle.action_script.specs.Words.CutLines.{lines_of, words_of, is_plain, begins_comment}
use Rattle.action_script.specs.Lines.Kinds.{word_of, parts_of, takes, stands_in, goes_to, at_top, kinds}
use Rattle.action_script.specs.Words.NumberedNames.{with_names, number_in}
use Rattle.action_script.specs.Forms.LineForms.{form_by}
use Rattle.action_script.specs.Forms.ScriptValue.{Script}

-- ---- one word

-- what each word of a line is asked to be; where the parts end, names go on
abbrev pub asked_of : List Part → List (List ℕ) → List Asked
asked_of parts [] = []
asked_of [] (word ∷ words) = record { part = part.Name naming.Further; word = word } ∷ asked_of [] words
asked_of (p ∷ parts) (word ∷ words) = record { part = p; word = word } ∷ asked_of parts words

-- a word is what this part asks for
abbrev pub is_part : Part → List ℕ → Bool
is_part (part.Name naming) word = is_name word
is_part part.Value word = is_some (value_of word)
is_part part.Count word = is_some (count_of word)
is_part part.Rounds word = is_some (rounds_of word)
is_part part.Test word = is_some (test_of word)

-- a word is what it is asked to be
abbrev pub is_right : Asked → Bool
is_right a = is_part a.part a.word

-- the part asks for a test
abbrev pub is_test : Part → Bool
is_test part.Test = true
is_test _ = false

-- a word that is asked to be a test, and is none
abbrev pub is_wrong_test : Asked → Bool
is_wrong_test a = is_test a.part && not (is_right a)

-- the fault of a word that isn't what this part asks for
abbrev pub cause_of : Part → ScriptCause
cause_of (part.Name naming) = cause.BadName
cause_of part.Value = cause.BadNumber
cause_of part.Count = cause.BadNumber
cause_of part.Rounds = cause.BadNumber
cause_of part.Test = cause.BadLine

-- what a word says that is what this part asks for, by the names of the script
abbrev pub field_by : List (List ℕ) → Part → List ℕ → Field
field_by names (part.Name naming) word = field.Name (number_in names word)
field_by names part.Value word = field.Value (unwrap_or (value_of word) (pos 0))
field_by names part.Count word = field.Count (unwrap_or (count_of word) 0)
field_by names part.Rounds word = field.Count (unwrap_or (rounds_of word) 0)
field_by names part.Test word = field.Test (unwrap_or (test_of word) test.Below)

-- what a word says that is what it is asked to be
abbrev pub field_of : List (List ℕ) → Asked → Field
field_of names a = field_by names a.part a.word

-- the part asks for a name
abbrev pub is_name_part : Part → Bool
is_name_part (part.Name naming) = true
is_name_part _ = false

-- the words that are asked to be names
abbrev pub names_of : List Asked → List (List ℕ)
names_of asked = map (λ a. a.word) (filter (λ a. is_name_part a.part) asked)

-- ---- one line

-- a line that begins with this word and has so many more is of this kind, where the reader is here
abbrev pub is_here : Section → List ℕ → ℕ → LineKind → Bool
is_here s word count kind = bytes_eq word (word_of kind) && (takes kind count && stands_in kind s)

-- the kind of such a line, if it is of any; none is of two
abbrev pub kind_here : Section → List ℕ → ℕ → Option LineKind
kind_here s word count = find (is_here s word count) kinds

-- the first word from the left that isn't what it is asked to be decides
abbrev pub by_first_wrong : Option Asked → Result (Unit {0}) ScriptCause
by_first_wrong None = Ok tt
by_first_wrong (Some wrong) = Err (cause_of wrong.part)

-- the words after the first are tried: all tests first, and then each word
abbrev pub trial_of : List Asked → Result (Unit {0}) ScriptCause
trial_of asked =
    if list_all (λ a. not (is_wrong_test a)) asked then by_first_wrong (find (λ a. not (is_right a)) asked) else Err cause.BadLine

-- what a line of this kind says with these words after the first
abbrev pub said_with : LineKind → List (List ℕ) → Said
said_with kind words = record { kind = kind; asked = asked_of (parts_of kind) words }

-- a line whose words were tried
abbrev pub by_check : Said → Result (Unit {0}) ScriptCause → Result (Option Said) ScriptCause
by_check said (Ok none) = Ok (Some said)
by_check said (Err c) = Err c

-- a line of a kind says its words, where they are right; one of no kind is a bad line
abbrev pub by_kind : List (List ℕ) → Option LineKind → Result (Option Said) ScriptCause
by_kind words None = Err cause.BadLine
by_kind words (Some kind) = by_check (said_with kind words) (trial_of (asked_of (parts_of kind) words))

-- an empty line says nothing, nor does a comment; any other has plain bytes alone and is of some kind
abbrev pub line_by_words : Section → Bool → List (List ℕ) → Result (Option Said) ScriptCause
line_by_words s plain [] = Ok None
line_by_words s plain (word ∷ words) =
    if begins_comment word then Ok None
    else (if plain then by_kind words (kind_here s word (length words)) else Err cause.BadLine)

-- what a line says where the reader is here, if anything; or its first fault
abbrev pub line_of : Section → List ℕ → Result (Option Said) ScriptCause
line_of s line =
    if nat_lt most_line_bytes (length line) then Err cause.TooLong else line_by_words s (list_all is_plain line) (words_of line)

-- ---- all lines

-- a line that says something, with its number
pub record Numbered : Type 0 where
  pub number : ℕ
  pub said : Said

-- a line before those that were read
abbrev pub before : Numbered → Result (List Numbered) ScriptError → Result (List Numbered) ScriptError
before line (Ok lines) = Ok (line ∷ lines)
before line (Err e) = Err e

-- a line of this number, with what follows it where the reader is then
abbrev pub with_line :
    ℕ → Section → (Section → Result (List Numbered) ScriptError) → Result (Option Said) ScriptCause
    → Result (List Numbered) ScriptError
with_line number s more (Ok None) = more s
with_line number s more (Ok (Some said)) = before (record { number = number; said = said }) (more (goes_to said.kind s))
with_line number s more (Err c) = Err (record { line = number; cause = c })

-- what these lines say, the first of which has this number, where the reader is here; or the first fault. The last line leaves the
-- reader at the top
abbrev pub said_from : ℕ → Section → List (List ℕ) → Result (List Numbered) ScriptError
said_from number s [] = if at_top s then Ok [] else Err (record { line = number; cause = cause.BadLine })
said_from number s (line ∷ lines) = with_line number s (λ t. said_from (number + 1) t lines) (line_of s line)

-- ---- the script

-- the names of some lines, each where it stands first
abbrev pub script_names : List Numbered → List (List ℕ)
script_names lines = with_names [] (flat_map (λ l. names_of l.said.asked) lines)

-- a line by the names of the script
abbrev pub line_by : List (List ℕ) → Numbered → Line
line_by names l = record { number = l.number; form = form_by l.said.kind (map (field_of names) l.said.asked) }

-- the script of these lines
abbrev pub script_by : List Numbered → Script
script_by lines = record { lines = map (line_by (script_names lines)) lines; names = script_names lines }

-- the same, where there was no fault
abbrev pub script_of : Result (List Numbered) ScriptError → Result Script ScriptError
script_of (Ok lines) = Ok (script_by lines)
script_of (Err e) = Err e

-- the script that the lines of these bytes say, or the first fault of a line; however many bytes there are
abbrev pub lines_read : List ℕ → Result Script ScriptError
lines_read bytes = script_of (said_from 1 section.Top (lines_of bytes))

-- the script that these bytes spell, or the first fault: that there are too many bytes, or that of a line
abbrev pub reading_of : List ℕ → Result Script ScriptError
reading_of bytes =
    if nat_lt most_script_bytes (length bytes) then Err (record { line = 0; cause = cause.TooLong }) else lines_read bytes

-- these bytes spell this script; no bytes spell two
abbrev pub Spells : List ℕ → Script → Type 0
Spells bytes script = reading_of bytes ≡ Ok script

-- the lines of these bytes spell this script: where there aren't too many bytes for a script, they spell it
abbrev pub LinesSpell : List ℕ → Script → Type 0
LinesSpell bytes script = lines_read bytes ≡ Ok script

-- this is the first fault of these bytes, which spell no script
abbrev pub HasFirstFault : List ℕ → ScriptError → Type 0
HasFirstFault bytes fault = reading_of bytes ≡ Err fault
