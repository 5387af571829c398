-- What was read of a script so far, line by line.
use Rattle.std.specs.Prelude.{◌≡◌, ℕ, ◌+◌, List, [], ◌∷◌, ◌++◌, map, Option, Some, None, Result, Ok, Err}
use Rattle.action_script.specs.declared.script_error.ScriptCause.{ScriptCause}
use Rattle.action_script.specs.declared.script_error.ScriptError.{ScriptError}
use Rattle.action_script.specs.declared.lines.kind.Section.{Section}
use Rattle.action_script.specs.declared.lines.kind.Section.TheVariants as section
use Rattle.action_script.specs.declared.forms.script.Line.{Line}
use Rattle.action_script.specs.declared.lines.reader.Reader.{Reader}
use Rattle.action_script.specs.Lines.Asked.{Said}
use Rattle.action_script.specs.Lines.Kinds.{goes_to}
use Rattle.action_script.specs.Words.CutLines.{lines_of}
use Rattle.action_script.specs.Words.NumberedNames.{with_names}
use Rattle.action_script.specs.Lines.Spelling.{names_of, Numbered, line_by, line_of, before, said_from, script_names}

-- the number of the next line, where the reader is, the names, and the lines that say something
pub record SoFar : Type 0 where
  pub line : ℕ
  pub section : Section
  pub names : List (List ℕ)
  pub lines : List Line

-- what the reader's tables tell
abbrev pub so_far : Reader → SoFar
so_far r = record { line = r.line; section = r.section; names = r.names; lines = r.lines.items }

-- after what the next line says, which isn't counted yet
abbrev pub with_said : SoFar → Said → SoFar
with_said s said = record {
  line = s.line;
  section = goes_to said.kind s.section;
  names = with_names s.names (names_of said.asked);
  lines = s.lines ++ line_by (with_names s.names (names_of said.asked)) (record { number = s.line; said = said }) ∷ [];
}

-- after one more line
abbrev pub after : SoFar → Option Said → SoFar
after s None = record s { line = s.line + 1 }
after s (Some said) = record (with_said s said) { line = s.line + 1 }

-- the next line was taken: it says something or nothing, and has no fault
abbrev pub TookLine : Result (Option Said) ScriptCause → SoFar → SoFar → Type 0
TookLine (Ok said) old new = new ≡ after old said
TookLine (Err c) old new = ⊥

-- the next line of these bytes was taken
abbrev pub Took : SoFar → List ℕ → SoFar → Type 0
Took old line new = TookLine (line_of old.section line) old new

-- these lines before those that were read after them
abbrev pub all_before : List Numbered → Result (List Numbered) ScriptError → Result (List Numbered) ScriptError
all_before [] read = read
all_before (line ∷ lines) read = before line (all_before lines read)

-- some lines of a text were read: what the whole text says is what they say, and then what the rest says
pub record HasRead (bytes rest : List ℕ) (s : SoFar) : Type 0 where
  pub done : List Numbered
  pub names : s.names ≡ script_names done
  pub lines : s.lines ≡ map (line_by s.names) done
  pub whole : said_from 1 section.Top (lines_of bytes) ≡ all_before done (said_from s.line s.section (lines_of rest))
