-- What it comes to to open the bytes of a script.
use Rattle.std.specs.Prelude.{◌≡◌, ◌≢◌, ◌⊎◌, ℕ, List, [], Option, Some, None}
use Rattle.action_script.specs.Forms.ScriptValue.{Script}
use Rattle.action_script.specs.Lines.Spelling.{Spells, HasFirstFault}
use Rattle.action_script.specs.Phrases.{phrase_of as spelling_phrase}
use Rattle.action_script.specs.declared.script_error.ScriptCause.TheVariants as spelling
use Rattle.script_checker.specs.Causes.{phrase_of as check_phrase}
use Rattle.script_checker.specs.Compiled.{IsPlanOf, IsFirstRefused}
use Rattle.script_checker.specs.declared.check_error.CheckError.{CheckError}
use Rattle.script_checker.specs.declared.check_error.CheckCause.TheVariants as check
use Rattle.caa_c.specs.Codes.{number_of}
use Rattle.caa_c.specs.Handed.{filled}
use Rattle.caa_c.specs.Machines.{Machine}
use Rattle.caa_c.specs.declared.code.Code.{Code}
use Rattle.caa_c.specs.declared.code.Code.TheVariants as code
use Rattle.caa_c.specs.declared.unopened.Unopened.{Unopened}
use Rattle.caa_c.specs.declared.unopened.Unopened.TheVariants as unopened

-- the bytes spell a script without a refused line; the machine is at the beginning of its plan, and has asked for nothing
pub record IsOpened (bytes : List ℕ) (m : Machine) : Type 0 where
  pub script : Script
  pub spelled : Spells bytes script
  pub plan : IsPlanOf script m.plan
  pub fresh : m.journal ≡ []
  pub free : m.asked ≡ None

-- the bytes spell a script whose first refused line this is, with its least cause
pub record IsRefused (bytes : List ℕ) (error : CheckError) : Type 0 where
  pub script : Script
  pub spelled : Spells bytes script
  pub refused : IsFirstRefused script error

-- why no machine is opened: the first fault of the bytes, or of the script that they spell; want of memory tells nothing of them
abbrev pub IsUnopened : List ℕ → Unopened → Type 0
IsUnopened bytes (unopened.Misspelled error) = (error.cause ≢ spelling.OutOfMemory) × HasFirstFault bytes error
IsUnopened bytes (unopened.Refused error) = (error.cause ≢ check.OutOfMemory) × IsRefused bytes error
IsUnopened bytes unopened.OutOfMemory = Unit {0}

-- why a script that was read has no machine
abbrev pub IsUncompiled : Script → Unopened → Type 0
IsUncompiled script (unopened.Misspelled error) = ⊥
IsUncompiled script (unopened.Refused error) = (error.cause ≢ check.OutOfMemory) × IsFirstRefused script error
IsUncompiled script unopened.OutOfMemory = Unit {0}

-- the line that is told of it; 0 is the script as a whole, or none
abbrev pub line_told : Unopened → ℕ
line_told (unopened.Misspelled error) = error.line
line_told (unopened.Refused error) = error.line
line_told unopened.OutOfMemory = 0

-- the number and the word of its cause; none for want of memory
abbrev pub phrase_told : Unopened → List ℕ
phrase_told (unopened.Misspelled error) = spelling_phrase error.cause
phrase_told (unopened.Refused error) = check_phrase error.cause
phrase_told unopened.OutOfMemory = []

-- what is answered
abbrev pub code_of : Unopened → Code
code_of (unopened.Misspelled error) = code.Refused
code_of (unopened.Refused error) = code.Refused
code_of unopened.OutOfMemory = code.NoMemory

-- a machine was opened
pub record WasOpened (bytes : List ℕ) (new : Option Machine) (line : ℕ) (before after : List ℕ) (answer : ℕ) : Type 0 where
  pub machine : Machine
  pub opened : new ≡ Some machine
  pub begins : IsOpened bytes machine
  pub number : line ≡ 0
  pub cause : after ≡ before
  pub told : answer ≡ number_of code.Done

-- none was: what was open still is, and why is told
pub record WasUnopened (bytes : List ℕ) (old new : Option Machine) (line : ℕ) (before after : List ℕ) (answer : ℕ) : Type 0 where
  pub why : Unopened
  pub so : IsUnopened bytes why
  pub kept : new ≡ old
  pub number : line ≡ line_told why
  pub cause : after ≡ filled (phrase_told why) before
  pub told : answer ≡ number_of (code_of why)

-- the one or the other
abbrev pub OpenAnswer : List ℕ → Option Machine → Option Machine → ℕ → List ℕ → List ℕ → ℕ → Type 0
OpenAnswer bytes old new line before after answer = WasOpened bytes new line before after answer ⊎ WasUnopened bytes old new line before after answer
