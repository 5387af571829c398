-- Where the names of a script stand, and what each means there.
use Rattle.std.specs.Prelude.{ℕ, ◌==◌, ◌&&◌, Bool, true, false, List, [], ◌∷◌, ◌++◌, map}
use Rattle.action_script.specs.declared.forms.uses.SortedWord.{SortedWord}
use Rattle.action_script.specs.declared.forms.script.Line.{Line}
use Rattle.action_script.specs.Forms.Uses.{used_words, declared_words}
use Rattle.script_checker.specs.declared.declared.SoFar.{SoFar}
use Rattle.script_checker.specs.DeclaredSoFar.{nothing_yet}
use Rattle.script_checker.specs.After.{settled, after}
use Rattle.name_uses.specs.declared.occurrences.Occurrence.{Occurrence}
use Rattle.name_uses.specs.declared.thing.Thing.{Thing}
use Rattle.name_uses.specs.Things.{is_thing}
use Rattle.name_uses.specs.Meanings.{meant}

-- a name of a line, where this is declared
abbrev pub occurrence : SoFar → Bool → ℕ → SortedWord → Occurrence
occurrence s declares number w =
    record { line = number; word = w.word; name = w.name; thing = meant s w.sort w.name; declares = declares }

-- the names of a line, before which this is declared: one that it uses means what it does where the line is checked, and one that it
-- declares what it does below
abbrev pub occurrences_in : List (List ℕ) → SoFar → Line → List Occurrence
occurrences_in names s line =
    map (occurrence (settled s line.form) false line.number) (used_words line.form)
    ++ map (occurrence (after names s line.form) true line.number) (declared_words line.form)

-- the names of some lines, before which this is declared
abbrev pub occurrences_from : List (List ℕ) → SoFar → List Line → List Occurrence
occurrences_from names s [] = []
occurrences_from names s (line ∷ lines) =
    occurrences_in names s line ++ occurrences_from names (after names s line.form) lines

-- the names of the first lines of a script
abbrev pub occurrences : List (List ℕ) → List Line → List Occurrence
occurrences names lines = occurrences_from names (nothing_yet names) lines

-- ---- those that are looked for

-- a name means this
abbrev pub is_of : Thing → Occurrence → Bool
is_of thing o = is_thing o.thing thing

-- a name is this word of this line
abbrev pub stands_at : ℕ → ℕ → Occurrence → Bool
stands_at line word o = (o.line == line) && (o.word == word)
