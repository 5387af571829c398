-- A script in which something has another name.
use Rattle.std.specs.Prelude.{◌≡◌, ℕ, ◌==◌, nat_le, if◌then◌else◌, Bool, true, false, not, ◌&&◌, List, [], ◌∷◌, ◌++◌, length, drop, filter, slice_range, find, Some, bytes_eq}
use Rattle.caa_base.specs.Written.Names.{name_at}
use Rattle.action_script.specs.Forms.ScriptValue.{Script}
use Rattle.action_script.specs.Lines.Spelling.{Spells}
use Rattle.script_checker.specs.RefusedLines.{HasNoRefusedLine}
use Rattle.name_uses.specs.declared.thing.Thing.{Thing}
use Rattle.name_uses.specs.declared.occurrences.Occurrence.{Occurrence}
use Rattle.name_uses.specs.declared.spans.Span.{Span}
use Rattle.name_uses.specs.declared.renaming.Renamed.{Renamed}
use Rattle.name_uses.specs.declared.renaming.Renaming.{Renaming}
use Rattle.name_uses.specs.declared.renaming.Renaming.TheVariants as renaming
use Rattle.name_uses.specs.Things.{is_thing}
use Rattle.name_uses.specs.Occurrences.{is_of, stands_at, occurrences}

-- both are so or neither is
abbrev pub same : Bool → Bool → Bool
same true b = b
same false b = not b

-- a name stands where another does, and means the same
abbrev pub is_alike : Occurrence → Occurrence → Bool
is_alike o p = (o.line == p.line) && ((o.word == p.word) && (is_thing o.thing p.thing && same o.declares p.declares))

-- a name is what another has become: this word where it means this, and else what it was
abbrev pub is_renamed : Thing → List ℕ → List (List ℕ) → List (List ℕ) → Occurrence → Occurrence → Bool
is_renamed thing word names others o p =
    is_alike o p && bytes_eq (name_at others p.name) (if is_of thing o then word else name_at names o.name)

-- names are what others have become, one by one
abbrev pub are_renamed : Thing → List ℕ → List (List ℕ) → List (List ℕ) → List Occurrence → List Occurrence → Bool
are_renamed thing word names others [] [] = true
are_renamed thing word names others [] (p ∷ new) = false
are_renamed thing word names others (o ∷ old) [] = false
are_renamed thing word names others (o ∷ old) (p ∷ new) =
    is_renamed thing word names others o p && are_renamed thing word names others old new

-- the text spells a script of which no line is refused; each name of it stands where one of the old script does and means the same, and
-- it is the new word where that meant this, and else what it was
pub record IsRenamedBy (script : Script) (thing : Thing) (word : List ℕ) (text : List ℕ) : Type 0 where
  pub other : Script
  pub spelled : Spells text other
  pub accepted : HasNoRefusedLine other
  pub renamed :
      are_renamed thing word script.names other.names (occurrences script.names script.lines) (occurrences other.names other.lines) ≡ true

-- ---- the text

-- pieces lie in a text of so many bytes, behind this place, one behind the other
abbrev pub are_in_order : ℕ → ℕ → List Span → Bool
are_in_order done count [] = nat_le done count
are_in_order done count (span ∷ spans) = nat_le done span.start && (nat_le span.start span.end && are_in_order span.end count spans)

-- what stands in a text behind this place, with a word in place of these pieces
abbrev pub replaced : List ℕ → ℕ → List Span → List ℕ → List ℕ
replaced text done [] word = drop done text
replaced text done (span ∷ spans) word = slice_range text done span.start ++ word ++ replaced text span.end spans word

-- ---- what is done

-- what a word of a line means has another name, in a script of which no line is refused. As many pieces of the text have changed as
-- there are names of it
pub record IsDone (text : List ℕ) (script : Script) (line word : ℕ) (name : List ℕ) (r : Renamed) : Type 0 where
  pub accepted : HasNoRefusedLine script
  pub found : Occurrence
  pub stands : find (stands_at line word) (occurrences script.names script.lines) ≡ Some found
  pub means : r.thing ≡ found.thing
  pub counted : length r.spans.items ≡ length (filter (is_of r.thing) (occurrences script.names script.lines))
  pub order : are_in_order 0 (length text) r.spans.items ≡ true
  pub made : r.text.items ≡ replaced text 0 r.spans.items name
  pub renamed : IsRenamedBy script r.thing name r.text.items

-- where there is a new text, it is the script with that name
abbrev pub IsRenaming : List ℕ → Script → ℕ → ℕ → List ℕ → Renaming → Type 0
IsRenaming text script line word name (renaming.Done r) = IsDone text script line word name r
IsRenaming text script line word name (renaming.Refused why) = Unit {0}
