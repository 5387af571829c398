-- What a device was sent, and what it answered, by all that ever came to it.
use Rattle.std.specs.Prelude.{◌≡◌, ◌⊎◌, if◌then◌else◌, ℕ, Bool, false, List, [], ◌∷◌, ◌++◌}
use mathlib.Core.List.{IsPrefix}
use Rattle.caa_base.specs.Outside.Counts.{counted_up}
use Rattle.caa_base.specs.Written.Names.{name_at}
use Rattle.caa_base.specs.declared.outside.plant.Asked.{Asked}
use Rattle.caa_base.specs.declared.outside.plant.Asked.TheVariants as asked
use Rattle.line_plant.specs.Answers.{well_line, failed_line}
use Rattle.line_plant.specs.Lines.{lay_line, asking_line, put_word, restore_word, stop_line}

-- it was asked for, and done
abbrev pub was_done : Asked → Bool
was_done (asked.Laid values drills puts done) = done
was_done (asked.Put object value back done) = done
was_done (asked.Entered e) = false

-- none of these was done
abbrev pub NoneDone : List Asked → Type 0
NoneDone [] = Unit {0}
NoneDone (a ∷ more) = (was_done a ≡ false) × NoneDone more

-- the word that asks for a put: for a step, or for an undo that brings an object back
abbrev pub word_of : Bool → List ℕ
word_of back = if back then restore_word else put_word

-- the line of this number that asks for it
abbrev pub AsksFor : List (List ℕ) → ℕ → Asked → List ℕ → Type 0
AsksFor names number (asked.Laid values drills puts done) line = line ≡ lay_line number names values
AsksFor names number (asked.Put object value back done) line = line ≡ asking_line (word_of back) number (name_at names object) value
AsksFor names number (asked.Entered e) line = ⊥

-- no line is sent of it: of an entry that the device is told of; and of a laying out that came to nothing, since there are other
-- objects, or no memory was found for the line
abbrev pub IsSilent : Asked → Type 0
IsSilent (asked.Laid values drills puts done) = done ≡ false
IsSilent (asked.Put object value back done) = ⊥
IsSilent (asked.Entered e) = Unit {0}

-- the line by which a device answers the one of this number: that it did what it was asked for, or that it refused
abbrev pub answer_line : ℕ → Asked → List ℕ
answer_line number a = if was_done a then well_line number else failed_line number

-- these bytes are the lines of all this, one behind the other, with the numbers from `number` on, and those are the lines that answer
-- them; `after` is the next number
abbrev pub AreLines : List (List ℕ) → ℕ → List Asked → ℕ → List ℕ → List ℕ → Type 0
AreLines names number [] after bytes answers = (after ≡ number) × (bytes ≡ []) × (answers ≡ [])
AreLines names number (a ∷ more) after bytes answers =
    ((line : List ℕ) × (behind : List ℕ) × (later : List ℕ) × AsksFor names number a line
    × AreLines names (counted_up number) more after behind later × (bytes ≡ line ++ behind) × (answers ≡ answer_line number a ++ later))
    ⊎ (IsSilent a × AreLines names number more after bytes answers)

-- of what got no answer these bytes were sent: nothing, or a front of the line of the first, which may be all of it
abbrev pub IsUnanswered : List (List ℕ) → ℕ → List Asked → List ℕ → Type 0
IsUnanswered names number [] bytes = bytes ≡ []
IsUnanswered names number (a ∷ more) bytes = (bytes ≡ []) ⊎ ((line : List ℕ) × AsksFor names number a line × IsPrefix bytes line)

-- the same, and no line was cut off: nothing, or the whole line of the first
abbrev pub IsUncut : List (List ℕ) → ℕ → List Asked → List ℕ → Type 0
IsUncut names number [] bytes = bytes ≡ []
IsUncut names number (a ∷ more) bytes = (bytes ≡ []) ⊎ AsksFor names number a bytes

-- a device was sent these bytes by what it was asked for: a line for each thing, in order, as long as it answered, by these answers; from
-- the first on that it didn't answer nothing was done, and nothing was sent but at most a front of the line of that one. Last of all,
-- and only behind whole lines, come these bytes of `stop`
pub record WasSent (names : List (List ℕ)) (all : List Asked) (stop bytes answers : List ℕ) : Type 0 where
  pub answered : List Asked
  pub unanswered : List Asked
  pub parts : all ≡ answered ++ unanswered
  pub none_done : NoneDone unanswered
  pub next : ℕ
  pub lines : List ℕ
  pub in_lines : AreLines names 0 answered next lines answers
  pub last : List ℕ
  pub is_last : IsUnanswered names next unanswered last
  pub is_front : IsPrefix stop stop_line
  pub behind : (stop ≡ []) ⊎ IsUncut names next unanswered last
  pub joined : bytes ≡ lines ++ last ++ stop
