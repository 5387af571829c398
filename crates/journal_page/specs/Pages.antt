-- The text of a page: data on the script, one piece for each entry, and data on how the journal ends.
use Rattle.std.specs.Prelude.{◌≡◌, ℕ, ◌+◌, List, [], ◌++◌, length, codes}
use Rattle.std.specs.List.{All, flat_map}
use Rattle.caa_base.specs.declared.written.entry.Entry.{Entry}
use Rattle.place_plan.specs.Plans.PlanValue.{Plan}
use Rattle.journal_text.specs.Texts.Text.{entry_line}
use Rattle.page_text.specs.Parts.{number_text, string_text, parts_text, page_text}
use Rattle.page_text.specs.declared.parts.Part.{Part}
use Rattle.journal_replay.specs.declared.moves.Lack.{Lack}
use Rattle.journal_replay.specs.declared.moves.Lack.TheVariants as lack
use Rattle.journal_replay.specs.declared.moves.Move.{Move}
use Rattle.journal_replay.specs.declared.moves.Move.TheVariants as move
use Rattle.journal_page.specs.declared.stances.Stance.{Stance}
use Rattle.journal_page.specs.declared.turns.Turn.{Turn}
use Rattle.journal_page.specs.Stances.{LinesOf, place_number, IsStance, AreTurns, StopsAt}

-- a list of the data
abbrev pub list_text : List ℕ → List ℕ
list_text inner = codes "[" ++ inner ++ codes "0],\n"

-- the number of what is lacking
abbrev pub lack_number : Lack → ℕ
lack_number lack.Roles = 0
lack_number lack.Objects = 1
lack_number lack.Halts = 2
lack_number lack.Verdicts = 3
lack_number lack.GiveUps = 4
lack_number (lack.Object o) = 5

-- the number of a kind of move; that of a wait is 3 and the number of what is lacking
abbrev pub move_number : Move → ℕ
move_number move.Over = 0
move_number (move.Make e) = 1
move_number (move.Mix work) = 1
move_number (move.Put e) = 2
move_number (move.Wait wait) = 3 + lack_number wait.lack

-- the line of each entry
abbrev pub lines_text : Plan → List Entry → List ℕ
lines_text plan entries = flat_map (λ e. string_text (entry_line plan e)) entries

-- who stands in which place, at which line, and how
abbrev pub seat_text : Stance → List ℕ
seat_text s = number_text s.by ++ number_text (place_number s.place) ++ number_text s.line ++ number_text (move_number s.next)

-- the entries that a participant may make
abbrev pub choices_text : Plan → Stance → List ℕ
choices_text plan s = list_text (lines_text plan s.entries.items)

-- whom or what it waits for
abbrev pub awaited_text : Stance → List ℕ
awaited_text s = list_text (flat_map number_text s.awaited.items)

-- a stance
unfoldable pub stance_text : Plan → Stance → List ℕ
stance_text plan s = list_text (seat_text s ++ choices_text plan s ++ awaited_text s)

-- a turn: the line of its entry, and the stances of those who stand elsewhere after it
unfoldable pub turn_text : Plan → Turn → List ℕ
turn_text plan t = list_text (string_text (entry_line plan t.entry) ++ flat_map (stance_text plan) t.stances.items)

-- where all stand first, and the turns
unfoldable pub middle_text : Plan → List Stance → List Turn → List ℕ
middle_text plan first turns = list_text (flat_map (stance_text plan) first) ++ list_text (flat_map (turn_text plan) turns)

-- the data of a page with these stances and turns
abbrev pub data_text : Plan → List Part → List Stance → List Turn → List Part → List ℕ
data_text plan head first turns tail = parts_text head ++ middle_text plan first turns ++ parts_text tail

-- a text is the page of a journal, between this data: a piece for each entry, as far as the rules let the entries come, and in each
-- piece stances that are right after its entry
pub record IsPage (lines : LinesOf) (plan : Plan) (head tail : List Part) (entries : List Entry) (text : List ℕ) : Type 0 where
  pub first : List Stance
  pub turns : List Turn
  pub at_first : All (IsStance lines plan []) first
  pub are_turns : AreTurns lines plan entries turns
  pub stops : StopsAt plan entries (length turns)
  pub same : text ≡ page_text (data_text plan head first turns tail)
