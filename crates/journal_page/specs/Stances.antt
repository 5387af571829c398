-- Who stands where after some entries of a journal, as a page tells it.
use Rattle.std.specs.Prelude.{◌≡◌, ℕ, suc, ◌+◌, ◌<◌, if◌then◌else◌, List, [], ◌∷◌, length, take, reverse, slice_get, slice_index_or, Option, None, Some}
use Rattle.std.specs.List.{All, filter, flat_map}
use Rattle.caa_base.specs.declared.written.entry.Entry.{Entry}
use Rattle.place_plan.specs.Plans.PlanValue.{Plan}
use Rattle.place_plan.specs.Plans.Places.{roles_of, objects_of}
use Rattle.place_plan.specs.RulesOfJournals.Machine.{work_entry}
use Rattle.place_plan.specs.RulesOfJournals.Rules.{MayFollow}
use Rattle.place_plan.specs.RulesOfJournals.WellFormed.{IsWellFormed}
use Rattle.place_plan.specs.RulesOfJournals.Whereabouts.{inside}
use Rattle.place_plan.specs.RulesOfJournals.Objects.{holder_of}
use Rattle.journal_laws.specs.Due.{as_refused}
use Rattle.journal_replay.specs.Moves.{IsMove}
use Rattle.journal_replay.specs.declared.moves.Lack.{Lack}
use Rattle.journal_replay.specs.declared.moves.Lack.TheVariants as lack
use Rattle.journal_replay.specs.declared.moves.Move.{Move}
use Rattle.journal_replay.specs.declared.moves.Move.TheVariants as move
use Rattle.journal_states.specs.Spots.{spot_of}
use Rattle.journal_states.specs.Waits.{is_awaited, is_lacking}
use Rattle.journal_states.specs.declared.spots.Spot.{Spot}
use Rattle.journal_page.specs.declared.stances.Stance.{Stance}
use Rattle.journal_page.specs.declared.turns.Turn.{Turn}

-- the entries that a move lets t make
abbrev pub entries_in : ℕ → Move → List Entry
entries_in t (move.Make e) = e ∷ []
entries_in t (move.Put e) = e ∷ as_refused e.kind e ∷ []
entries_in t (move.Mix work) = work_entry work.place t work.rounds work.from ∷ []
entries_in t _ = []

-- the number of a place, counted from 1; 0 for none
abbrev pub place_number : Option ℕ → ℕ
place_number None = 0
place_number (Some p) = p + 1

-- an object that is awaited, and the number of the place that holds it
abbrev pub object_awaited : Plan → List Entry → ℕ → List ℕ
object_awaited plan past o = o ∷ place_number (holder_of plan past o) ∷ []

-- an object of p, where it is awaited there
abbrev pub object_lacking : Plan → List Entry → ℕ → ℕ → List ℕ
object_lacking plan past p o = if is_lacking plan past p o then object_awaited plan past o else []

-- the objects for which somebody waits that lacks this in p; or the roles
abbrev pub awaited_for : Plan → List Entry → ℕ → Lack → List ℕ
awaited_for plan past p lack.Objects = flat_map (object_lacking plan past p) (objects_of plan p)
awaited_for plan past p (lack.Object o) = object_awaited plan past o
awaited_for plan past p l = filter (is_awaited plan past p l) (roles_of plan p)

-- whom or what a move waits for
abbrev pub awaited_in : Plan → List Entry → Move → List ℕ
awaited_in plan past (move.Wait wait) = awaited_for plan past wait.place wait.lack
awaited_in plan past _ = []

-- the lines of a script: that of a participant which stands at a spot of a plan
abbrev pub LinesOf : Type 0
LinesOf = Plan → ℕ → Spot → ℕ

-- the line of a participant that stands there; 0 where it is in no place
abbrev pub line_at : LinesOf → Plan → ℕ → Option Spot → ℕ
line_at lines plan t None = 0
line_at lines plan t (Some spot) = lines plan t spot

-- the entries that a stance shows are well formed
abbrev pub ShowsWellFormed : Plan → Stance → Type 0
ShowsWellFormed plan s = All (IsWellFormed plan) s.entries.items

-- so are the entry of a turn, and those that its stances show
pub record TurnsWellFormed (plan : Plan) (t : Turn) : Type 0 where
  pub entry : IsWellFormed plan t.entry
  pub stances : All (ShowsWellFormed plan) t.stances.items

-- a participant stands after this past as the rules say, at the line that is told of its step
pub record IsStance (lines : LinesOf) (plan : Plan) (past : List Entry) (s : Stance) : Type 0 where
  pub known : s.by < length plan.participants
  pub place : s.place ≡ inside plan past s.by
  pub line : s.line ≡ line_at lines plan s.by (spot_of plan past s.by)
  pub next : IsMove plan past s.by s.next
  pub entries : s.entries.items ≡ entries_in s.by s.next
  pub awaited : s.awaited.items ≡ awaited_in plan past s.next

-- the turn of entry k: that entry, and stances that are right after it
pub record IsTurn (lines : LinesOf) (plan : Plan) (entries : List Entry) (k : ℕ) (t : Turn) : Type 0 where
  pub entry : slice_get entries k ≡ Some t.entry
  pub stances : All (IsStance lines plan (reverse (take (suc k) entries))) t.stances.items

-- one turn for each of the first entries, in order
abbrev pub AreTurns : LinesOf → Plan → List Entry → List Turn → Type 0
AreTurns lines plan entries turns = (k : ℕ) (d : Turn) → k < length turns → IsTurn lines plan entries k (slice_index_or turns k d)

-- behind so many entries there is none that may come by the rules
abbrev pub StopsAt : Plan → List Entry → ℕ → Type 0
StopsAt plan entries n = (e : Entry) → slice_get entries n ≡ Some e → MayFollow plan (reverse (take n entries)) e → ⊥
