-- Who makes the next entry, where one participant after another is asked.
use Rattle.std.specs.Prelude.{◌≡◌, ℕ, ◌+◌, ◌%◌, ◌<◌, List, [], ◌∷◌, ◌++◌, length, reverse, suc}
use Rattle.caa_base.specs.declared.written.entry.Entry.{Entry}
use Rattle.place_plan.specs.Plans.PlanValue.{Plan}
use Rattle.place_plan.specs.RulesOfJournals.Rules.{MayFollow}
use Rattle.place_plan.specs.RulesOfJournals.Journals.{HasNoEntry}

-- ---- one turn

-- the participant that is asked after so many others, going round from the one of this number
abbrev pub participant_asked : Plan → ℕ → ℕ → ℕ
participant_asked plan first others = (first + others) % length plan.participants

-- t is the first participant, going round from this number, that has an entry after this past
pub record IsTurnOf (plan : Plan) (past : List Entry) (first t : ℕ) : Type 0 where
  pub others : ℕ
  pub own : t ≡ participant_asked plan first others
  pub before : (i : ℕ) → i < others → HasNoEntry plan past (participant_asked plan first i)

-- t made this entry of its own
pub record Acts (plan : Plan) (old new : List Entry) (t : ℕ) (entry : Entry) : Type 0 where
  pub added : new ≡ old ++ entry ∷ []
  pub own : entry.by ≡ t
  pub may : MayFollow plan (reverse old) entry

-- t has no entry, and none was made
pub record IsKept (plan : Plan) (old new : List Entry) (t : ℕ) : Type 0 where
  pub same : new ≡ old
  pub silent : HasNoEntry plan (reverse old) t

-- one entry was made, by the participant whose turn it was
pub record TakesTurn (plan : Plan) (old new : List Entry) (first : ℕ) : Type 0 where
  pub entry : Entry
  pub added : new ≡ old ++ entry ∷ []
  pub may : MayFollow plan (reverse old) entry
  pub turn : IsTurnOf plan (reverse old) first entry.by

-- ---- turn after turn

-- each of these entries after a past, the newest first, was made by the participant whose turn it was; the nth one's turn began
-- at the participant of number `begins n`
abbrev pub HaveTurns : (ℕ → ℕ) → Plan → List Entry → List Entry → Type 0
HaveTurns begins plan past [] = Unit {0}
HaveTurns begins plan past (e ∷ added) =
    HaveTurns begins plan past added × IsTurnOf plan (added ++ past) (begins (suc (length added))) e.by

-- the old journal has grown to the new one by such turns
pub record GrewBy (begins : ℕ → ℕ) (plan : Plan) (old new : List Entry) : Type 0 where
  pub added : List Entry
  pub kept : new ≡ old ++ reverse added
  pub turns : HaveTurns begins plan (reverse old) added

-- ---- where turns begin: by a seed at the turn's number (`turn_number`)

-- always at participant 0, so that the least one that has an entry makes it
abbrev pub always_least : ℕ → ℕ
always_least turn = 0
