-- What a participant does over a stretch of a journal. A moment is behind so many of its entries.
use Rattle.std.specs.Prelude.{◌≡◌, ◌↔◌, ℕ, ◌+◌, ◌<◌, ◌≤◌, ◌==◌, nat_le, nat_lt, Bool, true, false, ◌&&◌, List, codes, length, reverse, take, Option, Some, None, is_none}
use Rattle.std.specs.List.{count_by}
use Rattle.caa_base.specs.declared.written.entry.Entry.{Entry}
use Rattle.place_plan.specs.Plans.PlanValue.{Plan}
use Rattle.place_plan.specs.RulesOfJournals.Whereabouts.{inside}
use Rattle.place_plan.specs.RulesOfJournals.Roles.{is_over}
use Rattle.place_plan.specs.RulesOfJournals.Journals.{LegalPast, HasNoEntry}
use Rattle.journal_pictures.specs.declared.stretches.Doing.{Doing}
use Rattle.journal_pictures.specs.declared.stretches.Doing.TheVariants as doing
use Rattle.journal_pictures.specs.declared.stretches.Stretch.{Stretch}

-- ---- at a moment

-- the entries before a moment, the newest first
abbrev pub past_at : List Entry → ℕ → List Entry
past_at entries k = reverse (take k entries)

-- the participant waits
abbrev pub is_wait : Doing → Bool
is_wait (doing.Wait w) = true
is_wait _ = false

-- the participant is in no place
abbrev pub is_away : Doing → Bool
is_away doing.Away = true
is_away _ = false

-- t has no entry, though it isn't through with all its plays
abbrev pub HasToWait : Plan → List Entry → ℕ → Type 0
HasToWait plan past t = HasNoEntry plan past t × (is_over plan past t ≡ false)

-- at a moment t does this by the rules: it waits just where it has no entry and isn't over, and is away just where it is in no place
pub record IsRightAt (plan : Plan) (entries : List Entry) (k t : ℕ) (d : Doing) : Type 0 where
  pub waits : (is_wait d ≡ true) ↔ HasToWait plan (past_at entries k) t
  pub away : is_away d ≡ is_none (inside plan (past_at entries k) t)

-- a moment that a part of a journal shows, so many entries from number `first` on: the one before them or one behind an entry of them,
-- as far as the rules let the entries come
pub record IsShown (plan : Plan) (entries : List Entry) (first rows k : ℕ) : Type 0 where
  pub low : first ≤ k
  pub high : k ≤ first + rows
  pub within : k ≤ length entries
  pub legal : LegalPast plan (past_at entries k)

-- ---- over a stretch

-- a stretch of a participant has a moment, and at each of its moments, all of which are shown, the participant does this by the rules
pub record IsRight (plan : Plan) (entries : List Entry) (first rows : ℕ) (s : Stretch) : Type 0 where
  pub known : s.lane < length plan.participants
  pub lasts : s.from < s.to
  pub shown : (k : ℕ) → s.from ≤ k → k < s.to → IsShown plan entries first rows k
  pub right : (k : ℕ) → s.from ≤ k → k < s.to → IsRightAt plan entries k s.lane s.doing

-- the stretch is one of t, and has this moment
abbrev pub has_moment : ℕ → ℕ → Stretch → Bool
has_moment t k s = (s.lane == t) && (nat_le s.from k && nat_lt k s.to)

-- somebody who is in a place has one stretch at a moment, and somebody who isn't has none
abbrev pub number_due : Option ℕ → ℕ
number_due None = 0
number_due (Some p) = 1

-- so it is with these stretches at each moment that is shown
abbrev pub CoverAll : Plan → List Entry → ℕ → ℕ → List Stretch → Type 0
CoverAll plan entries first rows stretches =
    (t k : ℕ) → t < length plan.participants → IsShown plan entries first rows k
    → count_by (has_moment t k) stretches ≡ number_due (inside plan (past_at entries k) t)

-- ---- how it looks

-- the class of a stretch
abbrev pub class_of : Doing → List ℕ
class_of (doing.Wait w) = codes "wait"
class_of doing.Body = codes "body"
class_of doing.Handler = codes "handler"
class_of _ = codes "turn"

-- half how wide it is
abbrev pub half_width : Doing → ℕ
half_width doing.Away = 1
half_width doing.Turn = 1
half_width _ = 5
