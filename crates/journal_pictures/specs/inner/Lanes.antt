-- Stretches while they are found, one moment after another: some are done, and one of each participant goes on.
use Rattle.std.specs.Prelude.{◌≡◌, ℕ, ◌+◌, ◌<◌, ◌≤◌, Bool, true, false, cond, List, length, slice_index_or}
use Rattle.std.specs.List.{count_by}
use Rattle.caa_base.specs.declared.written.entry.Entry.{Entry}
use Rattle.place_plan.specs.Plans.PlanValue.{Plan}
use Rattle.journal_states.specs.declared.states.States.{States}
use Rattle.journal_states.specs.Past.{taken_in, IsAtEnd}
use Rattle.journal_pictures.specs.declared.stretches.Stretch.{Stretch}
use Rattle.journal_pictures.specs.Stretches.{IsRightAt, IsShown, has_moment}

-- the stretch lies between two moments, and is right at each of its own
pub record LiesIn (plan : Plan) (entries : List Entry) (first last : ℕ) (s : Stretch) : Type 0 where
  pub known : s.lane < length plan.participants
  pub low : first ≤ s.from
  pub lasts : s.from < s.to
  pub high : s.to ≤ last
  pub right : (k : ℕ) → s.from ≤ k → k < s.to → IsRightAt plan entries k s.lane s.doing

-- the stretch is one of t, and goes up to this moment
pub record GoesTo (t moment : ℕ) (s : Stretch) : Type 0 where
  pub lane : s.lane ≡ t
  pub lasts : s.from < s.to
  pub met : s.to ≡ moment

-- the first so many participants have one each, in order
abbrev pub AreOpen : ℕ → ℕ → List Stretch → Type 0
AreOpen n moment going =
    (length going ≡ n) × ((t : ℕ) (d : Stretch) → t < n → GoesTo t moment (slice_index_or going t d))

-- 1 where this is so, and 0 where it isn't
abbrev pub one_if : Bool → ℕ
one_if b = cond b 1 0

-- a cursor has come to this moment, or it stands before it, at an entry that may not come, or at the end
abbrev pub Reached : ℕ → States → Bool → Type 0
Reached first states true = taken_in states ≡ first
Reached first states false = (taken_in states < first) × IsAtEnd states

-- at each moment that is shown each participant has one of these stretches
abbrev pub AreOne : Plan → List Entry → ℕ → ℕ → List Stretch → Type 0
AreOne plan entries first rows stretches =
    (t k : ℕ) → t < length plan.participants → IsShown plan entries first rows k → count_by (has_moment t k) stretches ≡ 1
