-- What is kept of each participant besides its frames, and the journal that this stands for.
use Rattle.std.specs.Prelude.{◌≡◌, ℕ, ◌<◌, ◌≤◌, Bool, true, false, ◌&&◌, if◌then◌else◌, List, Some, is_none, length, slice_index_or}
use Rattle.caa_base.specs.Written.Lists.{member}
use Rattle.caa_base.specs.declared.written.entry.Entry.{Entry}
use Rattle.caa_base.specs.declared.written.entry.Kind.TheVariants as kind
use Rattle.place_plan.specs.Plans.PlanValue.{Plan}
use Rattle.place_plan.specs.Plans.Places.{parent, roles_of}
use Rattle.place_plan.specs.RulesOfJournals.Entries.{is_of, has_by}
use Rattle.place_plan.specs.RulesOfJournals.Whereabouts.{inside}
use Rattle.place_plan.specs.RulesOfJournals.Raising.{has_handled}
use Rattle.place_plan.specs.RulesOfJournals.Roles.{was_refused_in_handler}
use Rattle.action_core.specs.declared.person.Person.{Person}

-- who isn't there has nothing to do
abbrev pub nobody : Person
nobody = record { turn = 0; refused = false }

-- what is kept of t
abbrev pub at : List Person → ℕ → Person
at people t = slice_index_or people t nobody

-- the play of this number
abbrev pub play_at : Plan → ℕ → ℕ
play_at plan n = slice_index_or plan.plays n 0

-- the plays of t before this number don't count
pub record IsNext (plan : Plan) (t low turn : ℕ) : Type 0 where
  pub from_low : low ≤ turn
  pub foreign : (n : ℕ) → low ≤ n → n < turn → n < length plan.plays → member t (roles_of plan (play_at plan n)) ≡ false
  pub own : turn < length plan.plays → member t (roles_of plan (play_at plan turn)) ≡ true

-- t has arrived in each of its plays before this number, and in none from it on; the play of this number is one of its own
pub record IsTurn (plan : Plan) (past : List Entry) (t turn : ℕ) : Type 0 where
  pub before : (n : ℕ) → n < turn → n < length plan.plays → member t (roles_of plan (play_at plan n)) ≡ true
      → has_by kind.Arrive past (play_at plan n) t ≡ true
  pub after : (n : ℕ) → turn ≤ n → n < length plan.plays → has_by kind.Arrive past (play_at plan n) t ≡ false
  pub own : turn < length plan.plays → member t (roles_of plan (play_at plan turn)) ≡ true

-- the entry is an arrival in a play
abbrev pub opens_play : Plan → Entry → Bool
opens_play plan e = is_of kind.Arrive e && is_none (parent plan e.place)

-- whether a put of the maker of an entry was refused in its handler, with the entry
abbrev pub refused_after : Entry → Bool → Bool
refused_after e was = if is_of kind.PutFault e then true else (if is_of kind.Handle e then false else was)

-- this is kept of t: its turn, and, where it has begun a handler in the place that it is in, whether a put was refused there
pub record IsPersonOf (plan : Plan) (past : List Entry) (t : ℕ) (person : Person) : Type 0 where
  pub turn : IsTurn plan past t person.turn
  pub refused : (p : ℕ) → inside plan past t ≡ Some p → has_handled past p t ≡ true
      → person.refused ≡ was_refused_in_handler past p t

-- so it is for all participants
pub record PersonOfEach (plan : Plan) (past : List Entry) (people : List Person) : Type 0 where
  pub as_many : length people ≡ length plan.participants
  pub each : (t : ℕ) → t < length plan.participants → IsPersonOf plan past t (at people t)
