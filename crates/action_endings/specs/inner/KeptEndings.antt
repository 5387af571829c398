-- How far each place has come to its end, and the journal that this stands for.
use Rattle.std.specs.Prelude.{◌≡◌, ℕ, ◌==◌, ◌-◌, ◌<◌, ◌≤◌, Bool, true, false, not, ◌&&◌, if◌then◌else◌, List, Option, Some, None, length, take, replicate, slice_index_or}
use Rattle.std.specs.List.{list_any}
use Rattle.cover_table.specs.Cover.{has_bit}
use Rattle.caa_base.specs.Written.Limits.{most_roles}
use Rattle.caa_base.specs.Written.Lists.{member, index_of}
use Rattle.caa_base.specs.declared.written.entry.Entry.{Entry}
use Rattle.caa_base.specs.declared.written.entry.Kind.TheVariants as kind
use Rattle.caa_base.specs.declared.written.entry.Verdict.{Verdict}
use Rattle.caa_base.specs.declared.written.entry.Verdict.TheVariants as verdict
use Rattle.place_plan.specs.Plans.PlanValue.{Plan}
use Rattle.place_plan.specs.Plans.Places.{around, roles_of, objects_of, interface_of}
use Rattle.place_plan.specs.RulesOfJournals.Entries.{has, is_by, newest}
use Rattle.place_plan.specs.RulesOfJournals.Whereabouts.{is_undoing}
use Rattle.place_plan.specs.RulesOfJournals.Raising.{is_raised}
use Rattle.place_plan.specs.RulesOfJournals.Objects.{is_tried, has_failed}
use Rattle.place_plan.specs.RulesOfJournals.Roles.{has_given, verdict_of, is_undo, has_aborted}
use Rattle.action_endings.specs.declared.said.Said.{Said}
use Rattle.action_endings.specs.declared.said.Said.TheVariants as short
use Rattle.action_endings.specs.declared.ending.Ending.{Ending}

-- ---- verdicts in short

-- the verdict
abbrev pub verdict_said : Said → Verdict
verdict_said short.Done = verdict.Done
verdict_said (short.Signal x) = verdict.Signal x
verdict_said short.Undo = verdict.Undo

-- a verdict that signals signals an exception below this number
abbrev pub SignalsBelow : ℕ → Verdict → Type 0
SignalsBelow count verdict.Done = Unit {0}
SignalsBelow count (verdict.Signal x) = x < count
SignalsBelow count verdict.Undo = Unit {0}

-- ---- rows

-- a place that isn't there: nothing was said of it, and it has no objects
abbrev pub no_ending : Ending
no_ending = record {
  given = 0;
  aborted = 0;
  said = replicate most_roles short.Done;
  named = replicate most_roles None;
  untried = 0;
  raised = false;
  undo = false;
  undoing = false;
  failed = false;
}

-- a place with so many objects, of which nothing was said yet
abbrev pub unsaid : ℕ → Ending
unsaid count = record no_ending { untried = count }

-- how far p has come
abbrev pub at : List Ending → ℕ → Ending
at endings p = slice_index_or endings p no_ending

-- the number of the role of t in p
abbrev pub role_number : Plan → ℕ → ℕ → ℕ
role_number plan p t = index_of t (roles_of plan p)

-- the verdict that is kept of t in p
abbrev pub verdict_kept : Plan → ℕ → ℕ → Ending → Verdict
verdict_kept plan p t ending = verdict_said (slice_index_or ending.said (role_number plan p t) short.Done)

-- the exception that is kept as named by t in p
abbrev pub name_kept : Plan → ℕ → ℕ → Ending → Option ℕ
name_kept plan p t ending = slice_index_or ending.named (role_number plan p t) None

-- how many objects of p have a restore by what is kept
abbrev pub tried_kept : Plan → ℕ → Ending → ℕ
tried_kept plan p ending = length (objects_of plan p) - ending.untried

-- something is raised in a place round p, by what is kept
abbrev pub doomed_kept : Plan → List Ending → ℕ → Bool
doomed_kept plan endings p = list_any (λ q. (at endings q).raised) (around plan p)

-- ---- the journal that they stand for

-- t has given a verdict in p that counts, and it is undo
abbrev pub asks_for_undo : Plan → List Entry → ℕ → ℕ → Bool
asks_for_undo plan past p t = has_given plan past p t && is_undo (verdict_of past p t)

-- the exception that an abort names
abbrev pub exception_named : Entry → Option ℕ
exception_named e = if e.mark == 1 then Some e.arg else None

-- the same of an abort that may not be there
abbrev pub name_in : Option Entry → Option ℕ
name_in None = None
name_in (Some e) = exception_named e

-- the verdicts that count are kept, and whether one of them is undo; what they signal is known
pub record KeepsVerdicts (plan : Plan) (past : List Entry) (p : ℕ) (ending : Ending) : Type 0 where
  pub given : (t : ℕ) → has_bit ending.given t ≡ has_given plan past p t
  pub said : (t : ℕ) → has_given plan past p t ≡ true → verdict_of past p t ≡ Some (verdict_kept plan p t ending)
  pub undo : ending.undo ≡ list_any (asks_for_undo plan past p) (roles_of plan p)
  pub known : (t : ℕ) → has_bit ending.given t ≡ true → SignalsBelow (interface_of plan p).count (verdict_kept plan p t ending)

-- so is what was raised, who has given up and with which exception, and how far the undo has come
pub record KeepsRest (plan : Plan) (past : List Entry) (p : ℕ) (ending : Ending) : Type 0 where
  pub room_to_say : length ending.said ≡ most_roles
  pub room_to_name : length ending.named ≡ most_roles
  pub raised : ending.raised ≡ is_raised plan past p
  pub aborted : (t : ℕ) → has_bit ending.aborted t ≡ has_aborted past p t
  pub some_aborted : not (ending.aborted == 0) ≡ has kind.Abort past p
  pub named : (t : ℕ) (e : Entry) → newest (is_by kind.Abort p t) past ≡ Some e → exception_named e ≡ name_kept plan p t ending
  pub undoing : ending.undoing ≡ is_undoing past p
  pub few : ending.untried ≤ length (objects_of plan p)
  pub tried : (o : ℕ) → is_tried past p o ≡ member o (take (tried_kept plan p ending) (objects_of plan p))
  pub failed : ending.failed ≡ has_failed past p

-- so it is for all places but the verdicts of one
pub record StandsBut (plan : Plan) (past : List Entry) (p : ℕ) (endings : List Ending) : Type 0 where
  pub as_many : length endings ≡ length plan.places
  pub verdicts : (q : ℕ) → (p == q) ≡ false → KeepsVerdicts plan past q (at endings q)
  pub rest : (q : ℕ) → KeepsRest plan past q (at endings q)

-- so it is for all places
pub record StandsFor (plan : Plan) (past : List Entry) (endings : List Ending) : Type 0 where
  pub as_many : length endings ≡ length plan.places
  pub verdicts : (q : ℕ) → KeepsVerdicts plan past q (at endings q)
  pub rest : (q : ℕ) → KeepsRest plan past q (at endings q)
