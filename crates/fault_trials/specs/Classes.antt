-- How bad it is what comes of a refused put, by how its play ends.
use Rattle.std.specs.Prelude.{ℕ, ℤ, zero, suc, ◌==◌, Bool, true, false, not, ◌&&◌, ◌||◌, if◌then◌else◌, List, [], ◌∷◌, Option, None, Some, slice_get, take}
use Rattle.std.specs.List.{list_any}
use Rattle.std.specs.Ordering.{int_eq}
use Rattle.caa_base.specs.Written.Lists.{member, is_empty}
use Rattle.caa_base.specs.Written.Marks.{outcome_of_mark}
use Rattle.caa_base.specs.declared.written.entry.Entry.{Entry}
use Rattle.caa_base.specs.declared.written.entry.Kind.TheVariants as kind
use Rattle.caa_base.specs.declared.written.entry.Outcome.{Outcome}
use Rattle.caa_base.specs.declared.written.entry.Outcome.TheVariants as outcome
use Rattle.place_plan.specs.Plans.PlanValue.{Plan}
use Rattle.place_plan.specs.Plans.Places.{initials_of, objects_of}
use Rattle.place_plan.specs.RulesOfJournals.Entries.{is_in}
use Rattle.rehearsals.specs.Facts.{value_in, values_after}
use Rattle.fault_trials.specs.declared.measure.Left.{Left}
use Rattle.fault_trials.specs.declared.measure.Way.{Way}
use Rattle.fault_trials.specs.declared.modes.Class.{Class}
use Rattle.fault_trials.specs.declared.modes.Class.TheVariants as class

-- how a class stands among the others, the best first
abbrev pub rank_of : Class → ℕ
rank_of class.Same = 0
rank_of class.Told = 1
rank_of class.Undone = 2
rank_of class.Left = 3
rank_of class.Failed = 4

-- ---- the end of a place

-- how many entries stand before the end of p, or all where it has none
abbrev pub end_of : ℕ → List Entry → ℕ
end_of p [] = zero
end_of p (e ∷ later) = if is_in kind.End p e then zero else suc (end_of p later)

-- what an end says
abbrev pub outcome_by : Option Entry → Option Outcome
outcome_by None = None
outcome_by (Some e) = Some (outcome_of_mark e.mark e.arg)

-- how p ended by this journal, if it did
abbrev pub outcome_in : List Entry → ℕ → Option Outcome
outcome_in journal p = outcome_by (slice_get journal (end_of p journal))

-- the values of the device when p ended
abbrev pub values_at_end : Plan → List Entry → ℕ → List ℤ
values_at_end plan journal p = values_after (initials_of plan) (take (end_of p journal) journal)

-- ---- what plays without a fault leave

-- how plays without a fault left the objects and how they ended; which objects have to be off, all where there are none; and which
-- are counted up
pub record Measure : Type 0 where
  pub lefts : List Left
  pub ways : List Way
  pub off : List ℕ
  pub counted : List ℕ

-- the same value of the same object at the end of the same play
abbrev pub is_same_left : Left → Left → Bool
is_same_left a b = (a.play == b.play) && ((a.object == b.object) && int_eq a.value b.value)

-- the same end of the same play
abbrev pub is_same_way : Way → Way → Bool
is_same_way a b = (a.play == b.play) && ((a.mark == b.mark) && (a.exception == b.exception))

-- some play without a fault left o as these values do
abbrev pub is_usual : Measure → ℕ → List ℤ → ℕ → Bool
is_usual m p lasts o = list_any (is_same_left (record { play = p; object = o; value = value_in lasts o })) m.lefts

-- o stands away: not at its first value, as no play without a fault leaves it; what is counted up is left aside
abbrev pub is_away : Measure → ℕ → List ℤ → List ℤ → ℕ → Bool
is_away m p firsts lasts o =
    not (is_usual m p lasts o) && (not (int_eq (value_in lasts o) (value_in firsts o)) && not (member o m.counted))

-- o stands at its first value, as no play without a fault leaves it
abbrev pub is_short : Measure → ℕ → List ℤ → List ℤ → ℕ → Bool
is_short m p firsts lasts o = not (is_usual m p lasts o) && int_eq (value_in lasts o) (value_in firsts o)

-- o was named among those that have to be off, or none was
abbrev pub has_to_be_off : Measure → ℕ → Bool
has_to_be_off m o = is_empty m.off || member o m.off

-- o has to be off and stands away
abbrev pub is_left : Measure → ℕ → List ℤ → List ℤ → ℕ → Bool
is_left m p firsts lasts o = is_away m p firsts lasts o && has_to_be_off m o

-- one of these objects has to be off and stands away
abbrev pub has_left : Measure → ℕ → List ℤ → List ℤ → List ℕ → Bool
has_left m p firsts lasts objects = list_any (is_left m p firsts lasts) objects

-- o stands as no play without a fault leaves it
abbrev pub is_strange : Measure → ℕ → List ℤ → List ℤ → ℕ → Bool
is_strange m p firsts lasts o = is_away m p firsts lasts o || is_short m p firsts lasts o

-- one of these objects does
abbrev pub has_strange : Measure → ℕ → List ℤ → List ℤ → List ℕ → Bool
has_strange m p firsts lasts objects = list_any (is_strange m p firsts lasts) objects

-- some play without a fault ended so
abbrev pub is_way : Measure → ℕ → Option Entry → Bool
is_way m p None = false
is_way m p (Some e) = list_any (is_same_way (record { play = p; mark = e.mark; exception = e.arg })) m.ways

-- ---- classes

-- the class of a play that committed or signalled, by whether an object was left, and whether all is as without a fault
abbrev pub class_told : Bool → Bool → Class
class_told left usual = if left then class.Left else (if usual then class.Same else class.Told)

-- the class of a play that ended so
abbrev pub class_by : Option Outcome → Bool → Bool → Class
class_by None left usual = class.Failed
class_by (Some outcome.Commit) left usual = class_told left usual
class_by (Some (outcome.Signal x)) left usual = class_told left usual
class_by (Some outcome.Undone) left usual = class.Undone
class_by (Some outcome.Aborted) left usual = class.Failed
class_by (Some outcome.Failed) left usual = class.Failed

-- the class of a play with these values at its end
abbrev pub class_with : Plan → Measure → List Entry → ℕ → List ℤ → Class
class_with plan m journal p lasts =
    class_by (outcome_in journal p) (has_left m p (initials_of plan) lasts (objects_of plan p))
    (not (has_strange m p (initials_of plan) lasts (objects_of plan p)) && is_way m p (slice_get journal (end_of p journal)))

-- the class of what a journal shows of the play p
abbrev pub class_of : Plan → Measure → List Entry → ℕ → Class
class_of plan m journal p = class_with plan m journal p (values_at_end plan journal p)
