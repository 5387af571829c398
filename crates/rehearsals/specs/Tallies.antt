-- How many journals showed what.
use Rattle.std.specs.Prelude.{◌≡◌, ℕ, ℤ, pos, ◌==◌, ◌≤◌, ◌+◌, Bool, true, false, ◌&&◌, if◌then◌else◌, List, [], ◌∷◌, length}
use Rattle.std.specs.List.{list_any}
use Rattle.std.specs.Ordering.{int_eq}
use Rattle.caa_base.specs.Written.Marks.{outcome_mark}
use Rattle.caa_base.specs.declared.written.entry.Entry.{Entry}
use Rattle.place_plan.specs.Plans.PlanValue.{Plan}
use Rattle.place_plan.specs.RulesOfJournals.Attempts.{IsDrilled}
use Rattle.place_plan.specs.RulesOfJournals.Journals.{IsLegal, IsComplete}
use Rattle.rehearsals.specs.Facts.{facts_of}
use Rattle.rehearsals.specs.declared.facts.Fact.{Fact}
use Rattle.rehearsals.specs.declared.facts.Fact.TheVariants as fact
use Rattle.rehearsals.specs.declared.keys.Key.{Key}
use Rattle.rehearsals.specs.declared.tally.Row.{Row}

-- a fact as numbers: its kind, and what it says
abbrev pub key_of : Fact → Key
key_of (fact.Started p) = record { kind = 0; of = p; more = 0; what = 0; value = pos 0 }
key_of (fact.Resolved p x) = record { kind = 1; of = p; more = 0; what = x; value = pos 0 }
key_of (fact.Handled p r x) = record { kind = 2; of = p; more = r; what = x; value = pos 0 }
key_of (fact.Ended p o) = record { kind = 3; of = p; more = (outcome_mark o).0; what = (outcome_mark o).1; value = pos 0 }
key_of (fact.Last o v) = record { kind = 4; of = o; more = 0; what = 0; value = v }

-- the same numbers
abbrev pub is_same_key : Key → Key → Bool
is_same_key a b = (a.kind == b.kind) && ((a.of == b.of) && ((a.more == b.more) && ((a.what == b.what) && int_eq a.value b.value)))

-- two facts say the same
abbrev pub is_same : Fact → Fact → Bool
is_same f g = is_same_key (key_of f) (key_of g)

-- such a fact is among these, which a journal showed
abbrev pub is_shown : List Fact → Fact → Bool
is_shown facts f = list_any (is_same f) facts

-- how many journals showed a fact, by the rows of a tally: one that has no row was shown by none
abbrev pub count_of : List Row → Fact → ℕ
count_of [] f = 0
count_of (r ∷ rs) f = if is_same f r.fact then r.count else count_of rs f

-- the number of the last journal that showed a fact, or 0
abbrev pub last_of : List Row → Fact → ℕ
last_of [] f = 0
last_of (r ∷ rs) f = if is_same f r.fact then r.last else last_of rs f

-- 1 for what holds
abbrev pub one_if : Bool → ℕ
one_if true = 1
one_if false = 0

-- what a tally is seen as: its rows, and how many journals it was told of
pub record Tally : Type 0 where
  pub rows : List Row
  pub noted : ℕ

-- no row counts more journals than there were up to its last, and none has one that comes after this number
abbrev pub AreWithin : ℕ → List Row → Type 0
AreWithin number [] = Unit {0}
AreWithin number (r ∷ rs) = (r.count ≤ r.last) × (r.last ≤ number) × AreWithin number rs

-- each of these journals is legal and complete, and of its puts just those were refused that the drills of the plan name
abbrev pub AreDrilled : Plan → List (List Entry) → Type 0
AreDrilled plan [] = Unit {0}
AreDrilled plan (j ∷ js) = IsLegal plan j × IsComplete plan j × IsDrilled plan j × AreDrilled plan js

-- how many of these journals show a fact, however often each does
abbrev pub how_many_show : Plan → List ℕ → List (List Entry) → Fact → ℕ
how_many_show plan paths [] f = 0
how_many_show plan paths (j ∷ js) f = one_if (is_shown (facts_of plan paths j) f) + how_many_show plan paths js f

-- there are so many legal and complete journals, whose refused puts are those that the plan drills, and the rows count for each
-- fact how many of these show it
pub record Rehearsed (plan : Plan) (paths : List ℕ) (rows : List Row) (number : ℕ) : Type 0 where
  pub journals : List (List Entry)
  pub all : length journals ≡ number
  pub drilled : AreDrilled plan journals
  pub counts : (f : Fact) → count_of rows f ≡ how_many_show plan paths journals f
