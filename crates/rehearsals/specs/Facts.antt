-- What a journal shows.
use Rattle.std.specs.Prelude.{ℕ, zero, suc, ℤ, pos, ◌==◌, ◌&&◌, ◌||◌, Bool, if◌then◌else◌, List, [], ◌∷◌, ◌++◌, length, Option, None, Some, unwrap_or, filter_map, slice_index_or, slice_set}
use Rattle.caa_base.specs.Written.Marks.{taken_mark, outcome_of_mark}
use Rattle.caa_base.specs.declared.written.entry.Entry.{Entry}
use Rattle.caa_base.specs.declared.written.entry.Kind.{Kind}
use Rattle.caa_base.specs.declared.written.entry.Kind.TheVariants as kind
use Rattle.place_plan.specs.Plans.PlanValue.{Plan}
use Rattle.place_plan.specs.Plans.Places.{role_of, initials_of}
use Rattle.place_plan.specs.RulesOfJournals.Entries.{is_of}
use Rattle.rehearsals.specs.declared.facts.Fact.{Fact}
use Rattle.rehearsals.specs.declared.facts.Fact.TheVariants as fact

-- the place that stands for the path of p
abbrev pub path_of : List ℕ → ℕ → ℕ
path_of paths p = slice_index_or paths p p

-- what an entry of this kind shows of a path
abbrev pub fact_by : Kind → Plan → ℕ → Entry → Option Fact
fact_by kind.Start plan path e = Some (fact.Started path)
fact_by kind.Resolve plan path e = Some (fact.Resolved path e.arg)
fact_by kind.Handle plan path e = Some (fact.Handled path (unwrap_or (role_of plan e.place e.by) 0) e.arg)
fact_by kind.End plan path e = Some (fact.Ended path (outcome_of_mark e.mark e.arg))
fact_by _ plan path e = None

-- what an entry shows, if it shows anything
abbrev pub fact_of : Plan → List ℕ → Entry → Option Fact
fact_of plan paths e = fact_by e.kind plan (path_of paths e.place) e

-- the entry is a put that the device took
abbrev pub takes_put : Entry → Bool
takes_put e = is_of kind.Write e || (is_of kind.Restore e && (e.mark == taken_mark))

-- the values of the device after an entry
abbrev pub values_with : List ℤ → Entry → List ℤ
values_with values e = if takes_put e then slice_set values e.arg e.value else values

-- the values of the device after these entries
abbrev pub values_after : List ℤ → List Entry → List ℤ
values_after values [] = values
values_after values (e ∷ later) = values_after (values_with values e) later

-- the value of an object; 0 where there is none
abbrev pub value_in : List ℤ → ℕ → ℤ
value_in values o = slice_index_or values o (pos 0)

-- the values of the first so many objects
abbrev pub last_facts : List ℤ → ℕ → List Fact
last_facts values zero = []
last_facts values (suc n) = last_facts values n ++ fact.Last n (value_in values n) ∷ []

-- what a journal shows: what its entries show, and the values of all objects at its end
abbrev pub facts_of : Plan → List ℕ → List Entry → List Fact
facts_of plan paths journal =
    filter_map (fact_of plan paths) journal ++ last_facts (values_after (initials_of plan) journal) (length plan.objects)
