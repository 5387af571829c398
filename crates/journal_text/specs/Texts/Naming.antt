-- Plans whose names tell their parts apart.
use Rattle.std.specs.Prelude.{ℕ, zero, suc, ◌==◌, nat_lt, Bool, ◌&&◌, if◌then◌else◌, List, length, bytes_eq}
use Rattle.std.specs.List.{list_all, range_with_len}
use Rattle.caa_base.specs.Written.Names.{is_name}
use Rattle.place_plan.specs.Plans.PlanValue.{Plan}
use Rattle.place_plan.specs.Plans.Places.{graph_at, exception_name}
use Rattle.journal_text.specs.Texts.Text.{participant_name, object_name, watched_object}

-- the first of the next so many numbers, from this one on, whose name is the word; where none has it, the number after them
abbrev pub index_among : (ℕ → List ℕ) → List ℕ → ℕ → ℕ → ℕ
index_among name_of word from zero = from
index_among name_of word from (suc left) = if bytes_eq (name_of from) word then from else index_among name_of word (suc from) left

-- the first watch whose object has this name; where none has, the number of watches
abbrev pub watch_in : Plan → List ℕ → ℕ
watch_in plan word = index_among (λ w. object_name plan (watched_object plan w)) word 0 (length plan.watches)

-- the name of this number is a name by the grammar, and none before it is the same
abbrev pub is_own_name : (ℕ → List ℕ) → ℕ → ℕ → Bool
is_own_name name_of n i = is_name (name_of i) && (index_among name_of (name_of i) 0 n == i)

-- the numbers below n have names that the grammar allows, all of them different
abbrev pub are_names : (ℕ → List ℕ) → ℕ → Bool
are_names name_of n = list_all (is_own_name name_of n) (range_with_len 0 n)

-- the exceptions of a graph have such names
abbrev pub is_named_graph : Plan → ℕ → Bool
is_named_graph plan g = are_names (exception_name plan g) (graph_at plan g).count

-- the watch is of an object of the plan, and none before it is of the same
abbrev pub is_own_watch : Plan → ℕ → Bool
is_own_watch plan w =
    nat_lt (watched_object plan w) (length plan.objects)
    && (watch_in plan (object_name plan (watched_object plan w)) == w)

-- the test of own names: participants, objects and the exceptions of each graph have names by the grammar that differ, and no
-- object is watched twice
abbrev pub is_well_named : Plan → Bool
is_well_named plan =
    are_names (participant_name plan) (length plan.participants)
    && (are_names (object_name plan) (length plan.objects)
    && (list_all (is_named_graph plan) (range_with_len 0 (length plan.graphs))
    && list_all (is_own_watch plan) (range_with_len 0 (length plan.watches))))
