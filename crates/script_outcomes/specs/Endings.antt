-- Whether a place of an action can end undone, by what is known of it.
use Rattle.std.specs.Prelude.{ℕ, ◌==◌, Bool, true, false, not, ◌||◌, List}
use Rattle.std.specs.List.{list_all, list_any}
use Rattle.script_outcomes.specs.declared.ways.Way.{Way}
use Rattle.script_outcomes.specs.declared.ways.Way.TheVariants as way
use Rattle.script_outcomes.specs.declared.outlooks.Outlook.{Outlook}

-- all objects are set back
abbrev pub is_undone : Way → Bool
is_undone way.Commit = false
is_undone (way.Signal x) = false
is_undone way.Undone = true
is_undone way.Failed = false

-- an action can end so
abbrev pub ends_undone : Outlook → Bool
ends_undone outlook = list_any is_undone outlook.ways.items

-- the action of this name can end so, unless it is known that it can't
abbrev pub can_be_undone : List Outlook → ℕ → Bool
can_be_undone known action = list_all (λ o. not (o.action == action) || ends_undone o) known
