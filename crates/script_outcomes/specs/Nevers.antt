-- Which exceptions the outlooks of a script say never to be resolved.
use Rattle.std.specs.Prelude.{◌≡◌, ℕ, Bool, true, false, List, [], map, slice_index_or}
use Rattle.place_plan.specs.Plans.PlanValue.{Plan}
use Rattle.reach_tables.specs.Never.{NeverResolved}
use Rattle.script_outcomes.specs.declared.outlooks.Outlook.{Outlook}
use Rattle.script_outcomes.specs.declared.outlooks.Row.{Row}

-- whether the exception x can come, by the row of its number; where no such row is there, nothing rules it out
abbrev pub can_come : List Row → ℕ → Bool
can_come rows x = slice_index_or (map (λ row. row.can_come) rows) x true

-- the rows of the action a, by the outlook of its number; none where no such outlook is there
abbrev pub rows_of : List Outlook → ℕ → List Row
rows_of outlooks a = slice_index_or (map (λ outlook. outlook.rows.items) outlooks) a []

-- what they say can't come is never resolved in a place of the action, whatever the order and the device
abbrev pub TellsNever : Plan → List Outlook → Type 0
TellsNever plan outlooks = (a x : ℕ) → can_come (rows_of outlooks a) x ≡ false → NeverResolved plan a x
