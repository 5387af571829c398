use Rattle.std.proofs.Common.{◌≡◌, true, replicate, map, is_some, vec_len, ◌≤◌}
use Rattle.shared_views.proofs.cells.ResolutionCells.open.Given as goal

abbrev pub invariant-loop : goal.invariant-loop
invariant-loop l = (vec_len l.cells ≡ l.counter) × (map is_some l.boxes.items ≡ replicate l.counter true) × (l.counter ≤ l.places)
