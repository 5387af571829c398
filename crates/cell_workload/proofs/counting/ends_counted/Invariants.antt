use Rattle.std.proofs.Common.{◌≡◌, ◌≤◌, take}
use Rattle.cell_workload.specs.Summary.{ends_counted}
use Rattle.cell_workload.proofs.counting.ends_counted.Given as goal

abbrev pub invariant-loop-entry : goal.invariant-loop-entry
invariant-loop-entry l = (l.count ≡ ends_counted l.mark (take l.entry-index l.entries)) × (l.count ≤ l.entry-index)
