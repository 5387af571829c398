use Rattle.std.proofs.Common.{◌≡◌, map, take}
use Rattle.reach_tables.specs.declared.table.ReachRow.{ReachRow}
use Rattle.script_outcomes.proofs.undone.undone_in.Given as goal

abbrev pub invariant-loop-row : goal.invariant-loop-row
invariant-loop-row l = l.undone.items ≡ map (λ (row : ReachRow). row.undone) (take l.row-index l.table)
