use Rattle.std.proofs.Common.{◌≡◌, map, take}
use Rattle.reach_tables.specs.ReachTable.{group_of}
use Rattle.reach_tables.proofs.endings.groups_of.Given as goal

abbrev pub invariant-loop-source : goal.invariant-loop-source
invariant-loop-source l = l.groups.items ≡ map (group_of l.action l.row.order l.told) (take l.source-index l.told)
