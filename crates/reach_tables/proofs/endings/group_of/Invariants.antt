use Rattle.std.proofs.Common.{◌≡◌, ◌∷◌, map, take}
use Rattle.std.specs.List.{filter}
use Rattle.reach_tables.specs.declared.table.Told.{Told}
use Rattle.reach_tables.specs.ReachTable.{are_together}
use Rattle.reach_tables.proofs.endings.group_of.Given as goal

abbrev pub invariant-loop-other : goal.invariant-loop-other
invariant-loop-other l =
    l.group.items
    ≡ (l.source.exception
    ∷ map (λ (u : Told). u.exception)
    (filter (λ (u : Told). are_together l.action l.order l.source.by u.by) (take l.other-index l.told)))
