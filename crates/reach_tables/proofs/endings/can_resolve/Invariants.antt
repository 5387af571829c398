use Rattle.std.proofs.Common.{◌≡◌, drop}
use Rattle.std.specs.List.{list_any}
use Rattle.reach_tables.specs.ReachTable.{resolves}
use Rattle.reach_tables.proofs.endings.can_resolve.Given as goal

abbrev pub invariant-loop-group : goal.invariant-loop-group
invariant-loop-group l =
    list_any (resolves l.graph l.exception) (drop l.group-index l.groups) ≡ list_any (resolves l.graph l.exception) l.groups
