use Rattle.std.proofs.Common.{◌≡◌, ◌++◌, drop}
use Rattle.reach_tables.specs.ReachTable.{told_roles}
use Rattle.reach_tables.proofs.sources.add_roles.Given as goal

abbrev pub invariant-loop-number : goal.invariant-loop-number
invariant-loop-number l =
    l.told.items ++ told_roles l.fault l.number (drop l.number l.roles) ≡ l.fn.told.items ++ told_roles l.fault 0 l.roles
