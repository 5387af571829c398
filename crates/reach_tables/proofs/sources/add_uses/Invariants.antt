use Rattle.std.proofs.Common.{◌≡◌, ◌++◌, drop}
use Rattle.reach_tables.specs.ReachTable.{told_uses}
use Rattle.reach_tables.proofs.sources.add_uses.Given as goal

abbrev pub invariant-loop-number : goal.invariant-loop-number
invariant-loop-number l =
    l.told.items ++ told_uses l.number (drop l.number l.uses) ≡ l.fn.told.items ++ told_uses 0 l.uses
