use Rattle.std.proofs.Common.{◌≡◌, ◌++◌, drop}
use Rattle.reach_tables.specs.ReachTable.{told_given_up}
use Rattle.reach_tables.proofs.sources.add_given_up.Given as goal

abbrev pub invariant-loop-number : goal.invariant-loop-number
invariant-loop-number l =
    l.told.items ++ told_given_up l.number (drop l.number l.uses) ≡ l.fn.told.items ++ told_given_up 0 l.uses
