use Rattle.std.proofs.Common.{◌≡◌, ◌++◌, take}
use Rattle.reach_tables.specs.ReachTable.{told_of}
use Rattle.reach_tables.proofs.sources.add_of.Given as goal

abbrev pub invariant-loop-exception : goal.invariant-loop-exception
invariant-loop-exception l = l.told.items ≡ l.fn.told.items ++ told_of l.by (take l.exception-index l.exceptions)
