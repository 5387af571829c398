use Rattle.std.proofs.Common.{◌≡◌, ◌++◌, drop}
use Rattle.reach_tables.specs.ReachTable.{told_steps}
use Rattle.reach_tables.proofs.sources.add_steps.Given as goal

abbrev pub invariant-loop-index : goal.invariant-loop-index
invariant-loop-index l =
    l.told.items ++ told_steps l.fault l.role l.index (drop l.index l.steps)
    ≡ l.fn.told.items ++ told_steps l.fault l.role 0 l.steps
