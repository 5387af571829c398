use Rattle.std.proofs.Common.{◌≡◌, drop}
use Rattle.reach_tables.specs.ReachTable.{tells_alternates}
use Rattle.reach_tables.proofs.telling.tells_alternates.Given as goal

abbrev pub invariant-loop-index : goal.invariant-loop-index
invariant-loop-index l =
    tells_alternates l.plan l.table l.nest l.row l.number l.beside (drop l.index l.alternates)
    ≡ tells_alternates l.plan l.table l.nest l.row l.number l.beside l.alternates
