use Rattle.std.proofs.Common.{◌≡◌, drop}
use Rattle.reach_tables.specs.ReachTable.{tells_uses}
use Rattle.reach_tables.proofs.telling.tells_uses.Given as goal

abbrev pub invariant-loop-number : goal.invariant-loop-number
invariant-loop-number l =
    tells_uses l.plan l.table l.action l.row l.number (drop l.number l.nests)
    ≡ tells_uses l.plan l.table l.action l.row 0 l.nests
