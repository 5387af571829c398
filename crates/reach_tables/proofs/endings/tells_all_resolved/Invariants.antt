use Rattle.std.proofs.Common.{◌≡◌, ◌<◌, ℕ, true}
use Rattle.reach_tables.specs.ReachTable.{tells_resolved}
use Rattle.reach_tables.proofs.endings.tells_all_resolved.Given as goal

abbrev pub invariant-loop-exception : goal.invariant-loop-exception
invariant-loop-exception l =
    (x : ℕ) → x < l.exception → tells_resolved l.internal l.interface l.action l.row l.groups x ≡ true
