use Rattle.std.proofs.Common.{◌≡◌, ◌&&◌, ℕ, ◌<◌, false}
use Rattle.reach_tables.specs.ReachTable.{leads_to, leads_from}
use Rattle.reach_tables.proofs.order.leads_through.Given as goal

abbrev pub invariant-loop-nest : goal.invariant-loop-nest
invariant-loop-nest l =
    (k : ℕ) → k < l.nest
    → leads_to l.action l.order l.role l.index k && leads_from l.action l.order k l.other l.later ≡ false
