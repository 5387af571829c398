use Rattle.std.proofs.Common.{◌≡◌, ◌≤◌, length}
use Rattle.play_orders.specs.Asking.{AllSleep}
use Rattle.play_orders.proofs.Awake.{awake_count}
use Rattle.play_orders.proofs.playing.take_turn.Given as goal

abbrev pub invariant-asking : goal.invariant-asking
invariant-asking g l = record {
  plan : g.M.Machine.plan_of l.machine ≡ g.M.Machine.plan_of l.fn.machine;
  base : g.M.Machine.base_of l.machine ≡ g.M.Machine.base_of l.fn.machine;
  count : g.M.Machine.count_of l.fn.machine ≤ g.M.Machine.count_of l.machine;
  journal : g.M.Machine.journal_of l.machine ≡ g.M.Machine.journal_of l.fn.machine;
  known : l.participants ≡ length (g.M.Machine.plan_of l.fn.machine).participants;
  few : l.participants ≤ 64;
  sleep : AllSleep (g.M.Machine.plan_of l.fn.machine) (g.M.Machine.journal_of l.fn.machine) l.asleep;
}

abbrev pub decreases-asking : goal.decreases-asking
decreases-asking g l = awake_count l.asleep l.participants
