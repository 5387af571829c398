use Rattle.std.proofs.Common.{◌≡◌, ◌<◌, ◌≤◌, ℕ, length, reverse}
use Rattle.place_plan.specs.RulesOfJournals.Journals.{HasNoEntry}
use Rattle.role_driver.specs.Schedule.{participant_asked}
use Rattle.role_driver.specs.inner.Sleeping.{AllSleep}
use Rattle.role_driver.proofs.turn.take_turn.Given as goal

abbrev pub invariant-loop-others : goal.invariant-loop-others
invariant-loop-others g l = record {
  plan : g.M.Machine.plan_of l.machine ≡ g.M.Machine.plan_of l.fn.machine;
  base : g.M.Machine.base_of l.machine ≡ g.M.Machine.base_of l.fn.machine;
  count : g.M.Machine.count_of l.fn.machine ≤ g.M.Machine.count_of l.machine;
  journal : g.M.Machine.journal_of l.machine ≡ g.M.Machine.journal_of l.fn.machine;
  known : l.participants ≡ length (g.M.Machine.plan_of l.fn.machine).participants;
  sleep : AllSleep (g.M.Machine.plan_of l.fn.machine) (g.M.Machine.journal_of l.fn.machine) l.asleep;
  before : (i : ℕ) → i < l.others
      → HasNoEntry (g.M.Machine.plan_of l.fn.machine) (reverse (g.M.Machine.journal_of l.fn.machine))
      (participant_asked (g.M.Machine.plan_of l.fn.machine) l.first i);
}
