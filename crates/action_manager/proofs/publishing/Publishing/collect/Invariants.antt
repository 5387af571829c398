use Rattle.std.proofs.Common.{◌≡◌, length, map, take, reverse, vec_capacity}
use Rattle.place_plan.specs.RulesOfJournals.Objects.{value_of}
use Rattle.action_manager.proofs.publishing.Publishing.collect.Given as goal

abbrev pub invariant-loop-index : goal.invariant-loop-index
invariant-loop-index g l =
    let plan = g.M.Machine.plan_of l.machine in let past = reverse (g.M.Machine.journal_of l.machine) in
    record {
      end : l.index-end ≡ length l.objects;
      writer : l.self.writer ≡ l.fn.self.writer;
      room : vec_capacity l.self.changes ≡ vec_capacity l.fn.self.changes;
      changes : l.self.changes.items ≡ map (λ o. (o, value_of plan past o)) (take l.index l.objects);
    }
