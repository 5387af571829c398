use Rattle.std.proofs.Common.{◌≡◌}
use Rattle.action_manager.proofs.lock.Lock.take.Given as goal

abbrev pub invariant-loop : goal.invariant-loop
invariant-loop g l =
    (l.token.table_id ≡ l.initial.token.table_id) × (l.token.id ≡ l.initial.token.id) × (l.token.me ≡ l.initial.token.me)
    × (goal.iterator-loop g).can_next l.iterator' × (goal.iterator-loop g).is_finite l.iterator'
