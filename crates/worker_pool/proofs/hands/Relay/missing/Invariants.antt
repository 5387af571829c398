use Rattle.worker_pool.specs.Hands.{HaveAll}
use Rattle.worker_pool.proofs.hands.Relay.missing.Given as goal

abbrev pub invariant-loop-number : goal.invariant-loop-number
invariant-loop-number g l = HaveAll l.number l.hands
